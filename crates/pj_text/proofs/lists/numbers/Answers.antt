use Rattle.std.proofs.Common.{sym}
use Rattle.std.specs.Prelude.{codes}
use Rattle.std.proofs.lemmas.Result.{err_from_is_err_and}
use Rattle.pj_scan.specs.Scan.{rest as left}
use Rattle.pj_text.specs.Reading.{begins, number_at, next_at, joined_at}
use Rattle.pj_text.proofs.Loops.{goes_on, fails, stops, ends, refused}
use Rattle.pj_text.proofs.lists.numbers.Goals as goal
use Rattle.pj_text.proofs.lists.numbers.Goals.{else-loop-test, then-loop-test+then-not-comes}

pub returns-in_err-next_number : goal.returns-in_err-next_number
returns-in_err-next_number c =
    let p = err_from_is_err_and c.from_residual-in_err-next_number.result c.from_residual-in_err-next_number.ensures.1 in
    rw (p.1, p.2) (refused c.in_err-next_number.field-0.0 (left c.next_number.new.scan) (left c.next_number.new.scan) (next_at number_at (left c.loop.scan)) (joined_at number_at (left c.args.scan.now)) c.in_err-next_number.ensures
    (λ none. fails (begins (codes ",")) (next_at number_at) c.loop.numbers.items 64 c.loop.counter (left c.loop.scan) (joined_at number_at (left c.args.scan.now)) c.loop-test.true (sym c.if-not-comes.ensures) none c.loop.invariant))

pub loop-preserved : goal.loop-preserved
loop-preserved c =
    rw c.in_ok-push-2.ensures.items (goes_on (begins (codes ",")) (next_at number_at) c.loop.numbers.items 64 c.loop.counter (left c.loop.scan) c.in_ok-next_number.field-0 (left c.next_number.new.scan) (joined_at number_at (left c.args.scan.now)) c.loop-test.true (sym c.if-not-comes.ensures) c.in_ok-next_number.ensures c.loop.invariant)

pub returns : goal.returns
returns c =
    rw c.of.ensures (elim c.loop-test.branch [
      | else-loop-test w ↦ ends (begins (codes ",")) (next_at number_at) c.loop.numbers.items 64 c.loop.counter (left c.loop.scan) (joined_at number_at (left c.args.scan.now)) w.loop-test.false c.loop.invariant
      | then-loop-test+then-not-comes w ↦ stops (begins (codes ",")) (next_at number_at) c.loop.numbers.items 64 c.loop.counter (left c.loop.scan) (joined_at number_at (left c.args.scan.now)) w.loop-test.true (sym w.if-not-comes.ensures) c.loop.invariant
    ])
