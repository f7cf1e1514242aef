use Rattle.std.proofs.Common.{sym}
use Rattle.std.specs.Prelude.{codes}
use Rattle.std.proofs.lemmas.Result.{err_from_is_err_and}
use Rattle.pj_scan.specs.Scan.{rest as left}
use Rattle.pj_text.specs.Reading.{begins, reference_at, next_at, joined_at}
use Rattle.pj_text.proofs.Loops.{goes_on, fails, stops, ends, refused}
use Rattle.pj_text.proofs.lists.some_references.Goals as goal
use Rattle.pj_text.proofs.lists.some_references.Goals.{else-loop-test, then-loop-test+then-not-comes}

pub returns-in_err-next_reference : goal.returns-in_err-next_reference
returns-in_err-next_reference c =
    let p = err_from_is_err_and c.from_residual-in_err-next_reference.result c.from_residual-in_err-next_reference.ensures.1 in
    rw (p.1, p.2) (refused c.in_err-next_reference.field-0.0 (left c.next_reference.new.scan) (left c.next_reference.new.scan) (next_at reference_at (left c.loop.scan)) (joined_at reference_at (left c.args.scan.now)) c.in_err-next_reference.ensures
    (λ none. fails (begins (codes ",")) (next_at reference_at) c.loop.refs.items 64 c.loop.counter (left c.loop.scan) (joined_at reference_at (left c.args.scan.now)) c.loop-test.true (sym c.if-not-comes.ensures) none c.loop.invariant))

pub loop-preserved : goal.loop-preserved
loop-preserved c = rw c.in_ok-push-2.ensures.items (goes_on (begins (codes ",")) (next_at reference_at) c.loop.refs.items 64 c.loop.counter (left c.loop.scan) c.in_ok-next_reference.field-0 (left c.next_reference.new.scan) (joined_at reference_at (left c.args.scan.now)) c.loop-test.true (sym c.if-not-comes.ensures) c.in_ok-next_reference.ensures c.loop.invariant)

pub returns : goal.returns
returns c =
    rw (c.of.ensures, c.shrink_to_fit.ensures.items) (elim c.loop-test.branch [
      | else-loop-test w ↦ ends (begins (codes ",")) (next_at reference_at) c.loop.refs.items 64 c.loop.counter (left c.loop.scan) (joined_at reference_at (left c.args.scan.now)) w.loop-test.false c.loop.invariant
      | then-loop-test+then-not-comes w ↦ stops (begins (codes ",")) (next_at reference_at) c.loop.refs.items 64 c.loop.counter (left c.loop.scan) (joined_at reference_at (left c.args.scan.now)) w.loop-test.true (sym w.if-not-comes.ensures) c.loop.invariant
    ])
