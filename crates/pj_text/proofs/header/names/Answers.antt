use Rattle.std.proofs.Common.{sym}
use Rattle.std.proofs.lemmas.Result.{err_from_is_err_and}
use Rattle.pj_scan.specs.Scan.{rest as left}
use Rattle.pj_text.specs.Reading.{begins, name_line_at, names_at}
use Rattle.pj_text.proofs.Loops.{goes_on, fails, stops, ends, refused}
use Rattle.pj_text.proofs.header.names.Goals as goal
use Rattle.pj_text.proofs.header.names.Goals.{else-loop-test, then-loop-test+then-not-comes}

pub returns-in_err-name_line : goal.returns-in_err-name_line
returns-in_err-name_line c =
    let p = err_from_is_err_and c.from_residual.result c.from_residual.ensures.1 in
    rw (p.1, p.2) (refused c.in_err-name_line.field-0.0 (left c.name_line.new.scan) (left c.name_line.new.scan) (name_line_at c.args.label.now (left c.loop.scan)) (names_at c.args.label.now c.args.most (left c.args.scan.now)) c.in_err-name_line.ensures
    (λ none. fails (begins c.args.label.now) (name_line_at c.args.label.now) c.loop.names.items c.args.most c.loop.counter (left c.loop.scan) (names_at c.args.label.now c.args.most (left c.args.scan.now)) c.loop-test.true (sym c.if-not-comes.ensures) none c.loop.invariant))

pub loop-preserved : goal.loop-preserved
loop-preserved c =
    rw c.in_ok-push.ensures.items (goes_on (begins c.args.label.now) (name_line_at c.args.label.now) c.loop.names.items c.args.most c.loop.counter (left c.loop.scan) c.in_ok-name_line.field-0 (left c.name_line.new.scan) (names_at c.args.label.now c.args.most (left c.args.scan.now)) c.loop-test.true (sym c.if-not-comes.ensures) c.in_ok-name_line.ensures c.loop.invariant)

pub returns : goal.returns
returns c =
    rw (c.of.ensures, c.shrink_to_fit.ensures.items) (elim c.loop-test.branch [
      | else-loop-test w ↦ ends (begins c.args.label.now) (name_line_at c.args.label.now) c.loop.names.items c.args.most c.loop.counter (left c.loop.scan) (names_at c.args.label.now c.args.most (left c.args.scan.now)) w.loop-test.false c.loop.invariant
      | then-loop-test+then-not-comes w ↦ stops (begins c.args.label.now) (name_line_at c.args.label.now) c.loop.names.items c.args.most c.loop.counter (left c.loop.scan) (names_at c.args.label.now c.args.most (left c.args.scan.now)) w.loop-test.true (sym w.if-not-comes.ensures) c.loop.invariant
    ])
