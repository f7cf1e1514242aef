use Rattle.std.proofs.Common.{sym, ap}
use Rattle.std.specs.Prelude.{codes, not}
use Rattle.std.proofs.lemmas.Result.{err_from_is_err_and}
use Rattle.pj_scan.specs.Scan.{rest as left}
use Rattle.pj_text.specs.Reading.{begins, hunk_at, hunks_at}
use Rattle.pj_text.proofs.Loops.{goes_on, fails, stops, ends, refused}
use Rattle.pj_text.proofs.hunks.hunks.Goals as goal
use Rattle.pj_text.proofs.hunks.hunks.Goals.{else-loop-test, then-loop-test+then-comes}

pub returns-in_err-hunk : goal.returns-in_err-hunk
returns-in_err-hunk c =
    let p = err_from_is_err_and c.from_residual.result c.from_residual.ensures.1 in
    rw (p.1, p.2) (refused c.in_err-hunk.field-0.0 (left c.hunk.new.scan) (left c.hunk.new.scan) (hunk_at (left c.loop.scan)) (hunks_at 4096 (left c.args.scan.now)) c.in_err-hunk.ensures
    (λ none. fails (λ bytes. not (begins (codes "end") bytes)) (hunk_at) c.loop.hunks.items 4096 c.loop.counter (left c.loop.scan) (hunks_at 4096 (left c.args.scan.now)) c.loop-test.true (ap not (sym c.if-comes.ensures)) none c.loop.invariant))

pub loop-preserved : goal.loop-preserved
loop-preserved c =
    rw c.in_ok-push.ensures.items (goes_on (λ bytes. not (begins (codes "end") bytes)) (hunk_at) c.loop.hunks.items 4096 c.loop.counter (left c.loop.scan) c.in_ok-hunk.field-0 (left c.hunk.new.scan) (hunks_at 4096 (left c.args.scan.now)) c.loop-test.true (ap not (sym c.if-comes.ensures)) c.in_ok-hunk.ensures c.loop.invariant)

pub returns : goal.returns
returns c =
    rw (c.of.ensures, c.shrink_to_fit.ensures.items) (elim c.loop-test.branch [
      | else-loop-test w ↦ ends (λ bytes. not (begins (codes "end") bytes)) (hunk_at) c.loop.hunks.items 4096 c.loop.counter (left c.loop.scan) (hunks_at 4096 (left c.args.scan.now)) w.loop-test.false c.loop.invariant
      | then-loop-test+then-comes w ↦ stops (λ bytes. not (begins (codes "end") bytes)) (hunk_at) c.loop.hunks.items 4096 c.loop.counter (left c.loop.scan) (hunks_at 4096 (left c.args.scan.now)) w.loop-test.true (ap not (sym w.if-comes.ensures)) c.loop.invariant
    ])
