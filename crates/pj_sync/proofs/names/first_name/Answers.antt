use Rattle.std.proofs.Common.{◌≤◌, length, arith}
use Rattle.std.proofs.lemmas.List.{length-take-le}
use Rattle.pj_sync.proofs.Lines.{ends_line, is_line, no_line, too_short}
use Rattle.pj_sync.proofs.names.first_name.Goals as goal
use Rattle.pj_sync.proofs.names.first_name.Goals.{then-text-lt-LINE-via-then-text-lt-LINE, then-text-lt-LINE-via-else-text-lt-LINE+then-text-ne10}

pub returns-then-text-lt-LINE-clause-none : goal.returns-then-text-lt-LINE-clause-none
returns-then-text-lt-LINE-clause-none c = λ none n rest is. elim c.then-text-lt-LINE.branch [
  | then-text-lt-LINE-via-then-text-lt-LINE w ↦ too_short c.args.text.now w.if-text-lt-LINE.true n rest is
  | then-text-lt-LINE-via-else-text-lt-LINE+then-text-ne10 w ↦ w.if-text-ne10.true (ends_line c.args.text.now _ n rest is)
]

pub slice_bounds-read-length : goal.slice_bounds-read-length
slice_bounds-read-length c =
    (let long : 65 ≤ length c.args.text.now = c.if-text-lt-LINE.false in omega (arith, length-take-le 64 c.args.text.now (omega arith)))

pub returns-clause-some : goal.returns-clause-some
returns-clause-some c = is_line c.args.text.now c.read.result c.read.ensures.spelled c.if-text-lt-LINE.false _ c.if-text-ne10.false

pub returns-clause-none : goal.returns-clause-none
returns-clause-none c = no_line c.args.text.now c.read.result c.read.ensures.spelled
