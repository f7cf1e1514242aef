use Rattle.std.proofs.Common.{◌≡◌, length, get_or, ap, sym, ◌∙◌, arith}
use Rattle.std.specs.Prelude.{Some}
use Rattle.pj_change.specs.Positions.{kind_at}
use Rattle.pj_change.proofs.HunkNumbers.{maker_below, maker_is}
use Rattle.pj_change.proofs.positions.made_at.Goals as goal

pub bounds-items-hunk : goal.bounds-items-hunk
bounds-items-hunk c =
    omega (arith, maker_below c.args.change.now.hunks c.args.offset c.in_ok-kind.kind (sym c.kind_at.ensures.kind ∙ c.in_ok-kind.was), c.hunk.ensures, ap length c.items.ensures)

pub returns : goal.returns
returns c =
    let kind : kind_at c.args.change.now.hunks c.args.offset ≡ Some c.in_ok-kind.kind = sym c.kind_at.ensures.kind ∙ c.in_ok-kind.was in
    let is = c.index-items-hunk.is ∙ ap (λ n. get_or c.items.result.now n c.index-items-hunk.result) c.hunk.ensures in
    (kind, maker_is c.args.change.now.hunks c.args.offset c.in_ok-kind.kind c.items.result.now c.index-items-hunk.result kind c.items.ensures is)
