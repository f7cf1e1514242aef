use Rattle.pj_cuts.proofs.Neighbours.{floor_none, floor_other, floor_named}
use Rattle.pj_cuts.proofs.cuts.Cuts.last_cut.Goals as goal
use Rattle.pj_change.proofs.EqualNames.{equal_names, other_names}

pub returns-in_err-cut : goal.returns-in_err-cut
returns-in_err-cut c = rw (c.from_residual.ensures, ← c.self.view_is) (floor_none c.self.inside.counts c.self.inside.blocks c.self.invariant c.args.at.change c.args.at.offset c.in_err-cut.ensures)

pub returns-then-ne : goal.returns-then-ne
returns-then-ne c = rw (← c.self.view_is) (floor_other c.self.inside.counts c.self.inside.blocks c.self.invariant c.args.at.change c.args.at.offset _ _ c.in_ok-cut.ensures (other_names _ _ c.if-ne.ensures))

pub returns : goal.returns
returns c = rw (← c.self.view_is) (floor_named c.self.inside.counts c.self.inside.blocks c.self.invariant c.args.at.change c.args.at.offset _ (equal_names _ _ c.if-ne.ensures) _ c.in_ok-cut.ensures)
