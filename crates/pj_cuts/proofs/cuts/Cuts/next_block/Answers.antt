use Rattle.std.proofs.Common.{arith}
use Rattle.pj_cuts.proofs.Neighbours.{after_none, after_other, after_fits, after_named}
use Rattle.pj_cuts.proofs.cuts.Cuts.next_block.Goals as goal
use Rattle.pj_change.proofs.EqualNames.{equal_names, other_names}

pub returns-in_err-first : goal.returns-in_err-first
returns-in_err-first c = rw (c.from_residual.ensures, ← c.self.view_is) (after_none c.self.inside.counts c.self.inside.blocks c.self.invariant c.args.at.change c.args.at.offset c.in_err-first.ensures)

pub returns-then-ne : goal.returns-then-ne
returns-then-ne c = rw (← c.self.view_is) (after_other c.self.inside.counts c.self.inside.blocks c.self.invariant c.args.at.change c.args.at.offset _ _ c.in_ok-first.ensures (other_names _ _ c.if-ne.ensures))

pub overflow_add-past : goal.overflow_add-past
overflow_add-past c = let h = after_fits c.self.inside.counts c.self.inside.blocks c.self.invariant c.args.at.change c.args.at.offset _ _ c.in_ok-first.ensures in omega arith

pub returns : goal.returns
returns c = rw (← c.self.view_is) (after_named c.self.inside.counts c.self.inside.blocks c.self.invariant c.args.at.change c.args.at.offset _ (equal_names _ _ c.if-ne.ensures) _ c.in_ok-first.ensures)
