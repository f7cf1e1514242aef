use Rattle.std.proofs.Common.{arith}
use Rattle.pj_cuts.proofs.Neighbours.{block_none, block_other, block_fits, past_named, block_named}
use Rattle.pj_cuts.proofs.cuts.Cuts.block_of.Goals as goal
use Rattle.pj_change.proofs.EqualNames.{equal_names, other_names}

pub returns-in_err-first : goal.returns-in_err-first
returns-in_err-first c = rw (c.from_residual.ensures, ← c.self.view_is) (block_none c.self.inside.counts c.self.inside.blocks c.self.invariant c.args.at.change c.args.at.offset c.in_err-first.ensures)

pub returns-then-ne : goal.returns-then-ne
returns-then-ne c = rw (← c.self.view_is) (block_other c.self.inside.counts c.self.inside.blocks c.self.invariant c.args.at.change c.args.at.offset _ _ c.in_ok-first.ensures (other_names _ _ c.if-ne.ensures))

pub overflow_add-past : goal.overflow_add-past
overflow_add-past c = let h = block_fits c.self.inside.counts c.self.inside.blocks c.self.invariant c.args.at.change c.args.at.offset _ _ c.in_ok-first.ensures in omega arith

pub returns-then-past-at : goal.returns-then-past-at
returns-then-past-at c = rw (← c.self.view_is) (past_named c.self.inside.counts c.self.inside.blocks c.self.invariant c.args.at.change c.args.at.offset _ (equal_names _ _ c.if-ne.ensures) _ c.in_ok-first.ensures c.if-past-at.true)

pub returns : goal.returns
returns c = rw (← c.self.view_is) (block_named c.self.inside.counts c.self.inside.blocks c.self.invariant c.args.at.change c.args.at.offset _ (equal_names _ _ c.if-ne.ensures) _ c.in_ok-first.ensures c.if-past-at.false)
