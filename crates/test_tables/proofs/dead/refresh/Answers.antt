use Rattle.std.proofs.Common.{◌∙◌, sym, subst}
use Rattle.pj_dead.specs.Touched.{IsKept}
use Rattle.test_tables.specs.States.{shown}
use Rattle.test_tables.proofs.dead.refresh.Goals as goal

pub refreshed-requires-clause-there : goal.refreshed-requires-clause-there
refreshed-requires-clause-there c =
    subst (IsKept (shown c.args.state.table) (shown c.in-Some.table)) (c.deref.ensures.value ∙ sym c.deref-2.ensures.value)
    (c.in_ok-is_kept_in.ensures c.if-not-branch.false).0

pub refreshed-requires-clause-back : goal.refreshed-requires-clause-back
refreshed-requires-clause-back c =
    subst (IsKept (shown c.in-Some.table) (shown c.args.state.table)) (c.deref.ensures.value ∙ sym c.deref-2.ensures.value)
    (c.in_ok-is_kept_in.ensures c.if-not-branch.false).1
