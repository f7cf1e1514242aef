use Rattle.std.proofs.Common.{ℕ, List, sym, subst}
use Rattle.pj_plain.specs.Links.{AreJoins}
use Rattle.pj_change.specs.Shared.{records}
use Rattle.pj_plain.proofs.print.print_of.Goals as goal

pub entries-requires-clause-joins : goal.entries-requires-clause-joins
entries-requires-clause-joins c =
    subst (λ (pairs : List (ℕ × ℕ)). AreJoins (records c.args.changes.now) c.deref.result.now pairs) (sym c.deref-3.ensures.value) c.in_ok-pairs.ensures.joins
