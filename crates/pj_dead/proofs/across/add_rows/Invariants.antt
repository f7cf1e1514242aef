use Rattle.std.proofs.Common.{◌≡◌, take}
use Rattle.std.specs.Prelude.{Contains}
use Rattle.pj_change.specs.Gathers.{Gathers, IsOfOne}
use Rattle.pj_dead.proofs.EntryRows.{IsFromTo}
use Rattle.pj_dead.proofs.across.add_rows.Given as goal

abbrev pub invariant-loop-source : goal.invariant-loop-source
invariant-loop-source l = Gathers (IsOfOne (λ s. IsFromTo (λ z. z ≡ s) (Contains l.targets) l.least) (take l.source-index l.sources)) l.initial.rows.items l.rows.items
