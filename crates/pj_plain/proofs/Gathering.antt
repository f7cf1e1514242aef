-- Lists that gather the members of a set in a loop over shared records.
use Rattle.std.proofs.Common.{◌≡◌, ℕ, ◌+◌, ◌<◌, List, length, take, get_or, sym, ◌∙◌, ap}
use Rattle.std.proofs.lemmas.List.{get_or-map, length-map}
use Rattle.std.specs.Arc.{arc_value}
use Rattle.std.specs.declared.alloc.Global.{Global}
use Rattle.std.specs.declared.sync.Arc.{Arc}
use Rattle.pj_change.specs.declared.change.Record.{Record}
use Rattle.pj_change.specs.Gathers.{Gathers, IsOfOne}
use Rattle.pj_change.proofs.Gathering.{of_more, of_all}
use Rattle.pj_change.specs.Shared.{records}

module _ {X : Type 0} (P : Record → X → Type 0) (shared : List (Arc Record Global)) where
  pub of_more_shared : (i : ℕ) (a : Arc Record Global) (r : Record) → i < length shared → a ≡ get_or shared i a → r ≡ arc_value a → (old middle new : List X) →
      Gathers (IsOfOne P (take i (records shared))) old middle → Gathers (P r) middle new → Gathers (IsOfOne P (take (i + 1) (records shared))) old new
  of_more_shared i a r low is value old middle new =
      of_more P (records shared) i r r (rw length-map low)
      (value ∙ ap arc_value is ∙ sym (get_or-map arc_value shared i a r low)) old middle new

  pub of_all_shared : (i : ℕ) → length shared ≡ i → (old new : List X) → Gathers (IsOfOne P (take i (records shared))) old new → Gathers (IsOfOne P (records shared)) old new
  of_all_shared i e old new = of_all P (records shared) i (rw length-map e) old new
