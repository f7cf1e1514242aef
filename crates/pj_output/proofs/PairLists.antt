-- Pairs that are added one by one.
use Rattle.std.proofs.Common.{◌≡◌, ◌∙◌, ℕ, List, [], ◌∷◌, ◌++◌, refl, ap}
use Rattle.std.specs.List.Sorted.{IsStrictlySortedBy}
use Rattle.pj_change.specs.declared.point.Point.{Point}
use Rattle.pj_change.specs.declared.graph.Vertex.{Vertex}
use Rattle.pj_change.specs.Gathers.{Gathers}
use Rattle.pj_change.specs.Graph.{vertex_cmp}
use Rattle.pj_change.proofs.Gathering.{gathers_none, gathers_one}
use Rattle.pj_output.specs.Pairs.{BeginsAt, IsPairTo}
use Rattle.pj_output.proofs.Numbers.{one_begins}

module _ (live : List Vertex) where
  pub pair_added : IsStrictlySortedBy vertex_cmp live → (from : ℕ) (target : Point) (to : ℕ) → BeginsAt live target to → (old new : List (ℕ × ℕ)) → new ≡ old ++ (from, to) ∷ [] → Gathers (IsPairTo live from target) old new
  pair_added sorted from target to b old new e =
      gathers_one (IsPairTo live from target) (from, to) old new e (record { to = to; begins = b; is = refl })
      (λ x h. h.is ∙ ap (λ n. (from, n)) (one_begins live sorted target h.to to h.begins b))

  pub none_added : (from : ℕ) (target : Point) → ((number : ℕ) → BeginsAt live target number → ⊥) → (list : List (ℕ × ℕ)) → Gathers (IsPairTo live from target) list list
  none_added from target none list = gathers_none (IsPairTo live from target) list (λ x h. none h.to h.begins)
