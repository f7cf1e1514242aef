-- What leads across dead things is a step or leads across a connected set of them, and so is a row.
use Rattle.std.proofs.Common.{◌≡◌, refl, subst, inl, inr}
use Rattle.std.specs.Prelude.{◌⊎◌, ◌↔◌}
use Rattle.std.specs.declared.cmp.Ordering.{Ordering}
use Rattle.pj_change.specs.AcrossDead.{IsPath, IsAcross, straight, over, IsAmong}
use Rattle.pj_change.specs.DeadSets.{IsLeastMember, IsAcrossSet, IsRowAcross, HasStepOrRow}
use Rattle.pj_change.proofs.DeadPaths.{start_dead, dead_then_across, IsLeftTo, left_across}
use Rattle.pj_change.proofs.PathsAcross.{path_map, paths_across}

-- where each connected set of dead things has a least member
module _ {X : Type 0} (Step : X → X → Type 0) (Dead : X → Type 0) (cmp : X → X → Ordering) (least_there : (u : X) → Dead u → (least : X) × IsLeastMember Step Dead cmp u least) where
  -- what leads across dead things is a step, or leads across a connected set of them
  pub across_set : {u v : X} → IsAcross Step Dead u v → Step u v ⊎ ((least : X) × IsAcrossSet Step Dead cmp least u v)
  across_set (straight s) = inl s
  across_set {u} {v = w} (over {v} s d a) = inr (by (left_across Step Dead d a) (least_there v d))
    where
      by : IsLeftTo Step Dead v w → (least : X) × IsLeastMember Step Dead cmp v least → (least : X) × IsAcrossSet Step Dead cmp least u w
      by l m = (m.0, record { first = v; last = l.last; enters = s; dead = l.dead; leaves = l.leaves; least_is = m.1 })

-- and what leads across such a set leads across dead things
pub set_across : {X : Type 0} {Step : X → X → Type 0} {Dead : X → Type 0} {cmp : X → X → Ordering} {least u v : X} → IsAcrossSet Step Dead cmp least u v → IsAcross Step Dead u v
set_across a = over a.enters (start_dead a.dead) (dead_then_across a.dead (straight a.leaves))

-- Where moreover the last point of a source is not that of another live thing, and the first point of a target is not that of another live thing.
module _ {X P : Type 0} (Step : X → X → Type 0) (Dead : X → Type 0) (cmp : X → X → Ordering) (least_there : (u : X) → Dead u → (least : X) × IsLeastMember Step Dead cmp u least)
    (Live Source Target : X → Type 0) (first_of last_of : X → P) (is_source : (u : X) → Live u → Source u) (is_target : (v : X) → Live v → Target v)
    (same_last : (x u : X) → Source x → Live u → last_of x ≡ last_of u → x ≡ u) (same_first : (x v : X) → Target x → Live v → first_of x ≡ first_of v → x ≡ v) where
  abbrev pub IsRow : P → P → P → Type 0
  IsRow = IsRowAcross (IsAcrossSet Step Dead cmp) Source Target first_of last_of

  across_row : (u v : X) → Live u → Live v → IsAcross Step Dead u v → HasStepOrRow Step IsRow first_of last_of u v
  across_row u v k l a = elim (across_set Step Dead cmp least_there a) [
    | inl s ↦ inl s
    | inr m ↦ inr (
      first_of m.0,
      record {
        lowest = m.0;
        from = u;
        to = v;
        from_source = is_source u k;
        to_target = is_target v l;
        across = m.1;
        least_is = refl;
        source_is = refl;
        target_is = refl;
      },
    )
  ]

  row_across : (u v : X) → Live u → Live v → HasStepOrRow Step IsRow first_of last_of u v → IsAcross Step Dead u v
  row_across u v k l (inl s) = straight s
  row_across u v k l (inr r) =
      let row = r.1 in
      let from : row.from ≡ u = same_last row.from u row.from_source k row.source_is in
      let to : row.to ≡ v = same_first row.to v row.to_target l row.target_is in
      subst (λ x. IsAcross Step Dead x v) from (subst (IsAcross Step Dead row.from) to (set_across row.across))

  -- what leads from one live thing to another across dead things is a step or a row
  pub across_rows : (u v : X) → Live u → Live v → IsAcross Step Dead u v ↔ HasStepOrRow Step IsRow first_of last_of u v
  across_rows u v k l = (across_row u v k l, row_across u v k l)

  -- live things that those lead among are joined by steps and rows, and the other way round
  pub among_rows : (Some : X → Type 0) → ((x : X) → Some x → Live x) → (u v : X) →
      IsPath (IsAmong Some (IsAcross Step Dead)) u v ↔ IsPath (IsAmong Some (HasStepOrRow Step IsRow first_of last_of)) u v
  among_rows Some live u v = (
    λ p. path_map (IsAmong Some (IsAcross Step Dead)) (IsAmong Some (HasStepOrRow Step IsRow first_of last_of)) (λ x y j. (j.0, j.1, across_row x y (live x j.0) (live y j.1) j.2)) p,
    λ p. path_map (IsAmong Some (HasStepOrRow Step IsRow first_of last_of)) (IsAmong Some (IsAcross Step Dead)) (λ x y j. (j.0, j.1, row_across x y (live x j.0) (live y j.1) j.2)) p,
  )

  -- so a path between live things is one of steps and rows between live things
  pub paths_by_rows : ((u v : X) → Step u v → Dead v ⊎ Live v) → (u v : X) → Live u → Live v →
      IsPath Step u v ↔ IsPath (IsAmong Live (HasStepOrRow Step IsRow first_of last_of)) u v
  paths_by_rows either u v k l =
      let across = paths_across Step Dead Live either u v k l in
      let rows = among_rows Live (λ x k. k) u v in
      (λ p. rows.0 (across.0 p), λ p. across.1 (rows.1 p))
