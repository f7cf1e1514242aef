-- The pairs of numbers that the edges of a graph are.
use Rattle.std.proofs.Common.{◌≡◌, ℕ, List, [], ◌∷◌, ◌++◌, length, false, refl, sym, ◌∙◌, ap, subst}
use Rattle.std.specs.Prelude.{◌≢◌, Some, slice_get}
use Rattle.std.proofs.lemmas.Option.{slice_get_within}
use Rattle.pj_change.specs.declared.point.Point.{Point}
use Rattle.pj_change.specs.declared.point.Place.{Place}
use Rattle.pj_change.specs.declared.point.Place.TheVariants as placed
use Rattle.pj_change.specs.declared.graph.Label.TheVariants as label
use Rattle.pj_change.specs.declared.graph.Vertex.{Vertex}
use Rattle.pj_change.specs.declared.graph.Edge.{Edge}
use Rattle.pj_change.specs.Positions.{same_point, same_place}
use Rattle.pj_change.specs.Vertices.{first_point, last_point}
use Rattle.pj_change.specs.Gathers.{Gathers, IsOfOne, IsOfNumber}
use Rattle.pj_print.specs.JoinedPairs.{AreJoinedAt}
use Rattle.pj_plain.specs.Links.{IsTargetAt, IsLinkFrom, IsLinkOf, AreLinked, AreLinks}
use Rattle.pj_change.proofs.Gathering.{gathers_none, gathers_one, gathers_alike, gathered}
use Rattle.pj_change.proofs.ListNumbers.{one_at}
use Rattle.pj_change.proofs.EqualNames.{same_point_itself}

-- ---- points apart

pub not_at : (p q : Point) → same_point p q ≡ false → p ≡ q → ⊥
not_at p q e same = (let f : same_point p p ≡ false = subst (λ r. same_point p r ≡ false) (sym same) e in let g = same_point_itself p in cc)

pub not_leaving : (source : Place) (p : Point) → same_place source (placed.At p) ≡ false → source ≡ placed.At p → ⊥
not_leaving source p e same = (let f : same_point p p ≡ false = subst (λ s. same_place s (placed.At p) ≡ false) same e in let g = same_point_itself p in cc)

module _ (vertices : List Vertex) where
  -- ---- one by one

  pub target_added : (from : ℕ) (target : Point) (to : ℕ) (v : Vertex) → slice_get vertices to ≡ Some v → first_point v ≡ target → (old new : List (ℕ × ℕ)) → new ≡ old ++ (from, to) ∷ [] →
      Gathers (IsTargetAt vertices from target to) old new
  target_added from target to v there first old new e =
      gathers_one (IsTargetAt vertices from target to) (from, to) old new e (record { v = v; there = there; first = first; is = refl }) (λ x h. h.is)

  pub target_elsewhere : (from : ℕ) (target : Point) (to : ℕ) (v : Vertex) → slice_get vertices to ≡ Some v → (first_point v ≡ target → ⊥) → (list : List (ℕ × ℕ)) →
      Gathers (IsTargetAt vertices from target to) list list
  target_elsewhere from target to v there none list =
      gathers_none (IsTargetAt vertices from target to) list (λ x h. none (ap first_point (one_at vertices to v h.v there h.there) ∙ h.first))

  pub source_added : (edge : Edge) (from : ℕ) (u : Vertex) → slice_get vertices from ≡ Some u → edge.source ≡ placed.At (last_point u) → (old new : List (ℕ × ℕ)) →
      Gathers (IsOfNumber (IsTargetAt vertices from edge.target) (length vertices)) old new → Gathers (IsLinkFrom vertices edge from) old new
  source_added edge from u there last old new a =
      gathers_alike (IsOfNumber (IsTargetAt vertices from edge.target) (length vertices)) (IsLinkFrom vertices edge from) old new
      (λ x h. record { u = u; there = there; last = last; leads = h }) (λ x h. h.leads) a

  pub source_elsewhere : (edge : Edge) (from : ℕ) (u : Vertex) → slice_get vertices from ≡ Some u → (edge.source ≡ placed.At (last_point u) → ⊥) → (list : List (ℕ × ℕ)) →
      Gathers (IsLinkFrom vertices edge from) list list
  source_elsewhere edge from u there none list =
      gathers_none (IsLinkFrom vertices edge from) list
      (λ x h. none (h.last ∙ ap (λ (w : Vertex). placed.At (last_point w)) (one_at vertices from h.u u h.there there)))

  pub edge_added : (edge : Edge) → edge.label ≢ label.Folder → (old new : List (ℕ × ℕ)) →
      Gathers (IsOfNumber (IsLinkFrom vertices edge) (length vertices)) old new → Gathers (IsLinkOf vertices edge) old new
  edge_added edge other old new a =
      gathers_alike (IsOfNumber (IsLinkFrom vertices edge) (length vertices)) (IsLinkOf vertices edge) old new (λ x h. record { label = other; leads = h }) (λ x h. h.leads) a

  -- ---- all of them

  module _ (edges : List Edge) where
    link_told : (a b : ℕ) → IsOfOne (IsLinkOf vertices) edges (a, b) → AreJoinedAt (AreLinked edges) vertices a b
    link_told a b h =
        let from = h.is.leads in
        let to = from.is.leads in
        let e : (a, b) ≡ (from.number, to.number) = to.is.is in
        let at_a : a ≡ from.number = ap (λ (p : ℕ × ℕ). p.0) e in
        let at_b : b ≡ to.number = ap (λ (p : ℕ × ℕ). p.1) e in
        record {
          u = from.is.u;
          v = to.is.v;
          u_at = ap (slice_get vertices) at_a ∙ from.is.there;
          v_at = ap (slice_get vertices) at_b ∙ to.is.there;
          joined = record { edge = h.one; member = h.member; label = h.is.label; from = from.is.last; to = sym to.is.first };
        }

    told_link : (a b : ℕ) → AreJoinedAt (AreLinked edges) vertices a b → IsOfOne (IsLinkOf vertices) edges (a, b)
    told_link a b h = record {
      one = h.joined.edge;
      member = h.joined.member;
      is = record {
        label = h.joined.label;
        leads = record {
          number = a;
          low = slice_get_within vertices a h.u h.u_at;
          is = record {
            u = h.u;
            there = h.u_at;
            last = h.joined.from;
            leads = record { number = b; low = slice_get_within vertices b h.v h.v_at; is = record { v = h.v; there = h.v_at; first = sym h.joined.to; is = refl } };
          };
        };
      };
    }

    -- those of all edges were gathered
    pub links_told : (links : List (ℕ × ℕ)) → Gathers (IsOfOne (IsLinkOf vertices) edges) [] links → AreLinks vertices edges links
    links_told links a c d =
        (λ m. link_told c d (gathered (IsOfOne (IsLinkOf vertices) edges) links a (c, d) m), λ h. a.all (c, d) (told_link c d h))
