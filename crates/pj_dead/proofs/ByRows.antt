-- In a view, a path between live vertices is one of edges and rows between live vertices.
use Rattle.std.proofs.Common.{◌≡◌, ◌∙◌, sym, ap, subst, refl, inl, inr, true, List, Some, None, Option}
use Rattle.std.specs.Prelude.{Contains, ◌⊎◌}
use Rattle.pj_change.specs.declared.point.Point.{Point}
use Rattle.pj_change.specs.Graph.{point_cmp}
use Rattle.pj_change.specs.DeadSets.{IsLeastMember}
use Rattle.pj_change.proofs.Decided.{Known, known_as, known_both, known_some, known_test, known_point}
use Rattle.pj_change.proofs.Orders.{point_total}
use Rattle.pj_change.proofs.LeastDead.{least_there}
use Rattle.pj_change.proofs.PathsAcross.{true_or_false}
use Rattle.pj_change.proofs.AcrossSets.{paths_by_rows}
use Rattle.pj_dead.specs.PointGraphs.{PointGraph, IsVertex, IsEdge, IsDead, IsLive, IsWhole}
use Rattle.pj_dead.specs.Laws.{PathsByRows}
use Rattle.pj_dead.proofs.KeptSets.{first_last}

known_found : (o : Option Point) (v : Point) → Known (o ≡ Some v)
known_found None v = inr (λ e. cc)
known_found (Some u) v = known_as (ap Some) (λ e. cc) (known_point u v)

known_member : (xs : List Point) (x : Point) → Known (Contains xs x)
known_member xs x = known_as (λ s. subst (Contains xs) (sym s.2) s.1) (λ m. (x, m, refl)) (known_some (λ y. x ≡ y) xs (λ y. known_point x y))

module _ (g : PointGraph) where
  known_vertex : (v : Point) → Known (IsVertex g v)
  known_vertex v = known_found (g.first v) v

  known_dead : (v : Point) → Known (IsDead g v)
  known_dead v = known_as (λ k. record { vertex = k.0; dead = k.1 }) (λ d. (d.vertex, d.dead)) (known_both (known_vertex v) (known_test (g.dead v) true))

  known_edge : (u v : Point) → Known (IsEdge g u v)
  known_edge u v = known_as (λ k. record { source = k.0; out = k.1 }) (λ e. (e.source, e.out)) (known_both (known_vertex u) (known_member (g.outs u) v))

  module _ (lawful : IsWhole g) where
    -- each dead set has a least point
    pub least_of_set : (u : Point) → IsDead g u → (least : Point) × IsLeastMember (IsEdge g) (IsDead g) point_cmp u least
    least_of_set = least_there (IsEdge g) (IsDead g) known_edge known_dead g.vertices (λ v d. lawful.few v d.vertex) point_cmp point_total

    -- a vertex is known by its last point
    one_last : (u v : Point) → IsLive g u → IsLive g v → g.last u ≡ g.last v → u ≡ v
    one_last u v a b e =
        let f : Some u ≡ Some v = sym (first_last g lawful u a.vertex) ∙ ap g.first e ∙ first_last g lawful v b.vertex in
        cc

    either : (u v : Point) → IsEdge g u v → IsDead g v ⊎ IsLive g v
    either u v e =
        let there = (lawful.into u v e.source e.out).0 in
        elim (true_or_false (g.dead v)) [ inl d ↦ inl (record { vertex = there; dead = d }) | inr l ↦ inr (record { vertex = there; live = l }) ]

pub paths_are_by_rows : PathsByRows
paths_are_by_rows g lawful u v a b =
    paths_by_rows (IsEdge g) (IsDead g) point_cmp (least_of_set g lawful) (IsLive g) (IsLive g) (IsLive g) (λ v. v) g.last (λ u a. a) (λ v a. a) (one_last g lawful) (λ x v a b e. e) (either g lawful) u v a b
