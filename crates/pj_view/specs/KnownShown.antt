-- Whether a point is of a vertex that a view shows is decided.
use Rattle.std.specs.Prelude.{◌≡◌, ◌⊎◌, List, Option, None, Some}
use Rattle.std.proofs.Common.{refl, subst, inl, inr}
use Rattle.pj_change.specs.declared.point.Point.{Point}
use Rattle.pj_change.specs.declared.kind.Kind.{Kind}
use Rattle.pj_change.specs.declared.graph.Vertex.{Vertex}
use Rattle.pj_change.specs.declared.graph.VertexKind.TheVariants as vertex_kind
use Rattle.pj_change.specs.declared.change.Record.{Record}
use Rattle.pj_change.specs.Positions.{kind_at}
use Rattle.pj_change.specs.PointsIn.{IsPointOf, LiesIn}
use Rattle.pj_change.specs.Sets.{HaveOneText}
use Rattle.pj_change.proofs.Decided.{Known, known_as, known_both, known_one, known_some, known_name, known_kind}
use Rattle.pj_change.proofs.VertexOfPoint.{vertex_of, one_vertex_at, point_of_vertex}
use Rattle.pj_dead.specs.ViewOf.{IsShown}

-- a vertex that a view of S shows has the point
pub record HasShown (S : List Record) (p : Point) : Type 0 where
  pub it : Vertex
  pub is : IsShown S it
  pub lies : LiesIn p it

known_there : (o : Option Kind) → Known ((k : Kind) × (o ≡ Some k))
known_there None = inr (λ s. absurd (let e : None ≡ Some s.0 = s.1 in cc))
known_there (Some k) = inl (k, refl)

module _ (S : List Record) (p : Point) where
  known_point_of : Known (IsPointOf S p)
  known_point_of =
      known_as (λ s. record { owner = s.0; member = s.1; name = s.2.0; kind = s.2.1.0; there = s.2.1.1 }) (λ h. (h.owner, h.member, (h.name, (h.kind, h.there))))
      (known_some (λ (r : Record). (r.name ≡ p.change) × ((k : Kind) × (kind_at r.change.hunks p.offset ≡ Some k))) S
      (λ r. known_both (known_name r.name p.change) (known_there (kind_at r.change.hunks p.offset))))

  module _ (one : HaveOneText S) (h : IsPointOf S p) where
    same_vertex : (s : HasShown S p) → s.it ≡ (vertex_of S p h).it
    same_vertex s = one_vertex_at S one p s.it (vertex_of S p h).it s.is.vertex (vertex_of S p h).is s.lies (vertex_of S p h).lies

    known_by : Known (((vertex_of S p h).it.kind ≡ vertex_kind.Text) ⊎ ((vertex_of S p h).it.kind ≡ vertex_kind.File)) → Known (HasShown S p)
    known_by (inl k) = inl (record { it = (vertex_of S p h).it; is = record { vertex = (vertex_of S p h).is; kind = k }; lies = (vertex_of S p h).lies })
    known_by (inr n) = inr (λ s. n (subst (λ (w : Vertex). (w.kind ≡ vertex_kind.Text) ⊎ (w.kind ≡ vertex_kind.File)) (same_vertex s) s.is.kind))

  pub known_shown : HaveOneText S → Known (HasShown S p)
  known_shown one = elim known_point_of [
    | inl h ↦ known_by one h (known_one (known_kind (vertex_of S p h).it.kind vertex_kind.Text) (known_kind (vertex_of S p h).it.kind vertex_kind.File))
    | inr n ↦ inr (λ s. n (point_of_vertex S p s.it s.is.vertex s.lies))
  ]
