-- What is before what, and the live text of a file, in a lawful list.
use Rattle.std.proofs.Common.{◌≡◌, List, sym, ap, subst, inl, inr}
use Rattle.std.specs.Prelude.{Option, Some, None}
use Rattle.pj_change.specs.declared.point.Point.{Point}
use Rattle.pj_change.specs.declared.point.Place.{Place}
use Rattle.pj_change.specs.declared.point.Place.TheVariants as placed
use Rattle.pj_change.specs.declared.graph.VertexKind.TheVariants as vertex_kind
use Rattle.pj_change.specs.declared.graph.Status.TheVariants.{Dead}
use Rattle.pj_change.specs.declared.graph.Vertex.{Vertex}
use Rattle.pj_change.specs.declared.change.Record.{Record}
use Rattle.pj_change.specs.Before.{Leads, IsBefore}
use Rattle.pj_change.specs.Context.{file_at}
use Rattle.pj_change.specs.FileText.{IsLiveIn, IsLiveList, AreAlike}
use Rattle.pj_change.specs.Graph.{vertex_cmp}
use Rattle.pj_change.specs.Lawful.{IsLawful}
use Rattle.pj_change.specs.Vertices.{IsVertex}
use Rattle.pj_change.proofs.Decided.{Known, known_as, known_both, known_three, known_one, known_not, known_some, known_name, known_number, known_kind, known_status, known_place}
use Rattle.pj_change.proofs.KnownEdges.{known_leads}
use Rattle.pj_change.proofs.LawfulLists.{set_of}
use Rattle.pj_change.proofs.OneVertex.{vertices_tied}
use Rattle.pj_change.proofs.Orders.{vertex_total}
use Rattle.pj_answers.proofs.Finite as finite
use Rattle.pj_answers.proofs.Vertices.{vertices}
use Rattle.pj_answers.proofs.Paths.{known_path, joined}

-- whether two vertices are one
pub known_same : (u v : Vertex) → Known (u ≡ v)
known_same u v = known_as
    (λ h. λ i. record { change = h.0 i; start = h.1.0 i; end = h.1.1.0 i; kind = h.1.1.1.0 i; status = h.1.1.1.1 i })
    (λ e. (
      ap (λ (w : Vertex). w.change) e,
      (
        ap (λ (w : Vertex). w.start) e,
        (ap (λ (w : Vertex). w.end) e, (ap (λ (w : Vertex). w.kind) e, ap (λ (w : Vertex). w.status) e)),
      ),
    ))
    (known_both (known_name u.change v.change) (known_both (known_number u.start v.start) (known_both (known_number u.end v.end)
    (known_both (known_kind u.kind v.kind) (known_status u.status v.status)))))

-- whether a place was found, and it is this one
known_found : (o : Option Place) (p : Place) → Known (o ≡ Some p)
known_found None p = inr (λ e. cc)
known_found (Some q) p = known_as (ap Some) (λ e. cc) (known_place q p)

module _ (S : List Record) where
  -- whether one vertex is before another
  pub known_before : (u v : Vertex) → Known (IsBefore S u v)
  known_before = (let vs = vertices S in known_path (Leads S) vs.list (λ u v l. vs.all v l.target) (known_leads S))

  -- whether two vertices are alike
  pub known_alike : (u v : Vertex) → Known (AreAlike S u v)
  known_alike u v = known_one (known_same u v) (known_both (known_before u v) (known_before v u))

  -- what is alike is so either way
  pub alike_back : (u v : Vertex) → AreAlike S u v → AreAlike S v u
  alike_back u v (inl e) = inl (sym e)
  alike_back u v (inr h) = inr (h.1, h.0)

  -- and all that is like one thing is alike
  pub alike_on : (u v w : Vertex) → AreAlike S u v → AreAlike S v w → AreAlike S u w
  alike_on u v w (inl e) b = subst (λ x. AreAlike S x w) (sym e) b
  alike_on u v w (inr h) (inl e) = inr (subst (λ x. IsBefore S u x × IsBefore S x u) e h)
  alike_on u v w (inr h) (inr k) = inr (joined (Leads S) h.0 k.0, joined (Leads S) k.1 h.1)

  module _ (inode : Point) where
    -- whether a vertex is live text of the file
    known_live : (v : Vertex) → IsVertex S v → Known (IsLiveIn S inode v)
    known_live v is = known_as
        (λ h. record {
          live = record { vertex = is; text = h.0; live = h.1 };
          owner = h.2.0;
          member = h.2.1;
          name = h.2.2.0;
          of_file = h.2.2.1;
        })
        (λ h. (h.live.text, h.live.live, (h.owner, h.member, (h.name, h.of_file))))
        (known_three (known_kind v.kind vertex_kind.Text) (known_not (known_status v.status Dead))
        (known_some _ S (λ owner. known_both (known_name owner.name v.change) (known_found (file_at owner v.start) (placed.At inode)))))

    -- the live text of the file is finitely many vertices
    pub live_ones : finite.Finite (IsLiveIn S inode)
    live_ones = finite.alike (λ v. IsVertex S v × IsLiveIn S inode v) (IsLiveIn S inode) (λ v h. h.1) (λ v h. (h.live.vertex, h))
        (finite.known_ones (IsVertex S) (IsLiveIn S inode) (vertices S) known_live)

    -- the live text of the file in order
    pub live_list : IsLawful S → (live : List Vertex) × IsLiveList S inode live
    live_list lawful = finite.listed vertex_cmp vertex_total (IsLiveIn S inode) live_ones
        (λ u v a b e. vertices_tied S (set_of S lawful) u v a.live.vertex b.live.vertex e)
