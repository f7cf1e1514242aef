-- The vertices of a list of changes, change by change.
use Rattle.std.proofs.Common.{◌≡◌, List, [], ◌++◌, sym, inl, inr}
use Rattle.pj_change.specs.declared.graph.Vertex.{Vertex}
use Rattle.pj_change.specs.declared.change.Record.{Record}
use Rattle.pj_change.specs.Gathers.{Gathers, IsOfOne}
use Rattle.pj_change.specs.Graph.{vertex_cmp, Lists}
use Rattle.pj_change.specs.Vertices.{IsVertex}
use Rattle.pj_change.proofs.Gathering.{gathers_alike}
use Rattle.pj_change.proofs.LawfulLists.{append_cases, first_part, second_part}
use Rattle.pj_change.proofs.Members.{moved}
use Rattle.pj_tables.specs.VerticesIn.{IsVertexIn}

-- all of a list are added
pub listed_added : (P : Vertex → Type 0) (more old new : List Vertex) → Lists vertex_cmp P more → new ≡ old ++ more → Gathers P old new
listed_added P more old new l e = record {
  kept = λ x m. moved x (sym e) (first_part old more x m);
  all = λ x p. moved x (sym e) (second_part old more x (l.all x p));
  only = λ x m. elim (append_cases old more x (moved x e m)) [ inl k ↦ inl k | inr k ↦ inr (l.only x k) ];
}

-- it is a vertex of the change
abbrev pub IsOf : List Record → Record → Vertex → Type 0
IsOf S r v = IsVertexIn S r.name v

-- the vertices of all changes are those of the list
pub all_vertices : (S : List Record) (vertices : List Vertex) → Gathers (IsOfOne (IsOf S) S) [] vertices → Gathers (IsVertex S) [] vertices
all_vertices S vertices g =
    gathers_alike (IsOfOne (IsOf S) S) (IsVertex S) [] vertices (λ x h. h.is.vertex)
    (λ x h. record { one = h.owner; member = h.member; is = record { vertex = h; named = sym h.name } }) g
