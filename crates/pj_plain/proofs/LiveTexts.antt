-- The vertices of a set that are live text of a file.
use Rattle.std.proofs.Common.{◌≡◌, true, List, filter, refl, ◌∙◌, ap}
use Rattle.std.specs.Prelude.{◌↔◌, ◌≢◌, ◌&&◌, Option, Some}
use Rattle.std.specs.List.{list_any}
use Rattle.std.proofs.lemmas.List.Kept.{IsStrictlySortedBy-filter}
use Rattle.std.proofs.lemmas.Bool.{and_from, and_parts}
use Rattle.pj_name.specs.Name.{same_name}
use Rattle.pj_change.specs.declared.point.Point.{Point}
use Rattle.pj_change.specs.declared.point.Place.{Place}
use Rattle.pj_change.specs.declared.point.Place.TheVariants as placed
use Rattle.pj_change.specs.declared.graph.Status.{Status}
use Rattle.pj_change.specs.declared.graph.Status.TheVariants.{Alive, Dead, Zombie}
use Rattle.pj_change.specs.declared.graph.Vertex.{Vertex}
use Rattle.pj_change.specs.declared.graph.VertexKind.{VertexKind}
use Rattle.pj_change.specs.declared.graph.VertexKind.TheVariants as vertex_kind
use Rattle.pj_change.specs.declared.change.Record.{Record}
use Rattle.pj_change.specs.Context.{file_at, is_some_place}
use Rattle.pj_change.specs.Vertices.{first_point, IsVertex}
use Rattle.pj_change.specs.FileText.{IsLiveIn, IsLiveList}
use Rattle.pj_change.specs.Graph.{vertex_cmp, Lists}
use Rattle.pj_change.proofs.EqualNames.{same_name_is, is_same_name, some_place, same_point_itself}
use Rattle.pj_change.proofs.Members.{any_member, passes}
use Rattle.pj_plain.specs.LiveText.{is_live, is_of_file, is_live_in}
use Rattle.pj_change.proofs.PickedMembers.{passed, kept}

live_parts : (kind : VertexKind) (status : Status) → is_live kind status ≡ true → (kind ≡ vertex_kind.Text) × (status ≢ Dead)
live_parts vertex_kind.Text Alive e = (refl, λ d. absurd (cc))
live_parts vertex_kind.Text Zombie e = (refl, λ d. absurd (cc))
live_parts vertex_kind.Text Dead e = absurd (cc)
live_parts vertex_kind.Name status e = absurd (cc)
live_parts vertex_kind.ExecName status e = absurd (cc)
live_parts vertex_kind.File status e = absurd (cc)
live_parts vertex_kind.Dir status e = absurd (cc)

parts_live : (kind : VertexKind) (status : Status) → kind ≡ vertex_kind.Text → status ≢ Dead → is_live kind status ≡ true
parts_live kind Alive e d = ap (λ k. is_live k Alive) e
parts_live kind Zombie e d = ap (λ k. is_live k Zombie) e
parts_live kind Dead e d = absurd (d refl)

place_some : (p : Point) (o : Option Place) → o ≡ Some (placed.At p) → is_some_place (placed.At p) o ≡ true
place_some p o e = ap (is_some_place (placed.At p)) e ∙ same_point_itself p

module _ (S : List Record) (inode : Point) where
  -- what passes the test is live text of the file
  pub passes_live : (v : Vertex) → IsVertex S v → is_live_in S inode v ≡ true → IsLiveIn S inode v
  passes_live v vertex e =
      let parts = and_parts (is_live v.kind v.status) (is_of_file S inode (first_point v)) e in
      let live = live_parts v.kind v.status parts.0 in
      let owner = passes (λ (r : Record). same_name r.name v.change && is_some_place (placed.At inode) (file_at r v.start)) S parts.1 in
      let names = and_parts (same_name owner.it.name v.change) (is_some_place (placed.At inode) (file_at owner.it v.start)) owner.is in
      record {
        live = record { vertex = vertex; text = live.0; live = live.1 };
        owner = owner.it;
        member = owner.member;
        name = same_name_is owner.it.name v.change names.0;
        of_file = some_place (placed.At inode) (file_at owner.it v.start) names.1;
      }

  -- and live text of the file passes it
  pub live_passes : (v : Vertex) → IsLiveIn S inode v → is_live_in S inode v ≡ true
  live_passes v h =
      and_from (is_live v.kind v.status) (is_of_file S inode (first_point v)) (parts_live v.kind v.status h.live.text h.live.live)
      (any_member (λ (r : Record). same_name r.name v.change && is_some_place (placed.At inode) (file_at r v.start)) S h.owner h.member
      (and_from (same_name h.owner.name v.change) (is_some_place (placed.At inode) (file_at h.owner v.start))
      (is_same_name h.owner.name v.change h.name) (place_some inode (file_at h.owner v.start) h.of_file)))

module _ (S : List Record) (vs : List Vertex) (lists : Lists vertex_cmp (IsVertex S) vs) (inode : Point) where
  live_found : list_any (is_live_in S inode) vs ≡ true → (v : Vertex) × IsLiveIn S inode v
  live_found e = (let found = passes (is_live_in S inode) vs e in (found.it, passes_live S inode found.it (lists.only found.it found.member) found.is))

  live_there : (v : Vertex) → IsLiveIn S inode v → list_any (is_live_in S inode) vs ≡ true
  live_there v h = any_member (is_live_in S inode) vs v (lists.all v h.live.vertex) (live_passes S inode v h)

  -- the test tells whether the file has live text
  pub live_told : (list_any (is_live_in S inode) vs ≡ true) ↔ ((v : Vertex) × IsLiveIn S inode v)
  live_told = (live_found, λ h. live_there h.0 h.1)

  -- the vertices that pass the test are the live text of the file
  pub live_listed : IsLiveList S inode (filter (is_live_in S inode) vs)
  live_listed = record {
    sorted = IsStrictlySortedBy-filter vertex_cmp (is_live_in S inode) vs lists.sorted;
    only = λ v m. (let h = passed (is_live_in S inode) vs v m in passes_live S inode v (lists.only v h.member) h.passes);
    all = λ v h. kept (is_live_in S inode) vs v (lists.all v h.live.vertex) (live_passes S inode v h);
  }
