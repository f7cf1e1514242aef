-- The vertices of a set that are its inodes.
use Rattle.std.proofs.Common.{◌≡◌, ◌+◌, Bool, true, false, List, [], refl, sym, ◌∙◌, ap, subst}
use Rattle.std.specs.Prelude.{Contains, ◌↔◌, Option, Some, None, if◌then◌else◌}
use Rattle.std.proofs.lemmas.Option.{same_Some, none-some}
use Rattle.pj_change.specs.declared.point.Point.{Point}
use Rattle.pj_change.specs.declared.hunk.Hunk.{Hunk}
use Rattle.pj_change.specs.declared.hunk.Hunk.TheVariants.{File, Dir, NameOf, Insert, Order, Delete, Revive}
use Rattle.pj_change.specs.declared.kind.Kind.{Kind}
use Rattle.pj_change.specs.declared.kind.Kind.TheVariants.{NameAt, FileInode, DirInode, Text}
use Rattle.pj_change.specs.declared.graph.Status.TheVariants.{Alive}
use Rattle.pj_change.specs.declared.graph.Vertex.{Vertex}
use Rattle.pj_change.specs.declared.graph.VertexKind.{VertexKind}
use Rattle.pj_change.specs.declared.graph.VertexKind.TheVariants as vertex_kind
use Rattle.pj_change.specs.declared.change.Record.{Record}
use Rattle.pj_change.specs.Positions.{kind_at}
use Rattle.pj_change.specs.Context.{is_file_inode, is_dir_inode}
use Rattle.pj_change.specs.Children.{IsInode}
use Rattle.pj_change.specs.Gathers.{Gathers, IsOfOne}
use Rattle.pj_change.specs.Graph.{vertex_cmp, Lists}
use Rattle.pj_change.specs.Lawful.{IsLawful}
use Rattle.pj_change.specs.Vertices.{first_point, name_kind, IsVertexBy, IsVertex}
use Rattle.pj_change.proofs.Gathering.{gathered}
use Rattle.pj_change.proofs.LawfulLists.{set_of}
use Rattle.pj_change.proofs.OneVertex.{same_first}
use Rattle.pj_tree.specs.declared.row.Inode.{Inode}
use Rattle.pj_tree.specs.TreeOf.{inode_by, inode_of}
use Rattle.pj_tree.proofs.GatheredRows.{IsInodeOf, StandApart}

-- a name is none
no_name : (p : Point) (h : Option Hunk) → inode_by p (name_kind h) ≡ None
no_name p (Some (File parent name true)) = refl
no_name p (Some (File parent name false)) = refl
no_name p (Some (NameOf parent child name true)) = refl
no_name p (Some (NameOf parent child name false)) = refl
no_name p (Some (Dir parent name)) = refl
no_name p (Some (Insert file ups downs bytes)) = refl
no_name p (Some (Order file source target)) = refl
no_name p (Some (Delete owner start end by)) = refl
no_name p (Some (Revive owner start end by)) = refl
no_name p None = refl

module _ (S : List Record) where
  inode_at_kind : (v : Vertex) (h : IsVertex S v) (dir : Bool) → (i : Inode) → record { at = first_point v; dir = dir } ≡ i →
      (if dir then is_dir_inode (kind_at h.owner.change.hunks v.start) else is_file_inode (kind_at h.owner.change.hunks v.start)) ≡ true → IsInode S i.at i.dir
  inode_at_kind v h dir i e ok = subst (λ (j : Inode). IsInode S j.at j.dir) e (record { owner = h.owner; member = h.member; name = h.name; is = ok })

  -- a vertex that is an inode
  pub vertex_inode : (v : Vertex) → IsVertex S v → (i : Inode) → inode_of v ≡ Some i → IsInode S i.at i.dir
  vertex_inode v h i e = go (kind_at h.owner.change.hunks v.start) refl h.is
    where
      p : Point
      p = first_point v

      go : (k : Option Kind) → kind_at h.owner.change.hunks v.start ≡ k → IsVertexBy S h.owner v k → IsInode S i.at i.dir
      go None k is = absurd is
      go (Some (NameAt hunk)) k is = absurd (none-some i (sym (ap (inode_by p) is.1 ∙ no_name p _) ∙ e))
      go (Some (FileInode hunk)) k is = inode_at_kind v h false i (same_Some _ i (sym (ap (inode_by p) is.1) ∙ e)) (ap is_file_inode k)
      go (Some (DirInode hunk)) k is = inode_at_kind v h true i (same_Some _ i (sym (ap (inode_by p) is.1) ∙ e)) (ap is_dir_inode k)
      go (Some (Text hunk first past)) k is = absurd (none-some i (sym (ap (inode_by p) is.1) ∙ e))

  -- the vertex of an inode
  abbrev vertex_of : Point → VertexKind → Vertex
  vertex_of p kind = record { change = p.change; start = p.offset; end = p.offset + 1; kind = kind; status = Alive }

  pub inode_vertex : (p : Point) (dir : Bool) → IsInode S p dir → (v : Vertex) × IsVertex S v × (inode_of v ≡ Some (record { at = p; dir = dir }))
  inode_vertex p true h = go (kind_at h.owner.change.hunks p.offset) refl h.is
    where
      go : (k : Option Kind) → kind_at h.owner.change.hunks p.offset ≡ k → is_dir_inode k ≡ true → (v : Vertex) × IsVertex S v × (inode_of v ≡ Some (record { at = p; dir = true }))
      go None k is = absurd (cc)
      go (Some (NameAt hunk)) k is = absurd (cc)
      go (Some (FileInode hunk)) k is = absurd (cc)
      go (Some (DirInode hunk)) k is =
          (vertex_of p vertex_kind.Dir, record { owner = h.owner; member = h.member; name = h.name; is = subst (IsVertexBy S h.owner (vertex_of p vertex_kind.Dir)) (sym k) (refl, refl, refl) }, refl)
      go (Some (Text hunk first past)) k is = absurd (cc)
  inode_vertex p false h = go (kind_at h.owner.change.hunks p.offset) refl h.is
    where
      go : (k : Option Kind) → kind_at h.owner.change.hunks p.offset ≡ k → is_file_inode k ≡ true → (v : Vertex) × IsVertex S v × (inode_of v ≡ Some (record { at = p; dir = false }))
      go None k is = absurd (cc)
      go (Some (NameAt hunk)) k is = absurd (cc)
      go (Some (FileInode hunk)) k is =
          (vertex_of p vertex_kind.File, record { owner = h.owner; member = h.member; name = h.name; is = subst (IsVertexBy S h.owner (vertex_of p vertex_kind.File)) (sym k) (refl, refl, refl) }, refl)
      go (Some (DirInode hunk)) k is = absurd (cc)
      go (Some (Text hunk first past)) k is = absurd (cc)

  -- in a lawful set each vertex stands at a point of its own
  pub vertices_apart : IsLawful S → (vs : List Vertex) → Lists vertex_cmp (IsVertex S) vs → StandApart vs
  vertices_apart lawful vs lists v w m n e = same_first S (set_of S lawful) v w (lists.only v m) (lists.only w n) e

  -- those of all its vertices were gathered
  pub inodes_told : (vs : List Vertex) → Lists vertex_cmp (IsVertex S) vs → (inodes : List Inode) → Gathers (IsOfOne IsInodeOf vs) [] inodes → (i : Inode) → Contains inodes i ↔ IsInode S i.at i.dir
  inodes_told vs lists inodes a i = (there, back)
    where
      there : Contains inodes i → IsInode S i.at i.dir
      there m =
          let h = gathered (IsOfOne IsInodeOf vs) inodes a i m in
          vertex_inode h.one (lists.only h.one h.member) i h.is

      back : IsInode S i.at i.dir → Contains inodes i
      back h = (let f = inode_vertex i.at i.dir h in a.all i (record { one = f.0; member = lists.all f.0 f.1; is = f.2 }))
