-- What is defined over a set does not see the order of its list: it holds of two lists with the same members alike.
use Rattle.std.proofs.Common.{◌≡◌, ℕ, List, refl, sym, ◌∙◌, ap, inl, inr, Bool, true}
use Rattle.std.specs.Prelude.{Option, Some, None, not, ◌&&◌, ◌||◌}
use Rattle.std.specs.List.{list_any}
use Rattle.pj_name.specs.declared.name.Name.{Name}
use Rattle.pj_name.specs.Name.{same_name}
use Rattle.pj_change.specs.declared.point.Point.{Point}
use Rattle.pj_change.specs.declared.point.Place.{Place}
use Rattle.pj_change.specs.declared.hunk.Hunk.{Hunk}
use Rattle.pj_change.specs.declared.hunk.Hunk.TheVariants.{File, Dir, NameOf, Insert, Order, Delete, Revive}
use Rattle.pj_change.specs.declared.kind.Kind.{Kind}
use Rattle.pj_change.specs.declared.kind.Kind.TheVariants.{NameAt, FileInode, DirInode, Text}
use Rattle.pj_change.specs.declared.graph.Vertex.{Vertex}
use Rattle.pj_change.specs.declared.graph.Edge.{Edge}
use Rattle.pj_change.specs.declared.graph.Status.{Status}
use Rattle.pj_change.specs.declared.change.Record.{Record}
use Rattle.pj_change.specs.Positions.{kind_at, place, numbered, own_point}
use Rattle.pj_change.specs.Sets.{HaveSameMembers}
use Rattle.pj_change.specs.Covers.{covers, deletes, revives}
use Rattle.pj_change.specs.Versions.{survives, deletion_survives, life_survives, has_version}
use Rattle.pj_change.specs.Contested.{is_range_contested, is_hunk_contested}
use Rattle.pj_change.specs.Status.{is_contested, status_of}
use Rattle.pj_change.specs.Vertices.{is_cut, IsRun, IsVertexBy, IsVertex, first_point}
use Rattle.pj_change.specs.RealEdges.{IsBlock, IsFolder, IsNameEdge, IsEdgeOf, IsEdge}
use Rattle.pj_change.specs.Before.{Leads, IsBefore, IsLiveText}
use Rattle.pj_change.specs.Children.{Naming, IsNaming, IsInode, IsNamed, IsParent, IsSaid, HasName, HasExecName}
use Rattle.pj_change.specs.FileText.{IsLiveIn}
use Rattle.pj_change.proofs.Members.{any_same, any_each}
use Rattle.pj_change.proofs.PathsAcross.{path_map}

pub itself : (S : List Record) → HaveSameMembers S S
itself S = record { there = λ r m. m; back = λ r m. m }

pub back_again : (S T : List Record) → HaveSameMembers S T → HaveSameMembers T S
back_again S T e = record { there = e.back; back = e.there }

module _ (S T : List Record) (same : HaveSameMembers S T) where
  over : (p q : Record → Bool) → ((r : Record) → p r ≡ q r) → list_any p S ≡ list_any q T
  over p q e = any_same p q S T same.there same.back e

  pub survives-same : (n : Name) (p : Point) → survives S n p ≡ survives T n p
  survives-same n p = ap not (over _ _ (λ d. refl))

  pub has_version-same : (n : Name) (p : Point) → has_version S n p ≡ has_version T n p
  has_version-same n p = ap (λ b. same_name n p.change || b) (over _ _ (λ d. refl))

  pub deletion_survives-same : (p : Point) → deletion_survives S p ≡ deletion_survives T p
  deletion_survives-same p = over _ _ (λ d. ap (λ b. deletes d p && b) (survives-same d.name p))

  pub life_survives-same : (p : Point) → life_survives S p ≡ life_survives T p
  life_survives-same p = λ i. survives-same p.change p i || over (λ d. revives d p && survives S d.name p) (λ d. revives d p && survives T d.name p) (λ d. ap (λ b. revives d p && b) (survives-same d.name p)) i

  is_range_contested-same : (d o : Record) (start end : ℕ) → is_range_contested S d o start end ≡ is_range_contested T d o start end
  is_range_contested-same d o start end = over _ _ (λ i. refl)

  pub is_hunk_contested-same : (d : Record) (h : Hunk) → is_hunk_contested S d h ≡ is_hunk_contested T d h
  is_hunk_contested-same d (Delete owner start end by) = over _ _ (λ o. ap (λ b. same_name o.name (numbered d owner) && b) (is_range_contested-same d o start end))
  is_hunk_contested-same d (File parent name exec) = refl
  is_hunk_contested-same d (Dir parent name) = refl
  is_hunk_contested-same d (NameOf parent child name exec) = refl
  is_hunk_contested-same d (Insert file ups downs bytes) = refl
  is_hunk_contested-same d (Order file source target) = refl
  is_hunk_contested-same d (Revive owner start end by) = refl

  pub is_contested-same : (p : Point) → is_contested S p ≡ is_contested T p
  is_contested-same p = over _ _ (λ d i. survives-same d.name p i
      && any_each (λ h. covers d h p && is_hunk_contested S d h) (λ h. covers d h p && is_hunk_contested T d h) d.change.hunks (λ h. ap (λ b. covers d h p && b) (is_hunk_contested-same d h)) i)

  pub status-same : (p : Point) → status_of S p ≡ status_of T p
  unfolding status_of
  status-same p = rw (deletion_survives-same p, life_survives-same p, is_contested-same p) refl

  pub is_cut-same : (p : Point) → is_cut S p ≡ is_cut T p
  is_cut-same p = over _ _ (λ r. refl)

  -- ---- vertices and edges

  cut_there : (p : Point) → is_cut S p ≡ true → is_cut T p ≡ true
  cut_there p h = sym (is_cut-same p) ∙ h

  run-same : (v : Vertex) (first past : ℕ) → IsRun S v first past → IsRun T v first past
  run-same v first past r = record {
    nonempty = r.nonempty;
    inside = r.inside;
    from = elim r.from [ inl e ↦ inl e | inr h ↦ inr (cut_there (first_point v) h) ];
    upto = elim r.upto [ inl e ↦ inl e | inr h ↦ inr (cut_there (record { change = v.change; offset = v.end }) h) ];
    uncut = λ k l h. sym (is_cut-same (record { change = v.change; offset = k })) ∙ r.uncut k l h;
  }

  vertex_by-same : (owner : Record) (v : Vertex) (k : Option Kind) → IsVertexBy S owner v k → IsVertexBy T owner v k
  vertex_by-same owner v None h = h
  vertex_by-same owner v (Some (NameAt hunk)) h = (h.0, h.1, h.2 ∙ status-same (first_point v))
  vertex_by-same owner v (Some (FileInode hunk)) h = h
  vertex_by-same owner v (Some (DirInode hunk)) h = h
  vertex_by-same owner v (Some (Text hunk first past)) h = (run-same v first past h.0, h.1, h.2 ∙ status-same (first_point v))

  pub vertex-same : (v : Vertex) → IsVertex S v → IsVertex T v
  vertex-same v h = record { owner = h.owner; member = same.there h.owner h.member; name = h.name; is = vertex_by-same h.owner v (kind_at h.owner.change.hunks v.start) h.is }

  block-same : (r : Record) (source : Place) (offset : ℕ) (e : Edge) → IsBlock S r source offset e → IsBlock T r source offset e
  block-same r source offset e h = record { from = h.from; to = h.to; block = h.block; of_target = h.of_target ∙ status-same (own_point r offset); by = h.by }

  folder-same : (r : Record) (offset : ℕ) (source target : Place) (e : Edge) → IsFolder S r offset source target e → IsFolder T r offset source target e
  folder-same r offset source target e h = record { from = h.from; to = h.to; folder = h.folder; of_name = h.of_name ∙ status-same (own_point r offset); by = h.by }

  name_edge-same : (r : Record) (offset : ℕ) (parent child : Place) (e : Edge) → IsNameEdge S r offset parent child e → IsNameEdge T r offset parent child e
  name_edge-same r offset parent child e h = elim h [ inl f ↦ inl (folder-same r offset _ _ e f) | inr f ↦ inr (folder-same r offset _ _ e f) ]

  edge_of-same : (r : Record) (first : ℕ) (h : Hunk) (e : Edge) → IsEdgeOf S r first h e → IsEdgeOf T r first h e
  edge_of-same r first (File parent name exec) e h = name_edge-same r first _ _ e h
  edge_of-same r first (Dir parent name) e h = name_edge-same r first _ _ e h
  edge_of-same r first (NameOf parent child name exec) e h = name_edge-same r first _ _ e h
  edge_of-same r first (Insert file ups downs bytes) e h = elim h [
    | inl g ↦ inl (g.0, g.1, block-same r _ first e g.2)
    | inr k ↦ elim k [
      | inl g ↦ inr (inl (g.0, g.1, g.2, cut_there (own_point r g.0) g.3, block-same r _ g.0 e g.4))
      | inr g ↦ inr (inr g)
    ]
  ]
  edge_of-same r first (Order file source target) e h = h
  edge_of-same r first (Delete owner start end by) e h = h
  edge_of-same r first (Revive owner start end by) e h = h

  pub edge-same : (e : Edge) → IsEdge S e → IsEdge T e
  edge-same e h = record {
    introducer = h.introducer;
    member = same.there h.introducer h.member;
    number = h.number;
    hunk = h.hunk;
    there = h.there;
    is = edge_of-same h.introducer (place h.introducer.change.hunks h.number) h.hunk e h.is;
  }

  -- ---- which text is before which

  pub leads-same : (u v : Vertex) → Leads S u v → Leads T u v
  leads-same u v h = record {
    source = vertex-same u h.source;
    target = vertex-same v h.target;
    edge = h.edge;
    real = edge-same h.edge h.real;
    label = h.label;
    from = h.from;
    to = h.to;
  }

  pub before-same : {u v : Vertex} → IsBefore S u v → IsBefore T u v
  before-same b = path_map (Leads S) (Leads T) leads-same b

  pub live_text-same : (v : Vertex) → IsLiveText S v → IsLiveText T v
  live_text-same v h = record { vertex = vertex-same v h.vertex; text = h.text; live = h.live }

  pub live_in-same : (inode : Point) (v : Vertex) → IsLiveIn S inode v → IsLiveIn T inode v
  live_in-same inode v h = record { live = live_text-same v h.live; owner = h.owner; member = same.there h.owner h.member; name = h.name; of_file = h.of_file }

  -- ---- names and inodes

  pub naming-same : (n : Naming) → IsNaming S n → IsNaming T n
  naming-same n h = record { owner = h.owner; member = same.there h.owner h.member; number = h.number; hunk = h.hunk; there = h.there; is = h.is }

  pub inode-same : (p : Point) (dir : Bool) → IsInode S p dir → IsInode T p dir
  inode-same p dir h = record { owner = h.owner; member = same.there h.owner h.member; name = h.name; is = h.is }

  pub named-same : (p : Point) → IsNamed S p → IsNamed T p
  named-same p h = record { naming = h.naming; is = naming-same h.naming h.is; child = h.child; live = λ e. h.live (status-same h.naming.at ∙ e) }

  pub parent-same : (p : Point) → IsParent S p → IsParent T p
  parent-same p h = record { naming = h.naming; is = naming-same h.naming h.is; parent = h.parent; live = λ e. h.live (status-same h.naming.at ∙ e) }

  said-same : (parent : Place) (bytes : List ℕ) (inode : Point) (status : Status) (n : Naming) → IsSaid S parent bytes inode status n → IsSaid T parent bytes inode status n
  said-same parent bytes inode status n h = record {
    is = naming-same n h.is;
    in_parent = h.in_parent;
    of_bytes = h.of_bytes;
    of_child = h.of_child;
    of_status = sym (status-same n.at) ∙ h.of_status;
  }

  pub has_name-same : (parent : Place) (bytes : List ℕ) (inode : Point) (status : Status) → HasName S parent bytes inode status → HasName T parent bytes inode status
  has_name-same parent bytes inode status h = (h.0, said-same parent bytes inode status h.0 h.1)

  pub has_exec_name-same : (parent : Place) (bytes : List ℕ) (inode : Point) (status : Status) → HasExecName S parent bytes inode status → HasExecName T parent bytes inode status
  has_exec_name-same parent bytes inode status h = (h.0, said-same parent bytes inode status h.0 h.1, h.2)
