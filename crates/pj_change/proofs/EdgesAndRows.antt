-- The real edges of a set are its rows with the statuses that the rule gives, and a row inside a block stands exactly where the set cuts.
use Rattle.std.proofs.Common.{◌≡◌, ℕ, ◌+◌, ◌-◌, ◌<◌, List, [], ◌∷◌, length, refl, sym, ◌∙◌, ap, subst, inl, inr, arith, Bool, true, false}
use Rattle.std.specs.Prelude.{Contains, ◌⊎◌, ◌↔◌, ◌&&◌, Option, Some, None, slice_get, IsTrue, if◌then◌else◌}
use Rattle.std.proofs.lemmas.Bool.{and_parts, and_from, or_left}
use Rattle.pj_name.specs.Name.{same_name}
use Rattle.pj_change.specs.declared.point.Point.{Point}
use Rattle.pj_change.specs.declared.point.Place.{Place}
use Rattle.pj_change.specs.declared.point.Place.TheVariants as placed
use Rattle.pj_change.specs.declared.point.Ref.{Ref}
use Rattle.pj_change.specs.declared.hunk.Hunk.{Hunk}
use Rattle.pj_change.specs.declared.hunk.Hunk.TheVariants.{File, Dir, NameOf, Insert, Order, Delete, Revive}
use Rattle.pj_change.specs.declared.kind.Kind.{Kind}
use Rattle.pj_change.specs.declared.kind.Kind.TheVariants.{NameAt, FileInode, DirInode, Text}
use Rattle.pj_change.specs.declared.graph.Status.{Status}
use Rattle.pj_change.specs.declared.graph.Status.TheVariants.{Alive}
use Rattle.pj_change.specs.declared.graph.Label.TheVariants as label
use Rattle.pj_change.specs.declared.graph.Edge.{Edge}
use Rattle.pj_change.specs.declared.row.EdgeRow.{EdgeRow}
use Rattle.pj_change.specs.declared.change.Record.{Record}
use Rattle.pj_change.specs.Sets.{HaveOneText}
use Rattle.pj_change.specs.Lawful.{IsLawfulSet, needs_of}
use Rattle.pj_change.specs.Positions.{kind_at, place, resolve, own_point}
use Rattle.pj_change.specs.Context.{is_file_inode, is_dir_inode, is_parent, is_file, is_inode, kind_of, holds}
use Rattle.pj_change.specs.Status.{status_of}
use Rattle.pj_change.specs.Vertices.{is_cut}
use Rattle.pj_change.specs.RealEdges.{IsBlock, IsOrder, IsFolder, IsNameEdge, IsEdgeOf, IsEdge}
use Rattle.pj_change.specs.EdgeRows.{row_of, with_status, IsRow, IsNameRow, IsOwnRow, IsInside, inner_row, IsInnerRow, IsEdgeRow, is_name_kind, is_name_point, status_at, edge_status, row_status}
use Rattle.pj_change.specs.Parts.{parts_of}
use Rattle.pj_change.specs.Children.{IsInode}
use Rattle.pj_change.proofs.Members.{any_member, none_passes, splits, all_member, first_member, later_member, member_at}
use Rattle.pj_change.proofs.EqualNames.{same_name_is, name_itself, at_is}
use Rattle.pj_change.proofs.EqualRecords.{have_one_record}
use Rattle.pj_change.proofs.HunkLemmas.{refs_numbered}
use Rattle.pj_change.proofs.OneVertex.{set_record}
use Rattle.pj_change.proofs.NamedInodes.{child_named}
use Rattle.pj_change.proofs.PositionLemmas.{kind_at_into, kind_at_first, insertion_some}

row_ext : (a b : EdgeRow) → a.source ≡ b.source → a.target ≡ b.target → a.label ≡ b.label → a.introducer ≡ b.introducer → a ≡ b
row_ext a b s t l n = λ i. record { source = s i; target = t i; label = l i; introducer = n i }

-- ---- from edges to rows

module _ (S : List Record) (r : Record) (e : Edge) where
  block_row : (source : Place) (offset : ℕ) → IsBlock S r source offset e → IsRow r source (placed.At (own_point r offset)) label.Block (row_of e)
  block_row source offset b = record { from = b.from; to = ap placed.At b.to; labelled = b.block; by = b.by }

  order_row : (source target : Place) → IsOrder r source target e → IsRow r source target label.Order (row_of e)
  order_row source target o = record { from = o.from; to = o.to; labelled = o.order; by = o.by }

  folder_row : (offset : ℕ) (source target : Place) → IsFolder S r offset source target e → IsRow r source target label.Folder (row_of e)
  folder_row offset source target f = record { from = f.from; to = f.to; labelled = f.folder; by = f.by }

  name_row : (offset : ℕ) (parent child : Place) → IsNameEdge S r offset parent child e → IsNameRow r offset parent child (row_of e)
  name_row offset parent child n = elim n [
    | inl f ↦ inl (folder_row offset parent (placed.At (own_point r offset)) f)
    | inr f ↦ inr (folder_row offset (placed.At (own_point r offset)) child f)
  ]

  is_inner_row : (at : ℕ) → IsBlock S r (placed.At (own_point r (at - 1))) at e → row_of e ≡ inner_row r at
  is_inner_row at b = row_ext (row_of e) (inner_row r at) b.from b.to b.block b.by

  edge_row_of : (first : ℕ) (h : Hunk) → IsEdgeOf S r first h e → IsOwnRow r first h (row_of e) ⊎ IsInnerRow S r first h (row_of e)
  edge_row_of first (File parent name exec) is = inl (name_row first (resolve r parent) (placed.At (own_point r (first + 1))) is)
  edge_row_of first (Dir parent name) is = inl (name_row first (resolve r parent) (placed.At (own_point r (first + 1))) is)
  edge_row_of first (NameOf parent child name exec) is = inl (name_row first (resolve r parent) (resolve r child) is)
  edge_row_of first (Insert file ups downs bytes) is = elim is [
    | inl u ↦ inl (inl (u.0, u.1, block_row (resolve r u.0) first u.2))
    | inr k ↦ elim k [
      | inl a ↦ inr (record { at = a.0; inner = (a.1, a.2); cut = a.3; is = is_inner_row a.0 a.4 })
      | inr d ↦ inl (inr (d.0, d.1, order_row (placed.At (own_point r (first + length bytes - 1))) (resolve r d.0) d.2))
    ]
  ]
  edge_row_of first (Order file source target) is = inl (order_row (resolve r source) (resolve r target) is)
  edge_row_of first (Delete owner start end by) is = absurd is
  edge_row_of first (Revive owner start end by) is = absurd is

-- each edge has its row
pub edge_row : (S : List Record) (e : Edge) → IsEdge S e → IsEdgeRow S (row_of e)
edge_row S e h = record {
  introducer = h.introducer;
  member = h.member;
  number = h.number;
  hunk = h.hunk;
  there = h.there;
  is = edge_row_of S h.introducer e (place h.introducer.change.hunks h.number) h.hunk h.is;
}

-- ---- from rows to edges

-- an edge of the hunk with this row
abbrev HasEdge : List Record → Record → ℕ → Hunk → EdgeRow → Type 0
HasEdge S r first h row = (s : Status) × IsEdgeOf S r first h (with_status row s)

module _ (S : List Record) (r : Record) (row : EdgeRow) where
  block_of : (source : Place) (offset : ℕ) → IsRow r source (placed.At (own_point r offset)) label.Block row → IsBlock S r source offset (with_status row (status_of S (own_point r offset)))
  block_of source offset h = record { from = h.from; to = at_is row.target (own_point r offset) h.to; block = h.labelled; of_target = refl; by = h.by }

  order_of : (source target : Place) → IsRow r source target label.Order row → IsOrder r source target (with_status row Alive)
  order_of source target h = record { from = h.from; to = h.to; order = h.labelled; alive = refl; by = h.by }

  folder_of : (offset : ℕ) (source target : Place) → IsRow r source target label.Folder row → IsFolder S r offset source target (with_status row (status_of S (own_point r offset)))
  folder_of offset source target h = record { from = h.from; to = h.to; folder = h.labelled; of_name = refl; by = h.by }

  name_of : (offset : ℕ) (parent child : Place) → IsNameRow r offset parent child row → IsNameEdge S r offset parent child (with_status row (status_of S (own_point r offset)))
  name_of offset parent child n = elim n [
    | inl f ↦ inl (folder_of offset parent (placed.At (own_point r offset)) f)
    | inr f ↦ inr (folder_of offset (placed.At (own_point r offset)) child f)
  ]

  own_edge : (first : ℕ) (h : Hunk) → IsOwnRow r first h row → HasEdge S r first h row
  own_edge first (File parent name exec) is = (status_of S (own_point r first), name_of first (resolve r parent) (placed.At (own_point r (first + 1))) is)
  own_edge first (Dir parent name) is = (status_of S (own_point r first), name_of first (resolve r parent) (placed.At (own_point r (first + 1))) is)
  own_edge first (NameOf parent child name exec) is = (status_of S (own_point r first), name_of first (resolve r parent) (resolve r child) is)
  own_edge first (Insert file ups downs bytes) (inl u) = (status_of S (own_point r first), inl (u.0, u.1, block_of (resolve r u.0) first u.2))
  own_edge first (Insert file ups downs bytes) (inr d) = (Alive, inr (inr (d.0, d.1, order_of (placed.At (own_point r (first + length bytes - 1))) (resolve r d.0) d.2)))
  own_edge first (Order file source target) is = (Alive, order_of (resolve r source) (resolve r target) is)
  own_edge first (Delete owner start end by) is = absurd is
  own_edge first (Revive owner start end by) is = absurd is

  inner_block : (at : ℕ) → row ≡ inner_row r at → IsBlock S r (placed.At (own_point r (at - 1))) at (with_status row (status_of S (own_point r at)))
  inner_block at e = record { from = ap (λ (w : EdgeRow). w.source) e; to = ap (λ (w : EdgeRow). w.target) e; block = ap (λ (w : EdgeRow). w.label) e; of_target = refl; by = ap (λ (w : EdgeRow). w.introducer) e }

  inner_edge : (first : ℕ) (h : Hunk) → IsInnerRow S r first h row → HasEdge S r first h row
  inner_edge first (Insert file ups downs bytes) i = (status_of S (own_point r i.at), inr (inl (i.at, i.inner.0, i.inner.1, i.cut, inner_block i.at i.is)))
  inner_edge first (File parent name exec) i = absurd i.inner
  inner_edge first (Dir parent name) i = absurd i.inner
  inner_edge first (NameOf parent child name exec) i = absurd i.inner
  inner_edge first (Order file source target) i = absurd i.inner
  inner_edge first (Delete owner start end by) i = absurd i.inner
  inner_edge first (Revive owner start end by) i = absurd i.inner

-- each row is that of an edge
pub row_edge : (S : List Record) (row : EdgeRow) → IsEdgeRow S row → (s : Status) × IsEdge S (with_status row s)
row_edge S row h = by h.is
  where
    edge : HasEdge S h.introducer (place h.introducer.change.hunks h.number) h.hunk row → (s : Status) × IsEdge S (with_status row s)
    edge (s, is) = (s, record { introducer = h.introducer; member = h.member; number = h.number; hunk = h.hunk; there = h.there; is = is })

    by : IsOwnRow h.introducer (place h.introducer.change.hunks h.number) h.hunk row ⊎ IsInnerRow S h.introducer (place h.introducer.change.hunks h.number) h.hunk row → (s : Status) × IsEdge S (with_status row s)
    by (inl own) = edge (own_edge S h.introducer row (place h.introducer.change.hunks h.number) h.hunk own)
    by (inr inner) = edge (inner_edge S h.introducer row (place h.introducer.change.hunks h.number) h.hunk inner)

-- ---- the status of an edge

-- the child of a name is a file or a directory
child_inode : (r : Record) (needs : List Record) (parent child : Ref) (name : List ℕ) (exec : Bool) → holds r needs (NameOf parent child name exec) ≡ true → is_inode r needs child ≡ true
child_inode r needs parent child name true h = or_left (is_file r needs child) (is_dir_inode (kind_of r needs child)) (and_parts (is_parent r needs parent) (is_file r needs child) h).1
child_inode r needs parent child name false h = (and_parts (is_parent r needs parent) (is_inode r needs child) h).1

-- what is a file or a directory is no name
inode_no_name : (k : Option Kind) (dir : Bool) → IsTrue (if dir then is_dir_inode k else is_file_inode k) → is_name_kind k ≡ false
inode_no_name None dir h = refl
inode_no_name (Some (NameAt hunk)) true h = absurd (cc)
inode_no_name (Some (NameAt hunk)) false h = absurd (cc)
inode_no_name (Some (FileInode hunk)) dir h = refl
inode_no_name (Some (DirInode hunk)) dir h = refl
inode_no_name (Some (Text hunk first past)) dir h = refl

module _ (S : List Record) (set : IsLawfulSet S) where
  no_name_at : (p : Point) (dir : Bool) → IsInode S p dir → is_name_point S p ≡ false
  no_name_at p dir i = none_passes (λ o. same_name o.name p.change && is_name_kind (kind_at o.change.hunks p.offset)) S (λ o m. go o m (same_name o.name p.change) refl)
    where
      go : (o : Record) → Contains S o → (b : Bool) → same_name o.name p.change ≡ b → (same_name o.name p.change && is_name_kind (kind_at o.change.hunks p.offset)) ≡ false
      go o m true e =
          let same : i.owner ≡ o = set_record S set i.owner o i.member m (i.name ∙ sym (same_name_is o.name p.change e)) in
          let none : is_name_kind (kind_at o.change.hunks p.offset) ≡ false =
          subst (λ (r : Record). is_name_kind (kind_at r.change.hunks p.offset) ≡ false) same (inode_no_name (kind_at i.owner.change.hunks p.offset) dir i.is) in
          rw e none
      go o m false e = rw e refl

  module _ (r : Record) (member : Contains S r) (e : Edge) where
    block_status : (source : Place) (offset : ℕ) → IsBlock S r source offset e → e.status ≡ row_status S (row_of e)
    block_status source offset b = b.of_target ∙ ap (status_of S) (sym b.to) ∙ sym (ap (edge_status S e.source e.target) b.block)

    order_status : (source target : Place) → IsOrder r source target e → e.status ≡ row_status S (row_of e)
    order_status source target o = o.alive ∙ sym (ap (edge_status S e.source e.target) o.order)

    into_status : (offset hunk : ℕ) (source : Place) → kind_at r.change.hunks offset ≡ Some (NameAt hunk) → IsFolder S r offset source (placed.At (own_point r offset)) e → e.status ≡ row_status S (row_of e)
    into_status offset hunk source k f =
        let target : e.target ≡ own_point r offset = at_is e.target (own_point r offset) f.to in
        let named : is_name_point S (own_point r offset) ≡ true = any_member (λ o. same_name o.name r.name && is_name_kind (kind_at o.change.hunks offset)) S r member (and_from _ _ (name_itself r.name) (ap is_name_kind k)) in
        let there : is_name_point S e.target ≡ true = ap (is_name_point S) target ∙ named in
        let by_target : edge_status S e.source e.target label.Folder ≡ status_of S e.target = rw there refl in
        f.of_name ∙ ap (status_of S) (sym target) ∙ sym (ap (edge_status S e.source e.target) f.folder ∙ by_target)

    out_status : (offset : ℕ) (child : Place) → is_name_point S e.target ≡ false → IsFolder S r offset (placed.At (own_point r offset)) child e → e.status ≡ row_status S (row_of e)
    out_status offset child none f =
        let by_source : edge_status S e.source e.target label.Folder ≡ status_at S e.source = rw none refl in
        f.of_name ∙ sym (ap (status_at S) f.from) ∙ sym (ap (edge_status S e.source e.target) f.folder ∙ by_source)

    name_status : (offset hunk : ℕ) (parent child : Place) → kind_at r.change.hunks offset ≡ Some (NameAt hunk) → ((p : Point) → placed.At p ≡ child → is_name_point S p ≡ false) →
        IsNameEdge S r offset parent child e → e.status ≡ row_status S (row_of e)
    name_status offset hunk parent child k none n = elim n [
      | inl f ↦ into_status offset hunk parent k f
      | inr f ↦ out_status offset child (none e.target f.to) f
    ]

    -- the inode that the hunk makes is no name
    own_inode : (at : ℕ) (dir : Bool) → IsTrue (if dir then is_dir_inode (kind_at r.change.hunks at) else is_file_inode (kind_at r.change.hunks at)) → (p : Point) → placed.At p ≡ placed.At (own_point r at) → is_name_point S p ≡ false
    own_inode at dir k p same =
        ap (is_name_point S) (at_is p (own_point r at) same) ∙ no_name_at (own_point r at) dir (record { owner = r; member = member; name = refl; is = k })

    -- nor is the child that it names
    named_inode : (parent child : Ref) (name : List ℕ) (exec : Bool) → Contains r.change.hunks (NameOf parent child name exec) → (p : Point) → placed.At p ≡ resolve r child → is_name_point S p ≡ false
    named_inode parent child name exec m p same =
        let s = splits set.list r (set.same.back r member) in
        let context = all_member (holds r (needs_of s.before r)) r.change.hunks (NameOf parent child name exec) (set.lawful s.before r s.after s.is).context m in
        let low = refs_numbered (parts_of r.change) r.change.keeps (NameOf parent child name exec) child m (later_member parent (child ∷ []) child (first_member child [])) in
        let c = child_named set.list set.lawful s.before r s.after s.is child low (child_inode r (needs_of s.before r) parent child name exec context) in
        let here : p ≡ c.0 = at_is p c.0 (same ∙ c.2) in
        let inode = c.3 in
        ap (is_name_point S) here ∙ no_name_at c.0 c.1 (record { owner = inode.owner; member = set.same.there inode.owner inode.member; name = inode.name; is = inode.is })

    edge_status_of : (number : ℕ) (h : Hunk) → slice_get r.change.hunks number ≡ Some h → IsEdgeOf S r (place r.change.hunks number) h e → e.status ≡ row_status S (row_of e)
    edge_status_of number (File parent name exec) there is =
        let hunks = r.change.hunks in
        let first = place hunks number in
        name_status first number (resolve r parent) (placed.At (own_point r (first + 1))) (kind_at_first hunks number (File parent name exec) there (omega arith))
        (own_inode (first + 1) false (ap is_file_inode (kind_at_into hunks number (File parent name exec) 1 there (omega arith)))) is
    edge_status_of number (Dir parent name) there is =
        let hunks = r.change.hunks in
        let first = place hunks number in
        name_status first number (resolve r parent) (placed.At (own_point r (first + 1))) (kind_at_first hunks number (Dir parent name) there (omega arith))
        (own_inode (first + 1) true (ap is_dir_inode (kind_at_into hunks number (Dir parent name) 1 there (omega arith)))) is
    edge_status_of number (NameOf parent child name exec) there is =
        let hunks = r.change.hunks in
        let first = place hunks number in
        name_status first number (resolve r parent) (resolve r child) (kind_at_first hunks number (NameOf parent child name exec) there (omega arith))
        (named_inode parent child name exec (member_at hunks number (NameOf parent child name exec) there)) is
    edge_status_of number (Insert file ups downs bytes) there is =
        let first = place r.change.hunks number in
        elim is [
          | inl u ↦ block_status (resolve r u.0) first u.2
          | inr k ↦ elim k [
            | inl a ↦ block_status (placed.At (own_point r (a.0 - 1))) a.0 a.4
            | inr d ↦ order_status (placed.At (own_point r (first + length bytes - 1))) (resolve r d.0) d.2
          ]
        ]
    edge_status_of number (Order file source target) there is = order_status (resolve r source) (resolve r target) is
    edge_status_of number (Delete owner start end by) there is = absurd is
    edge_status_of number (Revive owner start end by) there is = absurd is

-- in a lawful set each edge has the status that the rule gives its row
pub edge_has_status : (S : List Record) → IsLawfulSet S → (e : Edge) → IsEdge S e → e.status ≡ row_status S (row_of e)
edge_has_status S set e h = edge_status_of S set h.introducer h.member e h.number h.hunk h.there h.is

-- so an edge is a real edge exactly where its row is one and its status is that of the rule
pub edge_by_row : (S : List Record) → IsLawfulSet S → (e : Edge) → IsEdge S e ↔ (IsEdgeRow S (row_of e) × (e.status ≡ row_status S (row_of e)))
edge_by_row S set e = (λ h. (edge_row S e h, edge_has_status S set e h), back)
  where
    back : IsEdgeRow S (row_of e) × (e.status ≡ row_status S (row_of e)) → IsEdge S e
    back (row, status) =
        let found = row_edge S (row_of e) row in
        let same : found.0 ≡ e.status = edge_has_status S set (with_status (row_of e) found.0) found.1 ∙ sym status in
        subst (λ s. IsEdge S (with_status (row_of e) s)) same found.1

-- ---- rows inside a block

-- a folder row is none
no_folder : (r : Record) (at : ℕ) (x : Record) (offset : ℕ) (parent child : Place) → IsNameRow x offset parent child (inner_row r at) → ⊥
no_folder r at x offset parent child n = elim n [
  | inl f ↦ (let l : label.Block ≡ label.Folder = f.labelled in cc)
  | inr f ↦ (let l : label.Block ≡ label.Folder = f.labelled in cc)
]

module _ (S : List Record) (unique : HaveOneText S) (r : Record) (member : Contains S r) (number : ℕ) (file : Ref) (ups downs : List Ref) (bytes : List ℕ)
    (there : slice_get r.change.hunks number ≡ Some (Insert file ups downs bytes)) (at : ℕ) (after : place r.change.hunks number < at) (before : at < place r.change.hunks number + length bytes) where
  -- a position inside a block is the first of no other
  not_first : (other : ℕ) (f : Ref) (us ds : List Ref) (bs : List ℕ) → slice_get r.change.hunks other ≡ Some (Insert f us ds bs) → at ≡ place r.change.hunks other → ⊥
  not_first other f us ds bs e first =
      let hunks = r.change.hunks in
      let some : 0 < length bs = insertion_some r f us ds bs (member_at hunks other (Insert f us ds bs) e) in
      let here = kind_at_first hunks other (Insert f us ds bs) e some in
      let distance : place hunks number + (at - place hunks number) ≡ at = omega arith in
      let into = kind_at_into hunks number (Insert file ups downs bytes) (at - place hunks number) there (omega arith) in
      let both : Some (Text number (place hunks number) (place hunks number + length bytes)) ≡ Some (Text other (place hunks other) (place hunks other + length bs)) =
      sym into ∙ ap (kind_at hunks) (distance ∙ first) ∙ here in
      let start : place hunks number ≡ place hunks other = cc in
      omega arith

  own_no_inner : (x : Record) → Contains S x → (other : ℕ) (h : Hunk) → slice_get x.change.hunks other ≡ Some h → IsOwnRow x (place x.change.hunks other) h (inner_row r at) → ⊥
  own_no_inner x m other (Insert f us ds bs) e (inl u) =
      let point : own_point r at ≡ own_point x (place x.change.hunks other) = at_is _ _ u.2.to in
      let same : x ≡ r = have_one_record S unique x r m member (sym (ap (λ (p : Point). p.change) point)) in
      let first : at ≡ place x.change.hunks other = ap (λ (p : Point). p.offset) point in
      not_first other f us ds bs (subst (λ (y : Record). slice_get y.change.hunks other ≡ Some (Insert f us ds bs)) same e) (first ∙ ap (λ (y : Record). place y.change.hunks other) same)
  own_no_inner x m other (Insert f us ds bs) e (inr d) = (let l : label.Block ≡ label.Order = d.2.labelled in absurd (cc))
  own_no_inner x m other (File parent name exec) e own = no_folder r at x (place x.change.hunks other) (resolve x parent) (placed.At (own_point x (place x.change.hunks other + 1))) own
  own_no_inner x m other (Dir parent name) e own = no_folder r at x (place x.change.hunks other) (resolve x parent) (placed.At (own_point x (place x.change.hunks other + 1))) own
  own_no_inner x m other (NameOf parent child name exec) e own = no_folder r at x (place x.change.hunks other) (resolve x parent) (resolve x child) own
  own_no_inner x m other (Order f source target) e own = (let l : label.Block ≡ label.Order = own.labelled in absurd (cc))
  own_no_inner x m other (Delete owner start end by) e own = absurd own
  own_no_inner x m other (Revive owner start end by) e own = absurd own

  row_is_cut : IsEdgeRow S (inner_row r at) → is_cut S (own_point r at) ≡ true
  row_is_cut h = elim h.is [
    | inl own ↦ absurd (own_no_inner h.introducer h.member h.number h.hunk h.there own)
    | inr i ↦ ap (λ (w : EdgeRow). is_cut S w.target) i.is ∙ i.cut
  ]

  cut_has_row : is_cut S (own_point r at) ≡ true → IsEdgeRow S (inner_row r at)
  cut_has_row c = record {
    introducer = r;
    member = member;
    number = number;
    hunk = Insert file ups downs bytes;
    there = there;
    is = inr (record { at = at; inner = (after, before); cut = c; is = refl });
  }

-- a row inside a block stands exactly where the set cuts, where records with equal names have equal texts
pub inner_row_where_cut : (S : List Record) → HaveOneText S → (r : Record) → Contains S r → (number : ℕ) (h : Hunk) → slice_get r.change.hunks number ≡ Some h →
    (at : ℕ) → IsInside (place r.change.hunks number) h at → IsEdgeRow S (inner_row r at) ↔ (is_cut S (own_point r at) ≡ true)
inner_row_where_cut S unique r member number (Insert file ups downs bytes) there at inner =
    (row_is_cut S unique r member number file ups downs bytes there at inner.0 inner.1, cut_has_row S unique r member number file ups downs bytes there at inner.0 inner.1)
inner_row_where_cut S unique r member number (File parent name exec) there at inner = absurd inner
inner_row_where_cut S unique r member number (Dir parent name) there at inner = absurd inner
inner_row_where_cut S unique r member number (NameOf parent child name exec) there at inner = absurd inner
inner_row_where_cut S unique r member number (Order file source target) there at inner = absurd inner
inner_row_where_cut S unique r member number (Delete owner start end by) there at inner = absurd inner
inner_row_where_cut S unique r member number (Revive owner start end by) there at inner = absurd inner
