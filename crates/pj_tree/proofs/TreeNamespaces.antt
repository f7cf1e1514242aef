-- The tree of a lawful set is whole, and its namespace is that of the set.
use Rattle.std.proofs.Common.{◌≡◌, ℕ, ◌+◌, ◌<◌, Bool, true, false, List, [], ◌∷◌, refl, sym, ◌∙◌, ap, subst, arith}
use Rattle.std.specs.Prelude.{Contains, ◌↔◌, Option, Some, None, slice_get, option_and_then, if◌then◌else◌}
use Rattle.std.proofs.lemmas.Bool.{and_parts}
use Rattle.std.proofs.lemmas.Option.{same_Some, none-some}
use Rattle.pj_change.specs.declared.point.Point.{Point}
use Rattle.pj_change.specs.declared.point.Place.{Place}
use Rattle.pj_change.specs.declared.point.Place.TheVariants as placed
use Rattle.pj_change.specs.declared.point.Ref.{Ref}
use Rattle.pj_change.specs.declared.hunk.Hunk.{Hunk}
use Rattle.pj_change.specs.declared.hunk.Hunk.TheVariants.{File, Dir, NameOf, Insert, Order, Delete, Revive}
use Rattle.pj_change.specs.declared.kind.Kind.{Kind}
use Rattle.pj_change.specs.declared.kind.Kind.TheVariants.{FileInode, DirInode}
use Rattle.pj_change.specs.declared.change.Record.{Record}
use Rattle.pj_change.specs.Rules.{position_count}
use Rattle.pj_change.specs.Positions.{place, own_point, kind_in}
use Rattle.pj_change.specs.Context.{is_parent, is_inode, is_file, is_file_inode, is_dir_inode, holds}
use Rattle.pj_change.specs.Children.{Naming, naming_of, IsNaming, IsInode}
use Rattle.pj_change.specs.Status.{status_of}
use Rattle.pj_change.specs.FileText.{IsLiveIn}
use Rattle.pj_change.specs.declared.graph.Vertex.{Vertex}
use Rattle.pj_change.specs.Lawful.{IsLawful, needs_of}
use Rattle.pj_change.proofs.Members.{all_member, first_member, later_member, splits, Splits}
use Rattle.pj_change.proofs.ListNumbers.{numbered_member}
use Rattle.pj_change.proofs.NamedInodes.{child_named}
use Rattle.pj_change.proofs.PositionLemmas.{ref_is_numbered, kind_at_into}
use Rattle.pj_change.proofs.EqualNames.{at_is}
use Rattle.pj_tree.specs.declared.row.NameRow.{NameRow}
use Rattle.pj_tree.specs.Rows.{Listing, IsWhole}
use Rattle.pj_tree.specs.Namespace.{namespace}
use Rattle.pj_tree.specs.NamespaceOf.{naming, HasRow, IsNamespaceOf}
use Rattle.pj_tree.specs.TreeOf.{is_dir, row_to, row_of, IsRowOf, IsTreeOf}
use Rattle.pj_tree.proofs.DirTests.{dir_told}

-- ---- the row of a name

pub record RowParts (S : List Record) (n : Naming) (child : Place) (row : NameRow) : Type 0 where
  pub parent : row.parent ≡ n.parent
  pub bytes : row.name ≡ n.bytes
  pub child_is : child ≡ placed.At row.child
  pub exec : row.exec ≡ n.exec
  pub at : row.at ≡ n.at
  pub dir : row.dir ≡ is_dir S row.child

row_parts_to : (S : List Record) (n : Naming) (child : Place) (row : NameRow) → row_to S n child ≡ Some row → RowParts S n child row
row_parts_to S n placed.Root row e = absurd (none-some row e)
row_parts_to S n (placed.At p) row e =
    let one : NameRow = record { parent = n.parent; name = n.bytes; child = p; at = n.at; dir = is_dir S p; exec = n.exec } in
    let same : row ≡ one = sym (same_Some one row e) in
    let at_child : row.child ≡ p = ap (λ (r : NameRow). r.child) same in
    record {
      parent = ap (λ (r : NameRow). r.parent) same;
      bytes = ap (λ (r : NameRow). r.name) same;
      child_is = ap placed.At (sym at_child);
      exec = ap (λ (r : NameRow). r.exec) same;
      at = ap (λ (r : NameRow). r.at) same;
      dir = ap (λ (r : NameRow). r.dir) same ∙ ap (is_dir S) (sym at_child);
    }

row_naming : (S : List Record) (n : Naming) (row : NameRow) → RowParts S n n.child row → naming row ≡ n
row_naming S n row p = λ i. record { parent = p.parent i; bytes = p.bytes i; child = sym p.child_is i; exec = p.exec i; at = p.at i }

-- the name that a row of a change is of
pub record NameOfRow (S : List Record) (r : Record) (row : NameRow) (number : ℕ) (hunk : Hunk) : Type 0 where
  pub name : Naming
  pub named : naming_of r (place r.change.hunks number) hunk ≡ Some name
  pub parts : RowParts S name name.child row

name_of_row : (S : List Record) (r : Record) (row : NameRow) (h : IsRowOf S r row) → NameOfRow S r row h.number h.hunk
name_of_row S r row h = go (naming_of r (place r.change.hunks h.number) h.hunk) refl
  where
    go : (o : Option Naming) → naming_of r (place r.change.hunks h.number) h.hunk ≡ o → NameOfRow S r row h.number h.hunk
    go None e = absurd (none-some row (sym (ap (option_and_then (row_of S)) e) ∙ h.is))
    go (Some n) e = record { name = n; named = e; parts = row_parts_to S n n.child row (sym (ap (option_and_then (row_of S)) e) ∙ h.is) }

-- ---- what the names of a lawful set say

-- the child is an inode of S
pub record Says (S : List Record) (n : Naming) : Type 0 where
  pub child : Point
  pub child_is : n.child ≡ placed.At child
  pub dir : Bool
  pub inode : IsInode S child dir

-- the child of a further name
names_inode : (r : Record) (needs : List Record) (parent child : Ref) (name : List ℕ) (exec : Bool) → holds r needs (NameOf parent child name exec) ≡ true →
    is_inode r needs child ≡ true
names_inode r needs parent child name true e = (let f = (and_parts (is_parent r needs parent) (is_file r needs child) e).1 in rw f refl)
names_inode r needs parent child name false e = (and_parts (is_parent r needs parent) (is_inode r needs child) e).1

module _ (S : List Record) (lawful : IsLawful S) (r : Record) (member : Contains S r) (number : ℕ) (n : Naming) where
  context : (s : Splits S r) (h : Hunk) → slice_get r.change.hunks number ≡ Some h → holds r (needs_of s.before r) h ≡ true
  context s h e = all_member (holds r (needs_of s.before r)) r.change.hunks h (lawful s.before r s.after s.is).context (numbered_member r.change.hunks number h e)

  new_inode : (h : Hunk) → slice_get r.change.hunks number ≡ Some h → (dir : Bool) → (kind : Kind) → 1 < position_count h → kind_in number (place r.change.hunks number) h 1 ≡ kind →
      (if dir then is_dir_inode (Some kind) else is_file_inode (Some kind)) ≡ true → IsInode S (own_point r (place r.change.hunks number + 1)) dir
  new_inode h e dir kind low is ok = record {
    owner = r;
    member = member;
    name = refl;
    is = subst (λ k. (if dir then is_dir_inode k else is_file_inode k) ≡ true) (sym (kind_at_into r.change.hunks number h 1 e low ∙ ap Some is)) ok;
  }

  pub says : (h : Hunk) → slice_get r.change.hunks number ≡ Some h → naming_of r (place r.change.hunks number) h ≡ Some n → Says S n
  says (File parent name exec) there e =
      let one = same_Some _ n e in
      subst (Says S) one (record {
        child = own_point r (place r.change.hunks number + 1);
        child_is = refl;
        dir = false;
        inode = new_inode (File parent name exec) there false (FileInode number) (omega arith) refl refl;
      })
  says (Dir parent name) there e =
      let one = same_Some _ n e in
      subst (Says S) one (record {
        child = own_point r (place r.change.hunks number + 1);
        child_is = refl;
        dir = true;
        inode = new_inode (Dir parent name) there true (DirInode number) (omega arith) refl refl;
      })
  says (NameOf parent child name exec) there e =
      let s = splits S r member in
      let one = same_Some _ n e in
      let ok = names_inode r (needs_of s.before r) parent child name exec (context s (NameOf parent child name exec) there) in
      let low = ref_is_numbered r child (NameOf parent child name exec) (numbered_member r.change.hunks number (NameOf parent child name exec) there) (later_member parent (child ∷ []) child (first_member child [])) in
      let c = child_named S lawful s.before r s.after s.is child low ok in
      subst (Says S) one (record { child = c.0; child_is = c.2; dir = c.1; inode = c.3 })
  says (Insert file ups downs bytes) there e = absurd (none-some n e)
  says (Order file source target) there e = absurd (none-some n e)
  says (Delete owner start end by) there e = absurd (none-some n e)
  says (Revive owner start end by) there e = absurd (none-some n e)

-- ---- the tree

module _ (S : List Record) (lawful : IsLawful S) (tree : Listing) (is : IsTreeOf S tree) where
  -- the name that a row of the tree is of
  record RowSays (row : NameRow) : Type 0 where
    name : Naming
    parts : RowParts S name name.child row
    said : Says S name
    naming_is : IsNaming S name

  row_says : (row : NameRow) → Contains tree.rows row → RowSays row
  row_says row m =
      let h = (is.rows row).0 m in
      let n = name_of_row S h.one row h.is in
      record {
        name = n.name;
        parts = n.parts;
        said = says S lawful h.one h.member h.is.number n.name h.is.hunk h.is.there n.named;
        naming_is = record { owner = h.one; member = h.member; number = h.is.number; hunk = h.is.hunk; there = h.is.there; is = n.named };
      }

  child_there : (row : NameRow) → RowSays row → Contains tree.inodes (record { at = row.child; dir = row.dir })
  child_there row says =
      let s = says.said in
      let inode : IsInode S row.child s.dir = subst (λ p. IsInode S p s.dir) (at_is s.child row.child (sym s.child_is ∙ says.parts.child_is)) s.inode in
      let dir : row.dir ≡ s.dir = says.parts.dir ∙ dir_told S lawful row.child s.dir inode in
      (is.inodes (record { at = row.child; dir = row.dir })).1 (subst (λ d. IsInode S row.child d) (sym dir) inode)

  pub whole : IsWhole tree
  whole row m = child_there row (row_says row m)

  row_there : (n : Naming) → IsNaming S n → (live : Point → Bool) → HasRow (namespace tree (status_of S) live) n
  row_there n h live =
      let s = says S lawful h.owner h.member h.number n h.hunk h.there h.is in
      let row : NameRow = record { parent = n.parent; name = n.bytes; child = s.child; at = n.at; dir = is_dir S s.child; exec = n.exec } in
      let e : row_of S n ≡ Some row = ap (row_to S n) s.child_is in
      let there : IsRowOf S h.owner row = record { number = h.number; hunk = h.hunk; there = h.there; is = ap (option_and_then (row_of S)) h.is ∙ e } in
      record {
        row = row;
        there = (is.rows row).1 (record { one = h.owner; member = h.member; is = there });
        is = λ i. record { parent = n.parent; bytes = n.bytes; child = sym s.child_is i; exec = n.exec; at = n.at };
      }

  pub is_namespace : (live : Point → Bool) → ((inode : Point) → (live inode ≡ true) ↔ ((v : Vertex) × IsLiveIn S inode v)) → IsNamespaceOf S (namespace tree (status_of S) live)
  is_namespace live live_is = record {
    rows = λ row m. (let says = row_says row m in subst (IsNaming S) (sym (row_naming S says.name row says.parts)) says.naming_is);
    all_rows = λ n h. row_there n h live;
    inodes = λ i m. (is.inodes i).0 m;
    all_inodes = λ at dir h. (is.inodes (record { at = at; dir = dir })).1 h;
    status = λ row m. refl;
    live = λ i m. live_is i.at;
  }
