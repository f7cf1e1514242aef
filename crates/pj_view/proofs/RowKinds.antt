-- In a lawful list the rows of names join names, directories and inodes alone, and all other rows come from points.
use Rattle.std.proofs.Common.{◌≡◌, ◌∙◌, sym, ap, subst, refl, ℕ, ◌+◌, ◌-◌, ◌<◌, ◌≤◌, Bool, true, false, List, [], ◌∷◌, ◌++◌, length, inl, inr, arith}
use Rattle.std.specs.Prelude.{◌≢◌, ◌||◌, Contains, Option, Some, None, slice_get, IsTrue, if◌then◌else◌, option_and_then}
use Rattle.std.proofs.lemmas.Bool.{and_parts, or_cases, or_left}
use Rattle.pj_change.specs.declared.point.Point.{Point}
use Rattle.pj_change.specs.declared.point.Place.{Place}
use Rattle.pj_change.specs.declared.point.Place.TheVariants as placed
use Rattle.pj_change.specs.declared.point.Ref.{Ref}
use Rattle.pj_change.specs.declared.point.Ref.TheVariants as ref
use Rattle.pj_change.specs.declared.hunk.Hunk.{Hunk}
use Rattle.pj_change.specs.declared.hunk.Hunk.TheVariants.{File, Dir, NameOf, Insert, Order, Delete, Revive}
use Rattle.pj_change.specs.declared.kind.Kind.{Kind}
use Rattle.pj_change.specs.declared.kind.Kind.TheVariants.{NameAt, FileInode, DirInode, Text}
use Rattle.pj_change.specs.declared.graph.Label.{Label}
use Rattle.pj_change.specs.declared.graph.Label.TheVariants as label
use Rattle.pj_change.specs.declared.row.EdgeRow.{EdgeRow}
use Rattle.pj_change.specs.declared.change.Record.{Record}
use Rattle.pj_change.specs.Context.{is_file, is_file_inode, is_dir_inode, is_inode, is_parent, is_byte, is_some_place, file_at, file_by, meant, kind_of, holds}
use Rattle.pj_change.specs.EdgeRows.{IsRow, IsNameRow, IsOwnRow, IsInside, IsEdgeRow, inner_row}
use Rattle.pj_change.specs.Lawful.{IsLawful, needs_of}
use Rattle.pj_change.specs.PointsIn.{IsPointOf}
use Rattle.pj_change.specs.Positions.{kind_at, place, resolve, own_point, same_place}
use Rattle.pj_change.specs.Rules.{position_count}
use Rattle.pj_change.specs.Weight.{refs_of}
use Rattle.pj_change.proofs.EqualNames.{at_is, same_place_is}
use Rattle.pj_change.proofs.LawfulLists.{first_part, second_part}
use Rattle.pj_change.proofs.Members.{all_member, first_member, later_member, member_at, splits, Splits}
use Rattle.pj_change.proofs.NamedInodes.{names, child_named}
use Rattle.pj_change.proofs.PositionLemmas.{kind_at_into, kind_at_first, ref_is_numbered, insertion_some}
use Rattle.pj_outline.proofs.BlocksOfSets.{block_kind}

-- a byte or the inode of a file
abbrev pub shows : Option Kind → Bool
shows None = false
shows (Some (NameAt hunk)) = false
shows (Some (FileInode hunk)) = true
shows (Some (DirInode hunk)) = false
shows (Some (Text hunk first past)) = true

-- a byte
abbrev pub is_text : Option Kind → Bool
is_text None = false
is_text (Some (NameAt hunk)) = false
is_text (Some (FileInode hunk)) = false
is_text (Some (DirInode hunk)) = false
is_text (Some (Text hunk first past)) = true

-- a change of S has something at the point for which the test answers this
pub record Stands (S : List Record) (test : Option Kind → Bool) (answer : Bool) (p : Point) : Type 0 where
  pub owner : Record
  pub member : Contains S owner
  pub name : owner.name ≡ p.change
  pub is : test (kind_at owner.change.hunks p.offset) ≡ answer

-- something stands where a test says yes, if it says no of nothing
pub stands_point : (S : List Record) (test : Option Kind → Bool) → test None ≡ false → (p : Point) → Stands S test true p → IsPointOf S p
stands_point S test none p s = by (kind_at s.owner.change.hunks p.offset) refl
  where
    by : (k : Option Kind) → kind_at s.owner.change.hunks p.offset ≡ k → IsPointOf S p
    by None e = absurd (let c : false ≡ true = sym none ∙ ap test (sym e) ∙ s.is in cc)
    by (Some kind) e = record { owner = s.owner; member = s.member; name = s.name; kind = kind; there = e }

text_shows : (k : Option Kind) → is_text k ≡ true → shows k ≡ true
text_shows None e = absurd (cc)
text_shows (Some (NameAt hunk)) e = absurd (cc)
text_shows (Some (FileInode hunk)) e = refl
text_shows (Some (DirInode hunk)) e = absurd (cc)
text_shows (Some (Text hunk first past)) e = refl

file_shows : (k : Option Kind) → is_file_inode k ≡ true → shows k ≡ true
file_shows None e = absurd (cc)
file_shows (Some (NameAt hunk)) e = absurd (cc)
file_shows (Some (FileInode hunk)) e = refl
file_shows (Some (DirInode hunk)) e = absurd (cc)
file_shows (Some (Text hunk first past)) e = absurd (cc)

-- a byte of a file is text
byte_kind : (c : Record) (needs : List Record) (file : Ref) (owner offset : ℕ) → is_byte c needs file (ref.At owner offset) ≡ true → is_text (kind_of c needs (ref.At owner offset)) ≡ true
byte_kind c needs file owner offset e = by (meant c needs owner) e
  where
    inside : (m : Record) (k : Option Kind) → is_some_place (resolve c file) (file_by m k) ≡ true → is_text k ≡ true
    inside m None h = absurd (cc)
    inside m (Some (NameAt hunk)) h = absurd (cc)
    inside m (Some (FileInode hunk)) h = absurd (cc)
    inside m (Some (DirInode hunk)) h = absurd (cc)
    inside m (Some (Text hunk first past)) h = refl

    by : (m : Option Record) → is_some_place (resolve c file) (option_and_then (λ (r : Record). file_at r offset) m) ≡ true → is_text (option_and_then (λ (r : Record). kind_at r.change.hunks offset) m) ≡ true
    by None h = absurd (cc)
    by (Some m) h = inside m (kind_at m.change.hunks offset) h

dir_hidden : (k : Option Kind) → is_dir_inode k ≡ true → shows k ≡ false
dir_hidden None e = refl
dir_hidden (Some (NameAt hunk)) e = refl
dir_hidden (Some (FileInode hunk)) e = absurd (cc)
dir_hidden (Some (DirInode hunk)) e = refl
dir_hidden (Some (Text hunk first past)) e = absurd (cc)

inode_no_text : (k : Option Kind) (dir : Bool) → IsTrue (if dir then is_dir_inode k else is_file_inode k) → is_text k ≡ false
inode_no_text None dir e = refl
inode_no_text (Some (NameAt hunk)) dir e = refl
inode_no_text (Some (FileInode hunk)) dir e = refl
inode_no_text (Some (DirInode hunk)) dir e = refl
inode_no_text (Some (Text hunk first past)) true e = absurd (cc)
inode_no_text (Some (Text hunk first past)) false e = absurd (cc)

module _ (S : List Record) (lawful : IsLawful S) (r : Record) (member : Contains S r) (number : ℕ) where
  own : (test : Option Kind → Bool) (answer : Bool) (offset : ℕ) (kind : Kind) → kind_at r.change.hunks offset ≡ Some kind → test (Some kind) ≡ answer →
      (p : Point) → placed.At p ≡ placed.At (own_point r offset) → Stands S test answer p
  own test answer offset kind e f p same = subst (Stands S test answer) (sym (at_is p (own_point r offset) same)) (record { owner = r; member = member; name = refl; is = ap test e ∙ f })

  -- what a reference of a hunk names
  referred : (test : Option Kind → Bool) (answer : Bool) (h : Hunk) (at : Ref) → Contains r.change.hunks h → Contains (refs_of h) at → (s : Splits S r) → test (kind_of r (needs_of s.before r) at) ≡ answer →
      (p : Point) → placed.At p ≡ resolve r at → Stands S test answer p
  referred test answer h ref.Root m n s ok p e = absurd (cc)
  referred test answer h (ref.At owner offset) m n s ok p e =
      let named = names S lawful s.before r s.after s.is owner offset (ref_is_numbered r (ref.At owner offset) h m n) in
      let same : p ≡ named.point = at_is p named.point (e ∙ named.is) in
      subst (Stands S test answer) (sym same) (record { owner = named.owner; member = named.member; name = named.name; is = ap test (sym named.kind_is) ∙ ok })

  context : (s : Splits S r) (h : Hunk) → Contains r.change.hunks h → holds r (needs_of s.before r) h ≡ true
  context s h m = all_member (holds r (needs_of s.before r)) r.change.hunks h (lawful s.before r s.after s.is).context m

  -- ---- names

  -- the folder of a name is a directory
  parent_hidden : (h : Hunk) (parent : Ref) → Contains r.change.hunks h → Contains (refs_of h) parent → (s : Splits S r) → is_parent r (needs_of s.before r) parent ≡ true →
      (p : Point) → placed.At p ≡ resolve r parent → Stands S shows false p
  parent_hidden h ref.Root m n s ok p e = absurd (cc)
  parent_hidden h (ref.At owner offset) m n s ok p e = referred shows false h (ref.At owner offset) m n s (dir_hidden (kind_of r (needs_of s.before r) (ref.At owner offset)) ok) p e

  -- the child of a name is an inode
  child_no_text : (h : Hunk) (child : Ref) → Contains r.change.hunks h → Contains (refs_of h) child → (s : Splits S r) → is_inode r (needs_of s.before r) child ≡ true →
      (p : Point) → placed.At p ≡ resolve r child → Stands S is_text false p
  child_no_text h child m n s ok p e =
      let c = child_named S lawful s.before r s.after s.is child (ref_is_numbered r child h m n) ok in
      let same : p ≡ c.0 = at_is p c.0 (e ∙ c.2) in
      let i = c.3 in
      subst (Stands S is_text false) (sym same) (record { owner = i.owner; member = i.member; name = i.name; is = inode_no_text (kind_at i.owner.change.hunks c.0.offset) c.1 i.is })

  -- both ends of a row of a name
  abbrev AreEnds : EdgeRow → Type 0
  AreEnds row = ((p : Point) → row.source ≡ placed.At p → Stands S shows false p) × Stands S is_text false row.target

  name_ends : (h : Hunk) → slice_get r.change.hunks number ≡ Some h → 0 < position_count h → kind_at r.change.hunks (place r.change.hunks number) ≡ Some (NameAt number) → (parent child : Place) →
      ((p : Point) → placed.At p ≡ parent → Stands S shows false p) → ((p : Point) → placed.At p ≡ child → Stands S is_text false p) →
      (row : EdgeRow) → IsNameRow r (place r.change.hunks number) parent child row → AreEnds row
  name_ends h there some kind parent child of_parent of_child row joins = elim joins [
    | inl k ↦ (λ p e. of_parent p (sym e ∙ k.from), own is_text false (place r.change.hunks number) (NameAt number) kind refl row.target k.to)
    | inr k ↦ (λ p e. own shows false (place r.change.hunks number) (NameAt number) kind refl p (sym e ∙ k.from), of_child row.target k.to)
  ]

  child_ok : (needs : List Record) (parent child : Ref) (name : List ℕ) (exec : Bool) → holds r needs (NameOf parent child name exec) ≡ true → is_inode r needs child ≡ true
  child_ok needs parent child name true e = or_left (is_file r needs child) (is_dir_inode (kind_of r needs child)) (and_parts (is_parent r needs parent) (is_file r needs child) e).1
  child_ok needs parent child name false e = (and_parts (is_parent r needs parent) (is_inode r needs child) e).1

  parent_ok : (needs : List Record) (parent child : Ref) (name : List ℕ) (exec : Bool) → holds r needs (NameOf parent child name exec) ≡ true → is_parent r needs parent ≡ true
  parent_ok needs parent child name true e = (and_parts (is_parent r needs parent) (is_file r needs child) e).0
  parent_ok needs parent child name false e = (and_parts (is_parent r needs parent) (is_inode r needs child) e).0

  other_label : (row : EdgeRow) (source target : Place) (l : Label) → (label.Folder ≡ l → ⊥) → row.label ≡ label.Folder → IsRow r source target l row → ⊥
  other_label row source target l n e k = n (sym e ∙ k.labelled)

  block_other : label.Folder ≡ label.Block → ⊥
  block_other e = cc

  order_other : label.Folder ≡ label.Order → ⊥
  order_other e = cc

  own_ends : (row : EdgeRow) → row.label ≡ label.Folder → (h : Hunk) → slice_get r.change.hunks number ≡ Some h → IsOwnRow r (place r.change.hunks number) h row → AreEnds row
  own_ends row e (File parent name exec) there k =
      let h : Hunk = File parent name exec in
      let m = member_at r.change.hunks number h there in
      let s = splits S r member in
      name_ends h there (omega arith) (kind_at_first r.change.hunks number h there (omega arith)) (resolve r parent) (placed.At (own_point r (place r.change.hunks number + 1)))
      (parent_hidden h parent m (first_member parent []) s (context s h m))
      (own is_text false (place r.change.hunks number + 1) (FileInode number) (kind_at_into r.change.hunks number h 1 there (omega arith)) refl) row k
  own_ends row e (Dir parent name) there k =
      let h : Hunk = Dir parent name in
      let m = member_at r.change.hunks number h there in
      let s = splits S r member in
      name_ends h there (omega arith) (kind_at_first r.change.hunks number h there (omega arith)) (resolve r parent) (placed.At (own_point r (place r.change.hunks number + 1)))
      (parent_hidden h parent m (first_member parent []) s (context s h m))
      (own is_text false (place r.change.hunks number + 1) (DirInode number) (kind_at_into r.change.hunks number h 1 there (omega arith)) refl) row k
  own_ends row e (NameOf parent child name exec) there k =
      let h : Hunk = NameOf parent child name exec in
      let m = member_at r.change.hunks number h there in
      let s = splits S r member in
      let ok = context s h m in
      name_ends h there (omega arith) (kind_at_first r.change.hunks number h there (omega arith)) (resolve r parent) (resolve r child)
      (parent_hidden h parent m (first_member parent (child ∷ [])) s (parent_ok (needs_of s.before r) parent child name exec ok))
      (child_no_text h child m (later_member parent (child ∷ []) child (first_member child [])) s (child_ok (needs_of s.before r) parent child name exec ok)) row k
  own_ends row e (Insert file ups downs bytes) there k = absurd (elim k [
    | inl u ↦ other_label row (resolve r u.0) (placed.At (own_point r (place r.change.hunks number))) label.Block block_other e u.2
    | inr d ↦ order_other (sym e ∙ d.2.labelled)
  ])
  own_ends row e (Order file source target) there k = absurd (order_other (sym e ∙ k.labelled))
  own_ends row e (Delete owner start end by) there k = absurd k
  own_ends row e (Revive owner start end by) there k = absurd k

  -- ---- the other rows

  not_root_file : (needs : List Record) (file : Ref) → is_file r needs file ≡ true → resolve r file ≡ placed.Root → ⊥
  not_root_file needs ref.Root ok e = cc
  not_root_file needs (ref.At owner offset) ok e = cc

  not_root_byte : (needs : List Record) (file at : Ref) → is_byte r needs file at ≡ true → resolve r at ≡ placed.Root → ⊥
  not_root_byte needs file ref.Root ok e = cc
  not_root_byte needs file (ref.At owner offset) ok e = cc

  byte_there : (needs : List Record) (file at : Ref) → is_byte r needs file at ≡ true → is_text (kind_of r needs at) ≡ true
  byte_there needs file ref.Root ok = absurd (cc)
  byte_there needs file (ref.At owner offset) ok = byte_kind r needs file owner offset ok

  -- it leads from a byte or the inode of a file to a byte
  abbrev IsOfText : EdgeRow → Type 0
  IsOfText row = Stands S is_text true row.target × ((p : Point) → row.source ≡ placed.At p → Stands S shows true p) × (row.source ≡ placed.Root → ⊥)

  -- text stands at each position of an insertion
  inserted : (h : Hunk) (file : Ref) (ups downs : List Ref) (bytes : List ℕ) → h ≡ Insert file ups downs bytes → slice_get r.change.hunks number ≡ Some h → (at : ℕ) →
      place r.change.hunks number ≤ at → at < place r.change.hunks number + length bytes → (test : Option Kind → Bool) → ((hunk first past : ℕ) → test (Some (Text hunk first past)) ≡ true) →
      (p : Point) → placed.At p ≡ placed.At (own_point r at) → Stands S test true p
  inserted h file ups downs bytes same there at from upto test passes p e =
      let first = place r.change.hunks number in
      let kind = block_kind r.change.hunks first (first + length bytes) at
      (record { number = number; file = file; ups = ups; downs = downs; bytes = bytes; there = there ∙ ap Some same; first_is = refl; past_is = refl }) from upto in
      own test true at (Text number first (first + length bytes)) kind (passes number first (first + length bytes)) p e

  from_own : (row : EdgeRow) (offset : ℕ) → row.source ≡ placed.At (own_point r offset) → row.source ≡ placed.Root → ⊥
  from_own row offset e f = (let c : placed.Root ≡ placed.At (own_point r offset) = sym f ∙ e in cc)

  own_text : (row : EdgeRow) → row.label ≢ label.Folder → (h : Hunk) → slice_get r.change.hunks number ≡ Some h → IsOwnRow r (place r.change.hunks number) h row → IsOfText row
  own_text row other (File parent name exec) there k = absurd (elim k [ inl f ↦ other f.labelled | inr f ↦ other f.labelled ])
  own_text row other (Dir parent name) there k = absurd (elim k [ inl f ↦ other f.labelled | inr f ↦ other f.labelled ])
  own_text row other (NameOf parent child name exec) there k = absurd (elim k [ inl f ↦ other f.labelled | inr f ↦ other f.labelled ])
  own_text row other (Insert file ups downs bytes) there k =
      let h : Hunk = Insert file ups downs bytes in
      let m = member_at r.change.hunks number h there in
      let s = splits S r member in
      let ok = context s h m in
      let needs = needs_of s.before r in
      let first = place r.change.hunks number in
      let some = insertion_some r file ups downs bytes m in
      let of_file = (and_parts _ _ (and_parts _ _ ok).0).0 in
      elim k [
        | inl u ↦ (
            let either = all_member (λ up. same_place (resolve r up) (resolve r file) || is_byte r needs file up) ups u.0 (and_parts _ _ (and_parts _ _ ok).0).1 u.1 in
            elim (or_cases (same_place (resolve r u.0) (resolve r file)) (is_byte r needs file u.0) either) [
              | inl same ↦ (
                  let at : resolve r u.0 ≡ resolve r file = same_place_is (resolve r u.0) (resolve r file) same in (
                    inserted h file ups downs bytes refl there first (omega arith) (omega (arith, some)) is_text (λ hunk f p. refl) row.target u.2.to,
                    λ p e. referred shows true h file m (first_member file (ups ++ downs)) s (file_shows (kind_of r needs file) of_file) p (sym e ∙ u.2.from ∙ at),
                    λ e. not_root_file needs file of_file (sym at ∙ sym u.2.from ∙ e),
                  ))
              | inr byte ↦ (
                inserted h file ups downs bytes refl there first (omega arith) (omega (arith, some)) is_text (λ hunk f p. refl) row.target u.2.to,
                λ p e. referred shows true h u.0 m (later_member file (ups ++ downs) u.0 (first_part ups downs u.0 u.1)) s (text_shows (kind_of r needs u.0) (byte_there needs file u.0 byte)) p (sym e ∙ u.2.from),
                λ e. not_root_byte needs file u.0 byte (sym u.2.from ∙ e),
              )
            ])
        | inr d ↦ (
            let byte = all_member (is_byte r needs file) downs d.0 (and_parts _ _ ok).1 d.1 in (
              referred is_text true h d.0 m (later_member file (ups ++ downs) d.0 (second_part ups downs d.0 d.1)) s (byte_there needs file d.0 byte) row.target d.2.to,
              λ p e. inserted h file ups downs bytes refl there (first + length bytes - 1) (omega (arith, some)) (omega (arith, some)) shows (λ hunk f p. refl) p (sym e ∙ d.2.from),
              from_own row (first + length bytes - 1) d.2.from,
            ))
      ]
  own_text row other (Order file source target) there k =
      let h : Hunk = Order file source target in
      let m = member_at r.change.hunks number h there in
      let s = splits S r member in
      let ok = context s h m in
      let needs = needs_of s.before r in
      let from_byte = (and_parts _ _ (and_parts _ _ (and_parts _ _ ok).0).0).1 in
      let to_byte = (and_parts _ _ (and_parts _ _ ok).0).1 in (
        referred is_text true h target m (later_member file (source ∷ target ∷ []) target (later_member source (target ∷ []) target (first_member target []))) s (byte_there needs file target to_byte) row.target k.to,
        λ p e. referred shows true h source m (later_member file (source ∷ target ∷ []) source (first_member source (target ∷ []))) s (text_shows (kind_of r needs source) (byte_there needs file source from_byte)) p (sym e ∙ k.from),
        λ e. not_root_byte needs file source from_byte (sym k.from ∙ e),
      )
  own_text row other (Delete owner start end by) there k = absurd k
  own_text row other (Revive owner start end by) there k = absurd k

  inner_text : (row : EdgeRow) → (h : Hunk) → slice_get r.change.hunks number ≡ Some h → (at : ℕ) → IsInside (place r.change.hunks number) h at → row ≡ inner_row r at → IsOfText row
  inner_text row (File parent name exec) there at i e = absurd i
  inner_text row (Dir parent name) there at i e = absurd i
  inner_text row (NameOf parent child name exec) there at i e = absurd i
  inner_text row (Insert file ups downs bytes) there at i e =
      let low = i.0 in
      let high = i.1 in
      let source : row.source ≡ placed.At (own_point r (at - 1)) = ap (λ (q : EdgeRow). q.source) e in (
        inserted (Insert file ups downs bytes) file ups downs bytes refl there at (omega arith) high is_text (λ hunk f p. refl) row.target (ap placed.At (ap (λ (q : EdgeRow). q.target) e)),
        λ p f. inserted (Insert file ups downs bytes) file ups downs bytes refl there (at - 1) (omega arith) (omega arith) shows (λ hunk f p. refl) p (sym f ∙ source),
        from_own row (at - 1) source,
      )
  inner_text row (Order file source target) there at i e = absurd i
  inner_text row (Delete owner start end by) there at i e = absurd i
  inner_text row (Revive owner start end by) there at i e = absurd i

module _ (S : List Record) (lawful : IsLawful S) (row : EdgeRow) (is : IsEdgeRow S row) where
  -- a row of a name comes from no byte and no inode of a file, and leads to no byte
  pub folder_ends : row.label ≡ label.Folder → ((p : Point) → row.source ≡ placed.At p → Stands S shows false p) × Stands S is_text false row.target
  folder_ends e = elim is.is [
    | inl k ↦ own_ends S lawful is.introducer is.member is.number row e is.hunk is.there k
    | inr k ↦ absurd (let l : row.label ≡ label.Block = ap (λ (q : EdgeRow). q.label) k.is in let c : label.Folder ≡ label.Block = sym e ∙ l in cc)
  ]

  -- another row leads from a byte or the inode of a file to a byte
  pub text_ends : row.label ≢ label.Folder → Stands S is_text true row.target × ((p : Point) → row.source ≡ placed.At p → Stands S shows true p) × (row.source ≡ placed.Root → ⊥)
  text_ends other = elim is.is [
    | inl k ↦ own_text S lawful is.introducer is.member is.number row other is.hunk is.there k
    | inr k ↦ inner_text S lawful is.introducer is.member is.number row is.hunk is.there k.at k.inner k.is
  ]
