-- In a lawful set block and order edges lead to text, and from the text of a file to text of that file.
use Rattle.std.proofs.Common.{◌≡◌, ℕ, zero, suc, ◌+◌, ◌-◌, ◌<◌, ◌≤◌, List, [], ◌∷◌, ◌++◌, length, refl, sym, ◌∙◌, ap, subst, inl, inr, arith, Bool, true, false}
use Rattle.std.specs.Prelude.{Contains, ◌⊎◌, ◌≢◌, not, ◌&&◌, ◌||◌, Option, Some, None, slice_get, option_and_then, take}
use Rattle.std.proofs.lemmas.Bool.{and_parts, or_cases}
use Rattle.std.proofs.lemmas.Bool.Decides.{nat_tests}
use Rattle.std.proofs.lemmas.Option.{same_Some}
use Rattle.std.proofs.lemmas.List.Sums.{sum_by-cons}
use Rattle.pj_change.specs.declared.point.Point.{Point}
use Rattle.pj_change.specs.declared.point.Place.{Place}
use Rattle.pj_change.specs.declared.point.Place.TheVariants as placed
use Rattle.pj_change.specs.declared.point.Ref.{Ref}
use Rattle.pj_change.specs.declared.point.Ref.TheVariants as ref
use Rattle.pj_change.specs.declared.hunk.Hunk.{Hunk}
use Rattle.pj_change.specs.declared.hunk.Hunk.TheVariants.{File, Dir, NameOf, Insert, Order, Delete, Revive}
use Rattle.pj_change.specs.declared.kind.Kind.{Kind}
use Rattle.pj_change.specs.declared.kind.Kind.TheVariants.{NameAt, FileInode, DirInode, Text}
use Rattle.pj_change.specs.declared.graph.VertexKind.TheVariants as vertex_kind
use Rattle.pj_change.specs.declared.graph.Label.TheVariants as label
use Rattle.pj_change.specs.declared.graph.Vertex.{Vertex}
use Rattle.pj_change.specs.declared.graph.Edge.{Edge}
use Rattle.pj_change.specs.declared.change.Record.{Record}
use Rattle.pj_change.specs.Parts.{parts_of}
use Rattle.pj_change.specs.Rules.{position_count, is_hunk}
use Rattle.pj_change.specs.Positions.{kind_at, kind_from, kind_in, place, numbered, resolve, own_point, same_place, IsNumbered, file_of}
use Rattle.pj_change.specs.Context.{file_by, file_at, is_some_place, is_byte, is_file, is_file_inode, meant, holds}
use Rattle.pj_change.specs.Lawful.{needs_of, IsLawfulSet}
use Rattle.pj_change.specs.Vertices.{IsVertexBy, IsVertex, first_point, last_point}
use Rattle.pj_change.specs.RealEdges.{IsEdgeOf, IsNameEdge}
use Rattle.pj_change.specs.Before.{Leads}
use Rattle.pj_change.proofs.Members.{first_member, later_member, all_member, splits, Splits, moved, before_member, member_at}
use Rattle.pj_change.proofs.LawfulLists.{first_part, second_part}
use Rattle.pj_change.proofs.Inodes.{need_at}
use Rattle.pj_change.proofs.HunkLemmas.{hunk_rule, refs_numbered}
use Rattle.pj_change.proofs.EqualNames.{same_place_is, some_place, at_is}
use Rattle.pj_change.proofs.Blocks.{block_at, block_starts}
use Rattle.pj_change.proofs.OneVertex.{set_record}

-- ---- where text stands

-- text of hunk k + number stands at a distance into hunks, of which the first is hunk k and has the position first
record IsInserted (k first : ℕ) (hs : List Hunk) (number at : ℕ) : Type 0 where
  start : ℕ
  past : ℕ
  is : kind_from k first hs at ≡ Some (Text (k + number) start past)

kind_behind : (k first at : ℕ) (h : Hunk) (hs : List Hunk) → kind_from k first (h ∷ hs) (position_count h + at) ≡ kind_from (k + 1) (first + position_count h) hs at
unfolding kind_from
kind_behind k first at h hs = grind (arith, nat_tests)

kind_inside : (k first at : ℕ) (h : Hunk) (hs : List Hunk) → at < position_count h → kind_from k first (h ∷ hs) at ≡ Some (kind_in k first h at)
unfolding kind_from
kind_inside k first at h hs low = grind (arith, nat_tests)

-- the bytes of an insertion are text
inserted : (k first : ℕ) (hs : List Hunk) (number at : ℕ) (file : Ref) (ups downs : List Ref) (bytes : List ℕ) →
    slice_get hs number ≡ Some (Insert file ups downs bytes) → at < length bytes → IsInserted k first hs number (place hs number + at)
inserted k first [] number at file ups downs bytes there low = absurd (cc)
inserted k first (g ∷ hs) zero at file ups downs bytes there low =
    let e : Insert file ups downs bytes ≡ g = cc in
    let here = kind_inside k first at (Insert file ups downs bytes) hs low in
    let start : at ≡ place (g ∷ hs) zero + at = omega arith in
    let same : k ≡ k + zero = omega arith in
    subst (λ n. IsInserted k first (g ∷ hs) zero n) start
    (subst (λ h. IsInserted k first (h ∷ hs) zero at) e
    (record { start = first; past = first + length bytes; is = here ∙ ap (λ n. Some (Text n first (first + length bytes))) same }))
inserted k first (g ∷ hs) (suc number) at file ups downs bytes there low =
    let rest = inserted (k + 1) (first + position_count g) hs number at file ups downs bytes there low in
    let start : position_count g + (place hs number + at) ≡ place (g ∷ hs) (suc number) + at = omega (arith, sum_by-cons position_count g (take number hs)) in
    let same : k + 1 + number ≡ k + suc number = omega arith in
    record {
      start = rest.start;
      past = rest.past;
      is = ap (kind_from k first (g ∷ hs)) (sym start) ∙ kind_behind k first (place hs number + at) g hs ∙ rest.is ∙ ap (λ n. Some (Text n rest.start rest.past)) same;
    }

-- text stands at a position of a record's change
pub record HasText (r : Record) (offset : ℕ) : Type 0 where
  pub hunk : ℕ
  pub start : ℕ
  pub past : ℕ
  pub is : kind_at r.change.hunks offset ≡ Some (Text hunk start past)

-- it does where a file is given
pub file_text : (r : Record) (offset : ℕ) (file : Place) → file_at r offset ≡ Some file → HasText r offset
file_text r offset file h = go (kind_at r.change.hunks offset) refl
  where
    nothing : (k : Option Kind) → kind_at r.change.hunks offset ≡ k → file_by r k ≡ None → ⊥
    nothing k e f = (let g : Some file ≡ None = sym h ∙ ap (file_by r) e ∙ f in cc)

    go : (k : Option Kind) → kind_at r.change.hunks offset ≡ k → HasText r offset
    go None e = absurd (nothing None e refl)
    go (Some (NameAt hunk)) e = absurd (nothing (Some (NameAt hunk)) e refl)
    go (Some (FileInode hunk)) e = absurd (nothing (Some (FileInode hunk)) e refl)
    go (Some (DirInode hunk)) e = absurd (nothing (Some (DirInode hunk)) e refl)
    go (Some (Text hunk first past)) e = record { hunk = hunk; start = first; past = past; is = e }

-- ---- points of S

-- a change of S has text of the file at the point
pub record IsFilePoint (S : List Record) (file : Place) (p : Point) : Type 0 where
  pub owner : Record
  pub member : Contains S owner
  pub name : owner.name ≡ p.change
  pub of_file : file_at owner p.offset ≡ Some file

-- a change of S has the inode of a file there
pub record IsInodePoint (S : List Record) (p : Point) : Type 0 where
  pub owner : Record
  pub member : Contains S owner
  pub name : owner.name ≡ p.change
  pub inode : is_file_inode (kind_at owner.change.hunks p.offset) ≡ true

-- a vertex that begins at text is text
text_by : (S : List Record) (owner : Record) (v : Vertex) → HasText owner v.start → IsVertexBy S owner v (kind_at owner.change.hunks v.start) → v.kind ≡ vertex_kind.Text
text_by S owner v t h = (let is : IsVertexBy S owner v (Some (Text t.hunk t.start t.past)) = subst (IsVertexBy S owner v) t.is h in is.1)

-- a vertex is what stands at its first position in any member with its change's name
pub by_owner : (S : List Record) → IsLawfulSet S → (v : Vertex) (h : IsVertex S v) (owner : Record) → Contains S owner → owner.name ≡ v.change → IsVertexBy S owner v (kind_at owner.change.hunks v.start)
by_owner S set v h owner member name =
    let same : h.owner ≡ owner = set_record S set h.owner owner h.member member (h.name ∙ sym name) in
    subst (λ (r : Record). IsVertexBy S r v (kind_at r.change.hunks v.start)) same h.is

-- a vertex that begins at text of a file is text
pub text_vertex : (S : List Record) → IsLawfulSet S → (v : Vertex) → IsVertex S v → (file : Place) → IsFilePoint S file (first_point v) → v.kind ≡ vertex_kind.Text
text_vertex S set v h file t = text_by S t.owner v (file_text t.owner v.start file t.of_file) (by_owner S set v h t.owner t.member t.name)

-- a point is of one file
pub one_file : (S : List Record) → IsLawfulSet S → (f g : Place) (p : Point) → IsFilePoint S f p → IsFilePoint S g p → f ≡ g
one_file S set f g p a b =
    let same : a.owner ≡ b.owner = set_record S set a.owner b.owner a.member b.member (a.name ∙ sym b.name) in
    same_Some f g (sym a.of_file ∙ ap (λ (r : Record). file_at r p.offset) same ∙ b.of_file)

-- text of a file is not the inode of one
pub not_inode : (S : List Record) → IsLawfulSet S → (file : Place) (p : Point) → IsFilePoint S file p → IsInodePoint S p → ⊥
not_inode S set file p a b =
    let same : a.owner ≡ b.owner = set_record S set a.owner b.owner a.member b.member (a.name ∙ sym b.name) in
    let t = file_text a.owner p.offset file a.of_file in
    let e : is_file_inode (kind_at a.owner.change.hunks p.offset) ≡ true = ap (λ (r : Record). is_file_inode (kind_at r.change.hunks p.offset)) same ∙ b.inode in
    let f : false ≡ true = sym (ap is_file_inode t.is) ∙ e in
    cc

-- the last point of a vertex is of the file of its first
pub last_file : (S : List Record) → IsLawfulSet S → (v : Vertex) → IsVertex S v → (file : Place) → IsFilePoint S file (first_point v) → IsFilePoint S file (last_point v)
last_file S set v h file a =
    let t = file_text a.owner v.start file a.of_file in
    let by : IsVertexBy S a.owner v (Some (Text t.hunk t.start t.past)) = subst (IsVertexBy S a.owner v) t.is (by_owner S set v h a.owner a.member a.name) in
    let some = by.0.nonempty in
    let inside = by.0.inside in
    let low = block_starts a.owner.change.hunks v.start t.hunk t.start t.past t.is in
    let there = block_at a.owner.change.hunks v.start t.hunk t.start t.past t.is (v.end - 1) (omega arith) (omega arith) in
    record { owner = a.owner; member = a.member; name = a.name; of_file = ap (file_by a.owner) (there ∙ sym t.is) ∙ a.of_file }

-- ---- what a reference names

-- a record with text of the file at the position
record HasByte (found : Option Record) (offset : ℕ) (file : Place) : Type 0 where
  it : Record
  is : found ≡ Some it
  of_file : file_at it offset ≡ Some file

has_byte : (found : Option Record) (offset : ℕ) (file : Place) → is_some_place file (option_and_then (λ r. file_at r offset) found) ≡ true → HasByte found offset file
has_byte None offset file h = absurd (cc)
has_byte (Some r) offset file h = record { it = r; is = refl; of_file = some_place file (file_at r offset) h }

-- a record with the inode of a file at the position
record HasInode (found : Option Record) (offset : ℕ) : Type 0 where
  it : Record
  is : found ≡ Some it
  inode : is_file_inode (kind_at it.change.hunks offset) ≡ true

has_inode : (found : Option Record) (offset : ℕ) → is_file_inode (option_and_then (λ (r : Record). kind_at r.change.hunks offset) found) ≡ true → HasInode found offset
has_inode None offset h = absurd (cc)
has_inode (Some r) offset h = record { it = r; is = refl; inode = h }

third_of : (a b c d : Bool) → (a && b && c && d) ≡ true → c ≡ true
third_of a b c d h = (and_parts (a && b) c (and_parts (a && b && c) d h).0).1

second_of : (a b c d : Bool) → (a && b && c && d) ≡ true → b ≡ true
second_of a b c d h = (and_parts a b (and_parts (a && b) c (and_parts (a && b && c) d h).0).0).1

-- an insertion has a byte
some_byte : (needs first : ℕ) (file : Ref) (ups downs : List Ref) (bytes : List ℕ) → is_hunk needs first (Insert file ups downs bytes) ≡ true → 0 < length bytes
unfolding is_hunk
some_byte needs first file ups downs bytes h = grind (arith, nat_tests)

-- ---- the ends of an edge

-- it leads to text of a file, from text of that file or from an inode of a file
pub record EndsInFile (S : List Record) (e : Edge) : Type 0 where
  pub file : Place
  pub target : IsFilePoint S file e.target
  pub source : (p : Point) → e.source ≡ placed.At p → IsFilePoint S file p ⊎ IsInodePoint S p

module _ (S : List Record) (set : IsLawfulSet S) (r : Record) (member : Contains S r) where
  before : Splits set.list r
  before = splits set.list r (set.same.back r member)

  -- the records of the needs of r
  needs : List Record
  needs = needs_of before.before r

  -- the context of each hunk holds
  hunk_holds : (h : Hunk) → Contains r.change.hunks h → holds r needs h ≡ true
  unfolding needs
  hunk_holds h m = all_member (holds r (needs_of before.before r)) r.change.hunks h (set.lawful before.before r before.after before.is).context m

  -- what a number means is a change of S with the name that it means
  meant_there : (owner : ℕ) → owner ≤ length r.change.needs → (it : Record) → meant r needs owner ≡ Some it → Contains S it × (it.name ≡ numbered r owner)
  unfolding needs
  meant_there zero low it e =
      let same : r ≡ it = same_Some r it e in
      (subst (Contains S) same member, sym (ap (λ (r : Record). r.name) same))
  meant_there (suc k) low it e =
      let f = set.lawful before.before r before.after before.is in
      let need = need_at before.before r.change.needs r.name k f.needs (omega arith) in
      let same : need.it ≡ it = same_Some need.it it (sym need.is ∙ e) in
      let there : Contains set.list need.it = moved need.it (sym before.is) (before_member before.before before.after r need.it need.record_is.member) in
      (subst (Contains S) same (set.same.there need.it there), sym (ap (λ (r : Record). r.name) same) ∙ need.record_is.named)

  -- a reference to a byte of a file means text of it
  byte_point : (file at : Ref) → IsNumbered (length r.change.needs) at → is_byte r needs file at ≡ true → (p : Point) → resolve r at ≡ placed.At p → IsFilePoint S (resolve r file) p
  byte_point file ref.Root low h p e = absurd (cc)
  byte_point file (ref.At owner offset) low h p e =
      let b = has_byte (meant r needs owner) offset (resolve r file) h in
      let there = meant_there owner low b.it b.is in
      subst (IsFilePoint S (resolve r file)) (at_is (record { change = numbered r owner; offset = offset }) p e)
      (record { owner = b.it; member = there.0; name = there.1; of_file = b.of_file })

  -- a reference to a file means the inode of one
  inode_point : (at : Ref) → IsNumbered (length r.change.needs) at → is_file r needs at ≡ true → (p : Point) → resolve r at ≡ placed.At p → IsInodePoint S p
  inode_point ref.Root low h p e = absurd (cc)
  inode_point (ref.At owner offset) low h p e =
      let b = has_inode (meant r needs owner) offset h in
      let there = meant_there owner low b.it b.is in
      subst (IsInodePoint S) (at_is (record { change = numbered r owner; offset = offset }) p e)
      (record { owner = b.it; member = there.0; name = there.1; inode = b.inode })

  -- the bytes of an insertion are of its file
  own_point_of : (number at : ℕ) (file : Ref) (ups downs : List Ref) (bytes : List ℕ) → slice_get r.change.hunks number ≡ Some (Insert file ups downs bytes) →
      place r.change.hunks number ≤ at → at < place r.change.hunks number + length bytes → (p : Point) → own_point r at ≡ p → IsFilePoint S (resolve r file) p
  own_point_of number at file ups downs bytes there low high p e =
      let n = place r.change.hunks number in
      let t = inserted 0 0 r.change.hunks number (at - n) file ups downs bytes there (omega arith) in
      let offset : n + (at - n) ≡ at = omega arith in
      let same : 0 + number ≡ number = omega arith in
      let kind : kind_at r.change.hunks at ≡ Some (Text number t.start t.past) = ap (kind_at r.change.hunks) (sym offset) ∙ t.is ∙ ap (λ k. Some (Text k t.start t.past)) same in
      let of_file : file_at r at ≡ Some (resolve r file) = ap (file_by r) kind ∙ ap (option_and_then (file_of r)) there in
      subst (IsFilePoint S (resolve r file)) e (record { owner = r; member = member; name = refl; of_file = of_file })

  not_folder : (offset : ℕ) (parent child : Place) (e : Edge) → e.label ≢ label.Folder → IsNameEdge S r offset parent child e → ⊥
  not_folder offset parent child e other n = elim n [ inl f ↦ other f.folder | inr f ↦ other f.folder ]

  module _ (number : ℕ) (e : Edge) where
    module _ (file : Ref) (ups downs : List Ref) (bytes : List ℕ) (there : slice_get r.change.hunks number ≡ Some (Insert file ups downs bytes)) where
      in_hunks : Contains r.change.hunks (Insert file ups downs bytes)
      in_hunks = member_at r.change.hunks number (Insert file ups downs bytes) there

      numbered_ref : (at : Ref) → Contains (file ∷ (ups ++ downs)) at → IsNumbered (length r.change.needs) at
      numbered_ref at m = refs_numbered (parts_of r.change) r.change.keeps (Insert file ups downs bytes) at in_hunks m

      some_bytes : 0 < length bytes
      some_bytes = (let rule = hunk_rule (parts_of r.change) r.change.keeps (Insert file ups downs bytes) in_hunks in some_byte (length r.change.needs) rule.0 file ups downs bytes rule.1)

      is_inode_there : is_file r needs file ≡ true
      is_inode_there = (and_parts _ _ (and_parts _ _ (hunk_holds (Insert file ups downs bytes) in_hunks)).0).0

      down_byte : (down : Ref) → Contains downs down → is_byte r needs file down ≡ true
      down_byte down m = all_member (is_byte r needs file) downs down (and_parts _ _ (hunk_holds (Insert file ups downs bytes) in_hunks)).1 m

      up_either : (up : Ref) → Contains ups up → (same_place (resolve r up) (resolve r file) || is_byte r needs file up) ≡ true
      up_either up m = all_member (λ up. same_place (resolve r up) (resolve r file) || is_byte r needs file up) ups up
          (and_parts _ _ (and_parts _ _ (hunk_holds (Insert file ups downs bytes) in_hunks)).0).1 m

      up_point : (up : Ref) → Contains ups up → (p : Point) → resolve r up ≡ placed.At p → IsFilePoint S (resolve r file) p ⊎ IsInodePoint S p
      up_point up m p is = elim (or_cases _ _ (up_either up m)) [
        | inl s ↦ inr (inode_point file (numbered_ref file (first_member file (ups ++ downs))) is_inode_there p (sym (same_place_is (resolve r up) (resolve r file) s) ∙ is))
        | inr b ↦ inl (byte_point file up (numbered_ref up (later_member file (ups ++ downs) up (first_part ups downs up m))) b p is)
      ]

      down_point : (down : Ref) → Contains downs down → (p : Point) → resolve r down ≡ placed.At p → IsFilePoint S (resolve r file) p
      down_point down m p is = byte_point file down (numbered_ref down (later_member file (ups ++ downs) down (second_part ups downs down m))) (down_byte down m) p is

      insert_ends : IsEdgeOf S r (place r.change.hunks number) (Insert file ups downs bytes) e → EndsInFile S e
      insert_ends is =
          let some = some_bytes in
          let first = place r.change.hunks number in
          elim is [
            | inl u ↦ record {
              file = resolve r file;
              target = own_point_of number first file ups downs bytes there (omega arith) (omega arith) e.target (sym u.2.to);
              source = λ p s. up_point u.0 u.1 p (sym u.2.from ∙ s);
            }
            | inr k ↦ elim k [
              | inl a ↦ record {
                file = resolve r file;
                target = own_point_of number a.0 file ups downs bytes there (let l = a.1 in omega arith) a.2 e.target (sym a.4.to);
                source = λ p s. inl (own_point_of number (a.0 - 1) file ups downs bytes there (let l = a.1 in omega arith) (let l = a.2 in omega arith) p
                    (at_is (own_point r (a.0 - 1)) p (sym a.4.from ∙ s)));
              }
              | inr d ↦ record {
                file = resolve r file;
                target = down_point d.0 d.1 e.target (sym d.2.to);
                source = λ p s. inl (own_point_of number (first + length bytes - 1) file ups downs bytes there (omega arith) (omega arith) p
                    (at_is (own_point r (first + length bytes - 1)) p (sym d.2.from ∙ s)));
              }
            ]
          ]

    order_ends : (file source target : Ref) → slice_get r.change.hunks number ≡ Some (Order file source target) →
        IsEdgeOf S r (place r.change.hunks number) (Order file source target) e → EndsInFile S e
    order_ends file source target there is =
        let h = Order file source target in
        let m = member_at r.change.hunks number h there in
        let holds_it = hunk_holds h m in
        let a = is_file r needs file in
        let b = is_byte r needs file source in
        let c = is_byte r needs file target in
        let d = not (same_place (resolve r source) (resolve r target)) in
        let refs = refs_numbered (parts_of r.change) r.change.keeps h in
        record {
          file = resolve r file;
          target = byte_point file target (refs target m (later_member file (source ∷ target ∷ []) target (later_member source (target ∷ []) target (first_member target []))))
              (third_of a b c d holds_it) e.target (sym is.to);
          source = λ p s. inl (byte_point file source (refs source m (later_member file (source ∷ target ∷ []) source (first_member source (target ∷ []))))
              (second_of a b c d holds_it) p (sym is.from ∙ s));
        }

    hunk_ends : e.label ≢ label.Folder → (h : Hunk) → slice_get r.change.hunks number ≡ Some h → IsEdgeOf S r (place r.change.hunks number) h e → EndsInFile S e
    hunk_ends other (File parent name exec) there is = absurd (not_folder (place r.change.hunks number) (resolve r parent) _ e other is)
    hunk_ends other (Dir parent name) there is = absurd (not_folder (place r.change.hunks number) (resolve r parent) _ e other is)
    hunk_ends other (NameOf parent child name exec) there is = absurd (not_folder (place r.change.hunks number) (resolve r parent) (resolve r child) e other is)
    hunk_ends other (Insert file ups downs bytes) there is = insert_ends file ups downs bytes there is
    hunk_ends other (Order file source target) there is = order_ends file source target there is
    hunk_ends other (Delete owner start end by) there is = absurd is
    hunk_ends other (Revive owner start end by) there is = absurd is

module _ (S : List Record) (set : IsLawfulSet S) (u v : Vertex) (l : Leads S u v) where
  -- a block or order edge leads to text of a file, from text of that file or from an inode of a file
  pub edge_ends : EndsInFile S l.edge
  edge_ends = (let e = l.real in hunk_ends S set e.introducer e.member e.number l.edge l.label e.hunk e.there e.is)

  -- block and order edges lead to text
  pub leads_to_text : v.kind ≡ vertex_kind.Text
  leads_to_text = text_vertex S set v l.target edge_ends.file (subst (IsFilePoint S edge_ends.file) l.to edge_ends.target)

  -- and they stay in a file
  pub leads_in_file : (file : Place) → IsFilePoint S file (first_point u) → IsFilePoint S file (first_point v)
  leads_in_file file a =
      let last = last_file S set u l.source file a in
      let target : IsFilePoint S edge_ends.file (first_point v) = subst (IsFilePoint S edge_ends.file) l.to edge_ends.target in
      elim (edge_ends.source (last_point u) l.from) [
        | inl b ↦ subst (λ f. IsFilePoint S f (first_point v)) (sym (one_file S set file edge_ends.file (last_point u) last b)) target
        | inr i ↦ absurd (not_inode S set file (last_point u) last i)
      ]
