-- The rows of the list of a change are those that its hunks say.
use Rattle.std.proofs.Common.{◌≡◌, ◌∙◌, sym, ap, subst, refl, ℕ, zero, suc, ◌+◌, ◌-◌, ◌<◌, List, [], ◌∷◌, ◌++◌, length, get_or, take, inl, inr, arith, sum_by}
use Rattle.std.specs.Prelude.{Contains, ◌↔◌, Some, slice_get, flat_map}
use Rattle.std.proofs.lemmas.List.{append_assoc, append-nil}
use Rattle.std.proofs.lemmas.List.Sums.{sum_by-cons}
use Rattle.std.proofs.lemmas.Option.{slice_get_within, same_Some}
use Rattle.pj_name.specs.declared.name.Name.{Name}
use Rattle.pj_change.specs.declared.point.Point.{Point}
use Rattle.pj_change.specs.declared.point.Place.{Place}
use Rattle.pj_change.specs.declared.point.Place.TheVariants as placed
use Rattle.pj_change.specs.declared.point.Ref.{Ref}
use Rattle.pj_change.specs.declared.hunk.Hunk.{Hunk}
use Rattle.pj_change.specs.declared.hunk.Hunk.TheVariants.{File, Dir, NameOf, Insert, Order, Delete, Revive}
use Rattle.pj_change.specs.declared.graph.Label.{Label}
use Rattle.pj_change.specs.declared.graph.Label.TheVariants as label
use Rattle.pj_change.specs.declared.row.EdgeRow.{EdgeRow}
use Rattle.pj_change.specs.declared.change.Record.{Record}
use Rattle.pj_change.specs.Rules.{position_count}
use Rattle.pj_change.specs.Positions.{place, resolve, own_point}
use Rattle.pj_change.specs.EdgeRows.{IsRow, IsNameRow, IsOwnRow}
use Rattle.pj_change.proofs.Members.{first_member, uncons, no_member, same_member}
use Rattle.pj_change.proofs.LawfulLists.{append_cases, first_part, second_part}
use Rattle.pj_change.proofs.TakenLists.{taken_more}
use Rattle.pj_change.proofs.EqualNames.{at_is}
use Rattle.pj_change.proofs.PickedMembers.{flat_from, flat_there}
use Rattle.pj_edges.specs.OwnRows.{row_to, name_rows, rows_in, rows_from, rows_of, IsRowOf}
use Rattle.pj_edges.specs.Laws.{OwnRowIsListed, InnerRowIsBefore}

-- ---- one row, and the rows of each member of a list

abbrev one_row : Name → Label → Place → Point → EdgeRow
one_row introducer l source target = record { source = source; target = target; label = l; introducer = introducer }

pub row_listed : (r : Record) (l : Label) (s t : Place) (row : EdgeRow) → Contains (row_to r.name l s t) row ↔ IsRow r s t l row
row_listed r l s placed.Root row = (λ m. absurd (no_member row m), λ h. absurd (let e = h.to in cc))
row_listed r l s (placed.At p) row = (there, back)
  where
    of : one_row r.name l s p ≡ row → IsRow r s (placed.At p) l row
    of e = record {
      from = sym (ap (λ (x : EdgeRow). x.source) e);
      to = sym (ap (λ (x : EdgeRow). placed.At x.target) e);
      labelled = sym (ap (λ (x : EdgeRow). x.label) e);
      by = sym (ap (λ (x : EdgeRow). x.introducer) e);
    }

    there : Contains (row_to r.name l s (placed.At p)) row → IsRow r s (placed.At p) l row
    there m = elim (uncons (one_row r.name l s p) [] row m) [ inl e ↦ of e | inr n ↦ absurd (no_member row n) ]

    back : IsRow r s (placed.At p) l row → Contains (row_to r.name l s (placed.At p)) row
    back h =
        let target = at_is row.target p h.to in
        let e : one_row r.name l s p ≡ row = λ i. record { source = sym h.from i; target = sym target i; label = sym h.labelled i; introducer = sym h.by i } in
        same_member (one_row r.name l s p ∷ []) e (first_member (one_row r.name l s p) [])

-- ---- one hunk

name_listed : (r : Record) (offset : ℕ) (parent child : Place) (row : EdgeRow) → Contains (name_rows r offset parent child) row ↔ IsNameRow r offset parent child row
name_listed r offset parent child row = (
  λ m. elim (append_cases (row_to r.name label.Folder parent (placed.At (own_point r offset))) _ row m) [
    | inl k ↦ inl ((row_listed r label.Folder parent (placed.At (own_point r offset)) row).0 k)
    | inr k ↦ inr ((row_listed r label.Folder (placed.At (own_point r offset)) child row).0 k)
  ],
  λ h. elim h [
    | inl k ↦ first_part (row_to r.name label.Folder parent (placed.At (own_point r offset))) _ row ((row_listed r label.Folder parent (placed.At (own_point r offset)) row).1 k)
    | inr k ↦ second_part (row_to r.name label.Folder parent (placed.At (own_point r offset))) _ row ((row_listed r label.Folder (placed.At (own_point r offset)) child row).1 k)
  ],
)

-- the last position of a block, whose first position and length these are
abbrev last_place : Record → ℕ → ℕ → Place
last_place r first count = placed.At (own_point r (first + count - 1))

abbrev up_row : Record → ℕ → Ref → List EdgeRow
up_row r first up = row_to r.name label.Block (resolve r up) (placed.At (own_point r first))

abbrev down_row : Record → Place → Ref → List EdgeRow
down_row r last down = row_to r.name label.Order last (resolve r down)

insertion_listed : (r : Record) (first : ℕ) (file : Ref) (ups downs : List Ref) (bytes : List ℕ) (row : EdgeRow) → Contains (rows_in r first (Insert file ups downs bytes)) row ↔ IsOwnRow r first (Insert file ups downs bytes) row
insertion_listed r first file ups downs bytes row = (there, back)
  where
    there : Contains (rows_in r first (Insert file ups downs bytes)) row → IsOwnRow r first (Insert file ups downs bytes) row
    there m = elim (append_cases (flat_map (up_row r first) ups) (flat_map (down_row r (last_place r first (length bytes))) downs) row m) [
      | inl k ↦ (let h = flat_from (up_row r first) ups row k in inl (h.0, h.1, (row_listed r label.Block (resolve r h.0) (placed.At (own_point r first)) row).0 h.2))
      | inr k ↦ (
          let h = flat_from (down_row r (last_place r first (length bytes))) downs row k in
          inr (h.0, h.1, (row_listed r label.Order (last_place r first (length bytes)) (resolve r h.0) row).0 h.2))
    ]

    back : IsOwnRow r first (Insert file ups downs bytes) row → Contains (rows_in r first (Insert file ups downs bytes)) row
    back h = elim h [
      | inl k ↦ (
          first_part (flat_map (up_row r first) ups) (flat_map (down_row r (last_place r first (length bytes))) downs) row
          (flat_there (up_row r first) ups k.0 row k.1 ((row_listed r label.Block (resolve r k.0) (placed.At (own_point r first)) row).1 k.2)))
      | inr k ↦ (
          second_part (flat_map (up_row r first) ups) (flat_map (down_row r (last_place r first (length bytes))) downs) row
          (flat_there (down_row r (last_place r first (length bytes))) downs k.0 row k.1 ((row_listed r label.Order (last_place r first (length bytes)) (resolve r k.0) row).1 k.2)))
    ]

pub hunk_listed : (r : Record) (first : ℕ) (h : Hunk) (row : EdgeRow) → Contains (rows_in r first h) row ↔ IsOwnRow r first h row
hunk_listed r first (File parent name exec) row = name_listed r first (resolve r parent) (placed.At (own_point r (first + 1))) row
hunk_listed r first (Dir parent name) row = name_listed r first (resolve r parent) (placed.At (own_point r (first + 1))) row
hunk_listed r first (NameOf parent child name exec) row = name_listed r first (resolve r parent) (resolve r child) row
hunk_listed r first (Insert file ups downs bytes) row = insertion_listed r first file ups downs bytes row
hunk_listed r first (Order file source target) row = row_listed r label.Order (resolve r source) (resolve r target) row
hunk_listed r first (Delete owner start end by) row = (λ m. absurd (no_member row m), λ h. absurd h)
hunk_listed r first (Revive owner start end by) row = (λ m. absurd (no_member row m), λ h. absurd h)

-- ---- all hunks

-- a hunk of the list has the row, with these positions before the list
record InHunks (r : Record) (first : ℕ) (hs : List Hunk) (row : EdgeRow) : Type 0 where
  number : ℕ
  hunk : Hunk
  there : slice_get hs number ≡ Some hunk
  has : Contains (rows_in r (first + place hs number) hunk) row

from_there : (r : Record) (first : ℕ) (hs : List Hunk) (row : EdgeRow) → Contains (rows_from r first hs) row → InHunks r first hs row
unfolding rows_from
from_there r first [] row m = absurd (no_member row m)
from_there r first (h ∷ hs) row m = elim (append_cases (rows_in r first h) (rows_from r (first + position_count h) hs) row m) [
  | inl k ↦ (let e : first ≡ first + 0 = omega arith in record { number = 0; hunk = h; there = refl; has = subst (λ f. Contains (rows_in r f h) row) e k })
  | inr k ↦ (
      let n = from_there r (first + position_count h) hs row k in
      let e : first + position_count h + place hs n.number ≡ first + place (h ∷ hs) (suc n.number) = omega (arith, sum_by-cons position_count h (take n.number hs)) in
      record { number = suc n.number; hunk = n.hunk; there = n.there; has = subst (λ f. Contains (rows_in r f n.hunk) row) e n.has })
]

from_back : (r : Record) (first : ℕ) (hs : List Hunk) (row : EdgeRow) (number : ℕ) (h : Hunk) → slice_get hs number ≡ Some h → Contains (rows_in r (first + place hs number) h) row → Contains (rows_from r first hs) row
unfolding rows_from
from_back r first [] row number h e m = absurd (let l = slice_get_within [] number h e in omega (arith, l))
from_back r first (g ∷ hs) row zero h e m =
    let same = same_Some g h e in
    let start : first + 0 ≡ first = omega arith in
    first_part (rows_in r first g) (rows_from r (first + position_count g) hs) row
    (subst (λ f. Contains (rows_in r f g) row) start (subst (λ k. Contains (rows_in r (first + 0) k) row) (sym same) m))
from_back r first (g ∷ hs) row (suc number) h e m =
    let start : first + place (g ∷ hs) (suc number) ≡ first + position_count g + place hs number = omega (arith, sum_by-cons position_count g (take number hs)) in
    second_part (rows_in r first g) (rows_from r (first + position_count g) hs) row
    (from_back r (first + position_count g) hs row number h e (subst (λ f. Contains (rows_in r f h) row) start m))

pub own_row_listed : OwnRowIsListed
own_row_listed r row = (there, back)
  where
    there : Contains (rows_of r) row → IsRowOf r row
    there m =
        let n = from_there r 0 r.change.hunks row m in
        let start : 0 + place r.change.hunks n.number ≡ place r.change.hunks n.number = omega arith in
        record {
          number = n.number;
          hunk = n.hunk;
          there = n.there;
          own = (hunk_listed r (place r.change.hunks n.number) n.hunk row).0 (subst (λ f. Contains (rows_in r f n.hunk) row) start n.has);
        }

    back : IsRowOf r row → Contains (rows_of r) row
    back h =
        let start : place r.change.hunks h.number ≡ 0 + place r.change.hunks h.number = omega arith in
        from_back r 0 r.change.hunks row h.number h.hunk h.there
        (subst (λ f. Contains (rows_in r f h.hunk) row) start ((hunk_listed r (place r.change.hunks h.number) h.hunk row).1 h.own))

pub inner_row_before : InnerRowIsBefore
inner_row_before r at = refl

-- ---- along a loop

rows_append : (r : Record) (xs ys : List Hunk) (first : ℕ) → rows_from r first (xs ++ ys) ≡ rows_from r first xs ++ rows_from r (first + sum_by position_count xs) ys
unfolding rows_from
rows_append r [] ys first = let e : first ≡ first + 0 = omega arith in ap (λ f. rows_from r f ys) e
rows_append r (h ∷ xs) ys first =
    let total : first + position_count h + sum_by position_count xs ≡ first + sum_by position_count (h ∷ xs) = omega (arith, sum_by-cons position_count h xs) in
    ap (λ l. rows_in r first h ++ l) (rows_append r xs ys (first + position_count h) ∙ ap (λ f. rows_from r (first + position_count h) xs ++ rows_from r f ys) total)
    ∙ sym (append_assoc (rows_in r first h) (rows_from r (first + position_count h) xs) _)

rows_one : (r : Record) (h : Hunk) (first : ℕ) → rows_from r first (h ∷ []) ≡ rows_in r first h
unfolding rows_from
rows_one r h first = append-nil (rows_in r first h)

pub rows_none : (r : Record) → rows_from r 0 [] ≡ []
unfolding rows_from
rows_none r = refl

-- one hunk more
pub rows_more : (r : Record) (hs : List Hunk) (i : ℕ) (h : Hunk) → i < length hs → h ≡ get_or hs i h → (first : ℕ) → first ≡ place hs i → (before new : List EdgeRow) →
    before ≡ rows_from r 0 (take i hs) → new ≡ before ++ rows_in r first h → new ≡ rows_from r 0 (take (i + 1) hs)
rows_more r hs i h low is first e before new so_far push =
    let start : first ≡ 0 + place hs i = omega (arith, e) in
    push ∙ ap (λ b. b ++ rows_in r first h) so_far
    ∙ ap (λ f. rows_from r 0 (take i hs) ++ rows_in r f h) start
    ∙ ap (λ l. rows_from r 0 (take i hs) ++ l) (sym (rows_one r h (0 + place hs i)))
    ∙ sym (rows_append r (take i hs) (h ∷ []) 0)
    ∙ ap (rows_from r 0) (sym (taken_more hs i h low is))
