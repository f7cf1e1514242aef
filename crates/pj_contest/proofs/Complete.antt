-- Where the points that are sought are searched, each hunk that is contested is found.
use Rattle.std.proofs.Common.{◌≡◌, ℕ, zero, suc, ◌+◌, ◌-◌, ◌<◌, ◌^◌, Bool, true, false, ◌&&◌, ⊎_elim, List, [], ◌∷◌, Option, Some, None, refl, sym, ap, ◌∙◌, subst, arith, length, nat_lt, nat_le}
use Rattle.std.specs.Prelude.{Contains, slice_get, option_and_then}
use Rattle.std.specs.List.{list_any}
use Rattle.std.specs.Option.{option_map}
use borrow.Author.Tests.{ltb-true, ltb-false}
use Rattle.std.proofs.lemmas.Bool.Decides.{nat_tests}
use Rattle.std.proofs.lemmas.Bool.{and_parts, and_from}
use Rattle.pj_name.specs.declared.name.Name.{Name}
use Rattle.pj_name.specs.Name.{same_name}
use Rattle.pj_change.specs.declared.point.Point.{Point}
use Rattle.pj_change.specs.declared.point.Place.{Place}
use Rattle.pj_change.specs.declared.hunk.Hunk.{Hunk}
use Rattle.pj_change.specs.declared.hunk.Hunk.TheVariants.{File, Dir, NameOf, Insert, Order, Delete, Revive}
use Rattle.pj_change.specs.declared.change.Record.{Record}
use Rattle.pj_change.specs.Rules.{is_hunk, position_count}
use Rattle.pj_change.specs.Parts.{parts_of}
use Rattle.pj_change.specs.declared.kind.Kind.{Kind}
use Rattle.pj_change.specs.declared.kind.Kind.TheVariants.{NameAt, FileInode, DirInode, Text}
use Rattle.pj_change.specs.declared.kind.Deleted.{Deleted}
use Rattle.pj_change.specs.declared.kind.Deleted.TheVariants as deleted
use Rattle.pj_change.specs.Positions.{numbered, own_point, kind_in, kind_from, kind_at, child_of}
use Rattle.pj_change.specs.Contested.{are_strangers, contests, opposes, deleted_at, deleted_by, inserts_after, builds_on}
use Rattle.pj_change.proofs.EqualNames.{same_name_is, is_same_name}
use Rattle.pj_change.proofs.HunkLemmas.{hunk_rule, range_rules}
use Rattle.pj_change.proofs.LawfulLists.{append_cases, first_part, second_part}
use Rattle.pj_change.proofs.Members.{passes, no_member, first_member, later_member, member_at}
use Rattle.pj_ranges.specs.declared.range.HunkAt.{HunkAt}
use Rattle.pj_ranges.specs.declared.range.RangeAt.{RangeAt}
use Rattle.pj_ranges.specs.Units.{range_of, IsMeasured}
use Rattle.pj_ranges.specs.Over.{has_range, has_point}
use Rattle.pj_ranges.proofs.RangeOrder.{unit_fits}
use Rattle.pj_rows.specs.declared.values.Here.{Here}
use Rattle.pj_contest.specs.Marks.{name_row}
use Rattle.pj_contest.specs.Given.{key_of, child_row, child_rows, child_rows_from, deleted_ranges, range_in, ranges_from}
use Rattle.pj_contest.specs.Contests.{Rows, is_opposed, is_hit}
use Rattle.pj_contest.specs.Sought.{AreSought, HasRowsOf}
use Rattle.pj_contest.proofs.Gathered.{one_member}
use Rattle.pj_contest.proofs.RivalRows.{up_to, base_to}

-- ---- a deleted range has a position, and its numbers are of 32 bits

pub record IsGoodRange (start end : ℕ) : Type 0 where
  pub some : start < end
  pub fits : end < 2 ^ 32

good_rule : (needs first owner start end : ℕ) (by : List ℕ) → is_hunk needs first (Delete owner start end by) ≡ true → IsGoodRange start end
unfolding is_hunk
good_rule needs first owner start end by e = let r = range_rules needs owner start end by e in record { some = r.nonempty; fits = r.small }

pub good_range : (r : Record) (owner start end : ℕ) (by : List ℕ) → Contains r.change.hunks (Delete owner start end by) → IsGoodRange start end
good_range r owner start end by m =
    let rule = hunk_rule (parts_of r.change) r.change.keeps (Delete owner start end by) m in
    good_rule (length r.change.needs) rule.0 owner start end by rule.1

-- ---- the range of a hunk that deletes

range_there : (r : Record) (n : ℕ) (hs : List Hunk) (k : ℕ) (h : Hunk) → slice_get hs k ≡ Some h → (q : RangeAt) → Contains (range_in r (n + k) h) q → Contains (ranges_from r n hs) q
range_there r n [] k h e q c = absurd (cc)
range_there r n (g ∷ hs) zero h e q c =
    let same : g ≡ h = first_is g h e in
    first_part (range_in r n g) (ranges_from r (n + 1) hs) q
    (subst (λ (z : Hunk). Contains (range_in r n z) q) (sym same) (subst (λ (z : ℕ). Contains (range_in r z h) q) (plus_none n) c))
  where
    first_is : (g h : Hunk) → Some g ≡ Some h → g ≡ h
    first_is g h e = cc

    plus_none : (n : ℕ) → n + 0 ≡ n
    plus_none n = omega arith
range_there r n (g ∷ hs) (suc k) h e q c =
    second_part (range_in r n g) (ranges_from r (n + 1) hs) q (range_there r (n + 1) hs k h e q (subst (λ (z : ℕ). Contains (range_in r z h) q) (let f : n + suc k ≡ (n + 1) + k = omega arith in f) c))

-- the range by a hunk that deletes
abbrev pub range_by : Record → ℕ → ℕ → ℕ → ℕ → RangeAt
range_by d k owner start end = range_of (numbered d owner) start end (record { change = d.name; hunk = k })

-- the indexes have the range of a hunk of a change of S
pub range_kept : (S : List Record) (t : Rows) → HasRowsOf S t → (d : Record) → Contains S d → (k owner start end : ℕ) (names : List ℕ) → slice_get d.change.hunks k ≡ Some (Delete owner start end names) → has_range t.ranges (range_by d k owner start end) ≡ true
range_kept S t rows d m k owner start end names e =
    let none : k ≡ 0 + k = omega arith in
    rows.deleted d m (range_by d k owner start end)
    (range_there d 0 d.change.hunks k (Delete owner start end names) e (range_by d k owner start end)
    (subst (λ (n : ℕ). Contains (range_in d n (Delete owner start end names)) (range_by d k owner start end)) none (first_member (range_by d k owner start end) [])))

-- each range of a change is measured
measured_in : (r : Record) (k : ℕ) (h : Hunk) → Contains r.change.hunks h → (q : RangeAt) → Contains (range_in r k h) q → IsMeasured q
measured_in r k (File parent name exec) m q c = absurd (no_member q c)
measured_in r k (Dir parent name) m q c = absurd (no_member q c)
measured_in r k (NameOf parent child name exec) m q c = absurd (no_member q c)
measured_in r k (Insert file ups downs bytes) m q c = absurd (no_member q c)
measured_in r k (Order file source target) m q c = absurd (no_member q c)
measured_in r k (Revive owner start end names) m q c = absurd (no_member q c)
measured_in r k (Delete owner start end names) m q c =
    let good = good_range r owner start end names m in
    let some = good.some in
    let fits = good.fits in
    let unit = unit_fits 32 (end - start) (omega arith) (omega arith) in
    let low = unit.0 in
    let high = unit.1 in
    subst IsMeasured (one_member (range_by r k owner start end) q c) (record { low = omega arith; high = omega arith })

measured_from : (r : Record) (n : ℕ) (hs : List Hunk) → ((h : Hunk) → Contains hs h → Contains r.change.hunks h) → (q : RangeAt) → Contains (ranges_from r n hs) q → IsMeasured q
measured_from r n [] own q c = absurd (no_member q c)
measured_from r n (h ∷ hs) own q c = ⊎_elim
    (λ (a : Contains (range_in r n h) q). measured_in r n h (own h (first_member h hs)) q a)
    (λ (b : Contains (ranges_from r (n + 1) hs) q). measured_from r (n + 1) hs (λ g m. own g (later_member h hs g m)) q b)
    (append_cases (range_in r n h) (ranges_from r (n + 1) hs) q c)

pub ranges_measured : (r : Record) (q : RangeAt) → Contains (deleted_ranges r) q → IsMeasured q
ranges_measured r q c = measured_from r 0 r.change.hunks (λ h m. m) q c

-- ---- the names of a child

number_is : (k n : ℕ) → NameAt k ≡ NameAt n → n ≡ k
number_is k n e = cc

-- a name stands first in its hunk
name_first : (k first : ℕ) (h : Hunk) (at n : ℕ) → at < position_count h → kind_in k first h at ≡ NameAt n → (at ≡ 0) × (n ≡ k)
name_first k first (File parent name exec) zero n l e = (refl, number_is k n e)
name_first k first (File parent name exec) (suc at) n l e = absurd (cc)
name_first k first (Dir parent name) zero n l e = (refl, number_is k n e)
name_first k first (Dir parent name) (suc at) n l e = absurd (cc)
name_first k first (NameOf parent child name exec) at n l e = (let f : at ≡ 0 = omega arith in f, number_is k n e)
name_first k first (Insert file ups downs bytes) at n l e = absurd (cc)
name_first k first (Order file source target) at n l e = absurd (cc)
name_first k first (Delete owner start end by) at n l e = absurd (cc)
name_first k first (Revive owner start end by) at n l e = absurd (cc)

child_from : (o : Record) (all : List Hunk) (k first : ℕ) (hs : List Hunk) → ((j : ℕ) (g : Hunk) → slice_get hs j ≡ Some g → slice_get all (k + j) ≡ Some g) → (at n : ℕ) → kind_from k first hs at ≡ Some (NameAt n) →
    (child : Place) → option_and_then (child_of o (first + at)) (slice_get all n) ≡ Some child → Contains (child_rows_from o first hs) (name_row (key_of child) (own_point o (first + at)))
unfolding kind_from
child_from o all k first [] skip at n e child f = absurd (cc)
child_from o all k first (h ∷ hs) skip at n e child f = by (child_from o all (k + 1) (first + position_count h) hs later (at - position_count h) n) (nat_lt at (position_count h)) refl
  where
    later : (j : ℕ) (g : Hunk) → slice_get hs j ≡ Some g → slice_get all ((k + 1) + j) ≡ Some g
    later j g e = subst (λ m. slice_get all m ≡ Some g) (let m : k + suc j ≡ (k + 1) + j = omega arith in m) (skip (suc j) g e)

    here : at < position_count h → kind_in k first h at ≡ NameAt n → Contains (child_rows_from o first (h ∷ hs)) (name_row (key_of child) (own_point o (first + at)))
    here l g =
        let is = name_first k first h at n l g in
        let none : first + at ≡ first = let z = is.0 in omega arith in
        let found : slice_get all n ≡ Some h = subst (λ m. slice_get all m ≡ Some h) (let z = is.1 in let m : k + 0 ≡ n = omega arith in m) (skip 0 h refl) in
        let of : child_of o first h ≡ Some child = ap (λ m. child_of o m h) (sym none) ∙ sym (ap (option_and_then (child_of o (first + at))) found) ∙ f in
        let c : Contains (child_row o first (child_of o first h)) (name_row (key_of child) (own_point o first)) = subst (λ w. Contains (child_row o first w) (name_row (key_of child) (own_point o first))) (sym of) (first_member (name_row (key_of child) (own_point o first)) []) in
        first_part (child_row o first (child_of o first h)) (child_rows_from o (first + position_count h) hs) (name_row (key_of child) (own_point o (first + at)))
        (subst (λ m. Contains (child_row o first (child_of o first h)) (name_row (key_of child) (own_point o m))) (sym none) c)

    kind_is : (x y : Kind) → Some x ≡ Some y → x ≡ y
    kind_is x y e = cc

    by : (kind_from (k + 1) (first + position_count h) hs (at - position_count h) ≡ Some (NameAt n) → (child : Place) → option_and_then (child_of o (first + position_count h + (at - position_count h))) (slice_get all n) ≡ Some child →
        Contains (child_rows_from o (first + position_count h) hs) (name_row (key_of child) (own_point o (first + position_count h + (at - position_count h))))) →
        (b : Bool) → nat_lt at (position_count h) ≡ b → Contains (child_rows_from o first (h ∷ hs)) (name_row (key_of child) (own_point o (first + at)))
    by rest true t = let g : Some (kind_in k first h at) ≡ Some (NameAt n) = rw t at e in here (ltb-true at (position_count h) t) (kind_is (kind_in k first h at) (NameAt n) g)
    by rest false t =
        let past = ltb-false at (position_count h) t in
        let same : first + position_count h + (at - position_count h) ≡ first + at = omega arith in
        let g : kind_from (k + 1) (first + position_count h) hs (at - position_count h) ≡ Some (NameAt n) = rw t at e in
        second_part (child_row o first (child_of o first h)) (child_rows_from o (first + position_count h) hs) (name_row (key_of child) (own_point o (first + at)))
        (subst (λ m. Contains (child_rows_from o (first + position_count h) hs) (name_row (key_of child) (own_point o m))) same
        (rest g child (subst (λ m. option_and_then (child_of o m) (slice_get all n) ≡ Some child) (sym same) f)))

-- the child of the name that a deletion deletes stands among the rows
pub child_there : (o : Record) (offset : ℕ) (child : Place) → deleted_at o offset ≡ Some (deleted.NameOf child) → Contains (child_rows o) (name_row (key_of child) (own_point o offset))
child_there o offset child e = by (kind_at o.change.hunks offset) refl
  where
    none : (n : ℕ) → 0 + n ≡ n
    none n = omega arith

    empty : ◌≡◌ {A = Option Deleted} None (Some (deleted.NameOf child)) → ⊥
    empty h = cc

    text : Some deleted.Text ≡ Some (deleted.NameOf child) → ⊥
    text h = cc

    named : (o : Option Place) → option_map deleted.NameOf o ≡ Some (deleted.NameOf child) → o ≡ Some child
    named None h = absurd (empty h)
    named (Some c) h = cc

    by : (kind : Option Kind) → kind_at o.change.hunks offset ≡ kind → Contains (child_rows o) (name_row (key_of child) (own_point o offset))
    by None f = absurd (empty (sym (ap (deleted_by o offset) f) ∙ e))
    by (Some (FileInode hunk)) f = absurd (empty (sym (ap (deleted_by o offset) f) ∙ e))
    by (Some (DirInode hunk)) f = absurd (empty (sym (ap (deleted_by o offset) f) ∙ e))
    by (Some (Text hunk first past)) f = absurd (text (sym (ap (deleted_by o offset) f) ∙ e))
    by (Some (NameAt n)) f =
        let g : option_and_then (child_of o offset) (slice_get o.change.hunks n) ≡ Some child = named (option_and_then (child_of o offset) (slice_get o.change.hunks n)) (sym (ap (deleted_by o offset) f) ∙ e) in
        subst (λ m. Contains (child_rows o) (name_row (key_of child) (own_point o m))) (none offset)
        (child_from o o.change.hunks 0 0 o.change.hunks (λ j h k. subst (λ m. slice_get o.change.hunks m ≡ Some h) (sym (none j)) k) offset n f child
        (subst (λ m. option_and_then (child_of o m) (slice_get o.change.hunks n) ≡ Some child) (sym (none offset)) g))

-- ---- the search is complete

-- a range of the hunk at x is kept that has one of the points
pub record IsOverOne (ranges : List (RangeAt × Here)) (points : List Point) (x : HunkAt) : Type 0 where
  pub range : RangeAt
  pub by : range.by ≡ x
  pub there : has_range ranges range ≡ true
  pub point : Point
  pub sought : Contains points point
  pub has : has_point range point ≡ true

module _ (S : List Record) (t : Rows) (rows : HasRowsOf S t) (i : Record) (points : List Point) (sought : AreSought i t.children points) where
  -- an up within the range
  by_up : (d : Record) → Contains S d → (k owner start end : ℕ) (names : List ℕ) → slice_get d.change.hunks k ≡ Some (Delete owner start end names) → list_any (inserts_after i (numbered d owner) start end) i.change.hunks ≡ true →
      IsOverOne t.ranges points (record { change = d.name; hunk = k })
  by_up d m k owner start end names e w =
      let up = up_to i (numbered d owner) start end w in
      record { range = range_by d k owner start end; by = refl; there = range_kept S t rows d m k owner start end names e; point = up.0; sought = sought.ups up.0 up.1; has = up.2 }

  -- a name of which a base is the child
  by_base : (d : Record) → Contains S d → (k owner start end : ℕ) (names : List ℕ) → slice_get d.change.hunks k ≡ Some (Delete owner start end names) → (o : Record) → Contains S o → o.name ≡ numbered d owner →
      (child : Place) → deleted_at o start ≡ Some (deleted.NameOf child) → list_any (builds_on i child) i.change.hunks ≡ true → IsOverOne t.ranges points (record { change = d.name; hunk = k })
  by_base d m k owner start end names e o mo is child at w =
      let good = good_range d owner start end names (member_at d.change.hunks k (Delete owner start end names) e) in
      record {
        range = range_by d k owner start end;
        by = refl;
        there = range_kept S t rows d m k owner start end names e;
        point = own_point o start;
        sought = sought.names (key_of child) (base_to i child w) (own_point o start) (rows.names o mo (name_row (key_of child) (own_point o start)) (child_there o start child at));
        has = and_from _ _ (and_from _ _ (is_same_name (numbered d owner) o.name (sym is)) (le_itself start)) (below start end good.some);
      }
    where
      le_itself : (n : ℕ) → nat_le n n ≡ true
      le_itself n = grind (arith, nat_tests)

      below : (m n : ℕ) → m < n → nat_lt m n ≡ true
      below m n l = grind (arith, nat_tests)

  by_kind : (d : Record) → Contains S d → (k owner start end : ℕ) (names : List ℕ) → slice_get d.change.hunks k ≡ Some (Delete owner start end names) → (o : Record) → Contains S o → o.name ≡ numbered d owner →
      (c : Option Deleted) → deleted_at o start ≡ c → list_any (contests i o.name start end c) i.change.hunks ≡ true → IsOverOne t.ranges points (record { change = d.name; hunk = k })
  by_kind d m k owner start end names e o mo is None at w = let h = passes (λ (h : Hunk). false) i.change.hunks w in let f = h.is in absurd (cc)
  by_kind d m k owner start end names e o mo is (Some deleted.Text) at w = by_up d m k owner start end names e (subst (λ n. list_any (inserts_after i n start end) i.change.hunks ≡ true) is w)
  by_kind d m k owner start end names e o mo is (Some (deleted.NameOf child)) at w = by_base d m k owner start end names e o mo is child at w

  opposed : (d o : Record) (start end : ℕ) → opposes i d o.name start end (deleted_at o start) ≡ true → list_any (contests i o.name start end (deleted_at o start)) i.change.hunks ≡ true
  unfolding opposes
  opposed d o start end w = (and_parts (are_strangers i d) (list_any (contests i o.name start end (deleted_at o start)) i.change.hunks) w).1

  by_hunk : (d : Record) → Contains S d → (k : ℕ) (g : Option Hunk) → slice_get d.change.hunks k ≡ g → is_opposed S d g i ≡ true → IsOverOne t.ranges points (record { change = d.name; hunk = k })
  by_hunk d m k None e w = absurd (cc)
  by_hunk d m k (Some (File parent name exec)) e w = absurd (cc)
  by_hunk d m k (Some (Dir parent name)) e w = absurd (cc)
  by_hunk d m k (Some (NameOf parent child name exec)) e w = absurd (cc)
  by_hunk d m k (Some (Insert file ups downs bytes)) e w = absurd (cc)
  by_hunk d m k (Some (Order file source target)) e w = absurd (cc)
  by_hunk d m k (Some (Revive owner start end names)) e w = absurd (cc)
  by_hunk d m k (Some (Delete owner start end names)) e w =
      let o = passes (λ o. same_name o.name (numbered d owner) && opposes i d o.name start end (deleted_at o start)) S w in
      let a = and_parts (same_name o.it.name (numbered d owner)) _ o.is in
      by_kind d m k owner start end names e o.it o.member (same_name_is o.it.name (numbered d owner) a.0) (deleted_at o.it start) refl (opposed d o.it start end a.1)

  -- each hunk that i contests has a range that has one of the points
  pub complete : (x : HunkAt) → is_hit S x i ≡ true → IsOverOne t.ranges points x
  complete x w =
      let d = passes (λ d. same_name d.name x.change && is_opposed S d (slice_get d.change.hunks x.hunk) i) S w in
      let a = and_parts (same_name d.it.name x.change) _ d.is in
      subst (λ (n : Name). IsOverOne t.ranges points (record { change = n; hunk = x.hunk })) (same_name_is d.it.name x.change a.0) (by_hunk d.it d.member x.hunk (slice_get d.it.change.hunks x.hunk) refl a.1)
