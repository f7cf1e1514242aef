-- Whether a hunk is contested, by the range that it deletes.
use Rattle.std.proofs.Common.{◌≡◌, ℕ, suc, ◌+◌, Bool, true, false, ◌&&◌, ⊎_elim, List, [], ◌∷◌, Option, Some, refl, sym, ap, ◌∙◌, subst, arith}
use Rattle.std.specs.Prelude.{Contains, slice_get}
use Rattle.std.specs.List.{list_any}
use Rattle.pj_name.specs.declared.name.Name.{Name}
use Rattle.pj_name.specs.Name.{same_name}
use Rattle.pj_change.specs.declared.hunk.Hunk.{Hunk}
use Rattle.pj_change.specs.declared.hunk.Hunk.TheVariants.{File, Dir, NameOf, Insert, Order, Delete, Revive}
use Rattle.pj_change.specs.declared.change.Record.{Record}
use Rattle.pj_change.specs.Lawful.{is_held}
use Rattle.pj_change.specs.Positions.{numbered}
use Rattle.pj_change.specs.Contested.{are_strangers, contests, opposes, deleted_at}
use Rattle.pj_change.proofs.Members.{no_member, uncons, none_passes}
use Rattle.pj_change.proofs.LawfulLists.{append_cases, held_member}
use Rattle.pj_ranges.specs.declared.range.RangeAt.{RangeAt}
use Rattle.pj_ranges.specs.Units.{range_of}
use Rattle.pj_contest.specs.Given.{deleted_ranges, range_in, ranges_from}
use Rattle.pj_contest.specs.Contests.{is_opposed, is_hit}
use Rattle.pj_contest.specs.Rivals.{is_stranger_of}
use Rattle.pj_contest.specs.Sought.{IsOfOne, is_worked_on}
use Rattle.pj_contest.proofs.Gathered.{one_member}
use Rattle.pj_contest.proofs.Named.{AreApart, any_named, none_named}
use Rattle.pj_contest.proofs.Strange.{strangers_turned}

-- ---- the hunk of a range

-- the range is that of a hunk of these, of which the first has this number
record IsByOne (r : Record) (n : ℕ) (hs : List Hunk) (q : RangeAt) : Type 0 where
  at : ℕ
  owner : ℕ
  start : ℕ
  end : ℕ
  names : List ℕ
  there : slice_get hs at ≡ Some (Delete owner start end names)
  is : range_of (numbered r owner) start end (record { change = r.name; hunk = n + at }) ≡ q

by_later : (r : Record) (n : ℕ) (h : Hunk) (hs : List Hunk) (q : RangeAt) → IsByOne r (n + 1) hs q → IsByOne r n (h ∷ hs) q
by_later r n h hs q b = record {
  at = suc b.at;
  owner = b.owner;
  start = b.start;
  end = b.end;
  names = b.names;
  there = b.there;
  is = subst (λ (k : ℕ). range_of (numbered r b.owner) b.start b.end (record { change = r.name; hunk = k }) ≡ q) (let a = b.at in let e : (n + 1) + a ≡ n + suc a = omega arith in e) b.is;
}

by_first : (r : Record) (n : ℕ) (h : Hunk) (hs : List Hunk) (q : RangeAt) → Contains (range_in r n h) q → IsByOne r n (h ∷ hs) q
by_first r n (File parent name exec) hs q c = absurd (no_member q c)
by_first r n (Dir parent name) hs q c = absurd (no_member q c)
by_first r n (NameOf parent child name exec) hs q c = absurd (no_member q c)
by_first r n (Insert file ups downs bytes) hs q c = absurd (no_member q c)
by_first r n (Order file source target) hs q c = absurd (no_member q c)
by_first r n (Revive owner start end names) hs q c = absurd (no_member q c)
by_first r n (Delete owner start end names) hs q c = record {
  at = 0;
  owner = owner;
  start = start;
  end = end;
  names = names;
  there = refl;
  is = subst (λ (k : ℕ). range_of (numbered r owner) start end (record { change = r.name; hunk = k }) ≡ q) (let e : n ≡ n + 0 = omega arith in e) (one_member (range_of (numbered r owner) start end (record { change = r.name; hunk = n })) q c);
}

by_one : (r : Record) (n : ℕ) (hs : List Hunk) (q : RangeAt) → Contains (ranges_from r n hs) q → IsByOne r n hs q
by_one r n [] q c = absurd (no_member q c)
by_one r n (h ∷ hs) q c = ⊎_elim (by_first r n h hs q) (λ (d : Contains (ranges_from r (n + 1) hs) q). by_later r n h hs q (by_one r (n + 1) hs q d)) (append_cases (range_in r n h) (ranges_from r (n + 1) hs) q c)

-- whoever deletes the range is held
pub range_held : (S : List Record) (q : RangeAt) → IsOfOne S q → is_held S q.by.change ≡ true
range_held S q one = by (by_one one.it 0 one.it.change.hunks q one.deleted)
  where
    by : IsByOne one.it 0 one.it.change.hunks q → is_held S q.by.change ≡ true
    by b = held_member S q.by.change one.it (record { member = one.member; named = ap (λ (z : RangeAt). z.by.change) b.is })

-- ---- the test

any_both : (S : List Record) (p q : Record → Bool) (b : Bool) → list_any (λ o. p o && (b && q o)) S ≡ (b && list_any (λ o. p o && q o) S)
any_both S p q true = refl
any_both S p q false = none_passes (λ o. p o && (false && q o)) S (λ o m. and_no (p o))
  where
    and_no : (b : Bool) → (b && false) ≡ false
    and_no true = refl
    and_no false = refl

module _ (S : List Record) (apart : AreApart S) (i : Record) where
  opposed : (d : Record) (owner start end : ℕ) (names : List ℕ) → is_opposed S d (Some (Delete owner start end names)) i ≡
      (are_strangers i d && list_any (λ o. same_name o.name (numbered d owner) && list_any (contests i o.name start end (deleted_at o start)) i.change.hunks) S)
  unfolding opposes
  opposed d owner start end names = any_both S (λ o. same_name o.name (numbered d owner)) (λ o. list_any (contests i o.name start end (deleted_at o start)) i.change.hunks) (are_strangers i d)

  of_member : (q : RangeAt) (d : Record) → Contains S d → Contains (deleted_ranges d) q → is_hit S q.by i ≡ (is_stranger_of S i q.by.change && is_worked_on S q i)
  of_member q d m c = by (by_one d 0 d.change.hunks q c)
    where
      by : IsByOne d 0 d.change.hunks q → is_hit S q.by i ≡ (is_stranger_of S i q.by.change && is_worked_on S q i)
      by b =
          let hunk : 0 + b.at ≡ b.at = (let a = b.at in omega arith) in
          let name : d.name ≡ q.by.change = ap (λ (z : RangeAt). z.by.change) b.is in
          let number : 0 + b.at ≡ q.by.hunk = ap (λ (z : RangeAt). z.by.hunk) b.is in
          let hit = any_named S q.by.change (λ d. is_opposed S d (slice_get d.change.hunks q.by.hunk) i) apart d m name in
          let found : slice_get d.change.hunks q.by.hunk ≡ Some (Delete b.owner b.start b.end b.names) = ap (slice_get d.change.hunks) (sym number ∙ hunk) ∙ b.there in
          let stranger = any_named S q.by.change (λ d. are_strangers d i) apart d m name in
          let works : is_worked_on S q i ≡ list_any (λ o. same_name o.name (numbered d b.owner) && list_any (contests i o.name b.start b.end (deleted_at o b.start)) i.change.hunks) S =
          ap (λ (z : RangeAt). is_worked_on S z i) (sym b.is) in
          hit ∙ ap (λ (g : Option Hunk). is_opposed S d g i) found ∙ opposed d b.owner b.start b.end b.names
          ∙ ap (λ (t : Bool). are_strangers i d && t) (sym works) ∙ ap (λ (t : Bool). t && is_worked_on S q i) (strangers_turned i d ∙ sym stranger)

  -- a hunk is contested where it is of a stranger, and is worked on
  pub range_hit : is_held S i.name ≡ false → (q : RangeAt) → IsOfOne (i ∷ S) q → is_hit S q.by i ≡ (is_stranger_of S i q.by.change && is_worked_on S q i)
  range_hit fresh q one = ⊎_elim
      (λ (e : i ≡ one.it). own (subst (λ (d : Record). Contains (deleted_ranges d) q) (sym e) one.deleted))
      (λ (m : Contains S one.it). of_member q one.it m one.deleted)
      (uncons i S one.it one.member)
    where
      own : Contains (deleted_ranges i) q → is_hit S q.by i ≡ (is_stranger_of S i q.by.change && is_worked_on S q i)
      own c = by (by_one i 0 i.change.hunks q c)
        where
          by : IsByOne i 0 i.change.hunks q → is_hit S q.by i ≡ (is_stranger_of S i q.by.change && is_worked_on S q i)
          by b =
              let name : i.name ≡ q.by.change = ap (λ (z : RangeAt). z.by.change) b.is in
              let none : is_held S q.by.change ≡ false = subst (λ (n : Name). is_held S n ≡ false) name fresh in
              none_named S q.by.change (λ d. is_opposed S d (slice_get d.change.hunks q.by.hunk) i) none
              ∙ sym (ap (λ (t : Bool). t && is_worked_on S q i) (none_named S q.by.change (λ d. are_strangers d i) none))
