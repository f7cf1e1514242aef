-- At most one hunk of a change covers a point.
use Rattle.std.proofs.Common.{◌≡◌, ℕ, zero, suc, ◌<◌, ◌≤◌, Bool, true, false, ◌&&◌, List, [], ◌∷◌, length, get_or, refl, sym, ◌∙◌, ap, subst, arith, inl, inr}
use Rattle.std.specs.Prelude.{Contains, ◌⊎◌, Some, slice_get, nat_le, nat_lt}
use Rattle.std.specs.Ordering.{is_lt}
use Rattle.std.specs.declared.cmp.Ordering.{Ordering}
use Rattle.std.specs.declared.cmp.Ordering.TheVariants.{Less, Equal, Greater}
use Rattle.std.proofs.lemmas.Bool.{and_parts, cases_lt}
use Rattle.std.proofs.lemmas.Bool.Decides.{nat_tests}
use Rattle.std.proofs.lemmas.List.Elements.{Contains-get_or}
use Rattle.std.proofs.lemmas.Option.{slice_get_within, same_Some}
use Rattle.pj_name.specs.declared.name.Name.{Name}
use Rattle.pj_name.specs.Name.{name_cmp, name_below, same_name}
use Rattle.pj_name.proofs.Names.{name_cmp-total}
use Rattle.pj_change.specs.declared.point.Point.{Point}
use Rattle.pj_change.specs.declared.hunk.Hunk.{Hunk}
use Rattle.pj_change.specs.declared.hunk.Hunk.TheVariants.{File, Dir, NameOf, Insert, Order, Delete, Revive}
use Rattle.pj_change.specs.declared.change.Record.{Record}
use Rattle.pj_change.specs.Rules.{rising, each_pair, apart, ranges_apart}
use Rattle.pj_change.specs.Positions.{numbered}
use Rattle.pj_change.specs.Covers.{is_within, covers}
use Rattle.pj_change.proofs.EqualNames.{same_name_is}
use Rattle.pj_change.proofs.Listings.{not_both}
use Rattle.pj_change.proofs.Members.{uncons, all_member, no_member, member_at}
use Rattle.pj_change.proofs.NeedNumbers.{IsNeedNumber, delete_owner, revive_owner}
use Rattle.pj_change.proofs.RisingLemmas.{rising_rest}

-- ---- the numbers of needs

pub less_is : (o : Ordering) → is_lt o ≡ true → o ≡ Less
less_is Less e = refl
less_is Equal e = absurd (cc)
less_is Greater e = absurd (cc)

below_less : (m n : Name) → name_below m n ≡ true → name_cmp m n ≡ Less
below_less m n e = less_is (name_cmp m n) e

-- the first of rising names is below each later one
rising_first : (m : Name) (names : List Name) → rising name_below (m ∷ names) ≡ true → (n : Name) → Contains names n → name_cmp m n ≡ Less
unfolding rising
rising_first m [] e n k = absurd (no_member n k)
rising_first m (l ∷ names) e n k = by (uncons l names n k) (rising_first l names (and_parts _ _ e).1 n)
  where
    by : (l ≡ n) ⊎ Contains names n → (Contains names n → name_cmp l n ≡ Less) → name_cmp m n ≡ Less
    by (inl same) rest = subst (λ x. name_cmp m x ≡ Less) same (below_less m l (and_parts _ _ e).0)
    by (inr later) rest = name_cmp-total.trans m l n (below_less m l (and_parts _ _ e).0) (rest later)

not_below_itself : (m n : Name) → m ≡ n → name_cmp m n ≡ Less → ⊥
not_below_itself m n e l = (let h : name_cmp m m ≡ Less = subst (λ x. name_cmp m x ≡ Less) (sym e) l in not_both name_cmp name_cmp-total m m h h)

-- rising names stand at one place each
rising_once : (names : List Name) → rising name_below names ≡ true → (i j : ℕ) (d : Name) → i < length names → j < length names → get_or names i d ≡ get_or names j d → i ≡ j
rising_once [] e i j d l k same = absurd (omega arith)
rising_once (m ∷ names) e zero zero d l k same = refl
rising_once (m ∷ names) e zero (suc j) d l k same =
    absurd (not_below_itself m (get_or names j d) same (rising_first m names e (get_or names j d) (Contains-get_or names j d (omega arith))))
rising_once (m ∷ names) e (suc i) zero d l k same =
    absurd (not_below_itself m (get_or names i d) (sym same) (rising_first m names e (get_or names i d) (Contains-get_or names i d (omega arith))))
rising_once (m ∷ names) e (suc i) (suc j) d l k same = ap suc (rising_once names (rising_rest name_below m names e) i j d (omega arith) (omega arith) same)

-- two numbers of needs that mean one change are one
pub numbered_once : (r : Record) (k l : ℕ) → IsNeedNumber (length r.change.needs) k → IsNeedNumber (length r.change.needs) l → numbered r k ≡ numbered r l → k ≡ l
numbered_once r zero l a b same = absurd (let h = a.from in omega (arith, h))
numbered_once r (suc k) zero a b same = absurd (let h = b.from in omega (arith, h))
numbered_once r (suc k) (suc l) a b same =
    let low = a.upto in
    let high = b.upto in
    ap suc (rising_once r.change.needs r.change.keeps.needs_rise k l r.name (omega arith) (omega arith) same)

-- ---- ranges

within_parts : (b : Bool) (start end at : ℕ) → (b && nat_le start at && nat_lt at end) ≡ true → (b ≡ true) × (start ≤ at) × (at < end)
within_parts true start end at e = (refl, grind (arith, nat_tests), grind (arith, nat_tests))
within_parts false start end at e = absurd (cc)

ranges_meet : (k a b c d at : ℕ) → a ≤ at → at < b → c ≤ at → at < d → ranges_apart k a b k c d ≡ true → ⊥
ranges_meet k a b c d at p q r s e = grind (arith, nat_tests)

module _ (r : Record) (p : Point) where
  -- two ranges with a common position are not apart
  within_both : (k a b l c d : ℕ) → IsNeedNumber (length r.change.needs) k → IsNeedNumber (length r.change.needs) l →
      is_within (numbered r k) a b p ≡ true → is_within (numbered r l) c d p ≡ true → ranges_apart k a b l c d ≡ true → ⊥
  within_both k a b l c d m n g h e =
      let u = within_parts (same_name (numbered r k) p.change) a b p.offset g in
      let v = within_parts (same_name (numbered r l) p.change) c d p.offset h in
      let same : k ≡ l = numbered_once r k l m n (same_name_is (numbered r k) p.change u.0 ∙ sym (same_name_is (numbered r l) p.change v.0)) in
      ranges_meet k a b c d p.offset u.1 u.2 v.1 v.2 (subst (λ l. ranges_apart k a b l c d ≡ true) (sym same) e)

  cover_both : (g h : Hunk) → Contains r.change.hunks g → Contains r.change.hunks h → covers r g p ≡ true → covers r h p ≡ true → apart g h ≡ true → ⊥
  cover_both (Delete k a b by) (Delete l c d by') m n g h e = within_both k a b l c d (delete_owner r k a b by m) (delete_owner r l c d by' n) g h e
  cover_both (Delete k a b by) (Revive l c d by') m n g h e = within_both k a b l c d (delete_owner r k a b by m) (revive_owner r l c d by' n) g h e
  cover_both (Revive k a b by) (Delete l c d by') m n g h e = within_both k a b l c d (revive_owner r k a b by m) (delete_owner r l c d by' n) g h e
  cover_both (Revive k a b by) (Revive l c d by') m n g h e = within_both k a b l c d (revive_owner r k a b by m) (revive_owner r l c d by' n) g h e
  cover_both (Delete k a b by) (File parent name exec) m n g h e = absurd (cc)
  cover_both (Delete k a b by) (Dir parent name) m n g h e = absurd (cc)
  cover_both (Delete k a b by) (NameOf parent child name exec) m n g h e = absurd (cc)
  cover_both (Delete k a b by) (Insert file ups downs bytes) m n g h e = absurd (cc)
  cover_both (Delete k a b by) (Order file source target) m n g h e = absurd (cc)
  cover_both (Revive k a b by) (File parent name exec) m n g h e = absurd (cc)
  cover_both (Revive k a b by) (Dir parent name) m n g h e = absurd (cc)
  cover_both (Revive k a b by) (NameOf parent child name exec) m n g h e = absurd (cc)
  cover_both (Revive k a b by) (Insert file ups downs bytes) m n g h e = absurd (cc)
  cover_both (Revive k a b by) (Order file source target) m n g h e = absurd (cc)
  cover_both (File parent name exec) f m n g h e = absurd (cc)
  cover_both (Dir parent name) f m n g h e = absurd (cc)
  cover_both (NameOf parent child name exec) f m n g h e = absurd (cc)
  cover_both (Insert file ups downs bytes) f m n g h e = absurd (cc)
  cover_both (Order file source target) f m n g h e = absurd (cc)

-- ---- the hunks of a change

-- a test of each two members says it of a member and a later one
each_pair_at : {X : Type 0} (test : X → X → Bool) (xs : List X) → each_pair test xs ≡ true → (i j : ℕ) (x y : X) → slice_get xs i ≡ Some x → slice_get xs j ≡ Some y → i < j → test x y ≡ true
unfolding each_pair
each_pair_at test [] e i j x y a b l = absurd (let h = slice_get_within [] i x a in omega (arith, h))
each_pair_at test (z ∷ xs) e i zero x y a b l = absurd (omega arith)
each_pair_at test (z ∷ xs) e zero (suc j) x y a b l =
    let same : z ≡ x = same_Some z x a in
    subst (λ z. test z y ≡ true) same (all_member (test z) xs y (and_parts _ _ e).0 (member_at xs j y b))
each_pair_at test (z ∷ xs) e (suc i) (suc j) x y a b l = each_pair_at test xs (and_parts _ _ e).1 i j x y a b (omega arith)

-- at most one hunk of a change deletes or revives a point
pub one_cover : (r : Record) (p : Point) (i j : ℕ) (g h : Hunk) → slice_get r.change.hunks i ≡ Some g → slice_get r.change.hunks j ≡ Some h →
    covers r g p ≡ true → covers r h p ≡ true → i ≡ j
one_cover r p i j g h a b s t = elim (cases_lt i j) [
  | inl l ↦ absurd (cover_both r p g h (member_at r.change.hunks i g a) (member_at r.change.hunks j h b) s t (each_pair_at apart r.change.hunks r.change.keeps.disjoint i j g h a b l))
  | inr l ↦ elim (cases_lt j i) [
    | inl k ↦ absurd (cover_both r p h g (member_at r.change.hunks j h b) (member_at r.change.hunks i g a) t s (each_pair_at apart r.change.hunks r.change.keeps.disjoint j i h g b a k))
    | inr k ↦ omega arith
  ]
]
