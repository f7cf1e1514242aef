-- No more hits than pairs.
use Rattle.std.proofs.Common.{◌≡◌, ℕ, zero, suc, ◌+◌, ◌≤◌, ◌<◌, Bool, true, false, not, ◌&&◌, ◌⊎◌, inl, inr, ⊎_elim, List, [], ◌∷◌, Option, Some, None, refl, sym, ap, ◌∙◌, subst, arith, cond, count_by, length}
use Rattle.std.specs.Prelude.{Contains, slice_get, filter, ◌≢◌}
use Rattle.std.specs.List.{sum_by}
use Rattle.std.specs.List.Sorted.{IsStrictlySortedBy}
use Rattle.std.specs.Cmp.{nat_cmp_is}
use Rattle.std.specs.Ordering.{nat_cmp, ordering_then}
use Rattle.std.specs.declared.cmp.Ordering.TheVariants.{Less, Equal, Greater}
use Rattle.std.proofs.lemmas.Cmp.{tied_itself}
use Rattle.std.proofs.lemmas.List.Kept.{IsStrictlySortedBy-filter}
use Rattle.std.proofs.lemmas.List.Filters.{length-filter_both}
use Rattle.std.proofs.lemmas.List.Sums.{sum_by-cons}
use Rattle.std.proofs.lemmas.Bool.{and_parts}
use Rattle.pj_pmap.proofs.Lookups.{contains_first, contains_later}
use Rattle.pj_name.specs.declared.name.Name.{Name}
use Rattle.pj_name.specs.Name.{same_name, name_cmp}
use Rattle.pj_name.proofs.Names.{name_cmp-total}
use Rattle.pj_change.specs.declared.hunk.Hunk.{Hunk}
use Rattle.pj_change.specs.declared.change.Record.{Record}
use Rattle.pj_change.specs.Sets.{HaveDistinctNames}
use Rattle.pj_change.proofs.EqualNames.{same_name_is, is_same_name}
use Rattle.pj_change.proofs.Decided.{known_less}
use Rattle.pj_change.proofs.Members.{uncons, no_member, each, passes}
use Rattle.pj_change.proofs.Listings.{IsRelated, related_pairs}
use Rattle.pj_change.proofs.PickedMembers.{passed}
use Rattle.pj_ranges.specs.declared.range.HunkAt.{HunkAt}
use Rattle.pj_ranges.specs.Units.{hunk_cmp}
use Rattle.pj_change.specs.ContestCounts.{is_contested_by}
use Rattle.pj_contest.specs.Contests.{is_opposed, is_hit, AreHitsInOrder}
use Rattle.pj_rows.proofs.KeyLemmas.{count_cons}

-- a hunk of these, the first of which has the number m, that passes
pub record IsPassing (hs : List Hunk) (q : Hunk → Bool) (n : Name) (m : ℕ) (x : HunkAt) : Type 0 where
  pub change : x.change ≡ n
  pub far : ℕ
  pub at : x.hunk ≡ m + far
  pub hunk : Hunk
  pub there : slice_get hs far ≡ Some hunk
  pub passes : q hunk ≡ true

-- of two hunks of one change the first has the lower number
lower : (x y : HunkAt) → x.change ≡ y.change → hunk_cmp x y ≡ Less → y.hunk ≤ x.hunk → ⊥
lower x y c l h =
    let tie : name_cmp x.change y.change ≡ Equal = subst (λ (m : Name). name_cmp x.change m ≡ Equal) c (tied_itself name_cmp-total x.change) in
    let n : nat_cmp x.hunk y.hunk ≡ Less = sym (ap (λ o. ordering_then o (nat_cmp x.hunk y.hunk)) tie) ∙ l in
    by (x.hunk) (y.hunk) n h
  where
    by : (a b : ℕ) → nat_cmp a b ≡ Less → b ≤ a → ⊥
    by a b e l = ⊎_elim (λ (f : b < a). let g = nat_cmp_is a b Greater f in cc) (λ (f : b ≡ a). let g = nat_cmp_is a b Equal (sym f) in cc) (split b a l)
      where
        split : (b a : ℕ) → b ≤ a → (b < a) ⊎ (b ≡ a)
        split b a l = ⊎_elim (λ (f : b < a). inl f) (λ n. inr (omega arith)) (known_less b a)

few_in : (hs : List Hunk) (q : Hunk → Bool) (n : Name) (m : ℕ) (ks : List HunkAt) → IsStrictlySortedBy hunk_cmp ks → ((x : HunkAt) → Contains ks x → IsPassing hs q n m x) → length ks ≤ count_by q hs
unfolding IsStrictlySortedBy
few_in [] q n m [] s are = omega arith
few_in [] q n m (x ∷ xs) s are = let p = are x (contains_first x xs) in absurd (no_hunk p.far p.hunk p.there)
  where
    no_hunk : (j : ℕ) (g : Hunk) → slice_get [] j ≡ Some g → ⊥
    no_hunk j g e = cc
few_in (h ∷ hs) q n m [] s are = omega arith
few_in (h ∷ hs) q n m (x ∷ xs) s are = let p = are x (contains_first x xs) in by p.far p.at p.hunk p.there p.passes (few_in hs q n (m + 1) xs s.1) (few_in hs q n (m + 1) (x ∷ xs) s)
  where
    above : (y : HunkAt) → Contains xs y → hunk_cmp x y ≡ Less
    above y c = each (λ y. hunk_cmp x y ≡ Less) xs s.0 y c

    same : (y : HunkAt) → Contains xs y → x.change ≡ y.change
    same y c = (are x (contains_first x xs)).change ∙ sym (are y (contains_later x y xs c)).change

    -- what is not the first of these is one of the others
    on : (y : HunkAt) (far : ℕ) → y.change ≡ n → y.hunk ≡ m + far → (g : Hunk) → slice_get (h ∷ hs) far ≡ Some g → q g ≡ true → (far ≡ 0 → ⊥) → IsPassing hs q n (m + 1) y
    on y zero c at g e w no_first = absurd (no_first refl)
    on y (suc far) c at g e w no_first = record { change = c; far = far; at = omega arith; hunk = g; there = e; passes = w }

    later : (y : HunkAt) → Contains xs y → m ≤ x.hunk → IsPassing hs q n (m + 1) y
    later y c low = let p = are y (contains_later x y xs c) in on y p.far p.change p.at p.hunk p.there p.passes (λ f. lower x y (same y c) (above y c) (let a = p.at in omega arith))

    is_hunk : (g : Hunk) → Some h ≡ Some g → h ≡ g
    is_hunk g e = cc

    by : (far : ℕ) → x.hunk ≡ m + far → (g : Hunk) → slice_get (h ∷ hs) far ≡ Some g → q g ≡ true →
        (((y : HunkAt) → Contains xs y → IsPassing hs q n (m + 1) y) → length xs ≤ count_by q hs) →
        (((y : HunkAt) → Contains (x ∷ xs) y → IsPassing hs q n (m + 1) y) → length (x ∷ xs) ≤ count_by q hs) → length (x ∷ xs) ≤ count_by q (h ∷ hs)
    by zero at g e w one two =
        let rest = one (λ y c. later y c (omega arith)) in
        let first = count_cons q h hs ∙ ap (λ b. cond b 1 0 + count_by q hs) (ap q (is_hunk g e) ∙ w) in
        omega arith
    by (suc far) at g e w one two =
        let rest = two (λ y c. ⊎_elim (λ (f : x ≡ y). subst (IsPassing hs q n (m + 1)) f (on x (suc far) (are x (contains_first x xs)).change at g e w (λ z. absurd (omega arith)))) (λ (d : Contains xs y). later y d (omega arith)) (uncons x xs y c)) in
        let first = count_cons q h hs in
        omega arith

-- the hits on the hunks of members, each once, are no more than the contested hunks of members
few_among : (S T : List Record) (r : Record) → IsRelated (λ d e. d.name ≢ e.name) T → (ks : List HunkAt) → IsStrictlySortedBy hunk_cmp ks →
    ((x : HunkAt) → Contains ks x → (d : Record) × Contains T d × (d.name ≡ x.change) × (is_opposed S d (slice_get d.change.hunks x.hunk) r ≡ true)) → length ks ≤ sum_by (λ d. count_by (λ h. is_contested_by S d h r) d.change.hunks) T
few_among S [] r a [] s are = omega arith
few_among S [] r a (x ∷ xs) s are = let d = are x (contains_first x xs) in absurd (no_member d.0 d.1)
few_among S (d ∷ T) r a ks s are = all (few_among S T r a.1)
  where
    here : HunkAt → Bool
    here x = same_name d.name x.change

    out : HunkAt → Bool
    out x = not (here x)

    no_both : (b : Bool) → b ≡ true → not b ≡ true → ⊥
    no_both true e f = cc
    no_both false e f = cc

    q : Hunk → Bool
    q g = is_contested_by S d g r

    some : (k : ℕ) (g : Option Hunk) → slice_get d.change.hunks k ≡ g → is_opposed S d g r ≡ true → (h : Hunk) × (slice_get d.change.hunks k ≡ Some h) × (q h ≡ true)
    some k None e w = absurd (cc)
    some k (Some h) e w = (h, e, w)

    mine : (x : HunkAt) → Contains (filter here ks) x → IsPassing d.change.hunks q d.name 0 x
    mine x c =
        let k = passed here ks x c in
        let e = are x k.member in
        let name : d.name ≡ x.change = same_name_is d.name x.change k.passes in
        let is : d ≡ e.0 = ⊎_elim (λ (f : d ≡ e.0). f) (λ (l : Contains T e.0). absurd (a.0 e.0 l (name ∙ sym e.2))) (uncons d T e.0 e.1) in
        let w : is_opposed S d (slice_get d.change.hunks x.hunk) r ≡ true = subst (λ (z : Record). is_opposed S z (slice_get z.change.hunks x.hunk) r ≡ true) (sym is) e.3 in
        let g = some x.hunk (slice_get d.change.hunks x.hunk) refl w in
        record { change = sym name; far = x.hunk; at = omega arith; hunk = g.0; there = g.1; passes = g.2 }

    others : (x : HunkAt) → Contains (filter out ks) x → (e : Record) × Contains T e × (e.name ≡ x.change) × (is_opposed S e (slice_get e.change.hunks x.hunk) r ≡ true)
    others x c =
        let k = passed out ks x c in
        let e = are x k.member in
        ⊎_elim (λ (f : d ≡ e.0). absurd (no_both (here x) (is_same_name d.name x.change (ap (λ (z : Record). z.name) f ∙ e.2)) k.passes)) (λ (l : Contains T e.0). (e.0, l, e.2, e.3)) (uncons d T e.0 e.1)

    all : ((ms : List HunkAt) → IsStrictlySortedBy hunk_cmp ms → ((x : HunkAt) → Contains ms x → (e : Record) × Contains T e × (e.name ≡ x.change) × (is_opposed S e (slice_get e.change.hunks x.hunk) r ≡ true)) → length ms ≤ sum_by (λ d. count_by (λ h. is_contested_by S d h r) d.change.hunks) T) →
        length ks ≤ sum_by (λ d. count_by (λ h. is_contested_by S d h r) d.change.hunks) (d ∷ T)
    all rest =
        let one = few_in d.change.hunks q d.name 0 (filter here ks) (IsStrictlySortedBy-filter hunk_cmp here ks s) mine in
        let two = rest (filter out ks) (IsStrictlySortedBy-filter hunk_cmp out ks s) others in
        let cut = length-filter_both here out (λ x. refl) ks in
        let sum = sum_by-cons (λ d. count_by (λ h. is_contested_by S d h r) d.change.hunks) d T in
        omega arith

-- a hit is on a hunk of a member
hit_member : (S : List Record) (r : Record) (x : HunkAt) → is_hit S x r ≡ true → (d : Record) × Contains S d × (d.name ≡ x.change) × (is_opposed S d (slice_get d.change.hunks x.hunk) r ≡ true)
hit_member S r x e =
    let d = passes (λ d. same_name d.name x.change && is_opposed S d (slice_get d.change.hunks x.hunk) r) S e in
    let a = and_parts (same_name d.it.name x.change) (is_opposed S d.it (slice_get d.it.change.hunks x.hunk) r) d.is in
    (d.it, d.member, same_name_is d.it.name x.change a.0, a.1)

-- the hits are no more than the contested hunks of members
pub hits_few : (S : List Record) (r : Record) → HaveDistinctNames S → (ks : List HunkAt) → AreHitsInOrder S r ks → length ks ≤ sum_by (λ d. count_by (λ h. is_contested_by S d h r) d.change.hunks) S
hits_few S r distinct ks are = few_among S S r (related_pairs (λ d e. d.name ≢ e.name) S distinct) ks are.sorted (λ x m. hit_member S r x ((are.all x).0 m))
