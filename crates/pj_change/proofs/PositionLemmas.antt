-- What stands at a position is below the number of positions, and what stands at a distance into a hunk.
use Rattle.std.proofs.Common.{◌≡◌, ℕ, zero, suc, ◌+◌, ◌-◌, ◌<◌, ◌≤◌, ◌^◌, Bool, true, false, List, [], ◌∷◌, ◌++◌, length, take, get_or, refl, sym, ◌∙◌, ap, subst, arith}
use Rattle.std.specs.Prelude.{Some, nat_lt, Contains, sum_by, slice_get}
use Rattle.std.proofs.lemmas.Bool.{lt-ltb, le-ltb}
use Rattle.std.proofs.lemmas.Option.{slice_get_read, slice_get_within, same_Some}
use Rattle.std.proofs.lemmas.Bool.Decides.{nat_tests}
use Rattle.std.proofs.lemmas.List.Sums.{sum_by-cons, sum_by_more}
use Rattle.pj_change.specs.declared.point.Ref.{Ref}
use Rattle.pj_change.specs.declared.hunk.Hunk.{Hunk}
use Rattle.pj_change.specs.declared.hunk.Hunk.TheVariants.{Insert}
use Rattle.pj_change.specs.declared.kind.Kind.{Kind}
use Rattle.pj_change.specs.declared.change.Change.{Change}
use Rattle.pj_change.specs.declared.change.Record.{Record}
use Rattle.pj_change.specs.Rules.{position_count, is_hunk}
use Rattle.pj_change.specs.Parts.{parts_of}
use Rattle.pj_change.specs.Positions.{kind_in, kind_from, kind_at, place, IsNumbered}
use Rattle.pj_change.proofs.KindLemmas.{kind_cons_here, kind_cons_on}
use Rattle.pj_change.proofs.HunkLemmas.{refs_of, refs_numbered, hunk_rule}
use Rattle.pj_change.proofs.LawfulLists.{first_part, second_part}
use Rattle.pj_change.proofs.Members.{later_member}
use Rattle.pj_change.proofs.PlaceLemmas.{few_positions, few_upto}

-- ---- positions

no_hunk : (k first at : ℕ) (kind : Kind) → kind_from k first [] at ≡ Some kind → ⊥
unfolding kind_from
no_hunk k first at kind e = cc

-- something stands only below the number of positions
kind_below : (k first : ℕ) (hs : List Hunk) (at : ℕ) (kind : Kind) → kind_from k first hs at ≡ Some kind → at < sum_by position_count hs
kind_below k first [] at kind e = absurd (no_hunk k first at kind e)
kind_below k first (h ∷ hs) at kind e = go (kind_below (k + 1) (first + position_count h) hs (at - position_count h) kind) (nat_lt at (position_count h)) refl
  where
    go : (kind_from (k + 1) (first + position_count h) hs (at - position_count h) ≡ Some kind → at - position_count h < sum_by position_count hs) →
        (b : Bool) → nat_lt at (position_count h) ≡ b → at < sum_by position_count (h ∷ hs)
    go rest true l = (let low : at < position_count h = grind (arith, nat_tests) in omega (arith, sum_by-cons position_count h hs))
    go rest false l = (let r = rest (sym (kind_cons_on k first at h hs l) ∙ e) in omega (arith, sum_by-cons position_count h hs))

pub kind_at_below : (hs : List Hunk) (at : ℕ) (kind : Kind) → kind_at hs at ≡ Some kind → at < sum_by position_count hs
kind_at_below hs at kind e = kind_below 0 0 hs at kind e

-- so its number is small
pub position_small : (c : Change) (at : ℕ) (kind : Kind) → kind_at c.hunks at ≡ Some kind → at + 1 < 2 ^ 32
position_small c at kind e = omega (arith, kind_at_below c.hunks at kind e, few_positions (parts_of c) c.keeps)

-- ---- the references of a change

pub ref_is_numbered : (r : Record) (at : Ref) (h : Hunk) → Contains r.change.hunks h → Contains (refs_of h) at → IsNumbered (length r.change.needs) at
ref_is_numbered r at h m n = refs_numbered (parts_of r.change) r.change.keeps h at m n

-- ---- insertions

insert_nonempty : (needs first : ℕ) (file : Ref) (ups downs : List Ref) (bytes : List ℕ) → is_hunk needs first (Insert file ups downs bytes) ≡ true → 1 ≤ length bytes
unfolding is_hunk
insert_nonempty needs first file ups downs bytes e = grind (arith, nat_tests)

-- an insertion has a byte
pub insertion_some : (r : Record) (file : Ref) (ups downs : List Ref) (bytes : List ℕ) → Contains r.change.hunks (Insert file ups downs bytes) → 1 ≤ length bytes
insertion_some r file ups downs bytes m =
    let rule = hunk_rule (parts_of r.change) r.change.keeps (Insert file ups downs bytes) m in
    insert_nonempty (length r.change.needs) rule.0 file ups downs bytes rule.1

pub ups_numbered : (r : Record) (file : Ref) (ups downs : List Ref) (bytes : List ℕ) → Contains r.change.hunks (Insert file ups downs bytes) → (up : Ref) → Contains ups up → IsNumbered (length r.change.needs) up
ups_numbered r file ups downs bytes m up n = ref_is_numbered r up (Insert file ups downs bytes) m (later_member file (ups ++ downs) up (first_part ups downs up n))

pub downs_numbered : (r : Record) (file : Ref) (ups downs : List Ref) (bytes : List ℕ) → Contains r.change.hunks (Insert file ups downs bytes) → (down : Ref) → Contains downs down → IsNumbered (length r.change.needs) down
downs_numbered r file ups downs bytes m down n = ref_is_numbered r down (Insert file ups downs bytes) m (later_member file (ups ++ downs) down (second_part ups downs down n))

-- ---- the hunks in turn

pub record IsHunkAt (r : Record) (i : ℕ) (h : Hunk) : Type 0 where
  pub there : slice_get r.change.hunks i ≡ Some h
  pub next : place r.change.hunks (i + 1) ≡ place r.change.hunks i + position_count h
  pub small : place r.change.hunks i + position_count h < 2 ^ 32

hunk_of : (r : Record) (i : ℕ) (h : Hunk) → h ≡ get_or r.change.hunks i h → i < length r.change.hunks → IsHunkAt r i h
hunk_of r i h is low = record {
  there = slice_get_read r.change.hunks _ i h refl low is;
  next = sum_by_more position_count r.change.hunks i h low ∙ ap (λ g. place r.change.hunks i + position_count g) (sym is);
  small = omega (arith, few_upto r.change r.change.hunks i h refl is low);
}

pub hunk_read : (r : Record) (hunks : List Hunk) (i : ℕ) (h : Hunk) → hunks ≡ r.change.hunks → h ≡ get_or hunks i h → i < length hunks → IsHunkAt r i h
hunk_read r hunks i h e is low = hunk_of r i h (subst (λ hs. h ≡ get_or hs i h) e is) (subst (λ hs. i < length hs) e low)

-- ---- what stands at a distance into a hunk

kind_into : (k first : ℕ) (hs : List Hunk) (i : ℕ) (h : Hunk) (at : ℕ) → slice_get hs i ≡ Some h → at < position_count h →
    kind_from k first hs (sum_by position_count (take i hs) + at) ≡ Some (kind_in (k + i) (first + sum_by position_count (take i hs)) h at)
kind_into k first [] i h at e low = absurd (let l = slice_get_within [] i h e in omega (arith, l))
kind_into k first (g ∷ hs) zero h at e low =
    let whole : sum_by position_count (take 0 (g ∷ hs)) + at ≡ at = omega arith in
    let same : g ≡ h = same_Some g h e in
    let l : nat_lt at (position_count g) ≡ true = ap (λ f. nat_lt at (position_count f)) same ∙ lt-ltb at (position_count h) low in
    let zero_k : k + 0 ≡ k = omega arith in
    let zero_first : first + 0 ≡ first = omega arith in
    ap (kind_from k first (g ∷ hs)) whole ∙ kind_cons_here k first at g hs l ∙ ap (λ f. Some (kind_in k first f at)) same ∙ ap (λ n. Some (kind_in n first h at)) (sym zero_k) ∙ ap (λ n. Some (kind_in (k + 0) n h at)) (sym zero_first)
kind_into k first (g ∷ hs) (suc i) h at e low =
    let before = sum_by position_count (take i hs) in
    let total : sum_by position_count (take (suc i) (g ∷ hs)) ≡ position_count g + before = sum_by-cons position_count g (take i hs) in
    let sum : sum_by position_count (take (suc i) (g ∷ hs)) + at ≡ position_count g + before + at = ap (λ n. n + at) total in
    let past : nat_lt (position_count g + before + at) (position_count g) ≡ false = le-ltb (position_count g + before + at) (position_count g) (omega arith) in
    let left : position_count g + before + at - position_count g ≡ before + at = omega arith in
    let number : k + 1 + i ≡ k + suc i = omega arith in
    let start : first + position_count g + before ≡ first + sum_by position_count (take (suc i) (g ∷ hs)) = omega (arith, total) in
    ap (kind_from k first (g ∷ hs)) sum
    ∙ kind_cons_on k first (position_count g + before + at) g hs past
    ∙ ap (kind_from (k + 1) (first + position_count g) hs) left
    ∙ kind_into (k + 1) (first + position_count g) hs i h at e low
    ∙ ap (λ n. Some (kind_in n (first + position_count g + before) h at)) number
    ∙ ap (λ n. Some (kind_in (k + suc i) n h at)) start

-- at the first position of a hunk and a distance from it stands what the hunk has there
pub kind_at_into : (hs : List Hunk) (i : ℕ) (h : Hunk) (at : ℕ) → slice_get hs i ≡ Some h → at < position_count h → kind_at hs (place hs i + at) ≡ Some (kind_in i (place hs i) h at)
kind_at_into hs i h at e low =
    let number : 0 + i ≡ i = omega arith in
    let start : 0 + place hs i ≡ place hs i = omega arith in
    kind_into 0 0 hs i h at e low ∙ ap (λ n. Some (kind_in n (0 + place hs i) h at)) number ∙ ap (λ n. Some (kind_in i n h at)) start

-- and at its first position
pub kind_at_first : (hs : List Hunk) (i : ℕ) (h : Hunk) → slice_get hs i ≡ Some h → 0 < position_count h → kind_at hs (place hs i) ≡ Some (kind_in i (place hs i) h 0)
kind_at_first hs i h e some = (let first : place hs i ≡ place hs i + 0 = omega arith in ap (kind_at hs) first ∙ kind_at_into hs i h 0 e some)
