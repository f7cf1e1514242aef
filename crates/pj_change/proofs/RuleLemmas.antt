-- What the rules of a hunk say of its parts.
use Rattle.std.proofs.Common.{◌≡◌, ℕ, ◌+◌, zero, suc, ◌<◌, ◌≤◌, Bool, true, false, ◌&&◌, List, [], ◌∷◌, length, take, get_or, refl, sym, ap, ◌∙◌, length-append, arith, inl, inr, ◌⊎◌}
use Rattle.std.specs.Prelude.{sum_by, flat_map}
use Rattle.std.proofs.lemmas.Bool.{and_parts, and_from}
use Rattle.std.proofs.lemmas.Bool.Decides.{nat_tests}
use Rattle.std.proofs.lemmas.List.Sums.{sum_by-cons}
use Rattle.pj_change.specs.declared.point.Ref.{Ref}
use Rattle.pj_change.specs.declared.hunk.Hunk.{Hunk}
use Rattle.pj_change.specs.declared.hunk.Hunk.TheVariants.{Insert, Delete, Revive}
use Rattle.pj_change.specs.Rules.{KeepsRules, is_hunk, are_hunks, position_count, are_refs, is_range, are_owners}

-- the numbers of references in an insertion
pub record InsertRules (ups downs : List Ref) (bytes : List ℕ) : Type 0 where
  pub some_ups : 1 ≤ length ups
  pub few_ups : length ups ≤ 64
  pub few_downs : length downs ≤ 64
  pub some_bytes : 1 ≤ length bytes

of_insert : (needs first : ℕ) (file : Ref) (ups downs : List Ref) (bytes : List ℕ) → is_hunk needs first (Insert file ups downs bytes) ≡ true → InsertRules ups downs bytes
unfolding is_hunk are_refs
of_insert needs first file ups downs bytes h = record {
  some_ups = grind (arith, nat_tests);
  few_ups = grind (arith, nat_tests);
  few_downs = grind (arith, nat_tests);
  some_bytes = grind (arith, nat_tests);
}

pub insert_rule : (h : Hunk) (file : Ref) (ups downs : List Ref) (bytes : List ℕ) → KeepsRules h → h ≡ Insert file ups downs bytes → InsertRules ups downs bytes
insert_rule h file ups downs bytes k e = let is : is_hunk k.needs k.first (Insert file ups downs bytes) ≡ true = rw e at k.is in of_insert k.needs k.first file ups downs bytes is

-- the numbers of needs in a deletion
pub record OwnersRules (by : List ℕ) : Type 0 where
  pub some : 1 ≤ length by
  pub few : length by ≤ 64

of_range : (needs first owner start end : ℕ) (by : List ℕ) → is_range needs owner start end by ≡ true → OwnersRules by
unfolding is_range are_owners
of_range needs first owner start end by h = record { some = grind (arith, nat_tests); few = grind (arith, nat_tests) }

of_either : (needs first : ℕ) (h : Hunk) (owner start end : ℕ) (by : List ℕ) → is_hunk needs first h ≡ true → (h ≡ Delete owner start end by) ⊎ (h ≡ Revive owner start end by) → is_range needs owner start end by ≡ true
unfolding is_hunk
of_either needs first h owner start end by k (inl e) = rw e at k
of_either needs first h owner start end by k (inr e) = rw e at k

pub range_rule : (h : Hunk) (owner start end : ℕ) (by : List ℕ) → KeepsRules h → (h ≡ Delete owner start end by) ⊎ (h ≡ Revive owner start end by) → OwnersRules by
range_rule h owner start end by k e = of_range k.needs k.first owner start end by (of_either k.needs k.first h owner start end by k.is e)

-- ---- the hunks one after another

and_true : (b : Bool) → (b && true) ≡ b
and_true true = refl
and_true false = refl

and_regroup : (a b c : Bool) → (a && (b && c)) ≡ (a && b && c)
and_regroup true b c = refl
and_regroup false b c = refl

-- the rules of the first hunks, and of one more
pub are_hunks_more : (needs first : ℕ) (hs : List Hunk) (i : ℕ) (d : Hunk) → i < length hs →
    are_hunks needs first (take (i + 1) hs) ≡ (are_hunks needs first (take i hs) && is_hunk needs (first + sum_by position_count (take i hs)) (get_or hs i d))
unfolding are_hunks
are_hunks_more needs first [] i d low = absurd (omega arith)
are_hunks_more needs first (h ∷ hs) zero d low = let none : first + 0 ≡ first = omega arith in rw none (and_true (is_hunk needs first h))
are_hunks_more needs first (h ∷ hs) (suc i) d low =
    let next : suc i + 1 ≡ suc (i + 1) = omega arith in
    let first_of : first + position_count h + sum_by position_count (take i hs) ≡ first + sum_by position_count (h ∷ take i hs) = omega (arith, sum_by-cons position_count h (take i hs)) in
    let rest = are_hunks_more needs (first + position_count h) hs i d (omega arith) in
    ap (λ n. are_hunks needs first (take n (h ∷ hs))) next
    ∙ ap (λ b. is_hunk needs first h && b) rest
    ∙ and_regroup (is_hunk needs first h) _ _
    ∙ ap (λ n. is_hunk needs first h && are_hunks needs (first + position_count h) (take i hs) && is_hunk needs n (get_or hs i d)) first_of

-- the answer for one hunk more, where those before it keep the rules
pub are_hunks_step : (needs at : ℕ) (hs : List Hunk) (i : ℕ) (h : Hunk) (answer : Bool) → i < length hs → h ≡ get_or hs i h → at ≡ sum_by position_count (take i hs) →
    are_hunks needs 0 (take i hs) ≡ true → answer ≡ is_hunk needs at h → are_hunks needs 0 (take (i + 1) hs) ≡ answer
are_hunks_step needs at hs i h answer low is first before said =
    let from : 0 + sum_by position_count (take i hs) ≡ at = omega (arith, first) in
    are_hunks_more needs 0 hs i h low
    ∙ ap (λ b. b && is_hunk needs (0 + sum_by position_count (take i hs)) (get_or hs i h)) before
    ∙ ap (λ n. is_hunk needs n (get_or hs i h)) from
    ∙ ap (is_hunk needs at) (sym is)
    ∙ sym said

-- the first hunks of hunks that keep the rules
pub are_hunks-take : (needs first : ℕ) (hs : List Hunk) (i : ℕ) → are_hunks needs first hs ≡ true → are_hunks needs first (take i hs) ≡ true
unfolding are_hunks
are_hunks-take needs first hs zero k = refl
are_hunks-take needs first [] (suc i) k = refl
are_hunks-take needs first (h ∷ hs) (suc i) k =
    let both = and_parts (is_hunk needs first h) (are_hunks needs (first + position_count h) hs) k in
    and_from _ _ both.0 (are_hunks-take needs (first + position_count h) hs i both.1)

pub length-flat_map : {X Y : Type 0} (f : X → List Y) (xs : List X) → length (flat_map f xs) ≡ sum_by (λ x. length (f x)) xs
length-flat_map f [] = refl
length-flat_map f (x ∷ xs) = omega (arith, length-append (f x) (flat_map f xs), length-flat_map f xs, sum_by-cons (λ y. length (f y)) x xs)
