-- The rules of a change make its spelling readable.
use Rattle.std.proofs.Common.{◌≡◌, ℕ, ◌+◌, ◌^◌, ◌<◌, ◌≤◌, Bool, true, ◌&&◌, leb, ltb, List, [], ◌∷◌, ◌++◌, length, arith}
use Rattle.std.specs.List.{flat_map, list_all, AllByRecursion}
use Rattle.std.proofs.lemmas.Bool.{and_parts, leb-true, ltb-true}
use Rattle.std.proofs.lemmas.List.{length-append}
use Rattle.pj_change.specs.declared.point.Ref.{Ref}
use Rattle.pj_change.specs.declared.hunk.Hunk.{Hunk}
use Rattle.pj_change.specs.declared.hunk.Hunk.TheVariants.{File, Dir, NameOf, Insert, Order, Delete, Revive}
use Rattle.pj_change.specs.Text.{Parts, line, word, operands, hunk_text}
use Rattle.pj_change.specs.Rules.{rising, ref_below, position_count, is_file_name, is_ref, are_refs, is_need, are_owners, is_range, is_hunk, are_hunks, IsChange}
use Rattle.pj_text.proofs.FieldLaws.{IsSmall}
use Rattle.pj_text.proofs.ReadHunks.{AreSmall, AreNumbers, IsReadable}
use Rattle.pj_change.proofs.SpelledChanges.{name_line, small_ref}
use Rattle.pj_change.proofs.PlaceLemmas.{longest-le, hunks-le}

-- each member has what the test shows
all_shown : {X : Type 0} (test : X → Bool) (P : X → Type 0) → ((x : X) → test x ≡ true → P x) → (xs : List X) → list_all test xs ≡ true → AllByRecursion P xs
all_shown test P shows [] h = tt
all_shown test P shows (x ∷ xs) h = let p = and_parts (test x) (list_all test xs) h in (shows x p.0, all_shown test P shows xs p.1)

small_refs : (needs first : ℕ) (rs : List Ref) → needs ≤ 256 → are_refs needs first rs ≡ true → AreSmall rs
unfolding are_refs
small_refs needs first rs few h =
    let p = and_parts (leb (length rs) 64 && rising ref_below rs) (list_all (is_ref needs first) rs) h in
    let q = and_parts (leb (length rs) 64) (rising ref_below rs) p.0 in
    record { few = leb-true (length rs) 64 q.0; small = all_shown (is_ref needs first) IsSmall (λ at k. small_ref needs first at few k) rs p.1 }

small_need : (needs k : ℕ) → needs ≤ 256 → is_need needs k ≡ true → k < 2 ^ 32
unfolding is_need
small_need needs k few h = let p = and_parts (leb 1 k) (leb k needs) h in omega (arith, leb-true k needs p.1, few)

small_owners : (needs : ℕ) (by : List ℕ) → needs ≤ 256 → are_owners needs by ≡ true → AreNumbers by
unfolding are_owners
small_owners needs [] few h = absurd cc
small_owners needs (k ∷ ks) few h =
    let p = and_parts (leb 1 (length (k ∷ ks)) && leb (length (k ∷ ks)) 64 && rising ltb (k ∷ ks)) (list_all (is_need needs) (k ∷ ks)) h in
    let q = and_parts (leb 1 (length (k ∷ ks)) && leb (length (k ∷ ks)) 64) (rising ltb (k ∷ ks)) p.0 in
    let r = and_parts (leb 1 (length (k ∷ ks))) (leb (length (k ∷ ks)) 64) q.0 in
    let short = leb-true (length (k ∷ ks)) 64 r.1 in
    let all = all_shown (is_need needs) (λ n. n < 2 ^ 32) (λ n t. small_need needs n few t) (k ∷ ks) p.1 in
    (omega (arith, short), all.0, all.1)

pub record IsSmallRange (owner start end : ℕ) (by : List ℕ) : Type 0 where
  pub owner_is : owner < 2 ^ 32
  pub start_is : start < 2 ^ 32
  pub end_is : end < 2 ^ 32
  pub by_are : AreNumbers by

small_range : (needs owner start end : ℕ) (by : List ℕ) → needs ≤ 256 → is_range needs owner start end by ≡ true → IsSmallRange owner start end by
unfolding is_range
small_range needs owner start end by few h =
    let p = and_parts (is_need needs owner && ltb start end && ltb end (2 ^ 32)) (are_owners needs by) h in
    let q = and_parts (is_need needs owner && ltb start end) (ltb end (2 ^ 32)) p.0 in
    let r = and_parts (is_need needs owner) (ltb start end) q.0 in
    let last : end < 2 ^ 32 = ltb-true end (2 ^ 32) q.1 in
    record { owner_is = small_need needs owner few r.0; start_is = omega (arith, ltb-true start end r.1, last); end_is = last; by_are = small_owners needs by few p.1 }

block-le : (file : Ref) (ups downs : List Ref) (block : List ℕ) → length block ≤ length (hunk_text (Insert file ups downs block))
unfolding hunk_text
block-le file ups downs block =
    let front : List ℕ = line (word (Insert file ups downs block) ∷ operands (Insert file ups downs block)) in
    omega (arith, length-append front (block ++ 10 ∷ []), length-append block (10 ∷ []))

readable : (needs first : ℕ) (h : Hunk) → needs ≤ 256 → is_hunk needs first h ≡ true → length (hunk_text h) < 2 ^ 32 → IsReadable h
unfolding is_hunk
readable needs first (File parent name exec) few rule short =
    let p = and_parts (is_ref needs first parent) (is_file_name name) rule in
    (small_ref needs first parent few p.0, name_line name p.1)
readable needs first (Dir parent name) few rule short =
    let p = and_parts (is_ref needs first parent) (is_file_name name) rule in
    (small_ref needs first parent few p.0, name_line name p.1)
readable needs first (NameOf parent child name exec) few rule short =
    let p = and_parts (is_ref needs first parent && is_ref needs first child) (is_file_name name) rule in
    let q = and_parts (is_ref needs first parent) (is_ref needs first child) p.0 in
    (small_ref needs first parent few q.0, small_ref needs first child few q.1, name_line name p.1)
readable needs first (Insert file ups downs block) few rule short =
    let p = and_parts (is_ref needs first file && leb 1 (length ups) && are_refs needs first ups && are_refs needs first downs) (leb 1 (length block)) rule in
    let q = and_parts (is_ref needs first file && leb 1 (length ups) && are_refs needs first ups) (are_refs needs first downs) p.0 in
    let r = and_parts (is_ref needs first file && leb 1 (length ups)) (are_refs needs first ups) q.0 in
    let s = and_parts (is_ref needs first file) (leb 1 (length ups)) r.0 in
    (small_ref needs first file few s.0, small_refs needs first ups few r.1, small_refs needs first downs few q.1, omega (arith, block-le file ups downs block, short))
readable needs first (Order file source target) few rule short =
    let p = and_parts (is_ref needs first file && is_ref needs first source) (is_ref needs first target) rule in
    let q = and_parts (is_ref needs first file) (is_ref needs first source) p.0 in
    (small_ref needs first file few q.0, small_ref needs first source few q.1, small_ref needs first target few p.1)
readable needs first (Delete owner start end by) few rule short =
    let r = small_range needs owner start end by few rule in (r.owner_is, r.start_is, r.end_is, r.by_are)
readable needs first (Revive owner start end by) few rule short =
    let r = small_range needs owner start end by few rule in (r.owner_is, r.start_is, r.end_is, r.by_are)

all_readable : (needs first : ℕ) (hs : List Hunk) → needs ≤ 256 → are_hunks needs first hs ≡ true → length (flat_map hunk_text hs) < 2 ^ 32 → AllByRecursion IsReadable hs
unfolding are_hunks
all_readable needs first [] few rule short = tt
all_readable needs first (h ∷ hs) few rule short =
    let p = and_parts (is_hunk needs first h) (are_hunks needs (first + position_count h) hs) rule in
    let len = length-append (hunk_text h) (flat_map hunk_text hs) in
    (readable needs first h few p.0 (omega (arith, len, short)), all_readable needs (first + position_count h) hs few p.1 (omega (arith, len, short)))

pub hunks_readable : (p : Parts) → IsChange p → AllByRecursion IsReadable p.hunks
hunks_readable p rules =
    all_readable (length p.needs) 0 p.hunks rules.few_needs rules.hunks (omega (arith, hunks-le p, rules.short, longest-le p.version))
