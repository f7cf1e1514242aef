-- The changes keep the rules of changes.
use Rattle.std.proofs.Common.{◌≡◌, ◌≢◌, refl, sym, ap, ◌∙◌, ℕ, zero, suc, ◌+◌, ◌*◌, ◌/◌, ◌%◌, ◌^◌, ◌<◌, ◌≤◌, Bool, true, false, List, [], ◌∷◌, Option, Some, None, length, arith}
use Rattle.std.specs.Prelude.{nat_eq, nat_le, nat_lt, codes, decimal, map, if◌then◌else◌}
use Rattle.std.specs.List.{flat_map}
use Rattle.std.proofs.lemmas.Bool.{lt-ltb, ne_eqb}
use Rattle.std.proofs.lemmas.Bool.Decides.{nat_tests}
use Rattle.std.proofs.lemmas.Fmt.{decimal-digits_of, decimal_digit}
use Rattle.std.specs.Int.Digits.{digits_of}
use Rattle.std.specs.declared.cmp.Ordering.{Ordering}
use Rattle.std.specs.declared.cmp.Ordering.TheVariants.{Less, Equal, Greater}
use Rattle.std.specs.Cmp.Lexicographic.{bytes_decides}
use Rattle.std.proofs.lemmas.Map.Text.{is_eq-slice_cmp}
use Rattle.std.specs.Ordering.{is_eq, is_lt, ordering_reverse}
use Rattle.pj_name.specs.declared.name.Name.{Name}
use Rattle.pj_name.specs.Name.{name_below, name_cmp}
use Rattle.pj_name.proofs.Names.{name_cmp-total, names_by_bytes}
use Rattle.pj_change.specs.declared.point.Ref.{Ref}
use Rattle.pj_change.specs.declared.point.Ref.TheVariants.{At}
use Rattle.pj_change.specs.declared.hunk.Hunk.{Hunk}
use Rattle.pj_change.specs.declared.hunk.Hunk.TheVariants.{Insert, Delete}
use Rattle.pj_change.specs.Text.{Parts, text_of}
use Rattle.pj_change.specs.Rules.{IsChange, is_line, lacks, rising, ref_below, is_file_name, is_ref, are_refs, is_need, are_owners, is_range, is_hunk, are_hunks, each_pair, version_of}
use Rattle.pj_change.proofs.ChangeLemmas.{change_from}
use Rattle.pj_gen.specs.declared.draws.Draws.{Draws}
use Rattle.pj_gen.specs.declared.changes.Insertion.{Insertion}
use Rattle.pj_gen.specs.Draws.{draws_from, number_after}
use Rattle.pj_gen.specs.Changes.{eight, file_bytes, file_hunks, inode, first_byte, load_change, zero_text, zero_name, numbered, behind, deletion, insertion, following, insertion_or_following, change_after, last_insertion, change_text}
use Rattle.pj_gen.specs.Laws.{IsText, TextsAreChanges}
use Rattle.pj_gen.proofs.Calls.{number_short, numbered_length, deletion_short, insertion_short, following_short, zero_short, into_file, IsIntoFile, drawn_file, drawn_place}

-- ---- lines

digits_lack : (ds : List ℕ) → lacks 10 (map (λ d. 48 + d) ds) ≡ true
digits_lack [] = refl
digits_lack (d ∷ ds) = rw (ne_eqb (48 + d) 10 (λ h. absurd (omega arith)), digits_lack ds) refl

number_lacks : (i : ℕ) → i < 2 ^ 32 → lacks 10 (decimal i) ≡ true
number_lacks zero small = rw (decimal_digit 0 (omega arith)) refl
number_lacks (suc i) small =
    ap (λ t. lacks 10 t) (decimal-digits_of (suc i) (omega arith) (omega arith)) ∙ digits_lack (digits_of 10 (suc i))

number_line : (i : ℕ) → i < 2 ^ 32 → is_line (decimal i) ≡ true
unfolding is_line
number_line i small =
    let short = number_short i small in
    let fits : nat_le (length (decimal i)) 1000 ≡ true = grind (arith, nat_tests) in
    rw (fits, number_lacks i small) refl

author_line : is_line (codes "load") ≡ true
unfolding is_line
author_line = refl

-- ---- hunks

ref_kept : (needs owner offset : ℕ) → nat_le owner needs ≡ true → nat_eq owner 0 ≡ false → offset < 2 ^ 32 → is_ref needs 0 (At owner offset) ≡ true
unfolding is_ref
ref_kept needs owner offset few some small = rw (few, some, lt-ltb offset (2 ^ 32) small) refl

one_kept : (needs owner offset : ℕ) → is_ref needs 0 (At owner offset) ≡ true → are_refs needs 0 (At owner offset ∷ []) ≡ true
unfolding are_refs rising
one_kept needs owner offset e = rw e refl

none_kept : (needs : ℕ) → are_refs needs 0 [] ≡ true
unfolding are_refs rising
none_kept needs = refl

insert_kept : (needs : ℕ) (file up : Ref) (downs : List Ref) (bytes : List ℕ) → is_ref needs 0 file ≡ true → are_refs needs 0 (up ∷ []) ≡ true →
    are_refs needs 0 downs ≡ true → 1 ≤ length bytes → are_hunks needs 0 (Insert file (up ∷ []) downs bytes ∷ []) ≡ true
unfolding are_hunks is_hunk
insert_kept needs file up downs bytes ef eu ed some =
    let eb : nat_le 1 (length bytes) ≡ true = grind (arith, nat_tests) in
    rw (ef, eu, ed, eb) refl

delete_kept : (start : ℕ) → start < 10000 → are_hunks 1 0 (Delete 1 start (start + 8) (1 ∷ []) ∷ []) ≡ true
unfolding are_hunks is_hunk is_range is_need are_owners rising
delete_kept start low =
    let some : nat_lt start (start + 8) ≡ true = lt-ltb start (start + 8) (omega arith) in
    let small : nat_lt (start + 8) (2 ^ 32) ≡ true = lt-ltb (start + 8) (2 ^ 32) (omega arith) in
    rw (some, small) refl

-- ---- a change of one hunk

one_need : (i : ℕ) (need : Name) (h : Hunk) → i < 2 ^ 32 → are_hunks 1 0 (h ∷ []) ≡ true → nat_le (version_of h) 1 ≡ true →
    length (text_of (load_change i (need ∷ []) (h ∷ []))) ≤ 1048576 → IsChange (load_change i (need ∷ []) (h ∷ []))
unfolding rising each_pair
one_need i need h small kept first short =
    change_from (load_change i (need ∷ []) (h ∷ [])) (rw (number_line i small, author_line) refl) refl (rw first refl) small kept short

two_needs : (i : ℕ) (a b : Name) (h : Hunk) → i < 2 ^ 32 → name_below a b ≡ true → are_hunks 2 0 (h ∷ []) ≡ true → nat_le (version_of h) 1 ≡ true →
    length (text_of (load_change i (a ∷ b ∷ []) (h ∷ []))) ≤ 1048576 → IsChange (load_change i (a ∷ b ∷ []) (h ∷ []))
unfolding rising each_pair
two_needs i a b h small below kept first short =
    change_from (load_change i (a ∷ b ∷ []) (h ∷ [])) (rw (number_line i small, author_line) refl) (rw below refl) (rw first refl) small kept short

-- ---- the changes

deletion_is : (i : ℕ) (d : Draws) → i < 2 ^ 32 → d.file < 8 → d.place < 64 → IsChange (deletion i d)
unfolding deletion
deletion_is i d small file place =
    let start = first_byte d.file + 8 * (d.place / 8) in
    one_need i zero_name (Delete 1 start (start + 8) (1 ∷ [])) small (delete_kept start (omega arith)) refl (deletion_short i d small file place)

downs_kept : (b : Bool) (at : ℕ) → at < 10000 → are_refs 1 0 (if b then [] else At 1 (at + 1) ∷ []) ≡ true
downs_kept true at low = none_kept 1
downs_kept false at low = one_kept 1 1 (at + 1) (ref_kept 1 1 (at + 1) refl refl (omega arith))

insertion_is : (i : ℕ) (d : Draws) → i < 2 ^ 32 → d.file < 8 → d.place < 64 → IsChange (insertion i d)
unfolding insertion
insertion_is i d small file place =
    let at = first_byte d.file + d.place in
    let bytes = numbered_length i in
    let downs = if nat_eq d.place 63 then [] else At 1 (at + 1) ∷ [] in
    one_need i zero_name (Insert (At 1 (inode d.file)) (At 1 at ∷ []) downs (numbered i)) small
    (insert_kept 1 (At 1 (inode d.file)) (At 1 at) downs (numbered i)
    (ref_kept 1 1 (inode d.file) refl refl (omega arith)) (one_kept 1 1 at (ref_kept 1 1 at refl refl (omega arith))) (downs_kept (nat_eq d.place 63) at (omega arith)) (omega arith))
    refl (insertion_short i d small file place)

-- of two names that differ one is below the other
below_by : (m n : Name) (o : Ordering) → name_cmp m n ≡ o → m ≢ n → name_below m n ≡ false → name_below n m ≡ true
below_by m n Less e differ above = absurd (let h : name_below m n ≡ true = ap is_lt e in cc)
below_by m n Equal e differ above = absurd (differ (names_by_bytes m n ((bytes_decides m.bytes n.bytes).0 (sym (is_eq-slice_cmp m.bytes n.bytes) ∙ ap is_eq e))))
below_by m n Greater e differ above = ap is_lt (name_cmp-total.antisymm n m ∙ ap ordering_reverse e)

other_below : (m n : Name) → m ≢ n → name_below m n ≡ false → name_below n m ≡ true
other_below m n differ above = below_by m n (name_cmp m n) refl differ above

behind_kept : (i : ℕ) (last : Insertion) (z l : ℕ) → last.file < 8 → nat_le z 2 ≡ true → nat_eq z 0 ≡ false → nat_le l 2 ≡ true → nat_eq l 0 ≡ false →
    are_hunks 2 0 (behind i last z l ∷ []) ≡ true
behind_kept i last z l file z2 z0 l2 l0 =
    let bytes = numbered_length i in
    insert_kept 2 (At z (inode last.file)) (At l 7) [] (numbered i) (ref_kept 2 z (inode last.file) z2 z0 (omega arith)) (one_kept 2 l 7 (ref_kept 2 l 7 l2 l0 (omega arith))) (none_kept 2) (omega arith)

following_is : (i : ℕ) (last : Insertion) → i < 2 ^ 32 → last.file < 8 → last.name ≢ zero_name → IsChange (following i last)
unfolding following
following_is i last small file differ = by_order (name_below zero_name last.name) refl (following_short i last small file)
  where
    change_by : Bool → Parts
    change_by b = if b then load_change i (zero_name ∷ last.name ∷ []) (behind i last 1 2 ∷ []) else load_change i (last.name ∷ zero_name ∷ []) (behind i last 2 1 ∷ [])

    by_order : (b : Bool) → name_below zero_name last.name ≡ b → length (text_of (change_by b)) ≤ 1048576 → IsChange (change_by b)
    by_order true below short = two_needs i zero_name last.name (behind i last 1 2) small below (behind_kept i last 1 2 file refl refl refl refl) refl short
    by_order false above short =
        two_needs i last.name zero_name (behind i last 2 1) small (other_below zero_name last.name (λ h. differ (sym h)) above) (behind_kept i last 2 1 file refl refl refl refl) refl short

after_is : (last : Option Insertion) (i : ℕ) (d : Draws) → i < 2 ^ 32 → IsIntoFile last → ((it : Insertion) → last ≡ Some it → it.name ≢ zero_name) →
    d.file < 8 → d.place < 64 → IsChange (change_after last i d)
after_is last i d small into differ file place = by_kind (nat_eq d.kind 0)
  where
    further : (last : Option Insertion) → IsIntoFile last → ((it : Insertion) → last ≡ Some it → it.name ≢ zero_name) → IsChange (insertion_or_following last i d)
    further None into differ = insertion_is i d small file place
    further (Some last) into differ = by_third (nat_eq d.kind 3)
      where
        by_third : (b : Bool) → IsChange (if b then following i last else insertion i d)
        by_third true = following_is i last small into (differ last refl)
        by_third false = insertion_is i d small file place

    by_kind : (b : Bool) → IsChange (if b then deletion i d else insertion_or_following last i d)
    by_kind true = deletion_is i d small file place
    by_kind false = further last into differ

zero_hunks_kept : are_hunks 0 0 (flat_map file_hunks eight) ≡ true
unfolding are_hunks is_hunk is_ref are_refs rising ref_below is_file_name file_bytes
zero_hunks_kept = refl

zero_change : IsText zero_text
unfolding zero_text rising each_pair
zero_change =
    let hunks = flat_map file_hunks eight in (
      load_change 0 [] hunks,
      change_from (load_change 0 [] hunks) (rw (number_line 0 (omega arith), author_line) refl) refl refl (omega arith) zero_hunks_kept zero_short,
      refl,
    )

later_change : (number n : ℕ) → n + 1 < 2 ^ 32 → ((last : Insertion) → last_insertion number (n % 8) n ≡ Some last → last.name ≢ zero_name) → IsText (change_text number n)
unfolding change_text
later_change number n small differ =
    let last = last_insertion number (n % 8) n in
    let d = draws_from (number_after number n) in (
      change_after last (n + 1) d,
      after_is last (n + 1) d small (into_file number (n % 8) n) differ (drawn_file (number_after number n)) (drawn_place (number_after number n)),
      refl,
    )

pub all_changes : TextsAreChanges
all_changes = record { zero_is = zero_change; later_are = later_change }
