-- How many changes the channels have.
use Rattle.std.proofs.Common.{◌≡◌, refl, ap, ◌∙◌, ℕ, zero, suc, ◌+◌, ◌-◌, ◌/◌, ◌%◌, ◌<◌, ◌≤◌, ◌⊎◌, ◌≢◌, inl, inr, true, false, List, [], ◌∷◌, ◌++◌, length, length-append, append_assoc, arith}
use Rattle.std.specs.Prelude.{nat_eq, codes, decimal, slice_index_or}
use Rattle.std.specs.List.{flat_map}
use Rattle.std.proofs.lemmas.List.{get_or_default}
use Rattle.std.proofs.lemmas.Bool.Decides.{eqb_tells}
use Rattle.std.proofs.lemmas.List.{append-nil}
use Rattle.pj_change.specs.Text.{line}
use Rattle.pj_gen.specs.declared.telling.Found.{Found}
use Rattle.pj_gen.specs.declared.telling.Found.TheVariants.{Digest, Wide}
use Rattle.pj_gen.specs.Changes.{eight, line_name, change_text}
use Rattle.pj_gen.specs.Requests.{main}
use Rattle.pj_gen.specs.Summary.{line_texts, all_texts, found_words, channel_line, line_row, head, IsFoundOf, IsSummary}

-- one change more of the line, and one more of another
own_more : (number l n : ℕ) → nat_eq (n % 8) l ≡ true → length (line_texts number l (suc n)) ≡ length (line_texts number l n) + 1
unfolding line_texts
own_more number l n here = rw here (length-append (line_texts number l n) (change_text number n ∷ []))

other_more : (number l n : ℕ) → nat_eq (n % 8) l ≡ false → length (line_texts number l (suc n)) ≡ length (line_texts number l n)
unfolding line_texts
other_more number l n there = rw there (ap length (append-nil (line_texts number l n)))

line_start : (number l : ℕ) → length (line_texts number l 0) ≡ 1
unfolding line_texts
line_start number l = refl

line_step : (number l n : ℕ) → l < 8 → length (line_texts number l n) ≡ 1 + (n + 7 - l) / 8 →
    ((nat_eq (n % 8) l ≡ true) × (n % 8 ≡ l)) ⊎ ((nat_eq (n % 8) l ≡ false) × (n % 8 ≢ l)) →
    length (line_texts number l (suc n)) ≡ 1 + (suc n + 7 - l) / 8
line_step number l n small before (inl (here, e)) =
    let more = own_more number l n here in
    omega arith
line_step number l n small before (inr (there, e)) =
    let more = other_more number l n there in
    omega arith

pub line_length : (number l n : ℕ) → l < 8 → length (line_texts number l n) ≡ 1 + (n + 7 - l) / 8
line_length number l zero small =
    let start = line_start number l in
    omega arith
line_length number l (suc n) small = line_step number l n small (line_length number l n small) (eqb_tells (n % 8) l)

all_start : (number : ℕ) → length (all_texts number 0) ≡ 1
unfolding all_texts
all_start number = refl

all_more : (number n : ℕ) → length (all_texts number (suc n)) ≡ length (all_texts number n) + 1
unfolding all_texts
all_more number n = length-append (all_texts number n) (change_text number n ∷ [])

pub all_length : (number n : ℕ) → length (all_texts number n) ≡ n + 1
all_length number zero = all_start number
all_length number (suc n) =
    let before = all_length number n in
    let more = all_more number n in
    omega arith

-- ---- the lines of channels

pub channel_pieces : (o name : List ℕ) (count : ℕ) (found : Found) →
    ((((o ++ codes "channel ") ++ name) ++ codes " ") ++ decimal count) ++ codes " " ++ line (found_words found) ≡ o ++ channel_line name count found
unfolding channel_line
channel_pieces o name count (Digest d) = simp append_assoc
channel_pieces o name count (Wide inode) = simp append_assoc

pub row_of : (number changes l count : ℕ) (name : List ℕ) (found : Found) → name ≡ line_name l →
    count ≡ length (line_texts number l (changes - 1)) → channel_line name count found ≡ line_row number changes l found
unfolding line_row
row_of number changes l count name found en ec = rw (en, ec) refl

-- what was read at l is there whatever the default
pub read_row : (number changes l : ℕ) (lines : List Found) (read d : Found) → read ≡ slice_index_or lines l read → l < length lines →
    (before after : List ℕ) → after ≡ before ++ line_row number changes l read → after ≡ before ++ line_row number changes l (slice_index_or lines l d)
read_row number changes l lines read d is inside before after e =
    e ∙ ap (λ f. before ++ line_row number changes l f) (is ∙ get_or_default lines l read d inside)

-- the summary
pub summarised : (number changes sessions : ℕ) (lines : List Found) (all : Found) (bytes : List ℕ) → 1 ≤ changes →
    bytes ≡ head changes sessions ++ flat_map (λ l. line_row number changes l (slice_index_or lines l all)) eight ++ channel_line main changes all →
    ((l : ℕ) → l < 8 → IsFoundOf (line_texts number l (changes - 1)) (slice_index_or lines l all)) →
    IsFoundOf (all_texts number (changes - 1)) all → IsSummary number changes sessions bytes
summarised number changes sessions lines all bytes some e lines_are all_is =
    let count : changes ≡ length (all_texts number (changes - 1)) = (let is = all_length number (changes - 1) in omega arith) in
    record {
      lines = λ l. slice_index_or lines l all;
      all = all;
      lines_are = lines_are;
      all_is = all_is;
      bytes_are = e ∙ ap (λ n. head changes sessions ++ flat_map (λ l. line_row number changes l (slice_index_or lines l all)) eight ++ channel_line main n all) count;
    }

pub eight_appended : (o a b c d e f g h p q r s t u v w : List ℕ) →
    p ≡ o ++ a → q ≡ p ++ b → r ≡ q ++ c → s ≡ r ++ d → t ≡ s ++ e → u ≡ t ++ f → v ≡ u ++ g → w ≡ v ++ h →
    w ≡ o ++ (a ++ (b ++ (c ++ (d ++ (e ++ (f ++ (g ++ (h ++ []))))))))
eight_appended o a b c d e f g h p q r s t u v w ep eq er es et eu ev ew =
    rw (ew, ev, eu, et, es, er, eq, ep, append-nil h) (simp append_assoc)
