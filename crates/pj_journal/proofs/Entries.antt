-- Entries of a file, one behind another.
use Rattle.std.proofs.Common.{◌≡◌, ◌∙◌, inl, inr, ℕ, ◌+◌, ◌≤◌, ◌<◌, List, [], ◌∷◌, ◌++◌, length, take, drop, refl, sym, ap, subst, arith}
use Rattle.std.proofs.lemmas.Bool.{cases_lt}
use Rattle.std.proofs.lemmas.Bool.Decides.{nat_tests}
use Rattle.std.specs.Int.{w64, from_be_bytes}
use Rattle.pj_journal.specs.Format.{empty_file}
use Rattle.pj_journal.specs.Stored.{IsClosedAt, EntryAt, end_of, Spans, Reads, Stores}
use Rattle.pj_journal.specs.Appended.{opened}
use Rattle.pj_journal.proofs.Slices.{same_within, part_within}

-- an entry ends within the file
pub entry_within : (file : List ℕ) (place : ℕ) (string : List ℕ) → EntryAt file place string → place + 9 + length string ≤ length file
entry_within file place string entry = part_within file string (place + 9) entry.storable.some entry.text

-- so does a closed gate
pub closed_within : (file : List ℕ) (place : ℕ) → IsClosedAt file place → place + 1 ≤ length file
closed_within file place closed = part_within file (0 ∷ []) place (omega arith) closed

pub end_behind : (place : ℕ) (strings : List (List ℕ)) → place ≤ end_of place strings
end_behind place [] = omega arith
end_behind place (string ∷ strings) = omega (arith, end_behind (place + (9 + length string)) strings)

-- files that agree up to the end have the same entries
entry_agrees : (m : ℕ) (a b : List ℕ) (place : ℕ) (string : List ℕ)
    → take m a ≡ take m b → place + (9 + length string) ≤ m → EntryAt a place string → EntryAt b place string
entry_agrees m a b place string same within entry =
    let gate = same_within m place 1 a b same (omega arith) in
    let size = same_within m (place + 1) 8 a b same (omega arith) in
    let text = same_within m (place + 9) (length string) a b same (omega arith) in
    record {
      is_open = λ closed. entry.is_open (gate ∙ closed);
      storable = entry.storable;
      size = ap (from_be_bytes w64) (sym size) ∙ entry.size;
      text = sym text ∙ entry.text;
    }

pub spans_agree : (m : ℕ) (a b : List ℕ) (place : ℕ) (strings : List (List ℕ))
    → take m a ≡ take m b → end_of place strings ≤ m → Spans a place strings → Spans b place strings
spans_agree m a b place [] same within spans = tt
spans_agree m a b place (string ∷ strings) same within spans =
    let behind = end_behind (place + (9 + length string)) strings in (
      entry_agrees m a b place string same (omega arith) spans.0,
      spans_agree m a b (place + (9 + length string)) strings same within spans.1,
    )

-- one entry more
pub spans_push : (file : List ℕ) (place : ℕ) (strings : List (List ℕ)) (string : List ℕ)
    → Spans file place strings → EntryAt file (end_of place strings) string → Spans file place (strings ++ string ∷ [])
spans_push file place [] string spans entry = (entry, tt)
spans_push file place (first ∷ strings) string spans entry =
    (spans.0, spans_push file (place + (9 + length first)) strings string spans.1 entry)

pub end_push : (place : ℕ) (strings : List (List ℕ)) (string : List ℕ)
    → end_of place (strings ++ string ∷ []) ≡ end_of place strings + (9 + length string)
end_push place [] string = refl
end_push place (first ∷ strings) string = end_push (place + (9 + length first)) strings string

-- one string stands at a place at most
same_string : (file : List ℕ) (place : ℕ) (a b : List ℕ) → EntryAt file place a → EntryAt file place b → a ≡ b
same_string file place a b entry other =
    let size : length a ≡ length b = sym entry.size ∙ other.size in
    sym entry.text ∙ ap (λ n. take n (drop (place + 9) file)) size ∙ other.text

one_list : (file : List ℕ) (place : ℕ) (strings others : List (List ℕ))
    → Spans file place strings → IsClosedAt file (end_of place strings)
    → Spans file place others → IsClosedAt file (end_of place others) → strings ≡ others
one_list file place [] [] spans closed other_spans other_closed = refl
one_list file place [] (other ∷ others) spans closed other_spans other_closed = absurd (other_spans.0.is_open closed)
one_list file place (string ∷ strings) [] spans closed other_spans other_closed = absurd (spans.0.is_open other_closed)
one_list file place (string ∷ strings) (other ∷ others) spans closed other_spans other_closed =
    let first : string ≡ other = same_string file place string other spans.0 other_spans.0 in
    let rest : strings ≡ others =
    one_list file (place + (9 + length string)) strings others spans.1 closed
    (subst (λ s. Spans file (place + (9 + length s)) others) (sym first) other_spans.1)
    (subst (λ s. IsClosedAt file (end_of (place + (9 + length s)) others)) (sym first) other_closed) in
    λ i. first i ∷ rest i

-- a file of at most 9 bytes has no entry
no_entry : (file : List ℕ) (strings : List (List ℕ)) → length file ≤ 9 → Spans file 8 strings → strings ≡ []
no_entry file [] short spans = refl
no_entry file (string ∷ strings) short spans =
    let within = entry_within file 8 string spans.0 in absurd (omega (arith, within, short))

pub reads_stores : (file : List ℕ) (strings : List (List ℕ)) → Reads file strings → Stores file strings
reads_stores file strings reads = elim (cases_lt 9 (length file)) [
  | inl longer ↦ inr (longer, reads)
  | inr short ↦ inl (short, no_entry file strings short reads.entries)
]

pub stores_one : (file : List ℕ) (strings others : List (List ℕ)) → Stores file strings → Stores file others → strings ≡ others
stores_one file strings others (inl none) (inl other) = none.1 ∙ sym other.1
stores_one file strings others (inl none) (inr other) = absurd (omega (arith, none.0, other.0))
stores_one file strings others (inr reads) (inl none) = absurd (omega (arith, none.0, reads.0))
stores_one file strings others (inr reads) (inr other) = one_list file 8 strings others reads.1.entries reads.1.closed other.1.entries other.1.closed

-- the file of no string
pub reads_empty : Reads empty_file []
reads_empty = record { header = refl; entries = tt; closed = refl }

-- opening keeps the list
pub opened_short : (file : List ℕ) → length file ≤ 9 → opened file ≡ empty_file
opened_short file short = grind (arith, nat_tests)

pub opened_long : (file : List ℕ) → 9 < length file → opened file ≡ file
opened_long file long = grind (arith, nat_tests)

pub reads_opened : (file : List ℕ) (strings : List (List ℕ)) → Reads file strings → Reads (opened file) strings
reads_opened file strings reads = elim (cases_lt 9 (length file)) [
  | inl longer ↦ subst (λ f. Reads f strings) (sym (opened_long file longer)) reads
  | inr short ↦
      subst (λ f. Reads f strings) (sym (opened_short file short))
      (subst (λ list. Reads empty_file list) (sym (no_entry file strings short reads.entries)) reads_empty)
]
