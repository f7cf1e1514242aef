-- What an append makes of a file, and what a crash leaves in the middle of it.
use Rattle.std.proofs.Common.{◌≡◌, ◌∙◌, ◌≢◌, ◌⊎◌, inl, inr, ⊎_elim, ℕ, zero, suc, ◌+◌, ◌^◌, ◌≤◌, ◌<◌, min, List, [], ◌∷◌, ◌++◌, length, take, drop, refl, sym, ap, arith, length-append}
use Rattle.std.proofs.lemmas.List.{take_at, drop_at}
use Rattle.std.proofs.lemmas.Nat.{from_be_bytes-to_be_bytes_8}
use Rattle.std.specs.Int.{w64, from_be_bytes, to_be_bytes}
use Rattle.pj_disk.specs.Image.{overwritten, Torn}
use Rattle.pj_journal.specs.Format.{framed, IsStorable}
use Rattle.pj_journal.specs.Stored.{IsClosedAt, EntryAt, end_of, Reads}
use Rattle.pj_journal.specs.Appended.{opened, appended, LeftByAppend, IsBeforeOrAfter}
use Rattle.pj_journal.specs.Laws.{GoesOnWith, TornTailNeverReturns}
use Rattle.pj_journal.proofs.Slices.{same_within, same_front, same_behind, overwritten_front, overwritten_behind, overwritten_rest, overwritten_part, overwritten_length}
use Rattle.pj_journal.proofs.Entries.{closed_within, end_behind, end_push, spans_agree, spans_push, reads_stores, reads_opened}

-- an open gate is not closed
pub one_not_zero : ◌≡◌ {A = List ℕ} (1 ∷ []) (0 ∷ []) → ⊥
one_not_zero same = cc

-- a gate is closed or open
pub closed_or_open : (bytes : List ℕ) → (take 1 bytes ≡ 0 ∷ []) ⊎ (take 1 bytes ≢ 0 ∷ [])
closed_or_open [] = inr (λ none. cc)
closed_or_open (zero ∷ bytes) = inl refl
closed_or_open (suc gate ∷ bytes) = inr (λ closed. cc)

pub length-framed : (string : List ℕ) → length (framed string) ≡ 9 + length string
length-framed string =
    length-append (to_be_bytes w64 (length string) ++ string) (0 ∷ [])
    ∙ ap (λ n. n + 1) (length-append (to_be_bytes w64 (length string)) string)
    ∙ omega arith

-- the parts of a frame
frame_size : (string : List ℕ) → take 8 (drop 0 (framed string)) ≡ to_be_bytes w64 (length string)
frame_size string = refl

frame_text : (string : List ℕ) → take (length string) (drop 8 (framed string)) ≡ string
frame_text string = take_at string (0 ∷ []) (length string) refl

frame_gate : (string : List ℕ) → take 1 (drop (8 + length string) (framed string)) ≡ 0 ∷ []
frame_gate string =
    ap (take 1) (drop_at (to_be_bytes w64 (length string) ++ string) (0 ∷ []) (8 + length string) (length-append (to_be_bytes w64 (length string)) string))

-- a frame behind a gate
module _ (file : List ℕ) (place : ℕ) (within : place + 1 ≤ length file) (string : List ℕ) where
  -- the file with the frame
  abbrev pub framed_at : List ℕ
  framed_at = overwritten file (place + 1) (framed string)

  -- a part of the frame
  framed_part : (j k : ℕ) → j + k ≤ length (framed string)
      → take k (drop (place + 1 + j) framed_at) ≡ take k (drop j (framed string))
  framed_part = overwritten_part file (place + 1) (framed string) within

  -- is an entry where the gate is open
  pub entry_framed : (c : List ℕ) → drop (place + 1) c ≡ drop (place + 1) framed_at → IsStorable string
      → take 1 (drop place c) ≢ 0 ∷ [] → EntryAt c place string
  entry_framed c rest storable is_open =
      let long = length-framed string in
      let fits : length string < 2 ^ 64 = omega (arith, storable.most) in
      let first : place + 1 + 0 ≡ place + 1 = omega arith in
      let second : place + 1 + 8 ≡ place + 9 = omega arith in
      let size : take 8 (drop (place + 1) c) ≡ to_be_bytes w64 (length string) =
      same_behind (place + 1) (place + 1) 8 c framed_at rest (omega arith)
      ∙ ap (λ n. take 8 (drop n framed_at)) (sym first) ∙ framed_part 0 8 (omega (arith, long)) ∙ frame_size string in
      let text : take (length string) (drop (place + 9) c) ≡ string =
      same_behind (place + 1) (place + 9) (length string) c framed_at rest (omega arith)
      ∙ ap (λ n. take (length string) (drop n framed_at)) (sym second) ∙ framed_part 8 (length string) (omega (arith, long)) ∙ frame_text string in
      record {
        is_open = is_open;
        storable = storable;
        size = ap (from_be_bytes w64) size ∙ from_be_bytes-to_be_bytes_8 (length string) fits;
        text = text;
      }

  -- and the gate behind it is closed
  pub gate_framed : (c : List ℕ) → drop (place + 1) c ≡ drop (place + 1) framed_at → IsClosedAt c (place + (9 + length string))
  gate_framed c rest =
      let long = length-framed string in
      let third : place + 1 + (8 + length string) ≡ place + (9 + length string) = omega arith in
      same_behind (place + 1) (place + (9 + length string)) 1 c framed_at rest (omega arith)
      ∙ ap (λ n. take 1 (drop n framed_at)) (sym third) ∙ framed_part (8 + length string) 1 (omega (arith, long)) ∙ frame_gate string

module _ (file : List ℕ) (strings : List (List ℕ)) (reads : Reads file strings) where
  abbrev place : ℕ
  place = end_of 8 strings

  behind : 8 ≤ place
  behind = end_behind 8 strings

  within : place + 1 ≤ length file
  within = closed_within file place reads.closed

  -- all that keeps the closed gate and what stands before it keeps the list
  pub reads_kept : (c : List ℕ) → take (place + 1) c ≡ take (place + 1) file → Reads c strings
  reads_kept c same = record {
    header = same_front (place + 1) 8 c file same (omega (arith, behind)) ∙ reads.header;
    entries = spans_agree (place + 1) file c 8 strings (sym same) (omega arith) reads.entries;
    closed = same_within (place + 1) place 1 c file same (omega arith) ∙ reads.closed;
  }

  -- and so does what a crash leaves of a write behind the gate
  pub reads_torn : (n : ℕ) (c : List ℕ) → Torn (place + 1) n file c → Reads c strings
  reads_torn n c torn =
      let most : min (place + 1) (length file) ≡ place + 1 = omega (arith, within) in
      reads_kept c (ap (λ m. take m c) (sym most) ∙ torn.before)

  -- all that keeps what stands before the gate, closed, keeps the list
  pub reads_less : (c : List ℕ) → take place c ≡ take place file → IsClosedAt c place → Reads c strings
  reads_less c front closed = record {
    header = same_front place 8 c file front behind ∙ reads.header;
    entries = spans_agree place file c 8 strings (sym front) (omega arith) reads.entries;
    closed = closed;
  }

  module _ (string : List ℕ) (storable : IsStorable string) where
    abbrev pub staged : List ℕ
    staged = overwritten file (place + 1) (framed string)

    staged_front : take (place + 1) staged ≡ take (place + 1) file
    staged_front = overwritten_front file (place + 1) (framed string) within

    pub staged_within : place + 1 ≤ length staged
    staged_within = omega (arith, overwritten_length file (place + 1) (framed string) within)

    -- where the gate is open and a frame stands behind it, there is one string more
    pub reads_more : (c : List ℕ) → take place c ≡ take place file → drop (place + 1) c ≡ drop (place + 1) staged
        → take 1 (drop place c) ≢ 0 ∷ [] → Reads c (strings ++ string ∷ [])
    reads_more c front rest is_open =
        record {
          header = same_front place 8 c file front behind ∙ reads.header;
          entries = spans_push c 8 strings string (spans_agree place file c 8 strings (sym front) (omega arith) reads.entries)
              (entry_framed file place within string c rest storable is_open);
          closed = ap (λ n. take 1 (drop n c)) (end_push 8 strings string) ∙ gate_framed file place within string c rest;
        }

    -- what a crash leaves while the gate is opened
    reads_either : (c : List ℕ) → Torn place 1 staged c → Reads c strings ⊎ Reads c (strings ++ string ∷ [])
    reads_either c torn =
        let most : min place (length staged) ≡ place = omega (arith, staged_within) in
        let front : take place c ≡ take place file =
        ap (λ m. take m c) (sym most) ∙ torn.before ∙ same_front (place + 1) place staged file staged_front (omega arith) in
        ⊎_elim (λ closed. inl (reads_less c front closed)) (λ is_open. inr (reads_more c front torn.after is_open)) (closed_or_open (drop place c))

    -- what a crash leaves of the whole append
    pub reads_left : (c : List ℕ) → LeftByAppend file place string c → Reads c strings ⊎ Reads c (strings ++ string ∷ [])
    reads_left c (inl torn) = inl (reads_torn (length (framed string)) c torn)
    reads_left c (inr torn) = reads_either c torn

    -- and what stands there in the end
    pub reads_appended : Reads (appended file place string) (strings ++ string ∷ [])
    reads_appended =
        let short : place ≤ length staged = omega (arith, staged_within) in
        let front : take place (appended file place string) ≡ take place file =
        overwritten_front staged place (1 ∷ []) short ∙ same_front (place + 1) place staged file staged_front (omega arith) in
        let gate : take 1 (drop place (appended file place string)) ≡ 1 ∷ [] = ap (take 1) (overwritten_behind staged place (1 ∷ []) short) in
        reads_more (appended file place string) front (overwritten_rest staged place (1 ∷ []) short) (λ closed. one_not_zero (sym gate ∙ closed))

-- the list of what a crash left goes on
goes_on : (strings list : List (List ℕ)) (string next c : List ℕ)
    → ((list ≡ strings) ⊎ (list ≡ strings ++ string ∷ [])) → Reads c list → IsStorable next → GoesOnWith strings string next c
goes_on strings list string next c either reads storable = record {
  list = list;
  either = either;
  stored = reads_stores c list reads;
  then = reads_stores _ _ (reads_appended (opened c) list (reads_opened c list reads) next storable);
}

pub torn_tail : TornTailNeverReturns
torn_tail file strings string next c reads storable next_storable left =
    ⊎_elim
    (λ same. goes_on strings strings string next c (inl refl) same next_storable)
    (λ more. goes_on strings (strings ++ string ∷ []) string next c (inr refl) more next_storable)
    (reads_left file strings reads string storable c left)

-- the same for one who knows the list by what the file stores
pub stores_left : (file : List ℕ) (strings : List (List ℕ)) (reads : Reads file strings) (string : List ℕ) → IsStorable string
    → (c : List ℕ) → LeftByAppend file (end_of 8 strings) string c → IsBeforeOrAfter strings string c
stores_left file strings reads string storable c left =
    ⊎_elim (λ same. inl (reads_stores c strings same)) (λ more. inr (reads_stores c (strings ++ string ∷ []) more))
    (reads_left file strings reads string storable c left)
