-- What torn writes of ranges make of a file.
use Rattle.std.proofs.Common.{◌≡◌, ◌∙◌, ℕ, ◌+◌, ◌≤◌, min, List, [], ◌∷◌, ◌++◌, length, take, drop, refl, sym, ap, subst, arith, length-append, length-drop}
use Rattle.std.proofs.lemmas.List.{take_min, take_at, drop_at, length-take-le, append_assoc}
use Rattle.pj_disk.specs.Image.{overwritten, Torn}
use Rattle.pj_disk.specs.MemDisk.{Reaches}

-- a torn write may leave all as it was
pub torn_same : (at n : ℕ) (file : List ℕ) → Torn at n file file
torn_same at n file =
    record {
      before = take_min at file;
      after = refl;
      no_shorter = omega arith;
      no_longer = omega arith;
    }

-- or do all that was asked
pub torn_whole : (file : List ℕ) (at : ℕ) (bytes : List ℕ) → at ≤ length file → Torn at (length bytes) file (overwritten file at bytes)
torn_whole file at bytes within =
    let front : length (take at file) ≡ at = length-take-le at file within in
    let place : min at (length file) ≡ at = omega arith in
    let rest = drop (at + length bytes) file in
    let head : length (take at file ++ bytes) ≡ at + length bytes = length-append (take at file) bytes ∙ ap (λ n. n + length bytes) front in
    let all : length (overwritten file at bytes) ≡ at + length bytes + length rest = length-append (take at file ++ bytes) rest ∙ ap (λ n. n + length rest) head in
    let tail = length-drop (at + length bytes) file in
    record {
      before = ap (λ n. take n (overwritten file at bytes)) place ∙ ap (take at) (append_assoc (take at file) bytes rest) ∙ take_at (take at file) (bytes ++ rest) at front;
      after = drop_at (take at file ++ bytes) rest (at + length bytes) head;
      no_shorter = omega arith;
      no_longer = omega arith;
    }

-- one range more
pub reaches_add : (old : List ℕ) (ranges : List (ℕ × ℕ)) (range : ℕ × ℕ) (d c : List ℕ)
    → Reaches old ranges d → Torn range.0 range.1 d c → Reaches old (ranges ++ range ∷ []) c
reaches_add old [] range d c reached torn = (c, subst (λ file. Torn range.0 range.1 file c) reached torn, refl)
reaches_add old (first ∷ ranges) range d c reached torn =
    (reached.0, reached.1, reaches_add reached.0 ranges range d c reached.2 torn)

-- and the step of the last range
pub reaches_last : (old : List ℕ) (ranges : List (ℕ × ℕ)) (range : ℕ × ℕ) (c : List ℕ)
    → Reaches old (ranges ++ range ∷ []) c → (d : List ℕ) × Reaches old ranges d × Torn range.0 range.1 d c
reaches_last old [] range c reached = (old, refl, subst (λ file. Torn range.0 range.1 old file) (sym reached.2) reached.1)
reaches_last old (first ∷ ranges) range c reached =
    let last = reaches_last reached.0 ranges range c reached.2 in
    (last.0, (reached.0, reached.1, last.1), last.2)

-- no write need leave a trace
pub reaches_same : (old : List ℕ) (ranges : List (ℕ × ℕ)) → Reaches old ranges old
reaches_same old [] = refl
reaches_same old (range ∷ ranges) = (old, torn_same range.0 range.1 old, reaches_same old ranges)
