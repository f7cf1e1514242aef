-- What a scan answers is what stands at the front of its bytes.
use Rattle.std.proofs.Common.{◌≡◌, ℕ, ◌<◌, true, not, ◌||◌, eqb, List, [], ◌∷◌, ◌++◌, length, drop, Option, Some, None, refl, sym, ap, ◌∙◌, arith}
use Rattle.std.specs.Prelude.{ok_or, ◌↔◌}
use Rattle.std.specs.Char.{is_ascii_digit}
use Rattle.std.specs.List.{AllByRecursion}
use Rattle.std.proofs.lemmas.Bool.{not-true, not-false, not_from_false, lt-leb, ne_eqb, and_from}
use Rattle.std.proofs.lemmas.List.{drop_at, length-append}
use Rattle.std.proofs.lemmas.List.Elements.{recursion_from_All}
use Rattle.pj_name.specs.declared.name.Name.{Name}
use Rattle.pj_name.specs.Name.{hex}
use Rattle.pj_change.specs.Rules.{lacks}
use Rattle.pj_scan.specs.Scan.{Lacks, Stops, is_word_byte, IsLine, IsWord, IsNumber, IsPiece}
use Rattle.pj_text.specs.declared.refusal.ReadRefusal.TheVariants.{Malformed}
use Rattle.pj_text.specs.Gives.{Gives}
use Rattle.pj_text.specs.Reading.{begins, token_at, bytes_at, line_at, word_of, word_at, number_at, name_at}
use Rattle.pj_text.proofs.Gets.{none_from}
use Rattle.pj_text.proofs.FieldLaws.{begins_is, bytes_read, line_read, stops, number_spelled, number_read}
use Rattle.pj_text.proofs.NameLaws.{name_is_read}

-- ---- pieces

pub piece_found : (count : ℕ) (bytes piece left : List ℕ) → IsPiece count bytes piece left → bytes_at count bytes ≡ Some (piece, left)
piece_found count bytes piece left is = ap (bytes_at count) is.stands ∙ ap (λ (k : ℕ). bytes_at k (piece ++ left)) (sym is.whole) ∙ bytes_read piece left

pub piece_missed : (count : ℕ) (bytes : List ℕ) → length bytes < count → bytes_at count bytes ≡ None
unfolding bytes_at
piece_missed count bytes lt = rw (lt-leb count (length bytes) lt) refl

pub token_found : (word bytes piece left : List ℕ) → begins word bytes ≡ true → IsPiece (length word) bytes piece left → token_at word bytes ≡ Some (tt, left)
unfolding token_at
token_found word bytes piece left h is =
    let behind : drop (length word) bytes ≡ left = ap (drop (length word)) is.stands ∙ drop_at piece left (length word) is.whole in
    rw (h, behind) refl

pub token_missed : (word bytes : List ℕ) → begins word bytes ≡ true → length bytes < length word → token_at word bytes ≡ None
token_missed word bytes h lt = absurd (omega (arith, lt, ap length (begins_is word bytes h), length-append word (drop (length word) bytes)))

-- ---- lines

lacks_by_cases : (bytes : List ℕ) → AllByRecursion (λ b. b ≡ 10 → ⊥) bytes → lacks 10 bytes ≡ true
lacks_by_cases [] h = refl
lacks_by_cases (b ∷ bytes) h = and_from (not (eqb b 10)) (lacks 10 bytes) (not_from_false (eqb b 10) (ne_eqb b 10 h.0)) (lacks_by_cases bytes h.1)

line_by_cases : (bytes : List ℕ) → AllByRecursion (λ b. b ≡ 10 → ⊥) bytes → line_at bytes ≡ None
unfolding line_at
line_by_cases [] h = refl
line_by_cases (b ∷ bytes) h = rw (ne_eqb b 10 h.0, line_by_cases bytes h.1) refl

pub line_found : (bytes line left : List ℕ) → IsLine bytes line left → line_at bytes ≡ Some (line, left)
line_found bytes line left is =
    ap line_at is.stands ∙ line_read line left (lacks_by_cases line (recursion_from_All (λ b. b ≡ 10 → ⊥) line is.whole))

pub line_missed : (bytes : List ℕ) → Lacks 10 bytes → line_at bytes ≡ None
line_missed bytes h = line_by_cases bytes (recursion_from_All (λ b. b ≡ 10 → ⊥) bytes h)

-- ---- words

word_by_cases : (word left : List ℕ) → AllByRecursion (λ b. is_word_byte b ≡ true) word → Stops is_word_byte left → word_of (word ++ left) ≡ word
unfolding word_of
word_by_cases [] [] h s = refl
word_by_cases [] (b ∷ left) h s = rw (not-false (eqb b 32 || eqb b 10) s) refl
word_by_cases (b ∷ word) left h s = rw (not-true (eqb b 32 || eqb b 10) h.0, word_by_cases word left h.1 s) refl

pub word_found : (bytes word left : List ℕ) → IsWord bytes word left → word_at bytes ≡ Some (word, left)
unfolding word_at
word_found bytes word left is =
    let front : word_of bytes ≡ word = ap word_of is.stands ∙ word_by_cases word left (recursion_from_All (λ b. is_word_byte b ≡ true) word is.inside) is.ends in
    let behind : drop (length word) bytes ≡ left = ap (drop (length word)) is.stands ∙ drop_at word left (length word) refl in
    let some = is.some in
    rw (front, ne_eqb (length word) 0 (λ e. omega (arith, some, e)), behind) refl

pub word_missed : (bytes : List ℕ) → Stops is_word_byte bytes → word_at bytes ≡ None
unfolding word_at
word_missed bytes s = rw (word_by_cases [] bytes tt s) refl

-- ---- numbers

stops_by_cases : (bytes : List ℕ) → Stops is_ascii_digit bytes → stops bytes ≡ true
stops_by_cases [] s = refl
stops_by_cases (b ∷ bytes) s = not_from_false (is_ascii_digit b) s

cases_by_stops : (bytes : List ℕ) → stops bytes ≡ true → Stops is_ascii_digit bytes
cases_by_stops [] s = tt
cases_by_stops (b ∷ bytes) s = not-true (is_ascii_digit b) s

pub number_found : (bytes : List ℕ) (n : ℕ) (left : List ℕ) → IsNumber bytes n left → number_at bytes ≡ Some (n, left)
number_found bytes n left is = ap number_at is.stands ∙ number_read n left is.small (stops_by_cases left is.ends)

pub number_missed : (bytes : List ℕ) → ((n : ℕ) (left : List ℕ) → IsNumber bytes n left → ⊥) → number_at bytes ≡ None
number_missed bytes none =
    none_from (number_at bytes) (λ x e.
    let found = (number_spelled bytes).gets x e in
    none x.0 x.1 (record { stands = found.stands; small = found.small; ends = cases_by_stops x.1 found.ends }))

-- ---- names

pub name_found : (bytes digits left : List ℕ) (r : Option Name) → IsPiece 64 bytes digits left → ((name : Name) → (r ≡ Some name) ↔ (digits ≡ hex name.bytes)) → Gives (ok_or r Malformed) left (name_at bytes)
unfolding name_at
name_found bytes digits left None piece is = rw (piece_found 64 bytes digits left piece, name_is_read digits None is) refl
name_found bytes digits left (Some name) piece is = rw (piece_found 64 bytes digits left piece, name_is_read digits (Some name) is) refl
