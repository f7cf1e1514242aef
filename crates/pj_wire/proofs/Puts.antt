-- The request to store a text: its length and the text.
use Rattle.std.proofs.Common.{◌≡◌, ℕ, ◌≤◌, List, [], ◌∷◌, ◌++◌, length, codes, decimal, refl, sym, ◌∙◌, ap, subst, append_assoc, arith}
use Rattle.std.proofs.lemmas.Fmt.{decimal_injective}
use Rattle.pj_machine.specs.declared.command.Command.TheVariants as command
use Rattle.pj_wire.specs.Requests.{spelling}
use Rattle.pj_wire.specs.Spelled.{StandsNone}
use Rattle.pj_wire.proofs.FieldLaws.{one_field}
use Rattle.pj_wire.proofs.Words.{decimal_inside}
use Rattle.pj_wire.proofs.Sequences.{respelled, behind_word, no_first, no_second}

-- a number and a newline
abbrev length_line : ℕ → List ℕ
length_line n = decimal n ++ 10 ∷ []

-- a text and a newline
abbrev ended : List ℕ → List ℕ
ended text = text ++ 10 ∷ []

abbrev pub IsShort : List ℕ → Type 0
IsShort text = length text ≤ 16777216

-- what stands behind the verb
abbrev pub behind : List ℕ → List ℕ
behind text = length_line (length text) ++ text ++ 10 ∷ []

respelled_text : (n : ℕ) (text : List ℕ) → length text ≡ n → length_line n ++ ended text ≡ behind text
respelled_text n text e = ap (λ (k : ℕ). length_line k ++ ended text) (sym e) ∙ sym (append_assoc (length_line (length text)) text (10 ∷ []))

module _ (bytes rest : List ℕ) (is : bytes ≡ codes "put " ++ rest) where
  no_put : StandsNone (λ (p : ℕ × List ℕ). length_line p.0 ++ ended p.1) (λ p. (p.0 ≤ 16777216) × (length p.1 ≡ p.0)) rest → StandsNone (λ text. spelling (command.Put text)) IsShort bytes
  no_put h =
      behind_word behind IsShort bytes (codes "put ") rest is
      (respelled (λ (p : ℕ × List ℕ). length_line p.0 ++ ended p.1) (λ p. (p.0 ≤ 16777216) × (length p.1 ≡ p.0)) behind IsShort
      (λ text short. ((length text, text), (short, refl), respelled_text (length text) text refl)) rest h)

  -- the length was not read
  pub no_length_line : StandsNone length_line (λ n. n ≤ 16777216) rest → StandsNone (λ text. spelling (command.Put text)) IsShort bytes
  no_length_line h = no_put (no_first length_line (λ n. n ≤ 16777216) ended (λ n text. length text ≡ n) rest h)

  -- the text was not read behind its length
  pub no_text : (n : ℕ) (left : List ℕ) → n ≤ 16777216 → rest ≡ length_line n ++ left → StandsNone ended (λ text. length text ≡ n) left → StandsNone (λ text. spelling (command.Put text)) IsShort bytes
  no_text n left small first h =
      no_put (no_second length_line (λ n. n ≤ 16777216) ended (λ n text. length text ≡ n) rest
      (one_field decimal (λ n. n ≤ 16777216) decimal_inside 10 refl one) n left small first h)
    where
      one : (m n : ℕ) → m ≤ 16777216 → n ≤ 16777216 → decimal m ≡ decimal n → m ≡ n
      one m n small small' e = decimal_injective m n (omega (arith, small)) (omega (arith, small')) e

-- both were read
pub put_read : (bytes rest left text after : List ℕ) (n : ℕ) → bytes ≡ codes "put " ++ rest → n ≤ 16777216 → rest ≡ length_line n ++ left → length text ≡ n → left ≡ ended text ++ after
    → IsShort text × (bytes ≡ spelling (command.Put text) ++ after)
put_read bytes rest left text after n is small first long second =
    let all : rest ≡ behind text ++ after =
    first ∙ ap (λ (s : List ℕ). length_line n ++ s) second ∙ sym (append_assoc (length_line n) (ended text) after) ∙ ap (λ (s : List ℕ). s ++ after) (respelled_text n text long) in
    (subst (λ k. k ≤ 16777216) (sym long) small, is ∙ ap (λ (s : List ℕ). codes "put " ++ s) all)
