-- Fields of a line, each a word with the byte that ends it.
use Rattle.std.proofs.Common.{◌≡◌, ℕ, ◌+◌, false, List, [], ◌∷◌, ◌++◌, length, sym, ◌∙◌, ap, subst, arith, append-nil, append_assoc, length-append}
use Rattle.std.specs.List.{AllPass}
use Rattle.std.proofs.lemmas.List.{nil_from_length}
use Rattle.pj_scan.specs.Scan.{is_word_byte, Stops}
use Rattle.pj_wire.specs.Spelled.{StandsNone}
use Rattle.pj_wire.specs.Fields.{IsFirstWord}
use Rattle.pj_wire.proofs.Words.{ended_words, open_word}

-- a word that is that of a value, with the byte that ends it
pub field_stands : (bytes word rest left text : List ℕ) (b d : ℕ) → IsFirstWord bytes word rest → rest ≡ b ∷ left → b ≡ d → word ≡ text → bytes ≡ (text ++ d ∷ []) ++ left
field_stands bytes word rest left text b d is ends same spelled =
    is.stands ∙ ap (λ (s : List ℕ). word ++ s) (ends ∙ ap (λ (c : ℕ). c ∷ left) same) ∙ ap (λ (s : List ℕ). s ++ d ∷ left) spelled ∙ sym (append_assoc text (d ∷ []) left)

module _ {V : Type 0} (text : V → List ℕ) (Allowed : V → Type 0) (inside : (v : V) → Allowed v → AllPass is_word_byte (text v)) (d : ℕ) (stop : is_word_byte d ≡ false) where
  -- the field is not there where nothing ends the word
  pub open_apart : (bytes word rest : List ℕ) → IsFirstWord bytes word rest → length rest ≡ 0 → StandsNone (λ v. text v ++ d ∷ []) Allowed bytes
  open_apart bytes word rest is none v left allowed e =
      let all : bytes ≡ word = is.stands ∙ ap (λ (s : List ℕ). word ++ s) (nil_from_length rest none) ∙ append-nil word in
      let both : word ++ [] ≡ text v ++ d ∷ left = append-nil word ∙ sym all ∙ e ∙ append_assoc (text v) (d ∷ []) left in
      let grown = open_word word (text v) [] left d is.inside stop both in
      let long : length word + length grown.0 ≡ length (text v) = sym (length-append word grown.0) ∙ ap (λ (s : List ℕ). length s) grown.1 in
      let short : length (word ++ []) ≡ length (text v ++ d ∷ left) = ap (λ (s : List ℕ). length s) both in
      omega (arith, long, short, length-append word [], length-append (text v) (d ∷ left))

  -- nor where the word that stands there with what ends it is another
  pub ended_apart : (bytes word rest left : List ℕ) (b : ℕ) → IsFirstWord bytes word rest → rest ≡ b ∷ left → ((v : V) → Allowed v → word ≡ text v → b ≡ d → ⊥)
      → StandsNone (λ v. text v ++ d ∷ []) Allowed bytes
  ended_apart bytes word rest left b is ends other v behind allowed e =
      let ended : is_word_byte b ≡ false = subst (λ (s : List ℕ). Stops is_word_byte s) ends is.ends in
      let both : word ++ b ∷ left ≡ text v ++ d ∷ behind = ap (λ (s : List ℕ). word ++ s) (sym ends) ∙ sym is.stands ∙ e ∙ append_assoc (text v) (d ∷ []) behind in
      let same = ended_words word (text v) left behind b d is.inside (inside v allowed) ended stop both in
      other v allowed same.0 same.1

  -- at most one field stands at the front
  pub one_field : ((v w : V) → Allowed v → Allowed w → text v ≡ text w → v ≡ w) → (v w : V) (a b : List ℕ) → Allowed v → Allowed w
      → (text v ++ d ∷ []) ++ a ≡ (text w ++ d ∷ []) ++ b → (v ≡ w) × (a ≡ b)
  one_field one v w a b allowed_v allowed_w e =
      let same = ended_words (text v) (text w) a b d d (inside v allowed_v) (inside w allowed_w) stop stop (sym (append_assoc (text v) (d ∷ []) a) ∙ e ∙ append_assoc (text w) (d ∷ []) b) in
      (one v w allowed_v allowed_w same.0, same.2)
