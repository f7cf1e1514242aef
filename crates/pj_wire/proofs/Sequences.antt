-- Fields one after the other.
use Rattle.std.proofs.Common.{◌≡◌, ℕ, List, ◌++◌, Option, Some, None, sym, ◌∙◌, ap, subst, append_assoc}
use Rattle.std.proofs.lemmas.List.{append_cancel_left}
use Rattle.std.specs.Prelude.{MatchOption}
use Rattle.pj_wire.specs.Spelled.{StandsNone}

-- what stands nowhere in one spelling does not in the same one in other words
pub respelled : {V U : Type 0} (f : V → List ℕ) (AllowedV : V → Type 0) (g : U → List ℕ) (AllowedU : U → Type 0)
    → ((u : U) → AllowedU u → (v : V) × AllowedV v × (f v ≡ g u)) → (bytes : List ℕ) → StandsNone f AllowedV bytes → StandsNone g AllowedU bytes
respelled f AllowedV g AllowedU from bytes none = λ u rest allowed e.
    let back = from u allowed in
    none back.0 rest back.1 (e ∙ ap (λ (s : List ℕ). s ++ rest) (sym back.2))

module _ {V : Type 0} (spelled : V → List ℕ) (Allowed : V → Type 0) (bytes word : List ℕ) where
  -- the word itself does not stand there
  pub within_word : StandsNone (λ (_ : Unit {0}). word) (λ _. Unit {0}) bytes → StandsNone (λ v. word ++ spelled v) Allowed bytes
  within_word none = λ v rest allowed e. none tt (spelled v ++ rest) tt (e ∙ append_assoc word (spelled v) rest)

  -- what stands behind the word is another
  pub behind_word : (left : List ℕ) → bytes ≡ word ++ left → StandsNone spelled Allowed left → StandsNone (λ v. word ++ spelled v) Allowed bytes
  behind_word left is none = λ v rest allowed e.
      none v rest allowed (append_cancel_left word left (spelled v ++ rest) (sym is ∙ e ∙ append_assoc word (spelled v) rest))

-- two fields, of which the second may depend on the first
module _ {K W : Type 0} (head : K → List ℕ) (AllowedK : K → Type 0) (tail : W → List ℕ) (AllowedW : K → W → Type 0) (bytes : List ℕ) where
  abbrev Both : K × W → Type 0
  Both p = AllowedK p.0 × AllowedW p.0 p.1

  abbrev both : K × W → List ℕ
  both p = head p.0 ++ tail p.1

  -- the first does not stand there
  pub no_first : StandsNone head AllowedK bytes → StandsNone both Both bytes
  no_first none = λ p rest allowed e. none p.0 (tail p.1 ++ rest) allowed.0 (e ∙ append_assoc (head p.0) (tail p.1) rest)

  -- the second does not stand behind the first
  pub no_second : ((v w : K) (a b : List ℕ) → AllowedK v → AllowedK w → head v ++ a ≡ head w ++ b → (v ≡ w) × (a ≡ b))
      → (k : K) (left : List ℕ) → AllowedK k → bytes ≡ head k ++ left → StandsNone tail (AllowedW k) left → StandsNone both Both bytes
  no_second one k left allowed is none = λ p rest ok e.
      let same = one k p.0 left (tail p.1 ++ rest) allowed ok.0 (sym is ∙ e ∙ append_assoc (head p.0) (tail p.1) rest) in
      none p.1 rest (subst (λ (k : K). AllowedW k p.1) (sym same.0) ok.1) same.1

-- what holds of both answers
pub answers : {T : Type 0} (r : Option T) (P Q : Type 0) (S R : T → Type 0) → (P → Q) → ((t : T) → S t → R t) → MatchOption r P S → MatchOption r Q R
answers None P Q S R none some h = none h
answers (Some t) P Q S R none some h = some t h

-- a field behind a word
pub joined : (bytes word rest field left : List ℕ) → bytes ≡ word ++ rest → rest ≡ field ++ left → bytes ≡ (word ++ field) ++ left
joined bytes word rest field left is behind = is ∙ ap (λ (s : List ℕ). word ++ s) behind ∙ sym (append_assoc word field left)
