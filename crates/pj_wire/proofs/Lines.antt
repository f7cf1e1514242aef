-- Lines of a verb and two words.
use Rattle.std.proofs.Common.{◌≡◌, ℕ, List, [], ◌∷◌, ◌++◌, refl, sym, ◌∙◌, append_assoc}
use Rattle.pj_machine.specs.ChannelName.{IsChannelName}
use Rattle.pj_wire.specs.Spelled.{StandsNone}
use Rattle.pj_wire.proofs.FieldLaws.{one_field}
use Rattle.pj_wire.proofs.Words.{channel_inside}
use Rattle.pj_wire.proofs.Sequences.{respelled, behind_word, no_first, no_second}

-- two words with what ends them are a line
two_words : (a b : List ℕ) → (a ++ 32 ∷ []) ++ (b ++ 10 ∷ []) ≡ (a ++ 32 ∷ b) ++ 10 ∷ []
two_words a b = append_assoc a (32 ∷ []) (b ++ 10 ∷ []) ∙ sym (append_assoc a (32 ∷ b) (10 ∷ []))

-- a channel and a second word
module _ {W : Type 0} (text : W → List ℕ) (Allowed : W → Type 0) (Line : List ℕ × W → Type 0) (from : (p : List ℕ × W) → Line p → IsChannelName p.0 × Allowed p.1)
    (bytes verb rest : List ℕ) (is : bytes ≡ verb ++ rest) where
  no_line : StandsNone (λ (p : List ℕ × W). (p.0 ++ 32 ∷ []) ++ (text p.1 ++ 10 ∷ [])) (λ p. IsChannelName p.0 × Allowed p.1) rest
      → StandsNone (λ (p : List ℕ × W). verb ++ ((p.0 ++ 32 ∷ text p.1) ++ 10 ∷ [])) Line bytes
  no_line h =
      behind_word (λ (p : List ℕ × W). (p.0 ++ 32 ∷ text p.1) ++ 10 ∷ []) Line bytes verb rest is
      (respelled (λ (p : List ℕ × W). (p.0 ++ 32 ∷ []) ++ (text p.1 ++ 10 ∷ [])) (λ p. IsChannelName p.0 × Allowed p.1) (λ (p : List ℕ × W). (p.0 ++ 32 ∷ text p.1) ++ 10 ∷ []) Line
      (λ p allowed. (p, from p allowed, two_words p.0 (text p.1))) rest h)

  -- the channel was not read
  pub line_first : StandsNone (λ (name : List ℕ). name ++ 32 ∷ []) IsChannelName rest → StandsNone (λ (p : List ℕ × W). verb ++ ((p.0 ++ 32 ∷ text p.1) ++ 10 ∷ [])) Line bytes
  line_first h = no_line (no_first (λ (name : List ℕ). name ++ 32 ∷ []) IsChannelName (λ (w : W). text w ++ 10 ∷ []) (λ _. Allowed) rest h)

  -- the second word was not read behind the channel
  pub line_second : (name left : List ℕ) → IsChannelName name → rest ≡ (name ++ 32 ∷ []) ++ left → StandsNone (λ (w : W). text w ++ 10 ∷ []) Allowed left
      → StandsNone (λ (p : List ℕ × W). verb ++ ((p.0 ++ 32 ∷ text p.1) ++ 10 ∷ [])) Line bytes
  line_second name left allowed first h =
      no_line (no_second (λ (name : List ℕ). name ++ 32 ∷ []) IsChannelName (λ (w : W). text w ++ 10 ∷ []) (λ _. Allowed) rest
      (one_field (λ (name : List ℕ). name) IsChannelName channel_inside 32 refl (λ _ _ _ _ e. e)) name left allowed first h)
