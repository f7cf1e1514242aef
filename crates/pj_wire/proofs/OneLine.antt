-- A line is made of one list of words, and a text of a known length may stand behind it.
use Rattle.std.proofs.Common.{◌≡◌, ℕ, Bool, true, false, List, [], ◌∷◌, ◌++◌, length, drop, get_or, refl, sym, ◌∙◌, ap, arith, append_assoc}
use Rattle.std.specs.Prelude.{if◌then◌else◌}
use Rattle.std.specs.List.{AllPass, join_with_byte}
use Rattle.pj_scan.specs.Scan.{is_word_byte}
use Rattle.pj_scan.proofs.Fronts.{same_fronts}
use Rattle.pj_wire.proofs.Words.{ended_words}

-- each is a word
abbrev pub AllWords : List (List ℕ) → Type 0
AllWords [] = Unit {0}
AllWords (w ∷ ws) = AllPass is_word_byte w × AllWords ws

-- two lines at one front have the same words, and the same stands behind them
pub one_line : (w v : List ℕ) (ws vs : List (List ℕ)) (a b : List ℕ) → AllWords (w ∷ ws) → AllWords (v ∷ vs) → join_with_byte 32 (w ∷ ws) ++ 10 ∷ a ≡ join_with_byte 32 (v ∷ vs) ++ 10 ∷ b
    → (w ∷ ws ≡ v ∷ vs) × (a ≡ b)
one_line w v [] [] a b p q e =
    let same = ended_words w v a b 10 10 p.0 q.0 refl refl e in
    (ap (λ (u : List ℕ). u ∷ []) same.0, same.2)
one_line w v [] (t ∷ vs) a b p q e =
    let same = ended_words w v a (join_with_byte 32 (t ∷ vs) ++ 10 ∷ b) 10 32 p.0 q.0 refl refl (e ∙ append_assoc v (32 ∷ join_with_byte 32 (t ∷ vs)) (10 ∷ b)) in
    absurd (omega (arith, same.1))
one_line w v (u ∷ ws) [] a b p q e =
    let same = ended_words w v (join_with_byte 32 (u ∷ ws) ++ 10 ∷ a) b 32 10 p.0 q.0 refl refl (sym (append_assoc w (32 ∷ join_with_byte 32 (u ∷ ws)) (10 ∷ a)) ∙ e) in
    absurd (omega (arith, same.1))
one_line w v (u ∷ ws) (t ∷ vs) a b p q e =
    let same = ended_words w v (join_with_byte 32 (u ∷ ws) ++ 10 ∷ a) (join_with_byte 32 (t ∷ vs) ++ 10 ∷ b) 32 32 p.0 q.0 refl refl
    (sym (append_assoc w (32 ∷ join_with_byte 32 (u ∷ ws)) (10 ∷ a)) ∙ e ∙ append_assoc v (32 ∷ join_with_byte 32 (t ∷ vs)) (10 ∷ b)) in
    let more = one_line u t ws vs a b p.1 q.1 same.2 in
    (ap (λ (s : List ℕ). s ∷ u ∷ ws) same.0 ∙ ap (λ (l : List (List ℕ)). v ∷ l) more.0, more.1)

-- the word at this place
abbrev pub word_at : ℕ → List (List ℕ) → List ℕ
word_at n ws = get_or ws n []

-- two texts of one length at one front, each with a newline behind it, or none
pub one_body : (there : Bool) (s t a b : List ℕ) → length s ≡ length t → s ≡ (if there then s else []) → t ≡ (if there then t else [])
    → (if there then s ++ 10 ∷ [] else []) ++ a ≡ (if there then t ++ 10 ∷ [] else []) ++ b → (s ≡ t) × (a ≡ b)
one_body true s t a b count _ _ e =
    let same = same_fronts s t (10 ∷ a) (10 ∷ b) (sym (append_assoc s (10 ∷ []) a) ∙ e ∙ append_assoc t (10 ∷ []) b) count in
    (same.0, ap (λ (r : List ℕ). drop 1 r) same.1)
one_body false s t a b count none none' e = (none ∙ sym none', e)
