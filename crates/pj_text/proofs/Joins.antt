-- Texts that are joined of pieces, as they are written.
use Rattle.std.proofs.Common.{◌≡◌, ℕ, ◌<◌, List, [], ◌∷◌, ◌++◌, length, get_or, take, drop, ◌-◌, refl, sym, ap, ◌∙◌, append_assoc, arith}
use Rattle.std.specs.Prelude.{codes, decimal, map}
use Rattle.std.specs.List.{flat_map, join_with_byte}
use Rattle.std.proofs.lemmas.List.{append-nil, take_rest}
use Rattle.pj_name.specs.declared.name.Name.{Name}
use Rattle.pj_change.specs.declared.point.Ref.{Ref}
use Rattle.pj_change.specs.declared.hunk.Hunk.{Hunk}
use Rattle.pj_change.specs.Text.{Parts, reference, references, owners, word, operands, body, hunk_text, text_of}
use Rattle.pj_text.specs.Lines.{spaced, name_line}

-- the first, and then each other one after the byte
pub joined : {X : Type 0} (c : ℕ) (text : X → List ℕ) (x : X) (xs : List X) → join_with_byte c (map text (x ∷ xs)) ≡ text x ++ flat_map (λ y. c ∷ text y) xs
joined c text x [] = sym (append-nil (text x))
joined c text x (y ∷ xs) = ap (λ (t : List ℕ). text x ++ (c ∷ t)) (joined c text y xs)

pub references_none : (rs : List Ref) → length rs ≡ 0 → references rs ≡ codes "-"
unfolding references
references_none [] e = refl
references_none (r ∷ rs) e = absurd (omega (arith, e))

pub references_split : (rs : List Ref) (d : Ref) → 0 < length rs → references rs ≡ reference (get_or rs 0 d) ++ flat_map (λ r. 44 ∷ reference r) (take (length rs - 1) (drop 1 rs))
unfolding references
references_split [] d long = absurd (omega (arith, long))
references_split (r ∷ rs) d long = joined 44 reference r rs ∙ ap (λ (ys : List Ref). reference r ++ flat_map (λ y. 44 ∷ reference y) ys) (sym (take_rest (r ∷ rs) 1))

pub owners_none : (by : List ℕ) → length by ≡ 0 → owners by ≡ []
unfolding owners
owners_none [] e = refl
owners_none (k ∷ ks) e = absurd (omega (arith, e))

pub owners_split : (by : List ℕ) → 0 < length by → owners by ≡ decimal (get_or by 0 0) ++ flat_map (λ n. 44 ∷ decimal n) (take (length by - 1) (drop 1 by))
unfolding owners
owners_split [] long = absurd (omega (arith, long))
owners_split (k ∷ ks) long = joined 44 decimal k ks ∙ ap (λ (ys : List ℕ). decimal k ++ flat_map (λ m. 44 ∷ decimal m) ys) (sym (take_rest (k ∷ ks) 1))

words : (w : List ℕ) (ws : List (List ℕ)) → join_with_byte 32 (w ∷ ws) ≡ w ++ spaced ws
words w [] = sym (append-nil w)
words w (v ∷ ws) = ap (λ (t : List ℕ). w ++ (32 ∷ t)) (words v ws)

-- a hunk is its first word, its operands, a newline and its body
pub hunk_pieces : (out : List ℕ) (h : Hunk) → (((out ++ word h) ++ spaced (operands h)) ++ 10 ∷ []) ++ body h ≡ out ++ hunk_text h
unfolding hunk_text
hunk_pieces out h = rw (words (word h) (operands h)) (simp append_assoc)

-- parts under other names
pub record SameParts (p : Parts) (version : ℕ) (message author : List ℕ) (time : ℕ) (needs knows : List Name) (hunks : List Hunk) : Type 0 where
  pub version_is : version ≡ p.version
  pub message_is : message ≡ p.message
  pub author_is : author ≡ p.author
  pub time_is : time ≡ p.time
  pub needs_are : needs ≡ p.needs
  pub knows_are : knows ≡ p.knows
  pub hunks_are : hunks ≡ p.hunks

-- a text is its lines one after the other
pub lines_written : (p : Parts) (version : ℕ) (message author : List ℕ) (time : ℕ) (needs knows : List Name) (hunks : List Hunk) → SameParts p version message author time needs knows hunks
    → (o₀ o₁ o₂ o₃ o₄ o₅ o₆ o₇ o₈ : List ℕ) → o₀ ≡ []
    → o₁ ≡ o₀ ++ (codes "pijul change " ++ (decimal version ++ 10 ∷ []))
    → o₂ ≡ o₁ ++ (codes "message " ++ (message ++ 10 ∷ []))
    → o₃ ≡ o₂ ++ (codes "author " ++ (author ++ 10 ∷ []))
    → o₄ ≡ o₃ ++ (codes "time " ++ (decimal time ++ 10 ∷ []))
    → o₅ ≡ o₄ ++ flat_map (name_line (codes "needs ")) needs
    → o₆ ≡ o₅ ++ flat_map (name_line (codes "knows ")) knows
    → o₇ ≡ o₆ ++ flat_map hunk_text hunks
    → o₈ ≡ o₇ ++ codes "end\n"
    → o₈ ≡ text_of p
unfolding text_of
lines_written p version message author time needs knows hunks same o₀ o₁ o₂ o₃ o₄ o₅ o₆ o₇ o₈ e₀ e₁ e₂ e₃ e₄ e₅ e₆ e₇ e₈ =
    rw (e₈, e₇, e₆, e₅, e₄, e₃, e₂, e₁, e₀, same.version_is, same.message_is, same.author_is, same.time_is, same.needs_are, same.knows_are, same.hunks_are) refl
