-- Bytes that begin with a text, or are a prefix of it.
use Rattle.std.proofs.Common.{◌≡◌, ℕ, ◌≤◌, Bool, true, false, nat_eq, List, [], ◌∷◌, ◌++◌, length, drop, refl, sym, ◌∙◌, ap, arith, append-nil, length-append}
use Rattle.std.specs.List.{starts_with}
use Rattle.pj_wire.specs.Spelled.{EndsWithin}
use Rattle.pj_wire.proofs.Fronts.{begins_true, begins_false}
use Rattle.pj_replies.specs.Apart.{IsSpelled, IsApart}

-- bytes that begin with a text are not shorter
longer : (text bytes rest : List ℕ) → bytes ≡ text ++ rest → length text ≤ length bytes
longer text bytes rest e = let size : length bytes ≡ length (text ++ rest) = ap (λ (t : List ℕ). length t) e in omega (arith, size, length-append text rest)

module _ {V : Type 0} (value : V) (text bytes : List ℕ) where
  -- one value is spelled by the text
  abbrev Spells : V → List ℕ
  Spells v = text

  -- and only that value
  abbrev IsValue : V → Type 0
  IsValue v = v ≡ value

  -- the bytes are found to begin with the text
  pub text_whole : (r : Bool) → r ≡ starts_with nat_eq bytes text → r ≡ true → IsSpelled Spells IsValue bytes value (length text)
  text_whole r is yes' =
      let stands = begins_true bytes text r is yes' in
      record { allowed = refl; within = longer text bytes (drop (length text) bytes) stands; stands = stands }

  -- the text is found to begin with the bytes, and the bytes not with the text
  pub text_part : (r q : Bool) → r ≡ starts_with nat_eq bytes text → r ≡ false → q ≡ starts_with nat_eq text bytes → q ≡ true → EndsWithin Spells IsValue bytes
  text_part r q is no' also yes' = of (drop (length bytes) text) (begins_true text bytes q also yes')
    where
      of : (rest : List ℕ) → text ≡ bytes ++ rest → EndsWithin Spells IsValue bytes
      of [] e = absurd (begins_false bytes text r is no' [] (sym (append-nil bytes) ∙ sym e ∙ sym (append-nil text)))
      of (b ∷ rest) e = record { value = value; allowed = refl; missing = b ∷ rest; whole = sym e; some = omega arith }

  -- neither is found
  pub text_apart : (r q : Bool) → r ≡ starts_with nat_eq bytes text → r ≡ false → q ≡ starts_with nat_eq text bytes → q ≡ false → IsApart Spells IsValue bytes
  text_apart r q is no' also none = record {
    has_none = λ v rest ok e. begins_false bytes text r is no' rest e;
    begins_none = λ v more ok e. begins_false text bytes q also none more (sym e);
  }
