-- Reading items one after the other, as a loop does.
use Rattle.std.proofs.Common.{◌≡◌, ℕ, suc, ◌+◌, ◌-◌, ◌<◌, ◌≤◌, Bool, true, false, List, [], ◌∷◌, ◌++◌, Option, Some, None, refl, sym, ap, ◌∙◌, append_assoc, arith}
use Rattle.std.proofs.lemmas.List.{append-nil}
use Rattle.std.specs.Prelude.{Err}
use Rattle.pj_text.specs.declared.refusal.ReadRefusal.{ReadRefusal}
use Rattle.pj_text.specs.declared.refusal.ReadRefusal.TheVariants.{Malformed, Memory}
use Rattle.pj_text.specs.Gives.{Gives}
use Rattle.pj_text.specs.Reading.{◌>>=◌, many_at}

-- what was read before, and what is still read
abbrev pub with_front : {X : Type 0} → List X → Option (List X × List ℕ) → Option (List X × List ℕ)
with_front front found = found >>= λ x. Some (front ++ x.0, x.1)

module _ {X : Type 0} (more : List ℕ → Bool) (item : List ℕ → Option (X × List ℕ)) where
  pushed : (front : List X) (x : X) (found : Option (List X × List ℕ)) → with_front front (found >>= λ y. Some (x ∷ y.0, y.1)) ≡ with_front (front ++ x ∷ []) found
  pushed front x None = refl
  pushed front x (Some y) = ap (λ (xs : List X). Some (xs, y.1)) (sym (append_assoc front (x ∷ []) y.0))

  -- one more item
  pub goes_on : (front : List X) (most i : ℕ) (bytes : List ℕ) (x : X) (left : List ℕ) (whole : Option (List X × List ℕ)) → i < most → more bytes ≡ true → item bytes ≡ Some (x, left)
      → with_front front (many_at more item (most - i) bytes) ≡ whole → with_front (front ++ x ∷ []) (many_at more item (most - (i + 1)) left) ≡ whole
  unfolding many_at
  goes_on front most i bytes x left whole lt asked h so_far =
      let k : most - i ≡ suc (most - (i + 1)) = omega arith in
      let one : with_front front (many_at more item (most - i) bytes) ≡ with_front (front ++ x ∷ []) (many_at more item (most - (i + 1)) left) = rw (k, asked, h) (pushed front x (many_at more item (most - (i + 1)) left)) in
      sym one ∙ so_far

  -- no item where one is asked for
  pub fails : (front : List X) (most i : ℕ) (bytes : List ℕ) (whole : Option (List X × List ℕ)) → i < most → more bytes ≡ true → item bytes ≡ None
      → with_front front (many_at more item (most - i) bytes) ≡ whole → whole ≡ None
  unfolding many_at
  fails front most i bytes whole lt asked h so_far =
      let k : most - i ≡ suc (most - (i + 1)) = omega arith in
      let one : with_front front (many_at more item (most - i) bytes) ≡ None = rw (k, asked, h) refl in
      sym so_far ∙ one

  -- no item is asked for
  pub stops : (front : List X) (most i : ℕ) (bytes : List ℕ) (whole : Option (List X × List ℕ)) → i < most → more bytes ≡ false
      → with_front front (many_at more item (most - i) bytes) ≡ whole → whole ≡ Some (front, bytes)
  unfolding many_at
  stops front most i bytes whole lt asked so_far =
      let k : most - i ≡ suc (most - (i + 1)) = omega arith in
      let one : with_front front (many_at more item (most - i) bytes) ≡ Some (front, bytes) = rw (k, asked) (ap (λ (xs : List X). Some (xs, bytes)) (append-nil front)) in
      sym so_far ∙ one

  -- there are as many items as may be
  pub ends : (front : List X) (most i : ℕ) (bytes : List ℕ) (whole : Option (List X × List ℕ)) → most ≤ i
      → with_front front (many_at more item (most - i) bytes) ≡ whole → whole ≡ Some (front, bytes)
  unfolding many_at
  ends front most i bytes whole le so_far =
      let k : most - i ≡ 0 = omega arith in
      let one : with_front front (many_at more item (most - i) bytes) ≡ Some (front, bytes) = rw k (ap (λ (xs : List X). Some (xs, bytes)) (append-nil front)) in
      sym so_far ∙ one

-- a refusal of a step is a refusal of the whole
pub refused : {Y Z : Type 0} (e : ReadRefusal) (left left' : List ℕ) (found : Option (Y × List ℕ)) (whole : Option (Z × List ℕ)) → Gives {X = Y} (Err e) left found → (found ≡ None → whole ≡ None) → Gives {X = Z} (Err e) left' whole
refused Malformed left left' found whole given none = none given
refused Memory left left' found whole given none = tt
