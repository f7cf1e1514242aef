-- Parts of a file, and files that agree.
use Rattle.std.proofs.Common.{◌≡◌, ◌∙◌, ℕ, ◌+◌, ◌-◌, ◌≤◌, ◌<◌, List, ◌++◌, length, take, drop, refl, sym, ap, arith, length-append, length-take, length-drop}
use Rattle.std.proofs.lemmas.List.{take-take, take_at, drop_at, take_all, drop-drop, drop-take, length-take-le, append_assoc}
use Rattle.pj_disk.specs.Image.{overwritten}

-- what stands within a front is that of the whole
pub within_front : (m j k : ℕ) (file : List ℕ) → j + k ≤ m → take k (drop j (take m file)) ≡ take k (drop j file)
within_front m j k file within =
    let shorter : take (j + k) (take m file) ≡ take (j + k) file = take-take (j + k) m file within in
    sym (drop-take j k (take m file)) ∙ ap (drop j) shorter ∙ drop-take j k file

-- files that agree up to a place agree in what stands before it
pub same_within : (m j k : ℕ) (a b : List ℕ) → take m a ≡ take m b → j + k ≤ m → take k (drop j a) ≡ take k (drop j b)
same_within m j k a b same within =
    sym (within_front m j k a within) ∙ ap (λ file. take k (drop j file)) same ∙ within_front m j k b within

pub same_front : (m k : ℕ) (a b : List ℕ) → take m a ≡ take m b → k ≤ m → take k a ≡ take k b
same_front m k a b same within = sym (take-take k m a within) ∙ ap (take k) same ∙ take-take k m b within

-- files that agree from a place on agree in what stands behind it
pub same_behind : (m j k : ℕ) (a b : List ℕ) → drop m a ≡ drop m b → m ≤ j → take k (drop j a) ≡ take k (drop j b)
same_behind m j k a b same behind =
    let place : m + (j - m) ≡ j = omega arith in
    ap (λ n. take k (drop n a)) (sym place) ∙ ap (take k) (sym (drop-drop (j - m) m a))
    ∙ ap (λ file. take k (drop (j - m) file)) same
    ∙ ap (take k) (drop-drop (j - m) m b) ∙ ap (λ n. take k (drop n b)) place

-- a part of a file with n bytes reaches no further than the file
pub part_within : (file part : List ℕ) (place : ℕ) → 0 < length part → take (length part) (drop place file) ≡ part → place + length part ≤ length file
part_within file part place some is =
    omega (arith, ap length is, length-take (length part) (drop place file), length-drop place file)

module _ (file : List ℕ) (at : ℕ) (bytes : List ℕ) (within : at ≤ length file) where
  front : length (take at file) ≡ at
  front = length-take-le at file within

  split : overwritten file at bytes ≡ take at file ++ (bytes ++ drop (at + length bytes) file)
  split = append_assoc (take at file) bytes (drop (at + length bytes) file)

  pub overwritten_front : take at (overwritten file at bytes) ≡ take at file
  overwritten_front = ap (take at) split ∙ take_at (take at file) _ at front

  pub overwritten_behind : drop at (overwritten file at bytes) ≡ bytes ++ drop (at + length bytes) file
  overwritten_behind = ap (drop at) split ∙ drop_at (take at file) _ at front

  pub overwritten_rest : drop (at + length bytes) (overwritten file at bytes) ≡ drop (at + length bytes) file
  overwritten_rest =
      drop_at (take at file ++ bytes) _ (at + length bytes) (length-append (take at file) bytes ∙ ap (λ n. n + length bytes) front)

  pub overwritten_length : length (overwritten file at bytes) ≡ at + length bytes + (length file - (at + length bytes))
  overwritten_length =
      length-append (take at file ++ bytes) (drop (at + length bytes) file)
      ∙ ap (λ n. n + length (drop (at + length bytes) file)) (length-append (take at file) bytes ∙ ap (λ n. n + length bytes) front)
      ∙ ap (λ n. at + length bytes + n) (length-drop (at + length bytes) file)

  -- a part of what was written
  pub overwritten_part : (j k : ℕ) → j + k ≤ length bytes → take k (drop (at + j) (overwritten file at bytes)) ≡ take k (drop j bytes)
  overwritten_part j k part =
      let inside : length bytes ≤ length bytes = omega arith in
      ap (take k) (sym (drop-drop j at (overwritten file at bytes))) ∙ ap (λ l. take k (drop j l)) overwritten_behind
      ∙ same_within (length bytes) j k (bytes ++ drop (at + length bytes) file) bytes (take_at bytes _ (length bytes) refl ∙ sym (take_all (length bytes) bytes inside)) part
