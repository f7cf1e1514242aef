-- Lists of items: what is read stands there, and what stands there is read.
use Rattle.std.proofs.Common.{◌≡◌, ℕ, zero, suc, ◌≤◌, Bool, true, false, List, [], ◌∷◌, ◌++◌, length, Option, Some, refl, sym, ap, ◌∙◌, append_assoc, arith}
use Rattle.std.specs.Prelude.{codes, map}
use Rattle.std.specs.List.{flat_map, join_with_byte, AllByRecursion}
use Rattle.std.proofs.lemmas.List.{append-nil}
use Rattle.pj_change.specs.declared.point.Ref.{Ref}
use Rattle.pj_change.specs.Text.{reference, references}
use Rattle.pj_text.specs.Reading.{◌>>=◌, begins, many_at, next_at, joined_at, reference_at, references_at}
use Rattle.pj_text.proofs.Gets.{Gets, gets_some, gets_then, gets_either, gets_weaker}
use Rattle.pj_text.proofs.FieldLaws.{token_spelled, token_read, stops, IsSmall, reference_spelled, reference_read, reference_begins}

-- what an item reads is spelled so
abbrev pub IsSpelled : {X : Type 0} → (X → List ℕ) → (List ℕ → Option (X × List ℕ)) → Type 0
IsSpelled text item = (bytes : List ℕ) → Gets (item bytes) (λ x. bytes ≡ text x.0 ++ x.1)

pub many_spelled : {X : Type 0} (text : X → List ℕ) (more : List ℕ → Bool) (item : List ℕ → Option (X × List ℕ)) → IsSpelled text item → (n : ℕ) → IsSpelled (flat_map text) (many_at more item n)
unfolding many_at
many_spelled text more item spelled zero bytes = gets_some _ refl
many_spelled text more item spelled (suc n) bytes =
    gets_either (more bytes) (item bytes >>= λ first. many_at more item n first.1 >>= λ others. Some (first.0 ∷ others.0, others.1)) (Some ([], bytes)) (λ h.
    gets_then _ _ (spelled bytes) (λ first f.
    gets_then _ _ (many_spelled text more item spelled n first.1) (λ others o.
    gets_some _ (f ∙ ap (λ (t : List ℕ). text first.0 ++ t) o ∙ sym (append_assoc (text first.0) (flat_map text others.0) others.1)))))
    (gets_some ([], bytes) refl)

-- an item with this spelling is asked for and read, before whatever may follow it
pub record Rereads {X : Type 0} (text : X → List ℕ) (more : List ℕ → Bool) (item : List ℕ → Option (X × List ℕ)) (Fits : X → Type 0) (Follows : List ℕ → Type 0) : Type 0 where
  pub asked : (x : X) (rest : List ℕ) → Fits x → more (text x ++ rest) ≡ true
  pub read : (x : X) (rest : List ℕ) → Fits x → Follows rest → item (text x ++ rest) ≡ Some (x, rest)
  pub follows : (x : X) (rest : List ℕ) → Fits x → Follows (text x ++ rest)

pub many_follow : {X : Type 0} (text : X → List ℕ) (more : List ℕ → Bool) (item : List ℕ → Option (X × List ℕ)) (Fits : X → Type 0) (Follows : List ℕ → Type 0) → Rereads text more item Fits Follows
    → (xs : List X) (rest : List ℕ) → AllByRecursion Fits xs → Follows rest → Follows (flat_map text xs ++ rest)
many_follow text more item Fits Follows again [] rest fits f = f
many_follow text more item Fits Follows again (x ∷ xs) rest fits f =
    let regrouped : (text x ++ flat_map text xs) ++ rest ≡ text x ++ (flat_map text xs ++ rest) = append_assoc (text x) (flat_map text xs) rest in
    rw regrouped (again.follows x (flat_map text xs ++ rest) fits.0)

pub many_read : {X : Type 0} (text : X → List ℕ) (more : List ℕ → Bool) (item : List ℕ → Option (X × List ℕ)) (Fits : X → Type 0) (Follows : List ℕ → Type 0) → Rereads text more item Fits Follows
    → (n : ℕ) (xs : List X) (rest : List ℕ) → length xs ≤ n → AllByRecursion Fits xs → Follows rest → more rest ≡ false → many_at more item n (flat_map text xs ++ rest) ≡ Some (xs, rest)
unfolding many_at
many_read text more item Fits Follows again zero [] rest few fits f none = refl
many_read text more item Fits Follows again zero (x ∷ xs) rest few fits f none = absurd (omega (arith, few))
many_read text more item Fits Follows again (suc n) [] rest few fits f none = rw none refl
many_read text more item Fits Follows again (suc n) (x ∷ xs) rest few fits f none =
    let regrouped : (text x ++ flat_map text xs) ++ rest ≡ text x ++ (flat_map text xs ++ rest) = append_assoc (text x) (flat_map text xs) rest in
    ap (many_at more item (suc n)) regrouped
    ∙ rw (again.asked x (flat_map text xs ++ rest) fits.0, again.read x (flat_map text xs ++ rest) fits.0 (many_follow text more item Fits Follows again xs rest fits.1 f), many_read text more item Fits Follows again n xs rest (omega (arith, few)) fits.1 f none) refl

-- ---- items with commas between

pub join-cons : {X : Type 0} (text : X → List ℕ) (x : X) (xs : List X) → join_with_byte 44 (map text (x ∷ xs)) ≡ text x ++ flat_map (λ y. 44 ∷ text y) xs
join-cons text x [] = sym (append-nil (text x))
join-cons text x (y ∷ xs) = ap (λ (t : List ℕ). text x ++ (44 ∷ t)) (join-cons text y xs)

next_spelled : {X : Type 0} (text : X → List ℕ) (item : List ℕ → Option (X × List ℕ)) → IsSpelled text item → IsSpelled (λ x. 44 ∷ text x) (next_at item)
unfolding next_at
next_spelled text item spelled bytes =
    gets_then _ _ (token_spelled (codes ",") bytes) (λ comma c.
    gets_weaker _ (spelled comma.1) (λ x h. c ∙ ap (λ (t : List ℕ). 44 ∷ t) h))

pub joined_spelled : {X : Type 0} (text : X → List ℕ) (item : List ℕ → Option (X × List ℕ)) → IsSpelled text item
    → (bytes : List ℕ) → Gets (joined_at item bytes) (λ x. (bytes ≡ join_with_byte 44 (map text x.0) ++ x.1) × (1 ≤ length x.0))
unfolding joined_at
joined_spelled text item spelled bytes =
    gets_then _ _ (spelled bytes) (λ first f.
    gets_then _ _ (many_spelled (λ y. 44 ∷ text y) _ _ (next_spelled text item spelled) 63 first.1) (λ others o.
    gets_some (first.0 ∷ others.0, others.1) (
      f ∙ ap (λ (t : List ℕ). text first.0 ++ t) o ∙ sym (append_assoc (text first.0) (flat_map (λ y. 44 ∷ text y) others.0) others.1) ∙ ap (λ (t : List ℕ). t ++ others.1) (sym (join-cons text first.0 others.0)),
      omega arith,
    )))

-- an item with this spelling is read before a byte that is no digit
abbrev pub IsReread : {X : Type 0} → (X → List ℕ) → (List ℕ → Option (X × List ℕ)) → (X → Type 0) → Type 0
IsReread text item Fits = (x : _) (rest : List ℕ) → Fits x → stops rest ≡ true → item (text x ++ rest) ≡ Some (x, rest)

next_reread : {X : Type 0} (text : X → List ℕ) (item : List ℕ → Option (X × List ℕ)) (Fits : X → Type 0) → IsReread text item Fits
    → Rereads (λ x. 44 ∷ text x) (begins (codes ",")) (next_at item) Fits (λ rest. stops rest ≡ true)
unfolding next_at
next_reread text item Fits again = record {
  asked = λ x rest fits. refl;
  read = λ x rest fits s. rw (token_read (codes ",") (text x ++ rest)) (again x rest fits s);
  follows = λ x rest fits. refl;
}

pub joined_read : {X : Type 0} (text : X → List ℕ) (item : List ℕ → Option (X × List ℕ)) (Fits : X → Type 0) → IsReread text item Fits
    → (x : X) (xs : List X) (rest : List ℕ) → length xs ≤ 63 → Fits x → AllByRecursion Fits xs → stops rest ≡ true → begins (codes ",") rest ≡ false → joined_at item (join_with_byte 44 (map text (x ∷ xs)) ++ rest) ≡ Some (x ∷ xs, rest)
unfolding joined_at
joined_read {X} text item Fits again x xs rest few first others s none =
    let next : X → List ℕ = λ y. 44 ∷ text y in
    let repeats = next_reread text item Fits again in
    let regrouped : join_with_byte 44 (map text (x ∷ xs)) ++ rest ≡ text x ++ (flat_map next xs ++ rest) = ap (λ (t : List ℕ). t ++ rest) (join-cons text x xs) ∙ append_assoc (text x) (flat_map next xs) rest in
    let following = many_follow next (begins (codes ",")) (next_at item) Fits (λ t. stops t ≡ true) repeats xs rest others s in
    ap (joined_at item) regrouped
    ∙ rw (again x (flat_map next xs ++ rest) first following, many_read next (begins (codes ",")) (next_at item) Fits (λ t. stops t ≡ true) repeats 63 xs rest few others s none) refl

-- ---- references

references-join : (rs : List Ref) → 1 ≤ length rs → references rs ≡ join_with_byte 44 (map reference rs)
unfolding references
references-join [] long = absurd (omega (arith, long))
references-join (r ∷ rs) long = refl

pub references_spelled : IsSpelled references references_at
unfolding references_at references
references_spelled bytes =
    gets_either _ _ _ (λ h. gets_then _ _ (token_spelled (codes "-") bytes) (λ dash d. gets_some ([], dash.1) d))
    (gets_weaker _ (joined_spelled reference reference_at reference_spelled bytes) (λ x h. h.0 ∙ ap (λ (t : List ℕ). t ++ x.1) (sym (references-join x.0 h.1))))

pub references_read : (rs : List Ref) (rest : List ℕ) → length rs ≤ 64 → AllByRecursion IsSmall rs → stops rest ≡ true → begins (codes ",") rest ≡ false → references_at (references rs ++ rest) ≡ Some (rs, rest)
unfolding references_at references
references_read [] rest few small s none = rw (token_read (codes "-") rest) refl
references_read (r ∷ rs) rest few small s none =
    let regrouped : join_with_byte 44 (map reference (r ∷ rs)) ++ rest ≡ reference r ++ (flat_map (λ y. 44 ∷ reference y) rs ++ rest) = ap (λ (t : List ℕ). t ++ rest) (join-cons reference r rs) ∙ append_assoc (reference r) (flat_map (λ y. 44 ∷ reference y) rs) rest in
    let other : begins (codes "-") (join_with_byte 44 (map reference (r ∷ rs)) ++ rest) ≡ false = ap (begins (codes "-")) regrouped ∙ reference_begins r (flat_map (λ y. 44 ∷ reference y) rs ++ rest) small.0 in
    rw other (joined_read reference reference_at IsSmall reference_read r rs rest (omega (arith, few)) small.0 small.1 s none)
