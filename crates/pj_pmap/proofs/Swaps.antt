-- Lists from which an element was taken, so that the last one stands in its place.
use Rattle.std.proofs.Common.{◌≡◌, ℕ, suc, ◌+◌, ◌-◌, ◌<◌, ◌≤◌, ⊎_elim, List, [], ◌∷◌, ◌++◌, length, get_or, set, take, drop, remove, refl, sym, ap, ◌∙◌, append_assoc, append-nil, add-one, arith}
use Rattle.std.specs.List.{swap, swap_remove}
use Rattle.std.proofs.lemmas.Bool.{cases_eq, cases_lt}
use Rattle.std.proofs.lemmas.List.{same_lists, take-set, drop_all, length-set, length-take, length-append, get_or-set_same, get_or-set_other, get_or-take, get_or_append_left, get_or_push, set_split, get_or_default}
use Rattle.std.proofs.lemmas.List.Edits.{swap_is, length-remove, get_or-remove_below, get_or-remove_above}

module _ {X : Type 0} (all rest : List X) (i : ℕ) (d : X) (l : i < length all) (taken : rest ≡ swap_remove all i d) where
  -- one element less
  pub length_taken : length rest + 1 ≡ length all
  length_taken = rw taken (simp (length-take, length-set) (omega (arith, l)))

  last : length all - 1 ≡ length rest
  last = let long = length_taken in omega (arith, long)

  -- at its index stands the last element, and the others stay
  moved : (k : ℕ) (c : X) → k < length rest → get_or rest k c ≡ get_or (set all i (get_or all (length rest) d)) k c
  moved k c h =
      ap (λ (ys : List X). get_or ys k c) taken
      ∙ get_or-take _ _ k c (let n = last in omega (arith, h, n))
      ∙ ap (λ (n : ℕ). get_or (set all i (get_or all n d)) k c) last

  last_moved : (c : X) → i < length rest → get_or rest i c ≡ get_or all (length rest) d
  last_moved c h = moved i c h ∙ get_or-set_same all i _ c l

  others_stay : (k : ℕ) (c : X) → k < length rest → (k ≡ i → ⊥) → get_or rest k c ≡ get_or all k c
  others_stay k c h ne = moved k c h ∙ get_or-set_other all i k _ c ne

  -- another element put at its index
  pub back_with : (x : X) → swap (rest ++ x ∷ []) i (length rest) ≡ (take i all ++ x ∷ []) ++ drop (i + 1) all
  back_with x =
      sym (swap_is xs i (length rest) d in_xs last_xs)
      ∙ same_lists (set (set xs i (get_or xs (length rest) d)) (length rest) (get_or xs i d)) (set all i x) (simp length-set (length-append rest (x ∷ []) ∙ length_taken)) at
      ∙ set_split all i x l
      ∙ sym (append_assoc (take i all) (x ∷ []) (drop (suc i) all))
      ∙ ap (λ (j : ℕ). (take i all ++ x ∷ []) ++ drop j all) (sym (add-one i))
    where
      xs : List X
      xs = rest ++ x ∷ []

      in_xs : i < length xs
      in_xs = let n = length-append rest (x ∷ []) in let long = length_taken in omega (arith, n, long, l)

      last_xs : length rest < length xs
      last_xs = let n = length-append rest (x ∷ []) in omega (arith, n)

      -- what stands at the end
      at_last : (c : X) → get_or xs i d ≡ get_or (set all i x) (length rest) c
      at_last c = ⊎_elim same other (cases_eq i (length rest))
        where
          same : i ≡ length rest → get_or xs i d ≡ get_or (set all i x) (length rest) c
          same e = get_or_push rest x d i (sym e) ∙ sym (get_or-set_same all i x c l) ∙ ap (λ (j : ℕ). get_or (set all i x) j c) e

          other : (i ≡ length rest → ⊥) → get_or xs i d ≡ get_or (set all i x) (length rest) c
          other ne =
              let long = length_taken in
              let below : i < length rest = omega (arith, long, l, ne) in
              get_or_append_left rest (x ∷ []) d i below
              ∙ last_moved d below
              ∙ get_or_default all (length rest) d c (omega (arith, long))
              ∙ sym (get_or-set_other all i (length rest) x c (λ e. ne (sym e)))

      at : (k : ℕ) (c : X) → k < length (set (set xs i (get_or xs (length rest) d)) (length rest) (get_or xs i d)) → get_or (set (set xs i (get_or xs (length rest) d)) (length rest) (get_or xs i d)) k c ≡ get_or (set all i x) k c
      at k c h = ⊎_elim end inner (cases_eq k (length rest))
        where
          moved_in : List X
          moved_in = set xs i (get_or xs (length rest) d)

          end : k ≡ length rest → get_or (set moved_in (length rest) (get_or xs i d)) k c ≡ get_or (set all i x) k c
          end e =
              ap (λ (j : ℕ). get_or (set moved_in (length rest) (get_or xs i d)) j c) e
              ∙ get_or-set_same moved_in (length rest) (get_or xs i d) c (rw (length-set xs i (get_or xs (length rest) d)) last_xs)
              ∙ at_last c
              ∙ ap (λ (j : ℕ). get_or (set all i x) j c) (sym e)

          here : k ≡ i → get_or moved_in k c ≡ get_or (set all i x) k c
          here e =
              ap (λ (j : ℕ). get_or moved_in j c) e
              ∙ get_or-set_same xs i (get_or xs (length rest) d) c in_xs
              ∙ get_or_push rest x d (length rest) refl
              ∙ sym (get_or-set_same all i x c l)
              ∙ ap (λ (j : ℕ). get_or (set all i x) j c) (sym e)

          inner : (k ≡ length rest → ⊥) → get_or (set moved_in (length rest) (get_or xs i d)) k c ≡ get_or (set all i x) k c
          inner ne = get_or-set_other moved_in (length rest) k (get_or xs i d) c ne ∙ ⊎_elim here there (cases_eq k i)
            where
              there : (k ≡ i → ⊥) → get_or moved_in k c ≡ get_or (set all i x) k c
              there other =
                  let long = simp length-set at h in
                  let n = length-append rest (x ∷ []) in
                  let below : k < length rest = omega (arith, long, n, ne) in
                  get_or-set_other xs i k (get_or xs (length rest) d) c other
                  ∙ get_or_append_left rest (x ∷ []) c k below
                  ∙ others_stay k c below other
                  ∙ sym (get_or-set_other all i k x c other)

  -- the last element put back behind the others
  pub back_without : (h : i < length rest) → (x : X) → x ≡ get_or rest i x → remove rest i ++ x ∷ [] ≡ take i all ++ drop (i + 1) all
  back_without h x is =
      same_lists (remove rest i ++ x ∷ []) (remove all i) same at
      ∙ ap (λ (j : ℕ). take i all ++ drop j all) (sym (add-one i))
    where
      fewer : length (remove rest i) + 1 ≡ length rest
      fewer = length-remove rest i h

      same : length (remove rest i ++ x ∷ []) ≡ length (remove all i)
      same =
          let n = length-append (remove rest i) (x ∷ []) in
          let a = length-remove all i l in
          let long = length_taken in
          let few = fewer in
          omega (arith, n, a, long, few)

      at : (k : ℕ) (c : X) → k < length (remove rest i ++ x ∷ []) → get_or (remove rest i ++ x ∷ []) k c ≡ get_or (remove all i) k c
      at k c in_both = ⊎_elim end inner (cases_eq k (length (remove rest i)))
        where
          end : k ≡ length (remove rest i) → get_or (remove rest i ++ x ∷ []) k c ≡ get_or (remove all i) k c
          end e =
              let few = fewer in
              let long = length_taken in
              let next : length rest ≡ k + 1 = omega (arith, few, e) in
              get_or_push (remove rest i) x c k (sym e)
              ∙ is
              ∙ last_moved x h
              ∙ get_or_default all (length rest) d c (omega (arith, long))
              ∙ ap (λ (j : ℕ). get_or all j c) next
              ∙ sym (get_or-remove_above all i c k (omega (arith, few, e, h)) l)

          inner : (k ≡ length (remove rest i) → ⊥) → get_or (remove rest i ++ x ∷ []) k c ≡ get_or (remove all i) k c
          inner ne = get_or_append_left (remove rest i) (x ∷ []) c k within ∙ ⊎_elim below above (cases_lt k i)
            where
              within : k < length (remove rest i)
              within = let n = length-append (remove rest i) (x ∷ []) in omega (arith, n, in_both, ne)

              below : k < i → get_or (remove rest i) k c ≡ get_or (remove all i) k c
              below less =
                  get_or-remove_below rest i c k less h
                  ∙ others_stay k c (omega (arith, less, h)) (λ e. omega (arith, less, e))
                  ∙ sym (get_or-remove_below all i c k less l)

              above : i ≤ k → get_or (remove rest i) k c ≡ get_or (remove all i) k c
              above less =
                  let few = fewer in
                  let w = within in
                  get_or-remove_above rest i c k less h
                  ∙ others_stay (k + 1) c (omega (arith, few, w)) (λ e. omega (arith, less, e))
                  ∙ sym (get_or-remove_above all i c k less l)

  -- the last element itself was taken
  pub back_last : length rest ≤ i → rest ≡ take i all ++ drop (i + 1) all
  back_last h =
      let long = length_taken in
      let n : length all - 1 ≡ i = omega (arith, long, h, l) in
      taken
      ∙ ap (λ (j : ℕ). take j (set all i (get_or all (length all - 1) d))) n
      ∙ take-set all i (get_or all (length all - 1) d)
      ∙ sym (append-nil (take i all))
      ∙ ap (λ (ys : List X). take i all ++ ys) (sym (drop_all (i + 1) all (omega (arith, long, h))))
