-- The keys of a set after an insertion, and one more member of a list.
use Rattle.std.proofs.Common.{◌≡◌, ℕ, ◌+◌, ◌<◌, ◌⊎◌, inl, inr, ⊎_elim, List, [], ◌∷◌, ◌++◌, refl, sym, ap, ◌∙◌, subst, length, get_or, take}
use Rattle.std.specs.Prelude.{Contains, ◌↔◌}
use Rattle.std.specs.BTreeSet.{insert_key}
use Rattle.std.specs.declared.cmp.Ordering.{Ordering}
use Rattle.std.specs.declared.cmp.Ordering.TheVariants.{Less, Equal, Greater}
use Rattle.std.proofs.lemmas.List.{take_more}
use Rattle.pj_change.proofs.LawfulLists.{append_cases, first_part, second_part}
use Rattle.pj_change.proofs.Members.{no_member}
use Rattle.pj_pmap.proofs.Lookups.{contains_first, contains_later, contains_cases}
use Rattle.pj_contest.specs.Sorting.{IsTight}

module _ {K : Type 0} (cmp : K → K → Ordering) (tight : IsTight cmp) where
  inserted_from : (ks : List K) (k x : K) → Contains (insert_key cmp ks k) x → (k ≡ x) ⊎ Contains ks x
  inserted_from [] k x m = contains_cases k x [] m
  inserted_from (y ∷ ys) k x m = by (inserted_from ys k x) (cmp k y) refl
    where
      by : (Contains (insert_key cmp ys k) x → (k ≡ x) ⊎ Contains ys x) → (o : Ordering) → cmp k y ≡ o → (k ≡ x) ⊎ Contains (y ∷ ys) x
      by rest Less f = let n = rw f at m in contains_cases k x (y ∷ ys) n
      by rest Equal f = inr (rw f at m)
      by rest Greater f = let n = rw f at m in ⊎_elim (λ (e : y ≡ x). inr (subst (Contains (y ∷ ys)) e (contains_first y ys)))
          (λ (l : Contains (insert_key cmp ys k) x). ⊎_elim (λ (e : k ≡ x). inl e) (λ (p : Contains ys x). inr (contains_later y x ys p)) (rest l)) (contains_cases y x (insert_key cmp ys k) n)

  inserted_to : (ks : List K) (k x : K) → (k ≡ x) ⊎ Contains ks x → Contains (insert_key cmp ks k) x
  inserted_to [] k x (inl e) = subst (Contains (k ∷ [])) e (contains_first k [])
  inserted_to [] k x (inr m) = absurd (no_member x m)
  inserted_to (y ∷ ys) k x c = by (inserted_to ys k x) (cmp k y) refl c
    where
      by : ((k ≡ x) ⊎ Contains ys x → Contains (insert_key cmp ys k) x) → (o : Ordering) → cmp k y ≡ o → (k ≡ x) ⊎ Contains (y ∷ ys) x → Contains (insert_key cmp (y ∷ ys) k) x
      by rest Less f (inl e) = rw f (subst (Contains (k ∷ y ∷ ys)) e (contains_first k (y ∷ ys)))
      by rest Less f (inr m) = rw f (contains_later k x (y ∷ ys) m)
      by rest Equal f (inl e) = rw f (subst (Contains (y ∷ ys)) (sym (tight k y f) ∙ e) (contains_first y ys))
      by rest Equal f (inr m) = rw f m
      by rest Greater f (inl e) = rw f (contains_later y x (insert_key cmp ys k) (rest (inl e)))
      by rest Greater f (inr m) = rw f (⊎_elim (λ (e : y ≡ x). subst (Contains (y ∷ insert_key cmp ys k)) e (contains_first y (insert_key cmp ys k))) (λ (n : Contains ys x). contains_later y x (insert_key cmp ys k) (rest (inr n))) (contains_cases y x ys m))

  -- a step of a loop that inserts each member of a list
  pub inserted_more : (all : List K) (i : ℕ) (k : K) → i < length all → get_or all i k ≡ k → (old new : List K) → new ≡ insert_key cmp old k → ((x : K) → Contains old x ↔ Contains (take i all) x) → (x : K) → Contains new x ↔ Contains (take (i + 1) all) x
  inserted_more all i k low is old new e was x = (there, back)
    where
      more : take (i + 1) all ≡ take i all ++ k ∷ []
      more = take_more all i k low ∙ ap (λ z. take i all ++ z ∷ []) is

      there : Contains new x → Contains (take (i + 1) all) x
      there m = subst (λ zs. Contains zs x) (sym more) (⊎_elim
          (λ (s : k ≡ x). second_part (take i all) (k ∷ []) x (subst (Contains (k ∷ [])) s (contains_first k [])))
          (λ (n : Contains old x). first_part (take i all) (k ∷ []) x ((was x).0 n))
          (inserted_from old k x (subst (λ zs. Contains zs x) e m)))

      back : Contains (take (i + 1) all) x → Contains new x
      back m = subst (λ zs. Contains zs x) (sym e) (inserted_to old k x (⊎_elim
          (λ (n : Contains (take i all) x). inr ((was x).1 n))
          (λ (n : Contains (k ∷ []) x). ⊎_elim (λ (s : k ≡ x). inl s) (λ (o : Contains [] x). absurd (no_member x o)) (contains_cases k x [] n))
          (append_cases (take i all) (k ∷ []) x (subst (λ zs. Contains zs x) more m))))
