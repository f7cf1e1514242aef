-- What stands in a sorted list is counted once.
use Rattle.std.proofs.Common.{◌≡◌, ℕ, ◌+◌, Bool, true, false, ⊎_elim, List, [], ◌∷◌, refl, sym, ap, ◌∙◌, subst, arith, cond}
use Rattle.std.specs.Prelude.{Contains}
use Rattle.std.specs.Cmp.{IsTotalOrder}
use Rattle.std.specs.Ordering.{is_eq}
use Rattle.std.specs.List.Sorted.{IsStrictlySortedBy}
use Rattle.std.specs.declared.cmp.Ordering.{Ordering}
use Rattle.std.specs.declared.cmp.Ordering.TheVariants.{Less, Equal, Greater}
use Rattle.std.proofs.lemmas.Cmp.{tied_itself, tied_back}
use Rattle.pj_pmap.proofs.Lookups.{contains_first, contains_later, contains_cases}
use Rattle.pj_change.proofs.Members.{no_member, each, any_member}
use Rattle.pj_change.specs.declared.change.Record.{Record}
use Rattle.pj_rows.specs.declared.values.Here.{Here}
use Rattle.pj_rows.specs.Keys.{times, is_among, has}
use Rattle.pj_contest.specs.Contests.{IsIndexOf}
use Rattle.pj_rows.proofs.KeyLemmas.{count_cons}

module _ {K : Type 0} (cmp : K → K → Ordering) (order : IsTotalOrder cmp) (equal : (a b : K) → cmp a b ≡ Equal → a ≡ b) where
  pub times_once : (ks : List K) → IsStrictlySortedBy cmp ks → (x : K) (b : Bool) → (Contains ks x → b ≡ true) → (b ≡ true → Contains ks x) → times cmp x ks ≡ cond b 1 0
  unfolding IsStrictlySortedBy
  times_once [] s x true there back = absurd (no_member x (back refl))
  times_once [] s x false there back = refl
  times_once (k ∷ ks) s x b there back = by (times_once ks s.1 x) (cmp x k) refl
    where
      cons : times cmp x (k ∷ ks) ≡ cond (is_eq (cmp x k)) 1 0 + times cmp x ks
      cons = count_cons (λ k. is_eq (cmp x k)) k ks

      not_later : cmp x k ≡ Equal → Contains ks x → ⊥
      not_later e m = let l : cmp k x ≡ Less = each (λ y. cmp k y ≡ Less) ks s.0 x m in let f = tied_back order x k e in cc

      not_first : (o : Ordering) → cmp x k ≡ o → is_eq o ≡ false → (k ≡ x) → ⊥
      not_first o e f g = let h : cmp x x ≡ Equal = tied_itself order x in let l : cmp x x ≡ o = subst (λ (z : K). cmp x z ≡ o) g e in let t : is_eq o ≡ true = ap is_eq (sym l ∙ h) in cc

      add_none : (n : ℕ) → n ≡ cond b 1 0 → 0 + n ≡ cond b 1 0
      add_none n e = (let f : 0 + n ≡ n = omega arith in f) ∙ e

      past : ((c : Bool) → (Contains ks x → c ≡ true) → (c ≡ true → Contains ks x) → times cmp x ks ≡ cond c 1 0) → (o : Ordering) → cmp x k ≡ o → is_eq o ≡ false → times cmp x (k ∷ ks) ≡ cond b 1 0
      past rest o e f =
          let same = rest b (λ m. there (contains_later k x ks m)) (λ t. ⊎_elim (λ (g : k ≡ x). absurd (not_first o e f g)) (λ (m : Contains ks x). m) (contains_cases k x ks (back t))) in
          cons ∙ ap (λ c. cond c 1 0 + times cmp x ks) (ap is_eq e ∙ f) ∙ add_none (times cmp x ks) same

      by : ((c : Bool) → (Contains ks x → c ≡ true) → (c ≡ true → Contains ks x) → times cmp x ks ≡ cond c 1 0) → (o : Ordering) → cmp x k ≡ o → times cmp x (k ∷ ks) ≡ cond b 1 0
      by rest Less e = past rest Less e refl
      by rest Greater e = past rest Greater e refl
      by rest Equal e =
          let is : b ≡ true = there (subst (Contains (k ∷ ks)) (sym (equal x k e)) (contains_first k ks)) in
          let none : times cmp x ks ≡ 0 = rest false (λ m. absurd (not_later e m)) (λ f. (let g : false ≡ true = f in cc)) in
          cons ∙ ap (λ o. cond (is_eq o) 1 0 + times cmp x ks) e ∙ ap (λ n. 1 + n) none ∙ sym (ap (λ c. cond c 1 0) is)

  -- the rows of a record are in the index
  pub index_has : (rows : Record → List K) (S : List Record) (es : List (K × Here)) → IsIndexOf cmp rows S es → (r : Record) → Contains S r → (k : K) → Contains (rows r) k → has cmp k es ≡ true
  index_has rows S es is r m k c = is k ∙ any_member (λ r. is_among cmp k (rows r)) S r m (any_member (λ j. is_eq (cmp k j)) (rows r) k c (ap is_eq (tied_itself order k)))
