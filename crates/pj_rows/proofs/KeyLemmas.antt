-- Keys and counts after one change of a map.
use Rattle.std.proofs.Common.{◌≡◌, ℕ, ◌+◌, ◌≤◌, ◌<◌, Bool, true, false, not, ◌&&◌, ◌||◌, List, [], ◌∷◌, ◌++◌, Option, Some, None, cond, refl, sym, ap, ◌∙◌, subst, arith, count_by, length, get_or, take, drop}
use Rattle.std.specs.Prelude.{is_some}
use Rattle.std.specs.Cmp.{IsTotalOrder}
use Rattle.std.specs.Ordering.{is_eq}
use Rattle.std.specs.declared.cmp.Ordering.{Ordering}
use Rattle.std.specs.declared.cmp.Ordering.TheVariants.{Less, Equal, Greater}
use Rattle.std.proofs.lemmas.List.Sums.{count_by_more_yes, count_by_more_no, sum_by-append, sum_by-cons}
use Rattle.std.proofs.lemmas.List.Folds.{list_any_more}
use Rattle.std.proofs.lemmas.List.{take-append-drop}
use Rattle.pj_pmap.specs.Pairs.{IsRising, value_at, with_pair, without_key}
use Rattle.pj_pmap.proofs.Lookups.{value_with, value_without}
use Rattle.pj_rows.specs.declared.values.Count.{Count}
use Rattle.pj_rows.specs.Keys.{has, is_among, times, number_at, amount, AllCounted}

pub count_append : {X : Type 0} (p : X → Bool) (xs ys : List X) → count_by p (xs ++ ys) ≡ count_by p xs + count_by p ys
count_append p xs ys = sum_by-append (λ x. cond (p x) 1 0) xs ys

pub count_cons : {X : Type 0} (p : X → Bool) (x : X) (xs : List X) → count_by p (x ∷ xs) ≡ cond (p x) 1 0 + count_by p xs
count_cons p x xs = sum_by-cons (λ x. cond (p x) 1 0) x xs

some_cond : {V : Type 0} (b : Bool) (v : V) (x : Option V) → is_some (cond b (Some v) x) ≡ (b || is_some x)
some_cond true v x = refl
some_cond false v x = refl

none_cond : {V : Type 0} (b : Bool) (x : Option V) → is_some (cond b None x) ≡ (not b && is_some x)
none_cond true x = refl
none_cond false x = refl

amount_cond : (b : Bool) (v : Option Count) (x : Option Count) → amount (cond b v x) ≡ cond b (amount v) (amount x)
amount_cond true v x = refl
amount_cond false v x = refl

module _ {K V : Type 0} (cmp : K → K → Ordering) (order : IsTotalOrder cmp) where
  pub has-with : (q k : K) (v : V) (es : List (K × V)) → has cmp q (with_pair cmp k v es) ≡ (is_eq (cmp q k) || has cmp q es)
  has-with q k v es = ap is_some (value_with cmp order q k v es) ∙ some_cond (is_eq (cmp q k)) v (value_at cmp q es)

  pub has-without : (q k : K) (es : List (K × V)) → IsRising cmp es → has cmp q (without_key cmp k es) ≡ (not (is_eq (cmp q k)) && has cmp q es)
  has-without q k es r = ap is_some (value_without cmp order q k es r) ∙ none_cond (is_eq (cmp q k)) (value_at cmp q es)

  -- keys that tie have one value
  pub value_alike : (q k : K) (es : List (K × V)) → cmp q k ≡ Equal → value_at cmp q es ≡ value_at cmp k es
  value_alike q k [] h = refl
  value_alike q k (e ∷ es) h = rw (order.congr q k e.0 h, value_alike q k es h) refl

or_shift : (a b c : Bool) → (a || (b || c)) ≡ ((b || a) || c)
or_shift true true c = refl
or_shift true false c = refl
or_shift false true c = refl
or_shift false false c = refl

pub one_more : (a b c d e : Bool) → d ≡ (a || e) → e ≡ (b || c) → d ≡ ((b || a) || c)
one_more a b c d e h f = h ∙ ap (λ x. a || x) f ∙ or_shift a b c

and_shift : (a b c : Bool) → (not a && (not b && c)) ≡ (not (b || a) && c)
and_shift true true c = refl
and_shift true false c = refl
and_shift false true c = refl
and_shift false false c = refl

pub one_less : (a b c d e : Bool) → d ≡ (not a && e) → e ≡ (not b && c) → d ≡ (not (b || a) && c)
one_less a b c d e h f = h ∙ ap (λ x. not a && x) f ∙ and_shift a b c

module _ {K : Type 0} (cmp : K → K → Ordering) (order : IsTotalOrder cmp) where
  -- ---- counts

  pub number_alike : (q k : K) (es : List (K × Count)) → cmp q k ≡ Equal → number_at cmp q es ≡ number_at cmp k es
  number_alike q k es h = ap amount (value_alike cmp order q k es h)

  pub number-with : (q k : K) (n : Count) (es : List (K × Count)) → number_at cmp q (with_pair cmp k n es) ≡ cond (is_eq (cmp q k)) n.count (number_at cmp q es)
  number-with q k n es = ap amount (value_with cmp order q k n es) ∙ amount_cond (is_eq (cmp q k)) (Some n) (value_at cmp q es)

  pub number-without : (q k : K) (es : List (K × Count)) → IsRising cmp es → number_at cmp q (without_key cmp k es) ≡ cond (is_eq (cmp q k)) 0 (number_at cmp q es)
  number-without q k es r = ap amount (value_without cmp order q k es r) ∙ amount_cond (is_eq (cmp q k)) None (value_at cmp q es)

  pub raised-by_one : (k : K) (n : Count) (es : List (K × Count)) → n.count ≡ number_at cmp k es + 1 → (q : K) → number_at cmp q (with_pair cmp k n es) ≡ number_at cmp q es + times cmp q (k ∷ [])
  raised-by_one k n es h q = by (cmp q k) refl (number-with q k n es)
    where
      by : (o : Ordering) → cmp q k ≡ o → number_at cmp q (with_pair cmp k n es) ≡ cond (is_eq (cmp q k)) n.count (number_at cmp q es) → number_at cmp q (with_pair cmp k n es) ≡ number_at cmp q es + times cmp q (k ∷ [])
      by Less f e = rw f (let g = rw f at e in omega arith)
      by Equal f e = let a = number_alike q k es f in rw f (let g = rw f at e in omega arith)
      by Greater f e = rw f (let g = rw f at e in omega arith)

  pub lowered-by_one : (k : K) (n : Count) (es : List (K × Count)) → n.count + 1 ≡ number_at cmp k es → (q : K) → number_at cmp q (with_pair cmp k n es) + times cmp q (k ∷ []) ≡ number_at cmp q es
  lowered-by_one k n es h q = by (cmp q k) refl (number-with q k n es)
    where
      by : (o : Ordering) → cmp q k ≡ o → number_at cmp q (with_pair cmp k n es) ≡ cond (is_eq (cmp q k)) n.count (number_at cmp q es) → number_at cmp q (with_pair cmp k n es) + times cmp q (k ∷ []) ≡ number_at cmp q es
      by Less f e = rw f (let g = rw f at e in omega arith)
      by Equal f e = let a = number_alike q k es f in rw f (let g = rw f at e in omega arith)
      by Greater f e = rw f (let g = rw f at e in omega arith)

  pub lowered-to_none : (k : K) (es : List (K × Count)) → IsRising cmp es → 1 ≡ number_at cmp k es → (q : K) → number_at cmp q (without_key cmp k es) + times cmp q (k ∷ []) ≡ number_at cmp q es
  lowered-to_none k es r h q = by (cmp q k) refl (number-without q k es r)
    where
      by : (o : Ordering) → cmp q k ≡ o → number_at cmp q (without_key cmp k es) ≡ cond (is_eq (cmp q k)) 0 (number_at cmp q es) → number_at cmp q (without_key cmp k es) + times cmp q (k ∷ []) ≡ number_at cmp q es
      by Less f e = rw f (let g = rw f at e in omega arith)
      by Equal f e = let a = number_alike q k es f in rw f (let g = rw f at e in omega arith)
      by Greater f e = rw f (let g = rw f at e in omega arith)

  pub counted-with : (k : K) (n : Count) (es : List (K × Count)) → AllCounted cmp es → 0 < n.count → IsRising cmp (with_pair cmp k n es) → AllCounted cmp (with_pair cmp k n es)
  counted-with k n es a low r = record { rising = r; some = λ q m h. by q m (is_eq (cmp q k)) refl (sym (value_with cmp order q k n es) ∙ h) }
    where
      by : (q : K) (m : Count) (b : Bool) → is_eq (cmp q k) ≡ b → cond (is_eq (cmp q k)) (Some n) (value_at cmp q es) ≡ Some m → 0 < m.count
      by q m true f h = let g : Some n ≡ Some m = rw f at h in let e : n ≡ m = cc in subst (λ (x : Count). 0 < x.count) e low
      by q m false f h = a.some q m (rw f at h)

  pub counted-without : (k : K) (es : List (K × Count)) → AllCounted cmp es → IsRising cmp (without_key cmp k es) → AllCounted cmp (without_key cmp k es)
  counted-without k es a r = record { rising = r; some = λ q m h. by q m (is_eq (cmp q k)) refl (sym (value_without cmp order q k es a.rising) ∙ h) }
    where
      by : (q : K) (m : Count) (b : Bool) → is_eq (cmp q k) ≡ b → cond (is_eq (cmp q k)) None (value_at cmp q es) ≡ Some m → 0 < m.count
      by q m true f h = let g : ◌≡◌ {A = Option Count} None (Some m) = rw f at h in cc
      by q m false f h = a.some q m (rw f at h)

module _ {K : Type 0} (cmp : K → K → Ordering) where
  pub times-more : (q : K) (ks : List K) (i : ℕ) (k : K) → i < length ks → get_or ks i k ≡ k → times cmp q (take (i + 1) ks) ≡ times cmp q (take i ks) + times cmp q (k ∷ [])
  times-more q ks i k l is = by (is_eq (cmp q k)) refl
    where
      by : (b : Bool) → is_eq (cmp q k) ≡ b → times cmp q (take (i + 1) ks) ≡ times cmp q (take i ks) + times cmp q (k ∷ [])
      by true f = rw f (count_by_more_yes (λ x. is_eq (cmp q x)) ks i k l (ap (λ x. is_eq (cmp q x)) is ∙ f) ∙ omega arith)
      by false f = rw f (count_by_more_no (λ x. is_eq (cmp q x)) ks i k l (ap (λ x. is_eq (cmp q x)) is ∙ f) ∙ omega arith)

  pub among-more : (q : K) (ks : List K) (i : ℕ) (k : K) → i < length ks → get_or ks i k ≡ k → is_among cmp q (take (i + 1) ks) ≡ (is_among cmp q (take i ks) || is_eq (cmp q k))
  among-more q ks i k l is = list_any_more (λ x. is_eq (cmp q x)) ks i k l ∙ ap (λ x. is_among cmp q (take i ks) || is_eq (cmp q x)) is

  -- a key of the list is counted
  pub times-some : (ks : List K) (i : ℕ) (k : K) → i < length ks → get_or ks i k ≡ k → is_eq (cmp k k) ≡ true → times cmp k (take i ks) + 1 ≤ times cmp k ks
  times-some ks i k l is e =
      let more = count_by_more_yes (λ x. is_eq (cmp k x)) ks i k l (ap (λ x. is_eq (cmp k x)) is ∙ e) in
      let cut = ap (count_by (λ x. is_eq (cmp k x))) (take-append-drop (i + 1) ks) in
      let split = count_append (λ x. is_eq (cmp k x)) (take (i + 1) ks) (drop (i + 1) ks) in
      omega arith
