-- Sets that a list has the members of.
use Rattle.std.proofs.Common.{◌≡◌, ℕ, zero, suc, ◌<◌, List, [], ◌∷◌, ◌++◌, length, refl, sym, ◌∙◌, ap, subst, inl, inr, arith}
use Rattle.std.specs.Prelude.{Contains, ◌⊎◌, Option, Some, None, slice_get}
use Rattle.std.proofs.lemmas.Bool.{cases_lt}
use Rattle.std.specs.Cmp.{IsTotalOrder}
use Rattle.std.specs.List.Sorted.{IsStrictlySortedBy}
use Rattle.std.specs.declared.cmp.Ordering.{Ordering}
use Rattle.std.specs.declared.cmp.Ordering.TheVariants.{Less, Equal, Greater}
use Rattle.std.specs.Ordering.{ordering_reverse}
use Rattle.pj_change.specs.Graph.{Lists}
use Rattle.pj_change.proofs.Decided.{Known, HasAt}
use Rattle.pj_change.proofs.LawfulLists.{append_cases, first_part, second_part}
use Rattle.pj_change.proofs.Listings.{IsRelated}
use Rattle.pj_change.proofs.Members.{uncons, first_member, later_member, no_member, same_member, from_each}

-- a list has just the things of which P holds
pub record Finite {X : Type 0} (P : X → Type 0) : Type 0 where
  pub list : List X
  pub only : (x : X) → Contains list x → P x
  pub all : (x : X) → P x → Contains list x

module _ {X : Type 0} where
  -- nothing
  pub none : (P : X → Type 0) → ((x : X) → P x → ⊥) → Finite P
  none P empty = record { list = []; only = λ x m. absurd (no_member x m); all = λ x p. absurd (empty x p) }

  -- one thing
  pub one : (P : X → Type 0) (it : X) → P it → ((x : X) → P x → it ≡ x) → Finite P
  one P it is same = record {
    list = it ∷ [];
    only = λ x m. elim (uncons it [] x m) [ inl e ↦ subst P e is | inr n ↦ absurd (no_member x n) ];
    all = λ x p. same_member (it ∷ []) (same x p) (first_member it []);
  }

  -- the same things, said otherwise
  pub alike : (P Q : X → Type 0) → ((x : X) → P x → Q x) → ((x : X) → Q x → P x) → Finite P → Finite Q
  alike P Q there back a = record { list = a.list; only = λ x m. there x (a.only x m); all = λ x q. a.all x (back x q) }

  -- the things of the one set and of the other
  pub either : (P Q : X → Type 0) → Finite P → Finite Q → Finite (λ x. P x ⊎ Q x)
  either P Q a b = record {
    list = a.list ++ b.list;
    only = λ x m. elim (append_cases a.list b.list x m) [ inl n ↦ inl (a.only x n) | inr n ↦ inr (b.only x n) ];
    all = λ x h. elim h [ inl p ↦ first_part a.list b.list x (a.all x p) | inr q ↦ second_part a.list b.list x (b.all x q) ];
  }

  -- what a member of a list has
  pub some : {Y : Type 0} (P : Y → X → Type 0) (ys : List Y) → ((y : Y) → Contains ys y → Finite (P y)) → Finite (λ x. (y : Y) × Contains ys y × P y x)
  some {Y} P [] each = none (λ x. (y : Y) × Contains [] y × P y x) (λ x h. no_member h.0 h.1)
  some {Y} P (y ∷ ys) each =
      alike (λ x. P y x ⊎ ((z : Y) × Contains ys z × P z x)) (λ x. (z : Y) × Contains (y ∷ ys) z × P z x) there back
      (either (P y) (λ x. (z : Y) × Contains ys z × P z x) (each y (first_member y ys)) (some P ys (λ z m. each z (later_member y ys z m))))
    where
      there : (x : X) → P y x ⊎ ((z : Y) × Contains ys z × P z x) → (z : Y) × Contains (y ∷ ys) z × P z x
      there x (inl p) = (y, first_member y ys, p)
      there x (inr h) = (h.0, later_member y ys h.0 h.1, h.2)

      back : (x : X) → (z : Y) × Contains (y ∷ ys) z × P z x → P y x ⊎ ((z : Y) × Contains ys z × P z x)
      back x h = elim (uncons y ys h.0 h.1) [ inl e ↦ inl (subst (λ z. P z x) (sym e) h.2) | inr n ↦ inr (h.0, n, h.2) ]

  -- what a number below n has
  pub below : (P : ℕ → X → Type 0) (n : ℕ) → ((k : ℕ) → Finite (P k)) → Finite (λ x. (k : ℕ) × (k < n) × P k x)
  below P zero each = none (λ x. (k : ℕ) × (k < zero) × P k x) (λ x h. omega (arith, h.1))
  below P (suc n) each =
      alike (λ x. P n x ⊎ ((k : ℕ) × (k < n) × P k x)) (λ x. (k : ℕ) × (k < suc n) × P k x) there back
      (either (P n) (λ x. (k : ℕ) × (k < n) × P k x) (each n) (below P n each))
    where
      there : (x : X) → P n x ⊎ ((k : ℕ) × (k < n) × P k x) → (k : ℕ) × (k < suc n) × P k x
      there x (inl p) = (n, omega arith, p)
      there x (inr h) = (h.0, (let l = h.1 in omega arith), h.2)

      back : (x : X) → (k : ℕ) × (k < suc n) × P k x → P n x ⊎ ((k : ℕ) × (k < n) × P k x)
      back x h = elim (cases_lt h.0 n) [
        | inl l ↦ inr (h.0, l, h.2)
        | inr l ↦ inl (subst (λ k. P k x) (let g = h.1 in omega arith) h.2)
      ]

  -- those of which something known holds too
  pub known_ones : (P Q : X → Type 0) → Finite P → ((x : X) → P x → Known (Q x)) → Finite (λ x. P x × Q x)
  known_ones P Q a known = alike (λ x. (y : X) × Contains a.list y × (P y × Q y × (y ≡ x))) (λ x. P x × Q x)
      (λ x h. subst (λ z. P z × Q z) h.2.2 (h.2.0, h.2.1)) (λ x h. (x, a.all x h.0, (h.0, h.1, refl)))
      (some (λ y x. P y × Q y × (y ≡ x)) a.list (λ y m. by y (a.only y m) (known y (a.only y m))))
    where
      by : (y : X) → P y → Known (Q y) → Finite (λ x. P y × Q y × (y ≡ x))
      by y p (inl q) = one (λ x. P y × Q y × (y ≡ x)) y (p, q, refl) (λ x h. h.2)
      by y p (inr n) = none (λ x. P y × Q y × (y ≡ x)) (λ x h. n h.1)

-- what stands in a list at a number
pub at : {X Y : Type 0} (P : ℕ → Y → X → Type 0) (ys : List Y) → ((k : ℕ) (y : Y) → Finite (P k y)) → Finite (λ x. HasAt (λ k y. P k y x) ys)
at {X} {Y} P ys each =
    alike (λ x. (k : ℕ) × (k < length ys) × ((y : Y) × (slice_get ys k ≡ Some y) × P k y x)) (λ x. HasAt (λ k y. P k y x) ys)
    (λ x h. record { number = h.0; it = h.2.0; there = h.2.1; is = h.2.2 })
    (λ x h. (h.number, within ys h.number h.it h.there, (h.it, h.there, h.is)))
    (below (λ k x. (y : Y) × (slice_get ys k ≡ Some y) × P k y x) (length ys) (λ k. by k (slice_get ys k) refl))
  where
    within : (zs : List Y) (k : ℕ) (y : Y) → slice_get zs k ≡ Some y → k < length zs
    within [] k y e = absurd (cc)
    within (z ∷ zs) zero y e = omega arith
    within (z ∷ zs) (suc k) y e = (let l = within zs k y e in omega arith)

    by : (k : ℕ) (o : Option Y) → slice_get ys k ≡ o → Finite (λ x. (y : Y) × (slice_get ys k ≡ Some y) × P k y x)
    by k None e = none (λ x. (y : Y) × (slice_get ys k ≡ Some y) × P k y x) (λ x h. let f : None ≡ Some h.0 = sym e ∙ h.1 in cc)
    by k (Some y) e = alike (P k y) (λ x. (z : Y) × (slice_get ys k ≡ Some z) × P k z x) (λ x p. (y, e, p))
        (λ x h. subst (λ z. P k z x) (let f : Some h.0 ≡ Some y = sym h.1 ∙ e in cc) h.2) (each k y)

-- ---- in order

module _ {X : Type 0} (cmp : X → X → Ordering) (total : IsTotalOrder cmp) where
  -- a list in order of x and the members of another
  record IsInserted (x : X) (xs : List X) : Type 0 where
    list : List X
    sorted : IsRelated (λ a b. cmp a b ≡ Less) list
    only : (y : X) → Contains list y → (x ≡ y) ⊎ Contains xs y
    here : Contains list x
    rest : (y : X) → Contains xs y → Contains list y

  -- one more thing has its place
  inserted : (x : X) (xs : List X) → IsRelated (λ a b. cmp a b ≡ Less) xs → ((y : X) → Contains xs y → cmp x y ≡ Equal → x ≡ y) → IsInserted x xs
  inserted x [] s tied = record {
    list = x ∷ [];
    sorted = (λ y m. absurd (no_member y m), tt);
    only = λ y m. uncons x [] y m;
    here = first_member x [];
    rest = λ y m. absurd (no_member y m);
  }
  inserted x (y ∷ ys) s tied = go (cmp x y) refl (inserted x ys s.1 (λ z m. tied z (later_member y ys z m)))
    where
      go : (o : Ordering) → cmp x y ≡ o → IsInserted x ys → IsInserted x (y ∷ ys)
      go Less e r = record {
        list = x ∷ y ∷ ys;
        sorted = (λ z m. elim (uncons y ys z m) [ inl h ↦ subst (λ z. cmp x z ≡ Less) h e | inr n ↦ total.trans x y z e (s.0 z n) ], s);
        only = λ z m. uncons x (y ∷ ys) z m;
        here = first_member x (y ∷ ys);
        rest = λ z m. later_member x (y ∷ ys) z m;
      }
      go Equal e r = record {
        list = y ∷ ys;
        sorted = s;
        only = λ z m. inr m;
        here = same_member (y ∷ ys) (sym (tied y (first_member y ys) e)) (first_member y ys);
        rest = λ z m. m;
      }
      go Greater e r =
          let before : cmp y x ≡ Less = total.antisymm y x ∙ ap ordering_reverse e in
          record {
            list = y ∷ r.list;
            sorted = (λ z m. elim (r.only z m) [ inl h ↦ subst (λ z. cmp y z ≡ Less) h before | inr n ↦ s.0 z n ], r.sorted);
            only = λ z m. elim (uncons y r.list z m) [
              | inl h ↦ inr (same_member (y ∷ ys) h (first_member y ys))
              | inr n ↦ elim (r.only z n) [ inl h ↦ inl h | inr k ↦ inr (later_member y ys z k) ]
            ];
            here = later_member y r.list x r.here;
            rest = λ z m. elim (uncons y ys z m) [
              | inl h ↦ same_member (y ∷ r.list) h (first_member y r.list)
              | inr n ↦ later_member y r.list z (r.rest z n)
            ];
          }

  -- a list in order with the members of another
  record IsOrdered (xs : List X) : Type 0 where
    list : List X
    sorted : IsRelated (λ a b. cmp a b ≡ Less) list
    only : (y : X) → Contains list y → Contains xs y
    all : (y : X) → Contains xs y → Contains list y

  -- each finite list has such a list
  ordered : (xs : List X) → ((u v : X) → Contains xs u → Contains xs v → cmp u v ≡ Equal → u ≡ v) → IsOrdered xs
  ordered [] tied = record { list = []; sorted = tt; only = λ y m. m; all = λ y m. m }
  ordered (x ∷ xs) tied =
      let o = ordered xs (λ u v m n. tied u v (later_member x xs u m) (later_member x xs v n)) in
      let i = inserted x o.list o.sorted (λ y m. tied x y (first_member x xs) (later_member x xs y (o.only y m))) in
      record {
        list = i.list;
        sorted = i.sorted;
        only = λ y m. elim (i.only y m) [ inl h ↦ same_member (x ∷ xs) h (first_member x xs) | inr n ↦ later_member x xs y (o.only y n) ];
        all = λ y m. elim (uncons x xs y m) [ inl h ↦ same_member i.list h i.here | inr n ↦ i.rest y (o.all y n) ];
      }

  -- it is in order
  sorted_related : (xs : List X) → IsRelated (λ a b. cmp a b ≡ Less) xs → IsStrictlySortedBy cmp xs
  unfolding IsStrictlySortedBy
  sorted_related [] s = tt
  sorted_related (x ∷ xs) s = (from_each (λ y. cmp x y ≡ Less) xs s.0, sorted_related xs s.1)

  -- the things of a finite set in order, where those that the order does not tell apart are equal
  pub listed : (P : X → Type 0) → Finite P → ((x y : X) → P x → P y → cmp x y ≡ Equal → x ≡ y) → (list : List X) × Lists cmp P list
  listed P a tied =
      let o = ordered a.list (λ u v m n. tied u v (a.only u m) (a.only v n)) in
      (o.list, record { sorted = sorted_related o.list o.sorted; only = λ x m. a.only x (o.only x m); all = λ x p. o.all x (a.all x p) })
