-- Lists that gather the members of a set, step by step, of one list of things or by number.
use Rattle.std.proofs.Common.{◌≡◌, ℕ, ◌+◌, ◌<◌, List, [], ◌∷◌, ◌++◌, length, take, get_or, sym, ◌∙◌, ap, subst, inl, inr, arith}
use Rattle.std.specs.Prelude.{Contains, ◌⊎◌}
use Rattle.std.proofs.Math.Seq.{take-length}
use Rattle.std.proofs.lemmas.List.{take_more}
use Rattle.pj_change.proofs.Members.{uncons, first_member, no_member, moved, same_member}
use Rattle.pj_change.proofs.LawfulLists.{append_cases, first_part, second_part}
use Rattle.pj_change.specs.Gathers.{Gathers, IsOfOne, IsOfNumber}

module _ {X : Type 0} where
  -- nothing was to be gathered
  pub gathers_none : (P : X → Type 0) (list : List X) → ((x : X) → P x → ⊥) → Gathers P list list
  gathers_none P list none = record { kept = λ x m. m; all = λ x p. absurd (none x p); only = λ x m. inl m }

  -- one thing was
  pub gathers_one : (P : X → Type 0) (one : X) (old new : List X) → new ≡ old ++ one ∷ [] → P one → ((x : X) → P x → x ≡ one) → Gathers P old new
  gathers_one P one old new e is same = record {
    kept = λ x m. moved x (sym e) (first_part old (one ∷ []) x m);
    all = λ x p. moved x (sym e) (second_part old (one ∷ []) x (same_member (one ∷ []) (sym (same x p)) (first_member one [])));
    only = λ x m. from x (append_cases old (one ∷ []) x (moved x e m));
  }
    where
      from : (x : X) → Contains old x ⊎ Contains (one ∷ []) x → Contains old x ⊎ P x
      from x (inl k) = inl k
      from x (inr k) = elim (uncons one [] x k) [ inl s ↦ inr (subst P s is) | inr n ↦ absurd (no_member x n) ]

  -- first some things, and then others
  pub gathers_both : (P Q R : X → Type 0) (old middle new : List X) → ((x : X) → R x → P x ⊎ Q x) → ((x : X) → P x → R x) → ((x : X) → Q x → R x) →
      Gathers P old middle → Gathers Q middle new → Gathers R old new
  gathers_both P Q R old middle new split left right a b = record {
    kept = λ x m. b.kept x (a.kept x m);
    all = λ x r. either x (split x r);
    only = λ x m. from x (b.only x m);
  }
    where
      either : (x : X) → P x ⊎ Q x → Contains new x
      either x (inl p) = b.kept x (a.all x p)
      either x (inr q) = b.all x q

      from : (x : X) → Contains middle x ⊎ Q x → Contains old x ⊎ R x
      from x (inr q) = inr (right x q)
      from x (inl m) = elim (a.only x m) [ inl k ↦ inl k | inr p ↦ inr (left x p) ]

  -- the same things, said otherwise
  pub gathers_alike : (P Q : X → Type 0) (old new : List X) → ((x : X) → P x → Q x) → ((x : X) → Q x → P x) → Gathers P old new → Gathers Q old new
  gathers_alike P Q old new there back a = record {
    kept = a.kept;
    all = λ x q. a.all x (back x q);
    only = λ x m. elim (a.only x m) [ inl k ↦ inl k | inr p ↦ inr (there x p) ];
  }

  -- what was gathered from nothing is the members of the set
  pub gathered : (P : X → Type 0) (new : List X) → Gathers P [] new → (x : X) → Contains new x → P x
  gathered P new a x m = elim (a.only x m) [ inl k ↦ absurd (no_member x k) | inr p ↦ p ]

module _ {X Y : Type 0} (P : Y → X → Type 0) where
  -- a loop over the things of which each is a thing of one of these
  pub of_none : (x : X) → IsOfOne P [] x → ⊥
  of_none x h = no_member h.one h.member

  pub of_more : (ys : List Y) (i : ℕ) (y d : Y) → i < length ys → y ≡ get_or ys i d → (old middle new : List X) →
      Gathers (IsOfOne P (take i ys)) old middle → Gathers (P y) middle new → Gathers (IsOfOne P (take (i + 1) ys)) old new
  of_more ys i y d low is old middle new a b =
      gathers_both (IsOfOne P (take i ys)) (P y) (IsOfOne P (take (i + 1) ys)) old middle new split left right a b
    where
      e : take (i + 1) ys ≡ take i ys ++ y ∷ []
      e = take_more ys i d low ∙ ap (λ z. take i ys ++ z ∷ []) (sym is)

      split : (x : X) → IsOfOne P (take (i + 1) ys) x → IsOfOne P (take i ys) x ⊎ P y x
      split x h = elim (append_cases (take i ys) (y ∷ []) h.one (moved h.one e h.member)) [
        | inl k ↦ inl (record { one = h.one; member = k; is = h.is })
        | inr k ↦ elim (uncons y [] h.one k) [ inl s ↦ inr (subst (λ z. P z x) (sym s) h.is) | inr n ↦ absurd (no_member h.one n) ]
      ]

      left : (x : X) → IsOfOne P (take i ys) x → IsOfOne P (take (i + 1) ys) x
      left x h = record { one = h.one; member = moved h.one (sym e) (first_part (take i ys) (y ∷ []) h.one h.member); is = h.is }

      right : (x : X) → P y x → IsOfOne P (take (i + 1) ys) x
      right x p = record { one = y; member = moved y (sym e) (second_part (take i ys) (y ∷ []) y (first_member y [])); is = p }

  pub of_all : (ys : List Y) (i : ℕ) → length ys ≡ i → (old new : List X) → Gathers (IsOfOne P (take i ys)) old new → Gathers (IsOfOne P ys) old new
  of_all ys i e old new a = subst (λ l. Gathers (IsOfOne P l) old new) (ap (λ n. take n ys) (sym e) ∙ take-length ys) a

-- the same in a loop over numbers
module _ {X : Type 0} (P : ℕ → X → Type 0) where
  pub numbers_none : (list : List X) → Gathers (IsOfNumber P 0) list list
  numbers_none list = gathers_none (IsOfNumber P 0) list (λ x h. omega (arith, h.low))

  pub numbers_more : (n : ℕ) (old middle new : List X) → Gathers (IsOfNumber P n) old middle → Gathers (P n) middle new → Gathers (IsOfNumber P (n + 1)) old new
  numbers_more n old middle new a b = gathers_both (IsOfNumber P n) (P n) (IsOfNumber P (n + 1)) old middle new split further here a b
    where
      cases : (m k : ℕ) → m < k + 1 → (m < k) ⊎ (m ≡ k)
      cases m k l = grind (arith)

      further : (x : X) → IsOfNumber P n x → IsOfNumber P (n + 1) x
      further x h = record { number = h.number; low = (let l = h.low in omega arith); is = h.is }

      here : (x : X) → P n x → IsOfNumber P (n + 1) x
      here x p = record { number = n; low = omega arith; is = p }

      split : (x : X) → IsOfNumber P (n + 1) x → IsOfNumber P n x ⊎ P n x
      split x h = elim (cases h.number n h.low) [
        | inl l ↦ inl (record { number = h.number; low = l; is = h.is })
        | inr e ↦ inr (subst (λ k. P k x) e h.is)
      ]

  pub numbers_all : (n size : ℕ) → size ≡ n → (old new : List X) → Gathers (IsOfNumber P n) old new → Gathers (IsOfNumber P size) old new
  numbers_all n size e old new a = subst (λ k. Gathers (IsOfNumber P k) old new) (sym e) a
