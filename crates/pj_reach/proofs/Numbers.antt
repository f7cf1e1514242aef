-- One more vertex gets its class.
use Rattle.std.proofs.Common.{◌≡◌, ◌≢◌, ℕ, ◌+◌, ◌<◌, ◌≤◌, ◌⊎◌, Option, Some, None, List, [], ◌∷◌, ◌++◌, length, get_or, set, sym, ◌∙◌, ap, subst, inl, inr, arith}
use Rattle.std.proofs.lemmas.Bool.{cases_lt, cases_eq}
use Rattle.std.proofs.lemmas.List.{get_or_append_left, get_or_push, get_or-set_same, get_or-set_other, length-set, length_push}
use Rattle.pj_reach.specs.Numbering.{IsFirst, IsNumbering}

-- the first vertices have their classes
pub record Numbers (size : ℕ) (tree_of : List ℕ) (done : ℕ) (number_of : List (Option ℕ)) (class_of : List ℕ) (classes : ℕ) : Type 0 where
  pub numbers_len : length number_of ≡ size
  pub class_len : length class_of ≡ done
  pub few : classes ≤ done
  pub given : (a : ℕ) → a < done → get_or number_of (get_or tree_of a 0) None ≡ Some (get_or class_of a 0)
  pub taken : (t c : ℕ) → t < size → get_or number_of t None ≡ Some c → (a : ℕ) × (a < done) × (get_or tree_of a 0 ≡ t)
  pub in_range : (a : ℕ) → a < done → get_or class_of a 0 < classes
  pub apart : (a b : ℕ) → a < done → b < done → get_or class_of a 0 ≡ get_or class_of b 0 → get_or tree_of a 0 ≡ get_or tree_of b 0
  pub first : (c : ℕ) → c < classes → (a : ℕ) × (a < done) × (get_or class_of a 0 ≡ c) × IsFirst tree_of a
  pub rising : (a b : ℕ) → b < done → a < b → IsFirst tree_of a → IsFirst tree_of b → get_or class_of a 0 < get_or class_of b 0

module _ (size : ℕ) (tree_of : List ℕ) (done : ℕ) (number_of : List (Option ℕ)) (class_of : List ℕ) (classes : ℕ) (so_far : Numbers size tree_of done number_of class_of classes) (t_in : get_or tree_of done 0 < size) where
  class_old : (c a : ℕ) → a < done → get_or (class_of ++ c ∷ []) a 0 ≡ get_or class_of a 0
  class_old c a h = get_or_append_left class_of (c ∷ []) 0 a (omega (arith, h, so_far.class_len))

  class_new : (c : ℕ) → get_or (class_of ++ c ∷ []) done 0 ≡ c
  class_new c = get_or_push class_of c 0 done so_far.class_len

  -- each vertex up to this one was before or is this one
  this_or_before : (a : ℕ) → a < done + 1 → (a < done) ⊎ (a ≡ done)
  this_or_before a h = elim (cases_lt a done) [ inl before ↦ inl before | inr past ↦ inr (omega arith) ]

  pub old_number : (c : ℕ) → get_or number_of (get_or tree_of done 0) None ≡ Some c → Numbers size tree_of (done + 1) number_of (class_of ++ c ∷ []) classes
  old_number c found =
      let other = so_far.taken (get_or tree_of done 0) c t_in found in
      let other_class : get_or class_of other.0 0 ≡ c = let e : ◌≡◌ {A = Option ℕ} (Some (get_or class_of other.0 0)) (Some c) = sym (so_far.given other.0 other.1) ∙ ap (λ t. get_or number_of t None) other.2 ∙ found in cc e in
      let not_first : IsFirst tree_of done → ⊥ = λ is. is other.0 other.1 other.2 in
      record {
        numbers_len = so_far.numbers_len;
        class_len = length_push class_of c ∙ ap (λ k. k + 1) so_far.class_len;
        few = omega (arith, so_far.few);
        given = λ a h. elim (this_or_before a h) [
          | inl before ↦ so_far.given a before ∙ ap Some (sym (class_old c a before))
          | inr this ↦ ap (λ k. get_or number_of (get_or tree_of k 0) None) this ∙ found ∙ ap Some (sym (ap (λ k. get_or (class_of ++ c ∷ []) k 0) this ∙ class_new c))
        ];
        taken = λ t d h is. let at = so_far.taken t d h is in (at.0, omega (arith, at.1), at.2);
        in_range = λ a h. elim (this_or_before a h) [
          | inl before ↦ let e = class_old c a before in let r = so_far.in_range a before in omega (arith, e, r)
          | inr this ↦ let e = ap (λ k. get_or (class_of ++ c ∷ []) k 0) this ∙ class_new c in let r = so_far.in_range other.0 other.1 in omega (arith, e, r, other_class)
        ];
        apart = λ a b a_in b_in same. elim (this_or_before a a_in) [
          | inl a_before ↦ elim (this_or_before b b_in) [
            | inl b_before ↦ so_far.apart a b a_before b_before (sym (class_old c a a_before) ∙ same ∙ class_old c b b_before)
            | inr b_this ↦ so_far.apart a other.0 a_before other.1 (sym (class_old c a a_before) ∙ same ∙ ap (λ k. get_or (class_of ++ c ∷ []) k 0) b_this ∙ class_new c ∙ sym other_class) ∙ other.2 ∙ sym (ap (λ k. get_or tree_of k 0) b_this)
          ]
          | inr a_this ↦ elim (this_or_before b b_in) [
            | inl b_before ↦ ap (λ k. get_or tree_of k 0) a_this ∙ sym other.2 ∙ so_far.apart other.0 b other.1 b_before (other_class ∙ sym (ap (λ k. get_or (class_of ++ c ∷ []) k 0) a_this ∙ class_new c) ∙ same ∙ class_old c b b_before)
            | inr b_this ↦ ap (λ k. get_or tree_of k 0) (a_this ∙ sym b_this)
          ]
        ];
        first = λ d h. let at = so_far.first d h in (at.0, omega (arith, at.1), class_old c at.0 at.1 ∙ at.2, at.3);
        rising = λ a b b_in a_b a_first b_first. elim (this_or_before b b_in) [
          | inl before ↦
              let e = class_old c a (let h : a < done = omega arith in h) in
              let f = class_old c b before in
              let r = so_far.rising a b before a_b a_first b_first in
              omega (arith, e, f, r)
          | inr this ↦ absurd (not_first (subst (IsFirst tree_of) this b_first))
        ];
      }

  pub new_number : get_or number_of (get_or tree_of done 0) None ≡ None → Numbers size tree_of (done + 1) (set number_of (get_or tree_of done 0) (Some classes)) (class_of ++ classes ∷ []) (classes + 1)
  new_number free =
      let here : get_or (set number_of (get_or tree_of done 0) (Some classes)) (get_or tree_of done 0) None ≡ Some classes = get_or-set_same number_of (get_or tree_of done 0) (Some classes) None (omega (arith, t_in, so_far.numbers_len)) in
      let is_new : (a : ℕ) → a < done → get_or tree_of a 0 ≢ get_or tree_of done 0 = λ a h same. let no : ◌≡◌ {A = Option ℕ} (Some (get_or class_of a 0)) None = sym (so_far.given a h) ∙ ap (λ t. get_or number_of t None) same ∙ free in absurd (cc no) in
      record {
        numbers_len = length-set number_of (get_or tree_of done 0) (Some classes) ∙ so_far.numbers_len;
        class_len = length_push class_of classes ∙ ap (λ k. k + 1) so_far.class_len;
        few = omega (arith, so_far.few);
        given = λ a h. elim (this_or_before a h) [
          | inl before ↦ get_or-set_other number_of (get_or tree_of done 0) (get_or tree_of a 0) (Some classes) None (is_new a before) ∙ so_far.given a before ∙ ap Some (sym (class_old classes a before))
          | inr this ↦ ap (λ k. get_or (set number_of (get_or tree_of done 0) (Some classes)) (get_or tree_of k 0) None) this ∙ here ∙ ap Some (sym (ap (λ k. get_or (class_of ++ classes ∷ []) k 0) this ∙ class_new classes))
        ];
        taken = λ t d h is. elim (cases_eq t (get_or tree_of done 0)) [
          | inl same ↦ (done, omega arith, sym same)
          | inr other ↦ let at = so_far.taken t d h (sym (get_or-set_other number_of (get_or tree_of done 0) t (Some classes) None other) ∙ is) in (at.0, omega (arith, at.1), at.2)
        ];
        in_range = λ a h. elim (this_or_before a h) [
          | inl before ↦ let e = class_old classes a before in let r = so_far.in_range a before in omega (arith, e, r)
          | inr this ↦ let e = ap (λ k. get_or (class_of ++ classes ∷ []) k 0) this ∙ class_new classes in omega (arith, e)
        ];
        apart = λ a b a_in b_in same. elim (this_or_before a a_in) [
          | inl a_before ↦ elim (this_or_before b b_in) [
            | inl b_before ↦ so_far.apart a b a_before b_before (sym (class_old classes a a_before) ∙ same ∙ class_old classes b b_before)
            | inr b_this ↦
                let e = class_old classes a a_before in
                let f = ap (λ k. get_or (class_of ++ classes ∷ []) k 0) b_this ∙ class_new classes in
                let r = so_far.in_range a a_before in
                absurd (omega (arith, e, f, r, same))
          ]
          | inr a_this ↦ elim (this_or_before b b_in) [
            | inl b_before ↦
                let e = class_old classes b b_before in
                let f = ap (λ k. get_or (class_of ++ classes ∷ []) k 0) a_this ∙ class_new classes in
                let r = so_far.in_range b b_before in
                absurd (omega (arith, e, f, r, same))
            | inr b_this ↦ ap (λ k. get_or tree_of k 0) (a_this ∙ sym b_this)
          ]
        ];
        first = λ d h. elim (cases_lt d classes) [
          | inl before ↦ let at = so_far.first d before in (at.0, omega (arith, at.1), class_old classes at.0 at.1 ∙ at.2, at.3)
          | inr past ↦ (done, omega arith, class_new classes ∙ (let e : classes ≡ d = omega arith in e), is_new)
        ];
        rising = λ a b b_in a_b a_first b_first. elim (this_or_before b b_in) [
          | inl before ↦
              let e = class_old classes a (let h : a < done = omega arith in h) in
              let f = class_old classes b before in
              let r = so_far.rising a b before a_b a_first b_first in
              omega (arith, e, f, r)
          | inr this ↦
              let a_in : a < done = omega arith in
              let e = class_old classes a a_in in
              let f = ap (λ k. get_or (class_of ++ classes ∷ []) k 0) this ∙ class_new classes in
              let r = so_far.in_range a a_in in
              omega (arith, e, f, r)
        ];
      }

pub all_numbered : (size : ℕ) (tree_of : List ℕ) (number_of : List (Option ℕ)) (class_of : List ℕ) (classes : ℕ) → Numbers size tree_of size number_of class_of classes → IsNumbering size tree_of class_of classes
all_numbered size tree_of number_of class_of classes all = record {
  class_len = all.class_len;
  in_range = all.in_range;
  one_class = λ a b a_in b_in. (
    all.apart a b a_in b_in,
    λ same. let e : ◌≡◌ {A = Option ℕ} (Some (get_or class_of a 0)) (Some (get_or class_of b 0)) = sym (all.given a a_in) ∙ ap (λ t. get_or number_of t None) same ∙ all.given b b_in in cc e,
  );
  first = all.first;
  rising = all.rising;
}
