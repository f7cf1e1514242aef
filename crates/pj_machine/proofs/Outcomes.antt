-- Definitions of which at most one outcome is true.
use Rattle.std.proofs.Common.{◌≡◌, sym, ◌∙◌, subst, inl, inr, Some, None, Err}
use Rattle.std.specs.Prelude.{Option, Result, MatchOption}
use Rattle.pj_change.specs.Answers.{ComesWhere}
use Rattle.pj_machine.specs.declared.reply.Reply.{Reply}
use Rattle.pj_machine.specs.Outcome.{Outcome, Unless}

-- at most one outcome is so
abbrev pub AtMostOne : (Outcome → Type 0) → Type 0
AtMostOne P = (o p : Outcome) → P o → P p → o ≡ p

pub exactly : (only : Outcome) → AtMostOne (λ o. o ≡ only)
exactly only o p e f = e ∙ sym f

pub unless_one : (cause : Type 0) (reply : Reply) (rest : Outcome → Type 0) → AtMostOne rest → AtMostOne (Unless cause reply rest)
unless_one cause reply rest one o p (inl a) (inl b) = a.1 ∙ sym b.1
unless_one cause reply rest one o p (inl a) (inr b) = absurd (b.0 a.0)
unless_one cause reply rest one o p (inr a) (inl b) = absurd (a.0 b.0)
unless_one cause reply rest one o p (inr a) (inr b) = one o p a.1 b.1

pub found_one : {X : Type 0} (found : Option X) (none : Outcome) (rest : X → Outcome → Type 0) → ((x : X) → AtMostOne (rest x)) →
    AtMostOne (λ o. MatchOption found (o ≡ none) (λ x. rest x o))
found_one None none rest one o p e f = e ∙ sym f
found_one (Some x) none rest one o p e f = one x o p e f

-- two answers with the cause of the first are one, where the second is not want of memory
pub comes_one : {T E : Type 0} (memory : E) (x y : Result T E) (cause : Type 0) → ComesWhere memory x x cause → ComesWhere memory y x cause → (y ≡ Err memory → ⊥) → (e : x ≡ x) → x ≡ y
comes_one memory x y cause a b told e = elim (b.always (a.only e)) [ inl same ↦ sym same | inr wanted ↦ absurd (told wanted) ]

-- the outcome of a result of which there is at most one but for want of memory
pub result_one : {T E : Type 0} (memory : E) (Is : Result T E → Type 0) (As : Result T E → Outcome → Type 0) →
    ((x y : Result T E) → Is x → Is y → (x ≡ Err memory → ⊥) → (y ≡ Err memory → ⊥) → x ≡ y) →
    ((o : Outcome) → As (Err memory) o → ⊥) → ((x : Result T E) → AtMostOne (As x)) →
    AtMostOne (λ o. (x : Result T E) × Is x × As x o)
result_one memory Is As one none each o p a b =
    let told : (x : Result _ _) (q : Outcome) → As x q → x ≡ Err memory → ⊥ = λ x q h e. none q (subst (λ y. As y q) e h) in
    let same = one a.0 b.0 a.1 b.1 (told a.0 o a.2) (told b.0 p b.2) in
    each b.0 o p (subst (λ y. As y o) same a.2) b.2
