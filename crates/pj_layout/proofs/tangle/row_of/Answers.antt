use Rattle.std.proofs.Common.{◌≡◌, ◌≢◌, ◌+◌, ◌<◌, ℕ, Bool, true, List, [], ◌∷◌, ◌++◌, length, get_or, take, sym, ◌∙◌, ap, subst, inl, inr, arith, add-one}
use Rattle.std.specs.Prelude.{Contains, ◌↔◌}
use Rattle.std.proofs.Math.Seq.{take-suc}
use Rattle.std.proofs.lemmas.Bool.{cases_eq}
use Rattle.std.proofs.lemmas.List.{take_all}
use Rattle.std.proofs.lemmas.List.Elements.{Contains-append_left, Contains-push, Contains-push_cases}
use Rattle.pj_bits.specs.Row.{has}
use Rattle.pj_layout.proofs.tangle.row_of.Goals as goal

-- one class more is set
one_more : (classes : List ℕ) (k : ℕ) (old new : List Bool) → k < length classes → has new (get_or classes k 0) ≡ true → ((c : ℕ) → c ≢ get_or classes k 0 → has new c ≡ has old c) →
    ((c : ℕ) → (has old c ≡ true) ↔ Contains (take k classes) c) → (c : ℕ) → (has new c ≡ true) ↔ Contains (take (k + 1) classes) c
one_more classes k old new inside here others was c =
    let more : take (k + 1) classes ≡ take k classes ++ get_or classes k 0 ∷ [] = rw add-one (take-suc classes k 0 inside) in
    rw more (
      (λ h. elim (cases_eq c (get_or classes k 0)) [
        | inl e ↦ subst (λ z. Contains (take k classes ++ get_or classes k 0 ∷ []) z) (sym e) (Contains-push (take k classes) (get_or classes k 0))
        | inr n ↦ Contains-append_left (take k classes) (get_or classes k 0 ∷ []) c ((was c).0 (sym (others c n) ∙ h))
      ]),
      (λ m. elim (cases_eq c (get_or classes k 0)) [
        | inl e ↦ ap (has new) e ∙ here
        | inr n ↦ others c n ∙ (was c).1 (elim (Contains-push_cases (take k classes) (get_or classes k 0) c m) [ inl before ↦ before | inr e ↦ absurd (n (sym e)) ])
      ]),
    )

pub loop-class-preserved : goal.loop-class-preserved
loop-class-preserved c = record {
  width = c.set.ensures.size ∙ c.loop-class.invariant.width;
  classes = one_more c.args.classes.now c.loop-class.class-index c.loop-class.row c.set.new.self c.loop-class-test.true c.set.ensures.here c.set.ensures.others c.loop-class.invariant.classes;
}

pub returns-clause-classes : goal.returns-clause-classes
returns-clause-classes c =
    let all : take c.loop-class.class-index c.args.classes.now ≡ c.args.classes.now = take_all c.loop-class.class-index c.args.classes.now (omega (arith, c.loop-class-test.false)) in
    rw all at c.loop-class.invariant.classes
