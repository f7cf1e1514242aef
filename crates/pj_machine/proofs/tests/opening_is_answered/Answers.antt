use Rattle.std.proofs.Common.{refl, inl, inr, arith, rules}
use Rattle.std.specs.Prelude.{IsSome, codes}
use Rattle.pj_machine.specs.State.{opening, list_of}
use Rattle.pj_machine.proofs.tests.opening_is_answered.Goals as goal

-- there is no such channel
not_there : IsSome (list_of opening (codes "c")) → ⊥
not_there h = cc

pub returns-clause-taken : goal.returns-clause-taken
returns-clause-taken c = λ limits. record { state = opening; replayed = refl; answers = inl (search rules, refl) }

pub returns-clause-channel : goal.returns-clause-channel
returns-clause-channel c = λ limits name. record { state = opening; replayed = refl; answers = refl }

pub returns-clause-change : goal.returns-clause-change
returns-clause-change c = λ limits name. record { state = opening; replayed = refl; answers = refl }

pub returns-clause-full : goal.returns-clause-full
returns-clause-full c = λ limits few. record { state = opening; replayed = refl; answers = inr (not_there, inl (omega arith, refl)) }

pub returns-clause-done : goal.returns-clause-done
returns-clause-done c = λ limits more some. record { state = opening; replayed = refl; answers = inr (not_there, inr (λ h. omega arith, inr (λ h. omega arith, refl))) }
