use Rattle.std.proofs.Common.{◌≡◌, ℕ, List, drop, length, refl, sym, ◌∙◌, ap, subst}
use Rattle.pj_wire.specs.Requests.{IsPart}
use Rattle.pj_wire.specs.Stages.{IsSeen}
use Rattle.pj_wire.proofs.Seen.{looked_on, is_part}
use Rattle.pj_wire.proofs.decoder.Decoder.is_less.Goals as goal

pub invariant_of-self : goal.invariant_of-self
invariant_of-self c =
    let fresh : c.split_at.result.1.now ≡ drop c.self.inside.seen c.self.inside.buffer = c.split_at.ensures.back ∙ ap (λ (s : List ℕ). drop c.self.inside.seen s) c.left-left.ensures in
    let all = looked_on c.self.inside.buffer c.split_at.result.1.now c.self.inside.seen c.self.inside.stage fresh c.self.invariant c.in-Some.stage c.in-Some.ensures in
    subst (λ (n : ℕ). IsSeen c.self.inside.buffer n c.in-Some.stage) (sym (ap (λ (s : List ℕ). length s) c.left-left.ensures)) all

pub returns-in-Some-clause-part : goal.returns-in-Some-clause-part
returns-in-Some-clause-part c =
    let fresh : c.split_at.result.1.now ≡ drop c.self.inside.seen c.self.inside.buffer = c.split_at.ensures.back ∙ ap (λ (s : List ℕ). drop c.self.inside.seen s) c.left-left.ensures in
    let part = is_part c.self.inside.buffer c.split_at.result.1.now c.self.inside.seen c.self.inside.stage fresh c.self.invariant c.in-Some.stage c.in-Some.ensures in
    (λ _. subst IsPart c.self.view_is part, λ _. refl)
