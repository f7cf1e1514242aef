use Rattle.std.proofs.Common.{◌≡◌, ℕ, List, Option, ◌+◌, ◌∷◌, length, take, sym, ap, subst, arith, refl}
use Rattle.std.specs.Prelude.{◌↔◌}
use Rattle.std.proofs.lemmas.List.{take_all}
use Rattle.pj_wire.specs.declared.stage.Stage.{Stage}
use Rattle.pj_wire.specs.declared.stage.Stage.TheVariants as stage
use Rattle.pj_wire.specs.Verbs.{word_of}
use Rattle.pj_wire.specs.Stages.{Completes, Moves, Rest}
use Rattle.pj_wire.proofs.BehindVerbs.{opened}
use Rattle.pj_wire.proofs.Stages.{moves_along}
use Rattle.pj_wire.proofs.Verbs.{verb_goes_on, no_verb}
use Rattle.pj_wire.proofs.stage.verb_on.Goals as goal

pub returns-in-None : goal.returns-in-None
returns-in-None c = λ more h. absurd (no_verb c.args.verb c.args.read c.args.byte c.requires (λ u on. c.in-None.ensures.none refl u on) more h)

pub returns-in-Some : goal.returns-in-Some
returns-in-Some c = (
  omega (arith, c.if-read-word.true, ap (λ (s : List ℕ). length s) c.word.ensures),
  verb_goes_on c.args.verb c.in-Some.next c.args.read c.args.byte c.requires c.in-Some.ensures.some,
)

pub returns-in-Some-2 : goal.returns-in-Some-2
returns-in-Some-2 c =
    let all : take (c.args.read + 1) (word_of c.in-Some.next) ≡ word_of c.in-Some.next = take_all (c.args.read + 1) (word_of c.in-Some.next) (omega (arith, c.if-read-word.false, ap (λ (s : List ℕ). length s) c.word.ensures)) in
    moves_along (λ more. Rest (stage.Verb c.args.verb c.args.read) (c.args.byte ∷ more)) (λ more. Completes (word_of c.in-Some.next) more) c.fields.result
    (subst (λ (s : List ℕ). (more : List ℕ) → Completes (take c.args.read (word_of c.args.verb)) (c.args.byte ∷ more) ↔ Completes s more) all
    (verb_goes_on c.args.verb c.in-Some.next c.args.read c.args.byte c.requires c.in-Some.ensures.some))
    (subst (λ (o : Option Stage). Moves (λ more. Completes (word_of c.in-Some.next) more) o) (sym c.fields.ensures) (opened c.in-Some.next))
