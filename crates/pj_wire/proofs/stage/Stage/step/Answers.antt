use Rattle.std.proofs.Common.{[], ◌∷◌, refl, sym, subst}
use Rattle.pj_wire.specs.declared.stage.Stage.{Stage}
use Rattle.pj_wire.specs.Stages.{Moves, Rest}
use Rattle.pj_wire.proofs.stage.Stage.step.Goals as goal

pub returns-in-Verb : goal.returns-in-Verb
returns-in-Verb c = subst (λ (s : Stage). Moves (λ more. Rest s (c.args.byte ∷ more)) c.verb_on.result) (sym c.in-Verb.is) c.verb_on.ensures

pub returns-in-Text : goal.returns-in-Text
returns-in-Text c = subst (λ (s : Stage). Moves (λ more. Rest s (c.args.byte ∷ more)) c.text_on.result) (sym c.in-Text.is) (c.text_on.ensures (c.args.byte ∷ []) refl)
