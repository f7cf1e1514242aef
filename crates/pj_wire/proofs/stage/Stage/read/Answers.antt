use Rattle.std.proofs.Common.{ℕ, List, ◌++◌, take, drop, subst, length-drop}
use Rattle.std.specs.Prelude.{◌↔◌}
use Rattle.pj_wire.specs.declared.stage.Stage.{Stage}
use Rattle.pj_wire.specs.declared.stage.Stage.TheVariants as stage
use Rattle.pj_wire.specs.Stages.{Rest}
use Rattle.pj_wire.proofs.Stages.{moves_along, resumed, stopped}
use Rattle.pj_wire.proofs.stage.Stage.read.Goals as goal

pub returns-in-Text : goal.returns-in-Text
returns-in-Text c =
    let known = subst (λ (s : Stage). (more : List ℕ) → Rest c.args.self (take c.loop-place.place c.args.bytes.now ++ more) ↔ Rest s more) c.in-Text.is c.loop-place.invariant.1 in
    moves_along (λ more. Rest c.args.self (c.args.bytes.now ++ more)) (λ more. Rest (stage.Text c.in-Text.missing) (drop c.loop-place.place c.args.bytes.now ++ more)) c.text_on.result
    (resumed c.args.self (stage.Text c.in-Text.missing) c.loop-place.place c.args.bytes.now known) (c.text_on.ensures (drop c.loop-place.place c.args.bytes.now) (length-drop c.loop-place.place c.args.bytes.now))

pub returns-in-None : goal.returns-in-None
returns-in-None c = stopped c.args.self c.loop-place.stage c.loop-place.place c.args.bytes.now c.loop-place-test.true c.loop-place.invariant.1 c.in-None.ensures
