use Rattle.std.proofs.Common.{◌∙◌, Some, ap, sym}
use Rattle.std.specs.Option.{option_map}
use Rattle.pj_io.specs.Plan.{named}
use Rattle.pj_io.proofs.Named.{named-map}
use Rattle.pj_io.proofs.plan.Plan.script_at.Goals as goal

pub returns-in-Some : goal.returns-in-Some
returns-in-Some c =
    ap (λ plan. named c.args.path.now plan.scripts) (sym c.self.view_is)
    ∙ named-map (λ script. script.items) c.args.path.now c.self.inside.scripts.entries
    ∙ ap (option_map (λ script. script.items)) (sym c.in-Some.ensures.value)
    ∙ ap Some (sym c.deref.ensures.value)

pub returns-in-None : goal.returns-in-None
returns-in-None c =
    ap (λ plan. named c.args.path.now plan.scripts) (sym c.self.view_is)
    ∙ named-map (λ script. script.items) c.args.path.now c.self.inside.scripts.entries
    ∙ ap (option_map (λ script. script.items)) (sym c.in-None.ensures.value)
