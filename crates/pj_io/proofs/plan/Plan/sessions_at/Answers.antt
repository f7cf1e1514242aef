use Rattle.std.proofs.Common.{◌∙◌, Some, ap, sym}
use Rattle.std.specs.Option.{option_map}
use Rattle.pj_io.specs.Sessions.{bytes_of_each}
use Rattle.pj_io.specs.Plan.{named}
use Rattle.pj_io.proofs.Named.{named-map}
use Rattle.pj_io.proofs.plan.Plan.sessions_at.Goals as goal

pub returns-in-Some : goal.returns-in-Some
returns-in-Some c =
    ap (λ plan. named c.args.address.now plan.sessions) (sym c.self.view_is)
    ∙ named-map (λ listed. bytes_of_each listed.items) c.args.address.now c.self.inside.sessions.entries
    ∙ ap (option_map (λ listed. bytes_of_each listed.items)) (sym c.in-Some.ensures.value)
    ∙ ap (λ listed. Some (bytes_of_each listed)) (sym c.deref.ensures.value)

pub returns-in-None : goal.returns-in-None
returns-in-None c =
    ap (λ plan. named c.args.address.now plan.sessions) (sym c.self.view_is)
    ∙ named-map (λ listed. bytes_of_each listed.items) c.args.address.now c.self.inside.sessions.entries
    ∙ ap (option_map (λ listed. bytes_of_each listed.items)) (sym c.in-None.ensures.value)
