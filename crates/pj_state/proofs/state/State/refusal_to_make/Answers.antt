use Rattle.std.proofs.Common.{◌≡◌, ◌∙◌, sym, true, false}
use Rattle.pj_machine.specs.State.{list_of}
use Rattle.pj_state.specs.LastEntry.{last_of}
use Rattle.pj_state.proofs.Making.{name_taken, channels_full, some_found, none_found}
use Rattle.pj_state.proofs.state.State.refusal_to_make.Goals as goal

pub returns-then-is_some : goal.returns-then-is_some
returns-then-is_some c = λ s r w.
    let found = some_found c.standing.result (list_of s c.args.name.now) (last_of c.args.name.now c.args.self.now.journal) (c.standing.ensures.found s r) (sym c.is_some.ensures ∙ c.if-is_some.true) in
    name_taken c.args.self.now.limits s _ c.args.name.now w found

pub returns-then-are_channels_full : goal.returns-then-are_channels_full
returns-then-are_channels_full c = λ s r w.
    let none = none_found c.standing.result (list_of s c.args.name.now) (last_of c.args.name.now c.args.self.now.journal) (c.standing.ensures.found s r) (sym c.is_some.ensures ∙ c.if-is_some.false) in
    channels_full c.args.self.now.limits s _ c.args.name.now w none ((c.are_channels_full.ensures s r).0 c.if-are_channels_full.true)

pub returns-else-are_channels_full : goal.returns-else-are_channels_full
returns-else-are_channels_full c = λ s r. (
  none_found c.standing.result (list_of s c.args.name.now) (last_of c.args.name.now c.args.self.now.journal) (c.standing.ensures.found s r) (sym c.is_some.ensures ∙ c.if-is_some.false),
  λ full. (let e : false ≡ true = sym c.if-are_channels_full.false ∙ (c.are_channels_full.ensures s r).1 full in cc),
)
