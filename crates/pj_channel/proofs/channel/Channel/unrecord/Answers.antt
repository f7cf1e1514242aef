use Rattle.std.proofs.Common.{rules, ◌≡◌, ◌∙◌, sym, ap, subst, true, List, Ok}
use Rattle.pj_name.specs.declared.name.Name.{Name}
use Rattle.pj_change.specs.declared.change.Record.{Record}
use Rattle.pj_change.specs.Lawful.{is_held}
use Rattle.pj_change.specs.Least.{IsLeast}
use Rattle.pj_change.specs.Unrecord.{IsHolder, without, IsUnrecordAnswer}
use Rattle.pj_change.proofs.UnrecordAnswers.{is_held_by, is_out}
use Rattle.pj_channel.proofs.channel.Channel.unrecord.Goals as goal

pub returns-in-Some-clause-answer : goal.returns-in-Some-clause-answer
returns-in-Some-clause-answer g c =
    let list = c.args.self.now in
    let name = c.args.name in
    let holder = c.in-Some.holder in
    let there : is_held list name ≡ true = search rules in
    is_held_by list name holder (there, subst (λ (l : List Record). IsLeast (IsHolder l name) holder) c.tables-own.ensures (c.in-Some.ensures.set c.tables-own.result.now c.deps.ensures))

pub removed-requires : goal.removed-requires
removed-requires g c =
    let there : is_held c.tables-own.result.now c.args.name ≡ true = search rules in
    (there, c.in_default.ensures.set c.tables-own.result.now c.deps.ensures)

pub returns-clause-answer : goal.returns-clause-answer
returns-clause-answer g c =
    let list = c.args.self.now in
    let name = c.args.name in
    let there : is_held list name ≡ true = search rules in
    let none = subst (λ (l : List Record). (holder : Name) → IsHolder l name holder → ⊥) c.tables-own.ensures (c.in_default.ensures.set c.tables-own.result.now c.deps.ensures) in
    let left : c.in_ok-channel.channel ≡ without list name = c.in_ok-channel.ensures ∙ c.in_ok-tables.ensures.list ∙ ap (λ (l : List Record). without l name) c.tables-own.ensures in
    subst (λ (l : List Record). IsUnrecordAnswer list name (Ok l)) (sym left) (is_out list name (there, none))
