use Rattle.std.proofs.Common.{rules, ◌≡◌, sym, subst, true, List, Ok}
use Rattle.pj_name.specs.declared.name.Name.{Name}
use Rattle.pj_change.specs.declared.change.Record.{Record}
use Rattle.pj_change.specs.Lawful.{IsLawful, is_held}
use Rattle.pj_change.specs.Shared.{records}
use Rattle.pj_change.specs.Least.{IsLeast}
use Rattle.pj_change.specs.Unrecord.{IsHolder, without, IsUnrecordAnswer}
use Rattle.pj_change.proofs.LawfulChanges.{unrecorded_lawful}
use Rattle.pj_change.proofs.UnrecordAnswers.{is_held_by, is_out}
use Rattle.pj_plain.proofs.channel.PlainChannel.unrecord.Goals as goal

pub returns-in-Some : goal.returns-in-Some
returns-in-Some c =
    let list = c.args.self.now in
    let name = c.args.name in
    let there : is_held list name ≡ true = search rules in
    let same : records c.deref-list.result.now ≡ list = search rules in
    is_held_by list name c.in-Some.holder (there, subst (λ (l : List Record). IsLeast (IsHolder l name) c.in-Some.holder) same c.in-Some.ensures)

pub invariant_of-result : goal.invariant_of-result
invariant_of-result c =
    let list = c.args.self.now in
    let name = c.args.name in
    let there : is_held list name ≡ true = search rules in
    let same : records c.deref-list.result.now ≡ list = search rules in
    let none = subst (λ (l : List Record). (holder : Name) → IsHolder l name holder → ⊥) same c.in_default.ensures in
    let left : records c.in_ok-changes.changes.items ≡ without list name = search rules in
    let lawful : IsLawful list = subst IsLawful c.self.view_is c.self.invariant in
    subst IsLawful (sym left) (unrecorded_lawful list name lawful (there, none))

pub returns : goal.returns
returns c =
    let list = c.args.self.now in
    let name = c.args.name in
    let there : is_held list name ≡ true = search rules in
    let same : records c.deref-list.result.now ≡ list = search rules in
    let none = subst (λ (l : List Record). (holder : Name) → IsHolder l name holder → ⊥) same c.in_default.ensures in
    let left : records c.in_ok-changes.changes.items ≡ without list name = search rules in
    subst (λ (l : List Record). IsUnrecordAnswer list name (Ok l)) (sym left) (is_out list name (there, none))
