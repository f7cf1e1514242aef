use Rattle.std.proofs.Common.{rules, ◌≡◌, subst, true, List}
use Rattle.pj_change.specs.declared.change.Record.{Record}
use Rattle.pj_change.specs.Lawful.{IsLawful, is_held}
use Rattle.pj_change.specs.Uproot.{IsUprooted}
use Rattle.pj_change.proofs.Without.{uprooted_lawful}
use Rattle.pj_change.specs.Shared.{records}
use Rattle.pj_change.proofs.UnrecordAnswers.{uproot_is_out}
use Rattle.pj_plain.proofs.channel.PlainChannel.uproot.Goals as goal

pub invariant_of-result : goal.invariant_of-result
invariant_of-result c =
    let list = c.args.self.now in
    let same : records c.deref-list.result.now ≡ list = search rules in
    let out : IsUprooted (records c.deref-list.result.now) c.args.name (records c.in_ok-changes.changes.items) = search rules in
    let lawful : IsLawful list = subst IsLawful c.self.view_is c.self.invariant in
    uprooted_lawful list c.args.name (records c.in_ok-changes.changes.items) lawful
    (subst (λ (l : List Record). IsUprooted l c.args.name (records c.in_ok-changes.changes.items)) same out)

pub returns : goal.returns
returns c =
    let list = c.args.self.now in
    let there : is_held list c.args.name ≡ true = search rules in
    let same : records c.deref-list.result.now ≡ list = search rules in
    let out : IsUprooted (records c.deref-list.result.now) c.args.name (records c.in_ok-changes.changes.items) = search rules in
    uproot_is_out list c.args.name (records c.in_ok-changes.changes.items) there
    (subst (λ (l : List Record). IsUprooted l c.args.name (records c.in_ok-changes.changes.items)) same out)
