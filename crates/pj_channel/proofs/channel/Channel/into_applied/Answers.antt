use Rattle.std.proofs.Common.{rules, ◌≡◌, ◌∙◌, sym, subst, find, Some, None, Ok, true, false, List}
use Rattle.std.specs.Prelude.{not}
use Rattle.std.specs.List.{list_all}
use Rattle.std.specs.Arc.{arc_value}
use Rattle.pj_change.specs.declared.change.Record.{Record}
use Rattle.pj_change.specs.declared.refusals.Applied.TheVariants.{New}
use Rattle.pj_change.specs.Context.{first_broken}
use Rattle.pj_change.specs.Lawful.{is_held, needs_of}
use Rattle.pj_change.specs.Apply.{IsApplyAnswer}
use Rattle.pj_change.proofs.MissingNeeds.{least_missing, all_held}
use Rattle.pj_change.proofs.ApplyAnswers.{lacks_need, breaks_context, is_new, may_follow}
use Rattle.pj_channel.proofs.channel.Channel.into_applied.Goals as goal

pub returns-in-Some-clause-answer : goal.returns-in-Some-clause-answer
returns-in-Some-clause-answer g c =
    let list = c.args.self in
    let r = arc_value c.args.record.now in
    let new : is_held list r.name ≡ false = search rules in
    let e : find (λ n. not (is_held list n)) r.change.needs ≡ Some c.in-Some.name = search rules in
    lacks_need list r c.in-Some.name (new, least_missing list r c.in-Some.name e)

pub first_broken-requires : goal.first_broken-requires
first_broken-requires g c =
    let list = c.args.self in
    let r = arc_value c.args.record.now in
    let none : find (λ n. not (is_held list n)) r.change.needs ≡ None = search rules in
    let held : list_all (is_held list) r.change.needs ≡ true = all_held list r.change.needs none in
    let same : c.list-list.result.now ≡ list = c.list-list.ensures.same ∙ c.tables.ensures in
    let is : c.deref-3.result.now ≡ r = c.deref-3.ensures in
    cc

-- what the search for a broken hunk gives, of the list and the change themselves
broken_same : {list list' : List Record} {c c' : Record} → list ≡ list' → c ≡ c' → first_broken c' (needs_of list' c') ≡ first_broken c (needs_of list c)
broken_same l e = λ i. first_broken (sym e i) (needs_of (sym l i) (sym e i))

pub returns-in-Some-broken-clause-answer : goal.returns-in-Some-broken-clause-answer
returns-in-Some-broken-clause-answer g c =
    let list = c.args.self in
    let r = arc_value c.args.record.now in
    let new : is_held list r.name ≡ false = search rules in
    let none : find (λ n. not (is_held list n)) r.change.needs ≡ None = search rules in
    let same : c.list-list.result.now ≡ list = c.list-list.ensures.same ∙ c.tables.ensures in
    let broken : first_broken r (needs_of list r) ≡ Some c.in-Some-broken.hunk = broken_same same c.deref-3.ensures ∙ c.in_ok-broken.ensures ∙ c.in-Some-broken.is in
    breaks_context list r c.in-Some-broken.hunk (new, all_held list r.change.needs none, broken)

pub grown-requires : goal.grown-requires
grown-requires g c =
    let list = c.args.self in
    let r = arc_value c.args.record.now in
    let new : is_held list r.name ≡ false = search rules in
    let none : find (λ n. not (is_held list n)) r.change.needs ≡ None = search rules in
    let same : c.list-list.result.now ≡ list = c.list-list.ensures.same ∙ c.tables.ensures in
    let whole : first_broken r (needs_of list r) ≡ None = broken_same same c.deref-3.ensures ∙ c.in_ok-broken.ensures ∙ c.in_default-broken.is in
    may_follow list r new none whole

pub returns-clause-answer : goal.returns-clause-answer
returns-clause-answer g c =
    let list = c.args.self in
    let r = arc_value c.args.record.now in
    let new : is_held list r.name ≡ false = search rules in
    let none : find (λ n. not (is_held list n)) r.change.needs ≡ None = search rules in
    let same : c.list-list.result.now ≡ list = c.list-list.ensures.same ∙ c.tables.ensures in
    let whole : first_broken r (needs_of list r) ≡ None = broken_same same c.deref-3.ensures ∙ c.in_ok-broken.ensures ∙ c.in_default-broken.is in
    subst (λ (l : List Record). IsApplyAnswer list r (Ok (New l))) (sym c.in_ok-channel.ensures.list) (is_new list r (may_follow list r new none whole))
