use Rattle.std.proofs.Common.{◌≡◌, ◌∙◌, sym, ap, subst, true, false, List, Some}
use Rattle.pj_change.specs.declared.change.Record.{Record}
use Rattle.pj_change.specs.Lawful.{is_held, record_of}
use Rattle.pj_change.specs.Unrecord.{MayLeave, without}
use Rattle.pj_apply.proofs.Distinct.{record_is, record_none}
use Rattle.pj_unrecord.proofs.removal.removed.Goals as goal

pub tables_without-requires-clause-there : goal.tables_without-requires-clause-there
tables_without-requires-clause-there g c =
    let S = c.args.tables.now in
    let r = c.deref.result.now in
    let found : record_of S c.args.name ≡ Some r = sym (ap (λ (l : List Record). record_of l c.args.name) c.list.ensures.same) ∙ c.in-Some.ensures ∙ ap Some (sym c.deref.ensures) in
    ap (record_of S) (record_is S c.args.name r found).named ∙ found

pub tables_without-requires-clause-free : goal.tables_without-requires-clause-free
tables_without-requires-clause-free g c =
    let S = c.args.tables.now in
    let r = c.deref.result.now in
    let found : record_of S c.args.name ≡ Some r = sym (ap (λ (l : List Record). record_of l c.args.name) c.list.ensures.same) ∙ c.in-Some.ensures ∙ ap Some (sym c.deref.ensures) in
    subst (MayLeave S) (sym (record_is S c.args.name r found).named) c.requires

pub tables_without-requires-clause-list : goal.tables_without-requires-clause-list
tables_without-requires-clause-list g c =
    let S = c.args.tables.now in
    let r = c.deref.result.now in
    let found : record_of S c.args.name ≡ Some r = sym (ap (λ (l : List Record). record_of l c.args.name) c.list.ensures.same) ∙ c.in-Some.ensures ∙ ap Some (sym c.deref.ensures) in
    c.in_ok-shared.ensures.ok ∙ c.in_ok-left.ensures.same ∙ ap (λ (l : List Record). without l c.args.name) (c.in_ok-before.ensures ∙ c.list-2.ensures.same) ∙ ap (without S) (sym (record_is S c.args.name r found).named)

pub returns-in_default-clause-list : goal.returns-in_default-clause-list
returns-in_default-clause-list g c =
    let none : is_held c.args.tables.now c.args.name ≡ false =
    record_none c.args.tables.now c.args.name (sym (ap (λ (l : List Record). record_of l c.args.name) c.list.ensures.same) ∙ c.in_default.ensures) in
    absurd (let both : true ≡ false = sym c.requires.0 ∙ none in cc)
