use Rattle.std.proofs.Common.{◌≡◌, ◌∙◌, sym, ap, List, Some, None}
use Rattle.pj_change.specs.declared.change.Record.{Record}
use Rattle.pj_change.specs.EdgeRows.{is_name_kind}
use Rattle.pj_change.specs.Lawful.{record_of}
use Rattle.pj_change.specs.Positions.{kind_at}
use Rattle.pj_change.proofs.LawfulLists.{one_record, not_record}
use Rattle.pj_apply.proofs.Distinct.{record_is, record_none}
use Rattle.pj_names.proofs.Dirs.{told_by, told_by_none}
use Rattle.pj_tables.proofs.tables.Tables.is_name.Goals as goal

pub returns-in-Some : goal.returns-in-Some
returns-in-Some c =
    let S = c.args.self.now in
    let at = c.args.at in
    let r = c.deref.result.now in
    let found : record_of S at.change ≡ Some r = sym (ap (λ (l : List Record). record_of l at.change) c.list.ensures.same) ∙ c.in-Some.ensures ∙ ap Some (sym c.deref.ensures) in
    let held = record_is S at.change r found in
    c.has_name.ensures
    ∙ sym (told_by (λ o. is_name_kind (kind_at o.change.hunks at.offset)) S at.change (λ a b m n e. one_record S c.list.ensures.lawful a b m n e) r held.member held.named)

pub returns-in-None : goal.returns-in-None
returns-in-None c =
    let S = c.args.self.now in
    let at = c.args.at in
    let none : record_of S at.change ≡ None = sym (ap (λ (l : List Record). record_of l at.change) c.list.ensures.same) ∙ c.in-None.ensures in
    sym (told_by_none (λ o. is_name_kind (kind_at o.change.hunks at.offset)) S at.change (λ s m e. not_record S at.change (record_none S at.change none) s (record { member = m; named = e })))
