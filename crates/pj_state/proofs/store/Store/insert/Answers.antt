use Rattle.std.proofs.Common.{◌≡◌, ◌∙◌, sym, ap, subst, cond, length, None, Some}
use Rattle.std.specs.Arc.{arc_value}
use Rattle.std.specs.HashMap.{Updates, get}
use Rattle.pj_name.specs.declared.name.Name.{Name}
use Rattle.pj_name.specs.Name.{same_name}
use Rattle.pj_change.specs.declared.change.Record.{Record}
use Rattle.pj_state.specs.Records.{record_in}
use Rattle.pj_state.proofs.KeptFacts.{came_back}
use Rattle.pj_state.proofs.Records.{record_with, no_value, one_more}
use Rattle.pj_state.proofs.store.Store.insert.Goals as goal

pub returns-clause-found : goal.returns-clause-found
returns-clause-found c = λ name.
    let named : c.of.result ≡ (arc_value c.args.shared).name = c.of.ensures ∙ ap (λ (r : Record). r.name) c.deref.ensures in
    let updates = came_back c.insert.result (Updates same_name c.args.self.now.records c.insert.new.self c.of.result (Some c.args.shared)) c.insert.ensures.updates (sym c.is_err.ensures.value ∙ c.if-is_err.false) in
    subst (λ (n : Name). record_in c.insert.new.self.entries name ≡ cond (same_name n name) (Some (arc_value c.args.shared)) (record_in c.args.self.now.records.entries name)) named
    (record_with c.of.result c.args.shared c.args.self.now.records c.insert.new.self updates name)

pub returns-clause-count : goal.returns-clause-count
returns-clause-count c =
    let key = c.of.result in
    let named : key ≡ (arc_value c.args.shared).name = c.of.ensures ∙ ap (λ (r : Record). r.name) c.deref.ensures in
    let none : record_in c.args.self.now.records.entries key ≡ None = ap (record_in c.args.self.now.records.entries) named ∙ c.requires.new in
    one_more c.insert.result (length c.insert.new.self.entries) (length c.args.self.now.records.entries) (get same_name c.args.self.now.records key)
    c.insert.ensures.len c.insert.ensures.old (no_value arc_value (get same_name c.args.self.now.records key) none) (sym c.is_err.ensures.value ∙ c.if-is_err.false)
