use Rattle.std.proofs.Common.{◌≡◌, ◌∙◌, sym, ap, List, Some}
use Rattle.std.specs.Str.{bytes_eq}
use Rattle.std.specs.Prelude.{ℕ}
use Rattle.pj_change.specs.declared.change.Record.{Record}
use Rattle.pj_change.specs.Lawful.{record_of}
use Rattle.pj_channel.proofs.Texts.{agrees_found, agrees_absent}
use Rattle.pj_channel.proofs.one_text.agrees.Goals as goal

pub returns-in-Some : goal.returns-in-Some
returns-in-Some c =
    let list = c.args.tables.now in
    let own = c.deref.result.now in
    let found : record_of list c.args.change.now.name ≡ Some own =
    ap (λ (l : List Record). record_of l c.args.change.now.name) (sym c.list.ensures.same) ∙ c.in-Some.ensures ∙ ap Some (sym c.deref.ensures) in
    c.eq.ensures
    ∙ ap (λ (t : List ℕ). bytes_eq t c.items-in-Some.result.now) c.items.ensures
    ∙ ap (bytes_eq own.text) c.items-in-Some.ensures
    ∙ agrees_found list c.args.change.now c.list.ensures.lawful own found

pub returns-in-None : goal.returns-in-None
returns-in-None c =
    sym (agrees_absent c.args.tables.now c.args.change.now (ap (λ (l : List Record). record_of l c.args.change.now.name) (sym c.list.ensures.same) ∙ c.in-None.ensures))
