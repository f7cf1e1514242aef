use Rattle.std.proofs.Common.{Bool, ◌∙◌, ap, rules, tests}
use Rattle.std.specs.List.{list_any}
use Rattle.std.specs.declared.alloc.Global.{Global}
use Rattle.std.specs.declared.sync.Arc.{Arc}
use Rattle.std.specs.Arc.{arc_value}
use Rattle.std.proofs.lemmas.Iterator.{YieldsList-from_slice}
use Rattle.std.proofs.lemmas.Iterator.Search.{any_from_yields_List}
use Rattle.pj_change.specs.declared.change.Record.{Record}
use Rattle.pj_change.specs.Contested.{opposes}
use Rattle.pj_change.specs.Shared.{records}
use Rattle.pj_change.proofs.SharedRecords.{any-records}
use Rattle.pj_plain.proofs.contested.is_range_contested.Goals as goal

pub returns : goal.returns
returns c =
    let d = c.args.d.now in
    let o = c.args.o.now in
    let test : Record → Bool = λ i. opposes i d o.name c.args.start c.args.end c.deleted_at-deleted.result in
    let h = any_from_yields_List (λ (a : Arc Record Global). test (arc_value a)) _ _ c.any.result c.any.ensures.ran (YieldsList-from_slice c.args.changes.now cc) (λ x b q k. search (rules, tests)) in
    h ∙ any-records test c.args.changes.now
    ∙ ap (λ deleted. list_any (λ i. opposes i d o.name c.args.start c.args.end deleted) (records c.args.changes.now)) c.deleted_at-deleted.ensures
