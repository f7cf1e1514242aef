use Rattle.std.proofs.Common.{Bool, ◌∙◌, ap, rules, tests}
use Rattle.std.specs.Prelude.{not}
use Rattle.std.specs.List.{list_any}
use Rattle.std.specs.declared.alloc.Global.{Global}
use Rattle.std.specs.declared.sync.Arc.{Arc}
use Rattle.std.specs.Arc.{arc_value}
use Rattle.std.proofs.lemmas.Iterator.{YieldsList-from_slice}
use Rattle.std.proofs.lemmas.Iterator.Search.{any_from_yields_List}
use Rattle.pj_change.specs.declared.change.Record.{Record}
use Rattle.pj_change.specs.Versions.{overrules}
use Rattle.pj_change.proofs.SharedRecords.{any-records}
use Rattle.pj_plain.proofs.versions.survives.Goals as goal

pub returns : goal.returns
returns c =
    let test : Record → Bool = λ d. list_any (overrules d c.args.name c.args.p) d.change.hunks in
    let h = any_from_yields_List (λ (a : Arc Record Global). test (arc_value a)) _ _ c.any.result c.any.ensures.ran (YieldsList-from_slice c.args.changes.now cc) (λ x b q k. search (rules, tests)) in
    ap not (h ∙ any-records test c.args.changes.now)
