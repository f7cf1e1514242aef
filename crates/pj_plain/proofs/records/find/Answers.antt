use Rattle.std.proofs.Common.{◌∙◌, rules, tests, ap}
use Rattle.std.specs.Option.{option_map}
use Rattle.std.proofs.lemmas.Iterator.{YieldsList-from_slice}
use Rattle.std.proofs.lemmas.Iterator.Search.{find_from_yields_List}
use Rattle.std.specs.Arc.{arc_value}
use Rattle.std.specs.declared.alloc.Global.{Global}
use Rattle.std.specs.declared.sync.Arc.{Arc}
use Rattle.pj_change.specs.declared.change.Record.{Record}
use Rattle.pj_name.specs.Name.{same_name}
use Rattle.pj_change.proofs.SharedRecords.{find-records, found_cases}
use Rattle.pj_plain.proofs.records.find.Goals as goal

pub returns : goal.returns
returns c =
    found_cases c.find.result _
    (ap (option_map arc_value) (find_from_yields_List (λ (a : Arc Record Global). same_name (arc_value a).name c.args.name) _ _ c.find.result c.find.ensures.ran
    (YieldsList-from_slice c.args.list.now cc) (λ x b q k. search (rules, tests)))
    ∙ find-records (λ r. same_name r.name c.args.name) c.args.list.now)
