use Rattle.std.proofs.Common.{◌∙◌, rules, tests}
use Rattle.std.proofs.lemmas.Iterator.{YieldsList-from_slice}
use Rattle.std.proofs.lemmas.Iterator.Search.{any_from_yields_List}
use Rattle.std.specs.Arc.{arc_value}
use Rattle.std.specs.declared.alloc.Global.{Global}
use Rattle.std.specs.declared.sync.Arc.{Arc}
use Rattle.pj_change.specs.declared.change.Record.{Record}
use Rattle.pj_name.specs.Name.{same_name}
use Rattle.pj_change.proofs.SharedRecords.{any-records}
use Rattle.pj_plain.proofs.records.is_held.Goals as goal

pub returns : goal.returns
returns c =
    any_from_yields_List (λ (a : Arc Record Global). same_name (arc_value a).name c.args.name) _ _ c.any.result c.any.ensures.ran
    (YieldsList-from_slice c.args.list.now cc) (λ x b q k. search (rules, tests))
    ∙ any-records (λ r. same_name r.name c.args.name) c.args.list.now
