use Rattle.std.proofs.Common.{◌∙◌, rules, tests}
use Rattle.std.proofs.lemmas.Iterator.{YieldsList-from_slice}
use Rattle.std.proofs.lemmas.Iterator.Search.{all_from_yields_List}
use Rattle.std.specs.Arc.{arc_value}
use Rattle.std.specs.List.{list_all}
use Rattle.std.specs.declared.alloc.Global.{Global}
use Rattle.std.specs.declared.sync.Arc.{Arc}
use Rattle.pj_change.specs.declared.change.Record.{Record}
use Rattle.pj_change.specs.OneText.{agree}
use Rattle.pj_change.specs.Shared.{records}
use Rattle.pj_change.proofs.SharedLists.{all-records}
use Rattle.pj_plain.proofs.one_text.all_agree.Goals as goal

pub returns : goal.returns
returns c =
    all_from_yields_List (λ (a : Arc Record Global). list_all (agree (arc_value a)) (records c.args.other.now)) _ _ c.all.result c.all.ensures.ran
    (YieldsList-from_slice c.args.list.now cc) (λ x b q k. search (rules, tests))
    ∙ all-records (λ r. list_all (agree r) (records c.args.other.now)) c.args.list.now
