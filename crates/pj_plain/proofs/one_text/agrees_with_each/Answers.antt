use Rattle.std.proofs.Common.{◌∙◌, rules, tests}
use Rattle.std.proofs.lemmas.Iterator.{YieldsList-from_slice}
use Rattle.std.proofs.lemmas.Iterator.Search.{all_from_yields_List}
use Rattle.std.specs.Arc.{arc_value}
use Rattle.std.specs.declared.alloc.Global.{Global}
use Rattle.std.specs.declared.sync.Arc.{Arc}
use Rattle.pj_change.specs.declared.change.Record.{Record}
use Rattle.pj_change.specs.OneText.{agree}
use Rattle.pj_change.proofs.SharedLists.{all-records}
use Rattle.pj_plain.proofs.one_text.agrees_with_each.Goals as goal

pub returns : goal.returns
returns c =
    all_from_yields_List (λ (a : Arc Record Global). agree c.args.record.now (arc_value a)) _ _ c.all.result c.all.ensures.ran
    (YieldsList-from_slice c.args.list.now cc) (λ x b q k. search (rules, tests))
    ∙ all-records (agree c.args.record.now) c.args.list.now
