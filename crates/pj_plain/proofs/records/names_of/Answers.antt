use Rattle.std.proofs.Common.{rules, ◌∙◌}
use Rattle.std.proofs.lemmas.Iterator.{YieldsList-from_slice, YieldsList-from_map, items_from_collect}
use Rattle.std.proofs.lemmas.Result.{IfOk-weaker}
use Rattle.std.specs.Arc.{arc_value}
use Rattle.std.specs.declared.alloc.Global.{Global}
use Rattle.std.specs.declared.sync.Arc.{Arc}
use Rattle.pj_change.specs.declared.change.Record.{Record}
use Rattle.pj_change.proofs.SharedLists.{map-records}
use Rattle.pj_plain.proofs.records.names_of.Goals as goal

pub returns : goal.returns
returns c =
    IfOk-weaker c.collect.result _ _ (λ names e. e ∙ map-records (λ r. r.name) c.args.list.now)
    (items_from_collect _ c.collect.ensures.ran
    (YieldsList-from_map _ (λ (a : Arc Record Global). (arc_value a).name) (YieldsList-from_slice c.args.list.now cc) c.map.ensures.closure (λ x r q k. search rules)))
