use Rattle.std.proofs.Common.{rules, tests}
use Rattle.std.proofs.lemmas.Iterator.{YieldsList-from_slice, YieldsList-from_map}
use Rattle.std.proofs.lemmas.Iterator.Consumers.{YieldsList-from_filter, YieldsList-at, reduce_from_yields_List}
use Rattle.pj_change.specs.Shared.{records}
use Rattle.pj_change.specs.Unrecord.{IsHolder}
use Rattle.pj_change.proofs.LeastNames.{lesser, reduce_least}
use Rattle.pj_plain.proofs.Holders.{holders, needs_it, name_of_shared, are_holders}
use Rattle.pj_plain.proofs.records.least_holder.Goals as goal

pub returns : goal.returns
returns c =
    reduce_least (holders c.args.list.now c.args.name) (IsHolder (records c.args.list.now) c.args.name) c.min.result
    (reduce_from_yields_List lesser _ c.min.result c.min.ensures.ran
    (YieldsList-from_map _ name_of_shared
    (YieldsList-at c.map.ensures.source
    (YieldsList-from_filter _ (needs_it c.args.name) (YieldsList-from_slice c.args.list.now cc) c.filter.ensures.closure (λ x b q k. search (rules, tests))))
    c.map.ensures.closure (λ x r q k. search rules)))
    (are_holders c.args.list.now c.args.name)
