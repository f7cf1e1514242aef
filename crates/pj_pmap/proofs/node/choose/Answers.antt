use Rattle.std.proofs.Common.{rules}
use Rattle.std.proofs.lemmas.List.Sorted.{IsPartitionPoint-from_clause}
use Rattle.pj_pmap.proofs.Chosen.{is_low, partitioned, chosen_point}
use Rattle.pj_pmap.specs.Nodes.{pairs_of}
use Rattle.pj_pmap.proofs.node.choose.Goals as goal

pub returns : goal.returns
returns g c =
    let low = is_low g.met.K.Ord.total (pairs_of g.N.Node.pairs) g.N.Node.most c.args.key.now in
    rw c.saturating_sub.ensures
    (chosen_point g.met.K.Ord.total (pairs_of g.N.Node.pairs) g.N.Node.most c.args.key.now _ _ c.requires.level c.requires.some c.partition_point.ensures.bound
    (IsPartitionPoint-from_clause low _ _ c.partition_point.ensures.partitioned (partitioned g.met.K.Ord.total (pairs_of g.N.Node.pairs) g.N.Node.most c.args.key.now _ c.requires.level) (λ a r q k. search rules)))
