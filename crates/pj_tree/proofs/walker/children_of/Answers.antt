use Rattle.std.proofs.Common.{◌-◌, length, drop, rules, sym, arith, take_all}
use Rattle.std.proofs.lemmas.List.{length-drop}
use Rattle.std.proofs.lemmas.List.Sorted.{IsPartitionPoint-from_clause}
use Rattle.pj_tree.proofs.Parents.{is_before, is_at, before_first, at_first_in, pairings_are}
use Rattle.pj_tree.proofs.walker.children_of.Goals as goal

pub returns : goal.returns
returns c =
    let start = c.partition_point-start.result in
    let long = length-drop start c.args.pairings.now in
    let whole = take_all (length c.args.pairings.now - start) (drop start c.args.pairings.now) (omega arith) in
    let first = IsPartitionPoint-from_clause (is_before c.args.parent) c.args.pairings.now _ c.partition_point-start.ensures.partitioned
    (before_first c.args.parent c.args.pairings.now c.requires) (λ a r q k. search rules) in
    let second = IsPartitionPoint-from_clause (is_at c.args.parent) _ _ c.partition_point-count.ensures.partitioned
    (at_first_in c.args.parent c.args.pairings.now _ start whole c.requires c.partition_point-start.ensures.bound first.1) (λ a r q k. search rules) in
    sym (pairings_are c.args.parent c.args.pairings.now _ start _ whole c.partition_point-start.ensures.bound c.partition_point-count.ensures.bound first second)
