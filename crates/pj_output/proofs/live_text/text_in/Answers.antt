use Rattle.std.proofs.Common.{◌-◌, length, drop, rules, sym, arith, take_all}
use Rattle.std.proofs.lemmas.List.{length-drop}
use Rattle.std.proofs.lemmas.List.Sorted.{IsPartitionPoint-from_clause}
use Rattle.pj_change.specs.Graph.{point_cmp}
use Rattle.pj_change.proofs.Orders.{point_total}
use Rattle.pj_output.specs.declared.live_text.LiveVertex.{LiveVertex}
use Rattle.pj_output.specs.LiveText.{live_cmp, is_of}
use Rattle.pj_output.proofs.KeySlices.{is_before, is_at, before_first, at_first_in, slice_is}
use Rattle.pj_output.proofs.LiveOrder.{file_first, of_file}
use Rattle.pj_output.proofs.live_text.text_in.Goals as goal

pub returns : goal.returns
returns c =
    let xs = c.args.entries.now in
    let inode = c.args.inode in
    let start = c.partition_point-start.result in
    let long = length-drop start xs in
    let whole = take_all (length xs - start) (drop start xs) (omega arith) in
    let first = IsPartitionPoint-from_clause (is_before (λ (e : LiveVertex). e.inode) point_cmp point_total inode) xs _ c.partition_point-start.ensures.partitioned
    (before_first (λ (e : LiveVertex). e.inode) point_cmp point_total live_cmp file_first inode xs c.requires) (λ a r q k. search rules) in
    let second = IsPartitionPoint-from_clause (is_at (λ (e : LiveVertex). e.inode) point_cmp point_total inode) _ _ c.partition_point-count.ensures.partitioned
    (at_first_in (λ (e : LiveVertex). e.inode) point_cmp point_total live_cmp file_first inode xs c.requires _ start whole c.partition_point-start.ensures.bound first.1) (λ a r q k. search rules) in
    sym (slice_is (λ (e : LiveVertex). e.inode) point_cmp point_total live_cmp file_first inode xs c.requires (is_of inode) (of_file inode) _ start _ whole
    c.partition_point-start.ensures.bound c.partition_point-count.ensures.bound first second)
