use Rattle.std.proofs.Common.{rules}
use Rattle.std.specs.Ordering.{is_lt}
use Rattle.std.proofs.lemmas.List.Sorted.{IsPartitionPoint-from_clause}
use Rattle.pj_tree.specs.Rows.{inode_cmp}
use Rattle.pj_tree.proofs.TreeMaps.{inode_total}
use Rattle.pj_tree.proofs.SortedLists.{found, less_first}
use Rattle.pj_tree.proofs.inodes.index_of.Goals as goal

pub returns-clause-within : goal.returns-clause-within
returns-clause-within c =
    let cut = IsPartitionPoint-from_clause (λ y. is_lt (inode_cmp y c.args.inode)) c.args.inodes.now _ c.partition_point.ensures.partitioned
    (less_first inode_cmp inode_total c.args.inodes.now c.args.inode c.requires.sorted) (λ a r q k. search rules) in
    (found inode_cmp inode_total c.args.inodes.now c.args.inode _ c.requires.sorted c.requires.there cut.0 cut.1 c.partition_point.ensures.bound).0

pub returns-clause-at : goal.returns-clause-at
returns-clause-at c =
    let cut = IsPartitionPoint-from_clause (λ y. is_lt (inode_cmp y c.args.inode)) c.args.inodes.now _ c.partition_point.ensures.partitioned
    (less_first inode_cmp inode_total c.args.inodes.now c.args.inode c.requires.sorted) (λ a r q k. search rules) in
    (found inode_cmp inode_total c.args.inodes.now c.args.inode _ c.requires.sorted c.requires.there cut.0 cut.1 c.partition_point.ensures.bound).1
