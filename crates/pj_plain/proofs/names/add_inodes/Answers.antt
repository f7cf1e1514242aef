use Rattle.std.proofs.Common.{◌∙◌}
use Rattle.pj_tree.proofs.GatheredRows.{inodes_next}
use Rattle.pj_plain.proofs.names.add_inodes.Goals as goal

pub loop-vertex-preserved : goal.loop-vertex-preserved
loop-vertex-preserved g c = record {
  rows = c.in_ok-add_inode.ensures.rows ∙ c.loop-vertex.invariant.rows;
  inodes = inodes_next c.args.vertices.now c.requires.tied c.loop-vertex.vertex-index c.vertex-item.result c.loop-vertex-test.true c.vertex-item.is c.loop-vertex.tree.inodes
      c.loop-vertex.invariant.inodes c.inode_of.result c.inode_of.ensures c.add_inode.new.tree.inodes c.in_ok-add_inode.ensures.inodes;
}
