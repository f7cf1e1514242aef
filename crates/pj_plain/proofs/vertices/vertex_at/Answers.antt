use Rattle.std.proofs.Common.{◌≡◌, Some, ap, ◌∙◌}
use Rattle.pj_change.specs.declared.kind.Kind.TheVariants.{Text}
use Rattle.pj_change.specs.Positions.{kind_at}
use Rattle.pj_change.proofs.PositionLemmas.{position_small}
use Rattle.pj_change.proofs.Blocks.{block_ends}
use Rattle.pj_plain.proofs.vertices.vertex_at.Goals as goal

pub single-requires : goal.single-requires
single-requires c = position_small c.args.owner.now.change c.args.start _ c.in_ok-kind.ensures.0

pub single-requires-in-FileInode : goal.single-requires-in-FileInode
single-requires-in-FileInode c = position_small c.args.owner.now.change c.args.start _ c.in_ok-kind.ensures.0

pub single-requires-in-DirInode : goal.single-requires-in-DirInode
single-requires-in-DirInode c = position_small c.args.owner.now.change c.args.start _ c.in_ok-kind.ensures.0

pub run_at-requires : goal.run_at-requires
run_at-requires c =
    let n = c.in-Text in
    let k : kind_at c.args.owner.now.change.hunks c.args.start ≡ Some (Text n.hunk n.first n.past) = c.in_ok-kind.ensures.0 ∙ ap Some n.is in
    block_ends c.args.owner.now.change.hunks c.args.start n.hunk n.first n.past k
