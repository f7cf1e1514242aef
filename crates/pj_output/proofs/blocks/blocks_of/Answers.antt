use Rattle.std.proofs.Common.{◌≡◌, [], ◌∷◌, rules}
use Rattle.std.specs.Prelude.{Some}
use Rattle.pj_apply.specs.Walks.{remaining}
use Rattle.pj_output.specs.Blocks.{IsBlockOf}
use Rattle.pj_output.proofs.ChangeWalks.{before_more, before_none}
use Rattle.pj_output.proofs.blocks.blocks_of.Goals as goal

pub loop-change-preserved : goal.loop-change-preserved
loop-change-preserved c =
    let S = c.args.tables.now in
    let r = c.deref-owner.result.now in
    let goes : remaining S c.loop-change.after ≡ r ∷ remaining S (Some r.name) = search rules in
    before_more IsBlockOf S (remaining S c.loop-change.after) (remaining S (Some r.name)) r c.loop-change.blocks.items c.add_blocks.new.blocks.items c.loop-change.invariant goes c.in_ok-add_blocks.ensures

pub returns : goal.returns
returns c =
    let S = c.args.tables.now in
    let ends : remaining S c.loop-change.after ≡ [] = search rules in
    before_none IsBlockOf S (remaining S c.loop-change.after) c.loop-change.blocks.items c.loop-change.invariant ends
