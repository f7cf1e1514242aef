use Rattle.pj_output.specs.declared.blocks.Block.{Block}
use Rattle.pj_output.specs.LiveText.{AreLiveIn}
use Rattle.pj_output.proofs.CallsInOrder.{given_each}
use Rattle.pj_output.proofs.live_text.live_in_each.Goals as goal

pub map_each-requires : goal.map_each-requires
map_each-requires c = λ b m. c.requires b.now m

pub returns : goal.returns
returns c = given_each _ _ (λ (b : Block) part. AreLiveIn c.args.tables.now b b.past part.items) (λ b part given. given) (λ parts. parts.items) c.args.blocks.now c.map_each.result c.map_each.ensures
