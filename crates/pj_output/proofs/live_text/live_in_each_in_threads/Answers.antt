use Rattle.pj_output.specs.declared.blocks.Block.{Block}
use Rattle.pj_output.specs.LiveText.{AreLiveIn}
use Rattle.pj_output.proofs.CallsInOrder.{given_each}
use Rattle.pj_output.proofs.live_text.live_in_each_in_threads.Goals as goal

pub map_in_threads-requires-after_bounds : goal.map_in_threads-requires-after_bounds
map_in_threads-requires-after_bounds g c κs within = λ b m. c.requires.blocks b.now m

pub returns : goal.returns
returns g c = given_each _ _ (λ (b : Block) part. AreLiveIn c.args.tables.now b b.past part.items) (λ b part given. given) (λ parts. parts.items) c.args.blocks.now c.map_in_threads.result c.map_in_threads.ensures
