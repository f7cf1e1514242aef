use Rattle.test_tables.proofs.Alike.{no_rows}
use Rattle.test_tables.proofs.dead.state.State.empty.Goals as goal

pub returns : goal.returns
returns c = no_rows c.none.result.shapes.items c.none.result.arrows.items c.empty.result c.none.ensures.shapes c.empty.ensures
