use Rattle.std.specs.Prelude.{IsTrue}
use Rattle.pj_marks.proofs.Naming.{layout_below}
use Rattle.pj_marks.proofs.laws.layouts_name_their_classes.Goals as goal

pub returns : goal.returns
returns c = λ before depth n X shape below layout. layout_below (λ x y. IsTrue (before x y)) n depth X shape below layout
