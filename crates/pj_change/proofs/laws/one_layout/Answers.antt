use Rattle.std.specs.Prelude.{IsTrue}
use Rattle.pj_change.proofs.OneLayout.{layout_one}
use Rattle.pj_change.proofs.laws.one_layout.Goals as goal

pub returns : goal.returns
returns c = λ before order depth X s t a b.
    layout_one (λ x y. IsTrue (before x y)) (λ x y f g. order.irreflexive x (order.transitive x y x f g)) depth X s t a b
