use Rattle.pj_pmap.proofs.Places.{value_none, value_some}
use Rattle.pj_pmap.proofs.leaf.LeafNode.get.Goals as goal

pub returns-then-place : goal.returns-then-place
returns-then-place g c =
    let place = rw c.deref.ensures.value at c.place-place.ensures in
    rw (← c.self.view_is) (value_none g.V.Share.shown c.self.inside.pairs.items place c.if-place.true)

pub returns : goal.returns
returns g c =
    let place = rw c.deref.ensures.value at c.place-place.ensures in
    rw (← c.self.view_is) (value_some g.V.Share.shown c.self.inside.pairs.items place _ c.if-place.false c.index.ensures)
