use Rattle.pj_pmap.proofs.Places.{floor_none, floor_some}
use Rattle.pj_pmap.proofs.leaf.LeafNode.floor.Goals as goal

pub returns-then-place-eq0 : goal.returns-then-place-eq0
returns-then-place-eq0 g c =
    let place = rw c.deref.ensures.value at c.place-place.ensures in
    rw (← c.self.view_is) (floor_none g.V.Share.shown c.self.inside.pairs.items place c.if-place-eq0.true)

pub returns : goal.returns
returns g c =
    let place = rw c.deref.ensures.value at c.place-place.ensures in
    rw (← c.self.view_is) (floor_some g.V.Share.shown c.self.inside.pairs.items place _ c.if-place-eq0.false c.index-pair.ensures)
