use Rattle.pj_pmap.proofs.Runs.{leaf_run}
use Rattle.pj_pmap.proofs.leaf.LeafNode.run_after.Goals as goal

pub returns : goal.returns
returns g c =
    let place = rw c.deref-pairs.ensures.value at c.place-place.ensures in
    rw (← c.self.view_is, c.deref-pairs.ensures.value) (leaf_run g.V.Share.shown c.self.inside.pairs.items place)
