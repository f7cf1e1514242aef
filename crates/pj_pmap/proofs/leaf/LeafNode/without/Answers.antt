use Rattle.std.proofs.Common.{map, sym, ap, ◌∙◌}
use Rattle.std.proofs.lemmas.List.{length-map, nil_from_length}
use Rattle.pj_pmap.specs.Pairs.{shown_pair}
use Rattle.pj_pmap.proofs.Leaves.{empty_is, full_is, left_few, node_shown, shown_without}
use Rattle.pj_pmap.proofs.Rising.{IsRising-without}
use Rattle.pj_pmap.proofs.leaf.LeafNode.without.Goals as goal

pub returns-then-is_empty-clause-same : goal.returns-then-is_empty-clause-same
returns-then-is_empty-clause-same g c =
    let place = rw c.deref.ensures.value at c.place-place.ensures in
    let is = shown_without g.V.Share.shown c.self.inside.pairs.items place c.cut-pairs.result.items c.cut-pairs.ensures in
    rw (← c.self.view_is) (sym (ap (map (shown_pair g.V.Share.shown)) (nil_from_length c.cut-pairs.result.items (empty_is c.is_empty.ensures c.if-is_empty.true c.cut-pairs.result.ok.0))) ∙ is)

pub invariant_of-result : goal.invariant_of-result
invariant_of-result g c =
    let place = rw c.deref.ensures.value at c.place-place.ensures in
    let is = shown_without g.V.Share.shown c.self.inside.pairs.items place c.cut-pairs.result.items c.cut-pairs.ensures in
    let few = simp length-map at c.self.invariant.1.few in (
      rw is (IsRising-without g.K.Ord.cmp c.args.key.now _ c.self.invariant.0),
      node_shown g.K.Ord.cmp g.V.Share.shown 64 _ (record { some = full_is c.is_empty.ensures c.if-is_empty.false c.cut-pairs.result.ok.0; few = left_few g.V.Share.shown c.self.inside.pairs.items place 64 _ c.cut-pairs.ensures few }),
    )

pub returns-clause-same : goal.returns-clause-same
returns-clause-same g c =
    let place = rw c.deref.ensures.value at c.place-place.ensures in
    rw (← c.self.view_is) (shown_without g.V.Share.shown c.self.inside.pairs.items place c.cut-pairs.result.items c.cut-pairs.ensures)
