use Rattle.std.proofs.Common.{[]}
use Rattle.pj_pmap.proofs.Leaves.{first_rises, rest_rises, parts_shown, node_shown, shown_with}
use Rattle.pj_pmap.proofs.Places.{is_new}
use Rattle.pj_pmap.proofs.Rising.{IsRising-with}
use Rattle.pj_pmap.proofs.leaf.LeafNode.with.Goals as goal

pub invariant_of-first : goal.invariant_of-first
invariant_of-first g c =
    let place = rw c.deref.ensures.value at c.place-place.ensures in
    let is = shown_with g.V.Share.shown c.self.inside.pairs.items place c.args.value c.in_ok-list.list.items c.in_ok-list.ensures in
    let rises = IsRising-with g.K.Ord.cmp g.met.K.Ord.total c.args.key (g.V.Share.shown c.args.value) _ c.self.invariant.0 in
    (first_rises g.K.Ord.cmp g.V.Share.shown _ _ _ _ c.in_ok-first.ensures.same is rises, node_shown g.K.Ord.cmp g.V.Share.shown 64 _ c.in_ok-first.ensures.first)

pub invariant_of-result : goal.invariant_of-result
invariant_of-result g c =
    let place = rw c.deref.ensures.value at c.place-place.ensures in
    let is = shown_with g.V.Share.shown c.self.inside.pairs.items place c.args.value c.in_ok-list.list.items c.in_ok-list.ensures in
    let rises = IsRising-with g.K.Ord.cmp g.met.K.Ord.total c.args.key (g.V.Share.shown c.args.value) _ c.self.invariant.0 in
    let cut = rw c.in-Some.is at c.in_ok-first.ensures.same in
    let node = rw c.in-Some.is at c.in_ok-first.ensures.second in
    (rest_rises g.K.Ord.cmp g.V.Share.shown _ _ _ _ cut is rises, node_shown g.K.Ord.cmp g.V.Share.shown 64 _ node)

pub invariant_of-first-2 : goal.invariant_of-first-2
invariant_of-first-2 g c =
    let place = rw c.deref.ensures.value at c.place-place.ensures in
    let is = shown_with g.V.Share.shown c.self.inside.pairs.items place c.args.value c.in_ok-list.list.items c.in_ok-list.ensures in
    let rises = IsRising-with g.K.Ord.cmp g.met.K.Ord.total c.args.key (g.V.Share.shown c.args.value) _ c.self.invariant.0 in
    (first_rises g.K.Ord.cmp g.V.Share.shown _ _ _ _ c.in_ok-first.ensures.same is rises, node_shown g.K.Ord.cmp g.V.Share.shown 64 _ c.in_ok-first.ensures.first)

pub returns-in_default-clause-same : goal.returns-in_default-clause-same
returns-in_default-clause-same g c =
    let place = rw c.deref.ensures.value at c.place-place.ensures in
    let is = shown_with g.V.Share.shown c.self.inside.pairs.items place c.args.value c.in_ok-list.list.items c.in_ok-list.ensures in
    let cut = rw c.in_default.is at c.in_ok-first.ensures.same in
    rw (← c.self.view_is) (parts_shown g.K.Ord.cmp g.V.Share.shown _ [] _ _ cut is)

pub returns-clause-same : goal.returns-clause-same
returns-clause-same g c =
    let place = rw c.deref.ensures.value at c.place-place.ensures in
    let is = shown_with g.V.Share.shown c.self.inside.pairs.items place c.args.value c.in_ok-list.list.items c.in_ok-list.ensures in
    let cut = rw c.in-Some.is at c.in_ok-first.ensures.same in
    rw (← c.self.view_is) (parts_shown g.K.Ord.cmp g.V.Share.shown _ _ _ _ cut is)

pub returns-in_default-clause-new : goal.returns-in_default-clause-new
returns-in_default-clause-new g c =
    let place = rw c.deref.ensures.value at c.place-place.ensures in
    rw (← c.self.view_is) (is_new g.V.Share.shown c.self.inside.pairs.items place)

pub returns-clause-new : goal.returns-clause-new
returns-clause-new g c =
    let place = rw c.deref.ensures.value at c.place-place.ensures in
    rw (← c.self.view_is) (is_new g.V.Share.shown c.self.inside.pairs.items place)
