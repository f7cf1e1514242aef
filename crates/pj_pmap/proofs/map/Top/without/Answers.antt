use Rattle.std.proofs.lemmas.List.{nil_from_length}
use Rattle.pj_pmap.proofs.Counts.{top_emptied, top_fewer}
use Rattle.pj_pmap.proofs.Leaves.{empty_is, full_is}
use Rattle.pj_pmap.proofs.map.Top.without.Goals as goal

pub returns-then-is_empty : goal.returns-then-is_empty
returns-then-is_empty g c =
    let none = nil_from_length c.in_ok-trunks.trunks.items (empty_is c.is_empty.ensures c.if-is_empty.true c.in_ok-trunks.trunks.ok.0) in
    top_emptied g.K.Ord.cmp _ c.args.key.now c.in_ok-trunks.trunks.items c.self.inside.trunks.items c.args.self c.self.view_is none c.in_ok-trunks.ensures.same

pub invariant_of-result : goal.invariant_of-result
invariant_of-result g c =
    let fewer = top_fewer g.K.Ord.cmp _ c.args.key.now c.in_ok-trunks.trunks.items c.self.inside.trunks.items c.args.self c.self.view_is g.met.K.Ord.total c.self.invariant.0.rising c.requires.there c.self.inside.len c.in_ok-trunks.ensures.same c.self.invariant.2 in
    (c.in_ok-trunks.ensures.level, full_is c.is_empty.ensures c.if-is_empty.false c.in_ok-trunks.trunks.ok.0, fewer)
