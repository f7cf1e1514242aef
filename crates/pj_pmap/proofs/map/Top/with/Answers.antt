use Rattle.std.proofs.Common.{sym, ◌∙◌}
use Rattle.pj_pmap.proofs.Counts.{top_with, length_with}
use Rattle.pj_pmap.proofs.map.Top.with.Goals as goal

pub invariant_of-result : goal.invariant_of-result
invariant_of-result g c =
    let value = g.V.Share.shown c.args.value in
    let longer = length_with g.K.Ord.cmp g.met.K.Ord.total c.args.key value _ c.self.invariant.0.rising c.in_ok-trunks.is_new c.in_ok-trunks.ensures.new in
    let sum = (rw c.in_ok-len.ensures.ok_part at c.checked_add.ensures).1 in
    let len = rw (c.from.ensures, c.self.invariant.2) at sum in
    let counts = top_with g.K.Ord.cmp _ c.args.key c.in_ok-trunks.trunks.items c.self.inside.trunks.items c.args.self c.self.view_is value c.in_ok-len.len c.in_ok-trunks.ensures.same (rw (← c.self.view_is) (len ∙ sym longer)) in
    (c.in_ok-trunks.ensures.level, counts.0, counts.1)
