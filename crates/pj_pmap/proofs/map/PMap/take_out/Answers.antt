use Rattle.std.proofs.Common.{not, sym, ap, ◌∙◌}
use Rattle.pj_pmap.proofs.Counts.{without_absent}
use Rattle.pj_pmap.proofs.Chosen.{match_none}
use Rattle.pj_pmap.proofs.map.PMap.take_out.Goals as goal

pub returns-then-is_none-clause-same : goal.returns-then-is_none-clause-same
returns-then-is_none-clause-same g c =
    sym (without_absent g.K.Ord.cmp c.args.key.now c.args.self (match_none c.get.result _ (c.is_none.ensures ∙ ap not c.if-is_none.true) c.get.ensures))
