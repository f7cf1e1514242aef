use Rattle.std.proofs.Common.{refl, arith}
use Rattle.pj_pmap.specs.Pairs.{shown_pair}
use Rattle.pj_pmap.proofs.Leaves.{length_added}
use Rattle.pj_pmap.proofs.leaf.joined.Goals as goal

pub returns-clause-same : goal.returns-clause-same
returns-clause-same g c = rw (c.in_ok-share_pairs-2.ensures, c.in_ok-share_pairs.ensures, c.in_ok-list.ensures.items) refl

pub returns-clause-len : goal.returns-clause-len
returns-clause-len g c =
    rw (length_added (shown_pair g.V.Share.shown) _ _ _ c.in_ok-share_pairs-2.ensures, length_added (shown_pair g.V.Share.shown) _ _ _ c.in_ok-share_pairs.ensures, c.in_ok-list.ensures.items) (omega arith)
