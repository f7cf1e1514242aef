-- Each turn opens one door more, over its share of the rest.
use Rattle.std.proofs.Common.{◌∙◌, ◌∷◌, [], ◌++◌, ap}
use Rattle.pj_io.proofs.Shared.{one_more_door, no_more_doors}
use Rattle.pj_io.proofs.sessions.share_out.Goals as goal

pub loop-share-preserved : goal.loop-share-preserved
loop-share-preserved c =
    one_more_door _ _ _ _ _ _ _ _ _ _ c.loop-share-test.true c.min.ensures c.split_at.ensures.front c.split_at.ensures.back
    c.in_ok-copies.ensures
    (c.in_ok-push.ensures.items ∙ ap (λ part. c.loop-share.parts.items ++ part ∷ []) c.first.ensures)
    c.loop-share.invariant

pub returns : goal.returns
returns c = no_more_doors _ _ _ _ _ c.loop-share-test.false c.loop-share.invariant
