use Rattle.std.proofs.Common.{rules}
use Rattle.pj_pmap.proofs.Search.{computes_key, searchable, place_found, place_absent, place_shown, IsRising-of_shown}
use Rattle.pj_pmap.proofs.leaf.place.Goals as goal

pub returns-in-Ok : goal.returns-in-Ok
returns-in-Ok g c =
    place_shown g.K.Ord.cmp g.V.Share.shown _ _ _ _
    (place_found g.met.K.Ord.total _ _ _ (IsRising-of_shown g.K.Ord.cmp g.V.Share.shown _ c.requires) c.in-Ok.ensures.bound (c.in-Ok.ensures.position (λ p. g.K.Ord.cmp p.0 c.args.key.now) (computes_key _ _ _ (λ a r f' called. search rules))))

pub returns-in-Err : goal.returns-in-Err
returns-in-Err g c =
    place_shown g.K.Ord.cmp g.V.Share.shown _ _ _ _
    (place_absent g.met.K.Ord.total _ _ _ c.in-Err.ensures.bound
    (c.in-Err.ensures.position (λ p. g.K.Ord.cmp p.0 c.args.key.now) (computes_key _ _ _ (λ a r f' called. search rules)) (searchable g.met.K.Ord.total _ _ (IsRising-of_shown g.K.Ord.cmp g.V.Share.shown _ c.requires))))
