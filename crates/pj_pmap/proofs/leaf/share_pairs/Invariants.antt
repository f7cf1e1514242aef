use Rattle.std.proofs.Common.{◌≡◌, ◌++◌, map, take}
use Rattle.pj_pmap.specs.Pairs.{shown_pair}
use Rattle.pj_pmap.proofs.leaf.share_pairs.Given as goal

abbrev pub invariant-loop-pair : goal.invariant-loop-pair
invariant-loop-pair g l = map (shown_pair g.V.Share.shown) l.list.items ≡ map (shown_pair g.V.Share.shown) l.initial.list.items ++ map (shown_pair g.V.Share.shown) (take l.pair-index l.pairs)
