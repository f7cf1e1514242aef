use Rattle.std.proofs.Common.{◌≡◌, All, map, take, slice_index}
use Rattle.pj_layout.proofs.sets.by_rank.Given as goal

abbrev pub invariant-loop-class : goal.invariant-loop-class
invariant-loop-class l = (map (λ r. r.class) l.ranked.items ≡ take l.class-index l.classes) × All (λ r. r.rank ≡ slice_index l.ranks r.class) l.ranked.items
