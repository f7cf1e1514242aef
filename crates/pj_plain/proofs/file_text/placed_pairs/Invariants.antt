use Rattle.std.proofs.Common.{[], take}
use Rattle.pj_change.specs.Gathers.{Gathers, IsOfOne}
use Rattle.pj_plain.specs.Links.{IsPlaced}
use Rattle.pj_plain.proofs.file_text.placed_pairs.Given as goal

-- the places of the first pairs are added
abbrev pub invariant-loop-a : goal.invariant-loop-a
invariant-loop-a l = Gathers (IsOfOne (IsPlaced l.places) (take l.a-index l.pairs)) [] l.edges.items
