use Rattle.std.proofs.Common.{[], take}
use Rattle.pj_change.specs.Gathers.{Gathers, IsOfOne}
use Rattle.pj_plain.specs.Links.{IsLinkOf}
use Rattle.pj_plain.proofs.links.links_of.Given as goal

-- the pairs of the first edges are added
abbrev pub invariant-loop-edge : goal.invariant-loop-edge
invariant-loop-edge l = Gathers (IsOfOne (IsLinkOf l.vertices) (take l.edge-index l.edges)) [] l.links.items
