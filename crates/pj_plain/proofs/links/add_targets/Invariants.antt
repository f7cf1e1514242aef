use Rattle.pj_change.specs.Gathers.{Gathers, IsOfNumber}
use Rattle.pj_plain.specs.Links.{IsTargetAt}
use Rattle.pj_plain.proofs.links.add_targets.Given as goal

-- the pairs to the first vertices are added
abbrev pub invariant-loop-to : goal.invariant-loop-to
invariant-loop-to l = Gathers (IsOfNumber (IsTargetAt l.vertices l.from l.target) l.to) l.initial.links.items l.links.items
