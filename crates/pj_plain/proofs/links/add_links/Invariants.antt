use Rattle.pj_change.specs.Gathers.{Gathers, IsOfNumber}
use Rattle.pj_plain.specs.Links.{IsLinkFrom}
use Rattle.pj_plain.proofs.links.add_links.Given as goal

-- the pairs from the first vertices are added
abbrev pub invariant-loop-from : goal.invariant-loop-from
invariant-loop-from l = Gathers (IsOfNumber (IsLinkFrom l.vertices l.edge) l.from) l.initial.links.items l.links.items
