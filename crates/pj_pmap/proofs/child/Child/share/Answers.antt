use Rattle.std.proofs.Common.{ap, ◌∙◌}
use Rattle.std.specs.Arc.{arc_value}
use Rattle.pj_pmap.proofs.Chosen.{shared_least}
use Rattle.pj_pmap.specs.Nodes.{pairs_of}
use Rattle.pj_pmap.proofs.child.Child.share.Goals as goal

pub invariant_of-result : goal.invariant_of-result
invariant_of-result g c = shared_least (pairs_of g.N.Node.pairs) g.K.Share.shown c.requires _ _ _ _ (ap arc_value c.in_ok-place.ensures) c.in_ok-least.ensures c.self.invariant

pub returns : goal.returns
returns g c = ap arc_value c.in_ok-place.ensures ∙ c.self.view_is
