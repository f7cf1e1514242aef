use Rattle.pj_reach.proofs.Linking.{Links}
use Rattle.pj_reach.proofs.links.link.Given as goal

abbrev pub invariant-loop-index : goal.invariant-loop-index
invariant-loop-index l = Links l.size l.edges l.index l.last.items l.earlier.items
