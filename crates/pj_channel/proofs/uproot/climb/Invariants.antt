use Rattle.std.proofs.Common.{◌++◌, ◌∷◌, [], length}
use Rattle.pj_name.specs.declared.name.Name.{Name}
use Rattle.pj_apply.specs.Walks.{after_name}
use Rattle.pj_channel.specs.Ways.{IsWay}
use Rattle.pj_channel.proofs.uproot.climb.Given as goal

abbrev pub invariant-loop-holder : goal.invariant-loop-holder
invariant-loop-holder l = (name : Name) → IsWay l.tables name (l.fn.way.items ++ l.fn.from ∷ []) → IsWay l.tables name (l.way.items ++ l.top ∷ [])

abbrev pub decreases-loop-holder : goal.decreases-loop-holder
decreases-loop-holder l = length (after_name l.tables l.top)
