use Rattle.std.proofs.Common.{◌≡◌}
use Rattle.pj_bits.specs.Row.{has, size as columns}
use Rattle.pj_layout.specs.Orders.{Before}
use Rattle.pj_layout.specs.Parts.{Joins}
use Rattle.pj_layout.proofs.Bits.{clear_count}
use Rattle.pj_layout.proofs.LinkedSets.{IsSearch}
use Rattle.pj_layout.proofs.search.linked_set.Given as goal

abbrev pub invariant-loop-class : goal.invariant-loop-class
invariant-loop-class l = record {
  rest_size : columns l.rest ≡ columns l.fn.rest;
  set_size : columns l.set ≡ columns l.fn.rest;
  near_size : columns l.near ≡ columns l.fn.rest;
  frontier_size : columns l.frontier ≡ columns l.fn.rest;
  search : IsSearch (Joins l.link (Before l.order.before.now)) l.fn.rest l.set l.frontier l.rest l.start;
}

-- how many classes are not in the set
abbrev pub decreases-loop-class : goal.decreases-loop-class
decreases-loop-class l = clear_count (has l.set) (columns l.set)
