use Rattle.std.proofs.Common.{ℕ, ◌<◌, slice_index}
use Rattle.pj_reach.specs.Links.{source, target}
use Rattle.pj_print.proofs.only_order.lead_onward.Given as goal

abbrev pub invariant-loop-edge : goal.invariant-loop-edge
invariant-loop-edge l = (e : ℕ) → e < l.edge-index → slice_index l.places (source l.edges e) < slice_index l.places (target l.edges e)
