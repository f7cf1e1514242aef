-- What was handed back so far, and what is left.
use Rattle.std.proofs.Common.{◌≡◌, ◌+◌, ◌≤◌, ◌<◌, ◌^◌, ◌++◌, length, vec_capacity}
use Rattle.pj_serve.specs.Opening.{handed_back}
use Rattle.pj_serve.proofs.opening.hand_back.Given as goal

abbrev pub invariant-loop-source : goal.invariant-loop-source
invariant-loop-source g l = record {
  kept : l.kept.items ++ handed_back (l.pass + 1) l.opened.items ≡ handed_back 1 l.fn.opened.items;
  room : length l.kept.items + length l.opened.items ≤ vec_capacity l.kept;
  few : l.pass + length l.opened.items < 2 ^ 32;
}

abbrev pub decreases-loop-source : goal.decreases-loop-source
decreases-loop-source g l = length l.opened.items
