-- The sessions so far, and what the door has still to give.
use Rattle.std.proofs.Common.{◌≡◌, ◌≤◌, length, vec_capacity}
use Rattle.pj_serve.specs.Workers.{HasGiven, Working}
use Rattle.pj_serve.proofs.working.serve_all.Given as goal

abbrev pub invariant-loop-turn : goal.invariant-loop-turn
invariant-loop-turn g l = record {
  working : Working g.P.Replier.view g.V.Door.meaning (record { sources = g.V.Src.Source.meaning; sinks = g.V.Dst.Sink.meaning }) l.limits l.initial.door l.door l.initial.turns l.turns l.kept.items l.ends.items;
  at : length l.kept.items ≡ l.turn-index;
  door : HasGiven g.V.Door.meaning l.initial.door l.door l.turn-index;
  kept_room : length l.turns ≤ vec_capacity l.kept;
  ends_room : length l.turns ≤ vec_capacity l.ends;
}
