-- The scripts under the paths so far are opened.
use Rattle.std.proofs.Common.{◌≡◌, ◌≤◌, length, vec_capacity}
use Rattle.pj_serve.specs.Outside.{KeepsOffice}
use Rattle.pj_serve.proofs.Openings.{AllBelow}
use Rattle.pj_serve.proofs.opening.open_scripts.Given as goal

abbrev pub invariant-loop-path : goal.invariant-loop-path
invariant-loop-path g l = record {
  count : length l.opened.items ≡ l.path-index;
  room : length l.paths ≤ vec_capacity l.opened;
  office : KeepsOffice g.O.Office.meaning l.initial.office l.office;
  each : AllBelow g.O.Office.meaning (record { sources = g.O.Src.Source.meaning; sinks = g.O.Dst.Sink.meaning }) l.initial.office l.paths l.opened.items l.path-index;
}
