-- What was taken so far stands in the text, and the rest is left.
use Rattle.std.proofs.Common.{◌≡◌, ◌≤◌, ◌++◌, ◌-◌, vec_len}
use Rattle.pj_io.specs.Told.{Where}
use Rattle.pj_serve.specs.Show.{most_taken}
use Rattle.pj_serve.proofs.input.take_all.Given as goal

abbrev pub invariant-loop-piece : goal.invariant-loop-piece
invariant-loop-piece g l = record {
  taken : Where (g.S.Source.meaning.tells l.initial.source) (g.S.Source.meaning.left l.initial.source ≡ l.text.items ++ g.S.Source.meaning.left l.source);
  few : vec_len l.text ≤ most_taken;
  told : g.S.Source.meaning.tells l.source ≡ g.S.Source.meaning.tells l.initial.source;
  never_falls : g.S.Source.meaning.faults l.initial.source ≤ g.S.Source.meaning.faults l.source;
}

abbrev pub decreases-loop-piece : goal.decreases-loop-piece
decreases-loop-piece g l = most_taken - vec_len l.text
