-- The generator, the last insertions of the session's lines, and the requests are those of the changes so far.
use Rattle.std.proofs.Common.{◌≡◌, ℕ, ◌%◌, ◌<◌, None, length}
use Rattle.std.specs.Prelude.{slice_index_or}
use Rattle.pj_wire.specs.Requests.{spellings}
use Rattle.pj_gen.specs.Draws.{number_after}
use Rattle.pj_gen.specs.Changes.{last_insertion}
use Rattle.pj_gen.specs.Requests.{session_requests}
use Rattle.pj_gen.proofs.making.session_script.Given as goal

abbrev pub invariant-loop-before : goal.invariant-loop-before
invariant-loop-before l = record {
  state_is : l.state ≡ number_after l.number l.before;
  eight : length l.last ≡ 8;
  last_are : (k : ℕ) → k < 8 → k % l.sessions ≡ l.session → slice_index_or l.last k None ≡ last_insertion l.number k l.before;
  out_is : l.out.items ≡ spellings (session_requests l.number l.sessions l.session l.before);
}
