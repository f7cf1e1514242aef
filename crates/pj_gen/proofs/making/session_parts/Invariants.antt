-- The scripts of the sessions so far.
use Rattle.std.proofs.Common.{◌≡◌}
use Rattle.pj_gen.specs.Requests.{session_scripts}
use Rattle.pj_gen.proofs.making.session_parts.Given as goal

abbrev pub invariant-loop-session : goal.invariant-loop-session
invariant-loop-session l = l.parts.items ≡ session_scripts l.number l.changes l.sessions l.session
