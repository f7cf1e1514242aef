-- The sessions so far have the same bytes.
use Rattle.std.proofs.Common.{◌≡◌, take}
use Rattle.pj_io.specs.Sessions.{bytes_of_each}
use Rattle.pj_io.proofs.sessions.copies.Given as goal

abbrev pub invariant-loop-session : goal.invariant-loop-session
invariant-loop-session l = bytes_of_each l.copies.items ≡ bytes_of_each (take l.session-index l.sessions)
