-- The doors so far have their sessions, and the others share the rest.
use Rattle.std.proofs.Common.{◌≡◌, ◌++◌, drop}
use Rattle.pj_io.specs.Sessions.{bytes_of_each, shared_sessions}
use Rattle.pj_io.proofs.sessions.share_out.Given as goal

abbrev pub invariant-loop-share : goal.invariant-loop-share
invariant-loop-share l =
    l.parts.items ++ shared_sessions (bytes_of_each l.rest) (drop l.share-index l.shares) ≡ shared_sessions (bytes_of_each l.listed) l.shares
