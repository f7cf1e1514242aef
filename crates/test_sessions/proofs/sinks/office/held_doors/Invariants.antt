-- The doors so far have the first shares, and are new.
use Rattle.std.proofs.Common.{◌≡◌, ◌≤◌, All, length, map, take, vec_capacity}
use Rattle.test_sessions.proofs.sinks.office.held_doors.Given as goal

abbrev pub invariant-loop-share : goal.invariant-loop-share
invariant-loop-share l = record {
  lefts : map (λ door. door.left) l.doors.items ≡ take l.share-index l.shares;
  new : All (λ door. door.given ≡ 0) l.doors.items;
  count : length l.doors.items ≡ l.share-index;
  room : length l.shares ≤ vec_capacity l.doors;
}
