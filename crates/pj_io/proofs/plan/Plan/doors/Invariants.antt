-- The parts so far have their doors.
use Rattle.std.proofs.Common.{◌≡◌, map}
use Rattle.pj_io.specs.Plan.{door_by}
use Rattle.pj_io.proofs.plan.Plan.doors.Given as goal

abbrev pub invariant-loop-sessions : goal.invariant-loop-sessions
invariant-loop-sessions l = l.doors.items ≡ map (door_by l.self) l.yielded
