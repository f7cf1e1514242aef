-- The parts so far have their doors.
use Rattle.std.proofs.Common.{◌≡◌, map}
use Rattle.pj_io.specs.SureDoor.{new_sure_door}
use Rattle.pj_io.proofs.plan.Plan.sure_doors.Given as goal

abbrev pub invariant-loop-sessions : goal.invariant-loop-sessions
invariant-loop-sessions l = l.doors.items ≡ map new_sure_door l.yielded
