-- The exit statuses of the program.
use Rattle.std.specs.Prelude.{ℕ, Bool, true, false, List, [], ◌∷◌, Option, Some, None}
use Rattle.pj_session.specs.declared.end.End.{End}
use Rattle.pj_session.specs.declared.end.End.TheVariants as ends
use Rattle.pj_session.specs.declared.end.Ended.{Ended}
use Rattle.pj_serve.specs.declared.status.Status.{Status}
use Rattle.pj_serve.specs.declared.status.Status.TheVariants.{Done, Malformed, Words, ReadFault, WriteFault, Memory, Session, Journal, Store}

-- the number with which the program ends
abbrev pub exit_status : Status → ℕ
exit_status Done = 0
exit_status Malformed = 1
exit_status Words = 2
exit_status ReadFault = 3
exit_status WriteFault = 4
exit_status Memory = 5
exit_status Session = 6
exit_status Journal = 7
exit_status Store = 8

-- the end, if it is not `Done`, else the other one
abbrev pub unless_done : End → Option End → Option End
unless_done ends.Done other = other
unless_done end other = Some end

-- the first end other than `Done`
abbrev pub first_end : List Ended → Option End
first_end [] = None
first_end (e ∷ es) = unless_done e.end (first_end es)

-- the status for one end
abbrev pub status_of_end : End → Status
status_of_end ends.Done = Done
status_of_end ends.ReadFault = ReadFault
status_of_end ends.WriteFault = WriteFault
status_of_end ends.StoreFault = Store
status_of_end ends.Memory = Memory
status_of_end ends.Bad = Session
status_of_end ends.Cut = Session
status_of_end ends.Spent = Session

-- The status after sessions: that of the first end other than `Done`. Where there is none, `whole` says whether the output
-- was written whole.
abbrev pub status_after : Option End → Bool → Status
status_after (Some end) whole = status_of_end end
status_after None true = Done
status_after None false = WriteFault
