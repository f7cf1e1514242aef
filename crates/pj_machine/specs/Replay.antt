-- The states that a journal goes through.
use Rattle.std.specs.Prelude.{◌≡◌, List, [], ◌∷◌}
use Rattle.pj_machine.specs.declared.journal.Entry.{Entry}
use Rattle.pj_machine.specs.State.{State, opening}
use Rattle.pj_machine.specs.Step.{Steps}

-- the writes of the entries, one after the other, lead from s to t
abbrev pub Leads : State → List Entry → State → Type 0
Leads s [] t = t ≡ s
Leads s (e ∷ entries) t = (between : State) × Steps s e.write between × Leads between entries t

-- s is the state after all entries of the journal
abbrev pub IsReplay : List Entry → State → Type 0
IsReplay journal s = Leads opening journal s
