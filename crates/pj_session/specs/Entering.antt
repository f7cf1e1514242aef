-- What the requests of a session entered.
use Rattle.std.specs.Prelude.{◌≡◌, ℕ, true, List, [], ◌∷◌, All, if◌then◌else◌}
use Rattle.pj_machine.specs.declared.command.Command.{Command}
use Rattle.pj_machine.specs.declared.journal.Entry.{Entry}
use Rattle.pj_machine.specs.declared.limits.Limits.{Limits}
use Rattle.pj_machine.specs.declared.reply.Numbered.{Numbered}
use Rattle.pj_machine.specs.Call.{entries_of}
use Rattle.pj_machine.specs.Entries.{commands, writes, numbered_from}
use Rattle.pj_machine.specs.Told.{is_entered}
use Rattle.pj_session.specs.Spoke.{Spoke}

-- the requests that were replied as entered
abbrev pub accepted : List Command → List Numbered → List Command
accepted [] rs = []
accepted (x ∷ xs) [] = []
accepted (x ∷ xs) (r ∷ rs) = if is_entered r then x ∷ accepted xs rs else accepted xs rs

-- the entries of a pass are the writes of its accepted requests, all of them and in their order
abbrev pub EntersAccepted : Type 0
EntersAccepted =
    (limits : Limits) (journal : List Entry) (pass : ℕ) (xs : List Command) (rs : List Numbered) →
    Spoke limits journal pass xs rs → commands (entries_of pass journal) ≡ accepted xs rs

-- where each request was accepted, the entries are of all calls of the pass, one after the other
abbrev pub AcceptedInOrder : Type 0
AcceptedInOrder =
    (limits : Limits) (journal : List Entry) (pass : ℕ) (xs : List Command) (rs : List Numbered) →
    Spoke limits journal pass xs rs → All (λ r. is_entered r ≡ true) rs →
    entries_of pass journal ≡ numbered_from pass 1 (writes (entries_of pass journal))
