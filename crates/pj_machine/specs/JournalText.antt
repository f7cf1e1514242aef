-- The body of `journal`: a line for each entry.
use Rattle.std.specs.Prelude.{ℕ, ◌+◌, List, [], ◌∷◌, ◌++◌, codes, decimal}
use Rattle.pj_name.specs.Name.{hex}
use Rattle.pj_change.specs.Text.{line}
use Rattle.pj_machine.specs.declared.command.Write.{Write}
use Rattle.pj_machine.specs.declared.command.Write.TheVariants as write
use Rattle.pj_machine.specs.declared.journal.Entry.{Entry}

-- a write as its request, and for a stored change with its name in place of its text
abbrev pub write_words : Write → List (List ℕ)
write_words (write.Put r) = codes "put" ∷ hex r.name.bytes ∷ []
write_words (write.New name) = codes "new" ∷ name ∷ []
write_words (write.Fork from to) = codes "fork" ∷ from ∷ to ∷ []
write_words (write.Drop name) = codes "drop" ∷ name ∷ []
write_words (write.Apply name change) = codes "apply" ∷ name ∷ hex change.bytes ∷ []
write_words (write.Unrecord name change) = codes "unrecord" ∷ name ∷ hex change.bytes ∷ []
write_words (write.Uproot name change) = codes "uproot" ∷ name ∷ hex change.bytes ∷ []
write_words (write.Pull into from) = codes "pull" ∷ into ∷ from ∷ []

-- the entry at a place: the place, its pass, its call, and its write
abbrev pub entry_line : ℕ → Entry → List ℕ
entry_line place e = line (decimal place ∷ decimal e.pass ∷ decimal e.call ∷ write_words e.write)

-- entries of which the first stands at this place
unfoldable pub journal_from : ℕ → List Entry → List ℕ
journal_from place [] = []
journal_from place (e ∷ entries) = entry_line place e ++ journal_from (place + 1) entries

-- the entries of a journal; the first one stands at place 1
abbrev pub journal_text : List Entry → List ℕ
journal_text journal = journal_from 1 journal
