-- A request that may enter a write can be stored.
use Rattle.std.proofs.Common.{◌≡◌, ℕ, ◌+◌, ◌≤◌, true, List, [], ◌∷◌, ◌++◌, length, codes, decimal, arith, length-append}
use Rattle.std.proofs.lemmas.Fmt.{length-decimal-le}
use Rattle.pj_name.specs.Name.{hex}
use Rattle.pj_name.proofs.Names.{length-hex}
use Rattle.pj_change.specs.Text.{line}
use Rattle.pj_machine.specs.declared.command.Command.{Command}
use Rattle.pj_machine.specs.declared.command.Command.TheVariants as command
use Rattle.pj_wire.specs.Requests.{spelling, IsRequest}
use Rattle.pj_journal.specs.Format.{IsStorable}
use Rattle.pj_stored.specs.Writing.{may_enter}

-- a line of one word behind a short verb
one_word : (verb word : List ℕ) → 1 ≤ length verb → length verb ≤ 8 → length word ≤ 64 → IsStorable (line (verb ∷ word ∷ []))
one_word verb word some short narrow =
    let size : length (line (verb ∷ word ∷ [])) ≡ length verb + length word + 2 = simp length-append (omega arith) in
    record { some = omega arith; most = omega arith }

-- a line of two words behind a short verb
two_words : (verb first second : List ℕ) → 1 ≤ length verb → length verb ≤ 8 → length first ≤ 64 → length second ≤ 64 → IsStorable
    (line (verb ∷ first ∷ second ∷ []))
two_words verb first second some short narrow thin =
    let size : length (line (verb ∷ first ∷ second ∷ [])) ≡ length verb + length first + length second + 3 = simp length-append (omega arith) in
    record { some = omega arith; most = omega arith }

-- a text behind its length
a_text : (text : List ℕ) → length text ≤ 16777216 → IsStorable (line (codes "put" ∷ decimal (length text) ∷ []) ++ text ++ 10 ∷ [])
a_text text short =
    let digits : length (decimal (length text)) ≤ 8 = length-decimal-le 8 (length text) (omega arith) (omega arith) (omega arith) in
    let size : length (line (codes "put" ∷ decimal (length text) ∷ []) ++ text ++ 10 ∷ []) ≡ length
    (decimal (length text)) + length text + 6 = simp length-append (omega arith) in
    record { some = omega arith; most = omega arith }

-- each request that may enter a write can be stored
pub storable : (x : Command) → IsRequest x → may_enter x ≡ true → IsStorable (spelling x)
storable (command.Put text) ok enters = a_text text ok
storable (command.New name) ok enters = one_word (codes "new") name (omega arith) (omega arith) ok.short
storable (command.Fork from to) ok enters = two_words (codes "fork") from to (omega arith) (omega arith) ok.0.short ok.1.short
storable (command.Drop name) ok enters = one_word (codes "drop") name (omega arith) (omega arith) ok.short
storable (command.Apply name change) ok enters = let wide = length-hex change in two_words (codes "apply") name (hex change.bytes) (omega arith)
    (omega arith) ok.short (omega arith)
storable (command.Unrecord name change) ok enters = let wide = length-hex change in two_words (codes "unrecord") name (hex change.bytes) (omega arith)
    (omega arith) ok.short (omega arith)
storable (command.Uproot name change) ok enters = let wide = length-hex change in two_words (codes "uproot") name (hex change.bytes) (omega arith)
    (omega arith) ok.short (omega arith)
storable (command.Pull to from) ok enters = two_words (codes "pull") to from (omega arith) (omega arith) ok.0.short ok.1.short
storable (command.Get name) ok enters = absurd (cc enters)
storable (command.Inverse name) ok enters = absurd (cc enters)
storable (command.Graph name) ok enters = absurd (cc enters)
storable (command.Print name) ok enters = absurd (cc enters)
storable (command.Log name) ok enters = absurd (cc enters)
storable command.Channels ok enters = absurd (cc enters)
storable command.Journal ok enters = absurd (cc enters)
storable command.Quit ok enters = absurd (cc enters)
