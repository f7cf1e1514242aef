-- What one pass accepted, where nothing else was entered, is restored.
use Rattle.std.proofs.Common.{◌≡◌, ◌∙◌, ℕ, ◌+◌, true, false, cond, Some, List, [], ◌∷◌, ◌++◌, length, map, All, inl, inr, refl, sym, ap, subst, arith, append_assoc, append-nil, length-append}
use Rattle.std.proofs.lemmas.List.{length-map}
use Rattle.std.proofs.lemmas.List.Elements.{All-head, All-tail}
use Rattle.pj_machine.specs.declared.command.Command.{Command}
use Rattle.pj_machine.specs.declared.command.Write.{Write}
use Rattle.pj_machine.specs.declared.journal.Entry.{Entry}
use Rattle.pj_machine.specs.declared.limits.Limits.{Limits}
use Rattle.pj_machine.specs.declared.reply.Numbered.{Numbered}
use Rattle.pj_machine.specs.declared.reply.Numbered.TheVariants.{At, NoMemory}
use Rattle.pj_machine.specs.declared.reply.Reply.{Reply}
use Rattle.pj_machine.specs.Answer.{IsAnswer}
use Rattle.pj_machine.specs.Call.{PassView, IsFresh, IsResult, entry, own}
use Rattle.pj_machine.specs.Entries.{commands, writes, numbered_from}
use Rattle.pj_machine.specs.Legal.{command_of}
use Rattle.pj_machine.specs.Told.{is_entered}
use Rattle.pj_machine.proofs.NoneTold.{none_told}
use Rattle.pj_session.specs.Entering.{accepted}
use Rattle.pj_session.specs.Spoke.{AreResults, Spoke, place_after}
use Rattle.pj_session.proofs.Accepting.{enters_accepted, accepted_in_order}
use Rattle.pj_session.proofs.Spoken.{all_spoke}
use Rattle.pj_wire.specs.Requests.{spelling, IsCall}
use Rattle.pj_stored.specs.Answered.{AcceptedAll}
use Rattle.pj_stored.specs.Laws.{AcceptedAreRestored}
use Rattle.pj_stored.specs.Restored.{requests_of, Restores}

-- each of these was accepted
abbrev AllEntered : List Numbered → Type 0
AllEntered rs = All (λ r. is_entered r ≡ true) rs

-- the entry at a place is of the call that the place says
numbered_at : (pass call : ℕ) (ws : List Write) (before : List Entry) (e : Entry) (after : List Entry) → numbered_from pass call ws ≡ before ++ e ∷ after →
    e.call ≡ call + length before
numbered_at pass call [] [] e after is = absurd (cc is)
numbered_at pass call [] (f ∷ before) e after is = absurd (cc is)
numbered_at pass call (w ∷ ws) [] e after is = let same : entry pass call w ≡ e = cc in let c : call ≡ e.call = ap (λ (e : Entry). e.call) same in omega arith
numbered_at pass call (w ∷ ws) (f ∷ before) e after is =
    let rest : numbered_from pass (call + 1) ws ≡ before ++ e ∷ after = cc in
    let more = numbered_at pass (call + 1) ws before e after rest in omega arith

-- lists that begin with as many elements begin with the same ones
same_prefix : (a b c d : List Entry) → a ++ c ≡ b ++ d → length a ≡ length b → (a ≡ b) × (c ≡ d)
same_prefix [] [] c d is size = (refl, is)
same_prefix [] (y ∷ b) c d is size = absurd (omega arith)
same_prefix (x ∷ a) [] c d is size = absurd (omega arith)
same_prefix (x ∷ a) (y ∷ b) c d is size =
    let first : x ≡ y = cc in
    let rest : a ++ c ≡ b ++ d = cc in
    let more = same_prefix a b c d rest (omega arith) in
    (cc (first, more.0), more.1)

module _ (limits : Limits) (journal : List Entry) (pass : ℕ) where
  -- where all were accepted, all are the accepted ones
  accepted_all : (call low : ℕ) (xs : List Command) (rs : List Numbered) → AreResults limits journal pass call low xs rs → AllEntered rs → accepted xs rs ≡ xs
  accepted_all call low [] [] results all = refl
  accepted_all call low [] (r ∷ rs) results all = absurd results
  accepted_all call low (x ∷ xs) [] results all = absurd results
  accepted_all call low (x ∷ xs) (r ∷ rs) results all =
      ap (λ b. cond b (x ∷ accepted xs rs) (accepted xs rs)) (All-head (λ r. is_entered r ≡ true) r rs all)
      ∙ ap (λ l. x ∷ l) (accepted_all (call + 1) (place_after low r) xs rs results.2 (All-tail (λ r. is_entered r ≡ true) r rs all))

  -- the entry of an accepted request
  record Stands (call : ℕ) (x : Command) : Type 0 where
    write : Write
    before : List Entry
    after : List Entry
    stands : journal ≡ before ++ entry pass call write ∷ after
    reply : Reply
    answer : IsAnswer limits before x reply (Some write)

  -- a request that was accepted has its entry
  entry_stands : (call : ℕ) (x : Command) (r : Numbered) → IsResult limits journal pass call x r → is_entered r ≡ true → Stands call x
  entry_stands call x (At place reply) (inl w) told =
      record { write = w.write; before = w.before; after = w.after; stands = w.stands; reply = reply; answer = w.answer }
  entry_stands call x (At place reply) (inr s) told = absurd (let none = none_told limits s.before x place reply s.answer in let k : true ≡ false = sym told
      ∙ none in cc k)
  entry_stands call x NoMemory is told = absurd (cc told)

  -- from entries of the first calls on, the requests of the others are restored one after the other
  restored_from : journal ≡ numbered_from pass 1 (writes journal) → (call low : ℕ) (done rest : List Entry) (xs : List Command) (rs : List Numbered) →
      journal ≡ done ++ rest → call ≡ length done + 1 → length rest ≡ length xs → AreResults limits journal pass call low xs rs → AllEntered rs →
      All IsCall xs →
      Restores limits pass done (map spelling xs) journal
  restored_from order call low done [] [] [] is at size results all calls = is ∙ append-nil done
  restored_from order call low done (e ∷ rest) [] rs is at size results all calls = absurd (omega arith)
  restored_from order call low done rest [] (r ∷ rs) is at size results all calls = absurd results
  restored_from order call low done rest (x ∷ xs) [] is at size results all calls = absurd results
  restored_from order call low done rest (x ∷ xs) (r ∷ rs) is at size results all calls =
      let s = entry_stands call x r results.0 (All-head (λ r. is_entered r ≡ true) r rs all) in
      let e : Entry = entry pass call s.write in
      let place = numbered_at pass 1 (writes journal) s.before e s.after (sym order ∙ s.stands) in
      let same = same_prefix s.before done (e ∷ s.after) rest (sym s.stands ∙ is) (omega arith) in
      let here : entry pass (length done + 1) s.write ≡ e = ap (λ n. entry pass n s.write) (sym at) in
      let next : journal ≡ (done ++ entry pass (length done + 1) s.write ∷ []) ++ s.after =
      is ∙ ap (λ l. done ++ l) (sym same.1) ∙ ap (λ f. done ++ f ∷ s.after) (sym here) ∙ sym
      (append_assoc done (entry pass (length done + 1) s.write ∷ []) s.after) in
      let left : length (e ∷ s.after) ≡ length rest = ap (λ (l : List Entry). length l) same.1 in (
        s.write,
        record {
          command = x;
          call = All-head IsCall x xs calls;
          spelled = refl;
          reply = s.reply;
          answer = subst (λ l. IsAnswer limits l x s.reply (Some s.write)) same.0 s.answer;
        },
        restored_from order (call + 1) (place_after low r) (done ++ entry pass (length done + 1) s.write ∷ []) s.after xs rs next
            (let n = length-append done (entry pass (length done + 1) s.write ∷ []) in omega arith) (omega arith)
            results.2 (All-tail (λ r. is_entered r ≡ true) r rs all) (All-tail IsCall x xs calls),
      )

-- the law
pub accepted_are_restored : AcceptedAreRestored
accepted_are_restored limits old new strings fresh alone all =
    let J : List Entry = new.journal in
    let spoke : Spoke limits J new.number all.commands all.replies = all_spoke limits old new all.commands all.replies fresh all.calls in
    let order : J ≡ numbered_from new.number 1 (writes J) =
    sym alone ∙ accepted_in_order limits J new.number all.commands all.replies spoke all.entered ∙ ap (λ es. numbered_from new.number 1 (writes es)) alone in
    let asked : commands J ≡ all.commands =
    ap commands (sym alone) ∙ enters_accepted limits J new.number all.commands all.replies spoke
    ∙ accepted_all limits J new.number 1 0 all.commands all.replies spoke.results all.entered in
    let size : length J ≡ length all.commands = sym (length-map J (λ (e : Entry). command_of e.write)) ∙ ap (λ (l : List Command). length l) asked in
    subst (λ l. Restores limits new.number [] l J) all.spelled
    (restored_from limits J new.number order 1 0 [] J all.commands all.replies refl (omega arith) size spoke.results all.entered all.each)

-- what a new pass accepted is what it entered, call by call
pub accepted_are_entered : (limits : Limits) (old new : PassView) (strings : List (List ℕ)) → IsFresh old → AcceptedAll limits old strings new →
    (requests_of (own new) ≡ strings) × (own new ≡ numbered_from new.number 1 (writes (own new)))
accepted_are_entered limits old new strings fresh all =
    let J : List Entry = new.journal in
    let spoke : Spoke limits J new.number all.commands all.replies = all_spoke limits old new all.commands all.replies fresh all.calls in
    let asked : commands (own new) ≡ all.commands =
    enters_accepted limits J new.number all.commands all.replies spoke
    ∙ accepted_all limits J new.number 1 0 all.commands all.replies spoke.results all.entered in (
      ap (λ l. map spelling l) asked ∙ all.spelled,
      accepted_in_order limits J new.number all.commands all.replies spoke all.entered,
    )
