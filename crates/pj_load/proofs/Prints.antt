-- What the prints of the closing give is found at the end of the journal, and they enter nothing.
use Rattle.std.proofs.Common.{◌≡◌, ℕ, ◌<◌, ◌≤◌, ◌+◌, List, [], ◌∷◌, ◌++◌, length, map, All, inl, inr, refl, sym, ◌∙◌, ap, subst, arith, length-append, append-nil, append_assoc, Some, None, Ok, Err}
use Rattle.std.specs.Prelude.{◌⊎◌, Option, Result, MatchOption}
use Rattle.std.specs.List.{flat_map}
use Rattle.std.proofs.lemmas.List.{length-map}
use Rattle.std.proofs.lemmas.List.Elements.{All-head, All-tail}
use Rattle.pj_name.specs.Name.{name_of}
use Rattle.pj_change.specs.declared.change.Record.{Record}
use Rattle.pj_change.specs.declared.refusals.PrintRefusal.{PrintRefusal}
use Rattle.pj_change.specs.declared.refusals.PrintRefusal.TheVariants as print
use Rattle.pj_change.specs.FirstWide.{IsFirstWide}
use Rattle.pj_change.specs.Printing.{IsPrintAnswer}
use Rattle.pj_machine.specs.declared.channel_name.ChannelName.{ChannelName}
use Rattle.pj_machine.specs.declared.command.Command.{Command}
use Rattle.pj_machine.specs.declared.command.Command.TheVariants.{Print}
use Rattle.pj_machine.specs.declared.command.Write.{Write}
use Rattle.pj_machine.specs.declared.command.Write.TheVariants as write
use Rattle.pj_machine.specs.declared.journal.Entry.{Entry}
use Rattle.pj_machine.specs.declared.limits.Limits.{Limits}
use Rattle.pj_machine.specs.declared.reply.Numbered.{Numbered}
use Rattle.pj_machine.specs.declared.reply.Numbered.TheVariants.{At, NoMemory}
use Rattle.pj_machine.specs.declared.reply.Reply.{Reply}
use Rattle.pj_machine.specs.declared.reply.Reply.TheVariants.{Body, No}
use Rattle.pj_machine.specs.declared.reply.Refusal.TheVariants as refusal
use Rattle.pj_machine.specs.Answer.{IsAnswer, AsPrinted}
use Rattle.pj_machine.specs.Call.{entries_of, WasEntered, WasSeen}
use Rattle.pj_machine.specs.Legal.{command_of}
use Rattle.pj_machine.specs.Outcome.{Outcome, refuses}
use Rattle.pj_machine.specs.Replay.{IsReplay}
use Rattle.pj_machine.specs.State.{State, list_of}
use Rattle.pj_machine.proofs.Entered.{entered}
use Rattle.pj_machine.proofs.Replays.{replay_one}
use Rattle.pj_session.specs.Calls.{Chain}
use Rattle.pj_session.specs.Spoke.{Spoke, AreResults}
use Rattle.pj_gen.specs.declared.telling.Found.{Found}
use Rattle.pj_gen.specs.declared.telling.Found.TheVariants.{Digest, Wide}
use Rattle.pj_gen.specs.Summary.{IsFound}
use Rattle.pj_load.specs.declared.seeing.Printed.{Printed}
use Rattle.pj_load.specs.Prints.{IsFoundAt, AreFoundAt}
use Rattle.pj_load.specs.Seen.{found, printed, printed_at}
use Rattle.pj_session.proofs.Accepting.{since, none_of, none_since, all_since}

-- ---- what was seen

-- each reply adds what it prints
pub seen_prints : (before after : List Printed) (xs : List Command) (rs : List Numbered) → Chain (λ s x r t. t ≡ s ++ printed r) before xs rs after → after ≡ before ++ flat_map printed rs
seen_prints before after [] [] e = e ∙ sym (append-nil before)
seen_prints before after (x ∷ xs) (r ∷ rs) chain = seen_prints chain.0 after xs rs chain.2 ∙ ap (λ l. l ++ flat_map printed rs) chain.1 ∙ append_assoc before (printed r) (flat_map printed rs)
seen_prints before after [] (r ∷ rs) e = absurd e
seen_prints before after (x ∷ xs) [] e = absurd e

at_most_one : (place : ℕ) (o : Option Found) → length (printed_at place o) ≤ 1
at_most_one place None = omega arith
at_most_one place (Some f) = omega arith

one_each : (r : Numbered) → length (printed r) ≤ 1
one_each NoMemory = omega arith
one_each (At place reply) = at_most_one place (found reply)

few_prints : (rs : List Numbered) → length (flat_map printed rs) ≤ length rs
few_prints [] = omega arith
few_prints (r ∷ rs) = let h = few_prints rs in let k = one_each r in let n = length-append (printed r) (flat_map printed rs) in omega arith

-- ---- a print enters nothing

no_write : (w : Write) (c : ChannelName) → command_of w ≡ Print c → ⊥
no_write (write.Put r) c e = cc e
no_write (write.New name) c e = cc e
no_write (write.Fork from to) c e = cc e
no_write (write.Drop name) c e = cc e
no_write (write.Apply name change) c e = cc e
no_write (write.Unrecord name change) c e = cc e
no_write (write.Uproot name change) c e = cc e
no_write (write.Pull into from) c e = cc e

module _ (limits : Limits) (journal : List Entry) (pass : ℕ) where
  as_many : (call low : ℕ) (xs : List Command) (rs : List Numbered) → AreResults limits journal pass call low xs rs → length rs ≡ length xs
  as_many call low [] [] results = refl
  as_many call low (x ∷ xs) (NoMemory ∷ rs) results = let h = as_many (call + 1) low xs rs results.2 in omega arith
  as_many call low (x ∷ xs) (At place reply ∷ rs) results = let h = as_many (call + 1) place xs rs results.2 in omega arith
  as_many call low [] (r ∷ rs) results = absurd results
  as_many call low (x ∷ xs) [] results = absurd results

  seen : (call place : ℕ) (c : ChannelName) (reply : Reply) → WasEntered limits journal pass call place (Print c) reply ⊎ WasSeen limits journal pass call place (Print c) reply → WasSeen limits journal pass call place (Print c) reply
  seen call place c reply (inl w) = absurd (no_write w.write c (entered limits w.before (Print c) reply w.write w.answer).0)
  seen call place c reply (inr s) = s

  quiet_from : (call low : ℕ) (cs : List ChannelName) (rs : List Numbered) → AreResults limits journal pass call low (map (λ c. Print c) cs) rs
      → All (λ e. e.call < call + length cs) (entries_of pass journal) → since call (entries_of pass journal) ≡ []
  quiet_from call low [] [] results few = none_since call (entries_of pass journal) (λ k d lt. let h = few k d lt in omega arith)
  quiet_from call low (c ∷ cs) (NoMemory ∷ rs) results few = none_of call (entries_of pass journal) results.0 ∙ quiet_from (call + 1) low cs rs results.2 (λ k d lt. let h = few k d lt in omega arith)
  quiet_from call low (c ∷ cs) (At place reply ∷ rs) results few =
      none_of call (entries_of pass journal) (seen call place c reply results.0).none ∙ quiet_from (call + 1) place cs rs results.2 (λ k d lt. let h = few k d lt in omega arith)
  quiet_from call low [] (r ∷ rs) results few = absurd results
  quiet_from call low (c ∷ cs) [] results few = absurd results

  -- a session of prints enters nothing
  pub quiet : (cs : List ChannelName) (rs : List Numbered) → Spoke limits journal pass (map (λ c. Print c) cs) rs → entries_of pass journal ≡ []
  quiet cs rs spoke =
      let size : length (map (λ c. Print c) cs) ≡ length cs = length-map cs (λ c. Print c) in
      sym (all_since 1 (entries_of pass journal) (λ k d lt. let h = (spoke.no_other k d lt).0 in omega arith))
      ∙ quiet_from 1 0 cs rs spoke.results (λ k d lt. let h = (spoke.no_other k d lt).1 in omega arith)

  -- ---- where each print was told at the end of the journal

  whole : (before after : List Entry) → journal ≡ before ++ after → length before ≡ length journal → before ≡ journal
  whole before after stands size =
      let n : length journal ≡ length before + length after = ap (λ (l : List Entry). length l) stands ∙ length-append before after in
      sym (stands ∙ ap (λ l. before ++ l) (nothing after (omega arith)) ∙ append-nil before)
    where
      nothing : (l : List Entry) → length l ≡ 0 → l ≡ []
      nothing [] e = refl
      nothing (x ∷ l) e = absurd (omega arith)

  pub found_at : (call low : ℕ) (cs : List ChannelName) (rs : List Numbered) (prints : List Printed) → AreResults limits journal pass call low (map (λ c. Print c) cs) rs → flat_map printed rs ≡ prints → length prints ≡ length cs
      → All (λ p. p.place ≡ length journal) prints → AreFoundAt limits journal cs prints
  found_at call low [] [] [] results is size places = tt
  found_at call low [] [] (p ∷ prints) results is size places = absurd (cc is)
  found_at call low [] (r ∷ rs) prints results is size places = absurd results
  found_at call low (c ∷ cs) [] prints results is size places = absurd results
  found_at call low (c ∷ cs) (NoMemory ∷ rs) prints results is size places =
      let n = as_many (call + 1) low (map (λ c. Print c) cs) rs results.2 in
      let m : length (map (λ c. Print c) cs) ≡ length cs = length-map cs (λ c. Print c) in
      let f = few_prints rs in
      let k : length (flat_map printed rs) ≡ length prints = ap (λ (l : List Printed). length l) is in
      absurd (omega arith)
  found_at call low (c ∷ cs) (At place reply ∷ rs) prints results is size places = by_found (λ ps k n at. found_at (call + 1) place cs rs ps results.2 k n at) (found reply) refl prints is size places
    where
      by_found : ((ps : List Printed) → flat_map printed rs ≡ ps → length ps ≡ length cs → All (λ p. p.place ≡ length journal) ps → AreFoundAt limits journal cs ps) → (o : Option Found) → found reply ≡ o → (prints : List Printed) → printed_at place (found reply) ++ flat_map printed rs ≡ prints → length prints ≡ length (c ∷ cs) → All (λ p. p.place ≡ length journal) prints → AreFoundAt limits journal (c ∷ cs) prints
      by_found later None h prints is size places =
          let n = as_many (call + 1) place (map (λ c. Print c) cs) rs results.2 in
          let m : length (map (λ c. Print c) cs) ≡ length cs = length-map cs (λ c. Print c) in
          let f = few_prints rs in
          let k : length (flat_map printed rs) ≡ length prints = ap (λ (l : List Printed). length l) (ap (λ o. printed_at place o ++ flat_map printed rs) (sym h) ∙ is) in
          absurd (omega arith)
      by_found later (Some it) h [] is size places = absurd (omega arith)
      by_found later (Some it) h (p ∷ prints) is size places =
          let stands : record { place = place; found = it } ∷ flat_map printed rs ≡ p ∷ prints = ap (λ o. printed_at place o ++ flat_map printed rs) (sym h) ∙ is in
          let first : record { place = place; found = it } ≡ p = cc in
          let rest : flat_map printed rs ≡ prints = cc in
          let at : place ≡ length journal = ap (λ (q : Printed). q.place) first ∙ All-head (λ q. q.place ≡ length journal) p prints places in
          let s = seen call place c reply results.0 in (
            record { reply = reply; answer = subst (λ l. IsAnswer limits l (Print c) reply None) (whole s.before s.after s.stands (sym s.at ∙ at)) s.answer; found_is = h ∙ ap (λ (q : Printed). Some q.found) first },
            later prints rest (let n = size in omega arith) (All-tail (λ q. q.place ≡ length journal) p prints places),
          )

-- ---- what is found is that of the list

pub is_found : (limits : Limits) (journal : List Entry) (c : ChannelName) (it : Found) (t : State) (list : List Record) → limits.live ≡ 16384 → IsFoundAt limits journal c it → IsReplay journal t → list_of t c ≡ Some list → IsFound list it
is_found limits journal c it t list live at replayed is =
    let same : at.answer.state ≡ t = replay_one journal at.answer.state t at.answer.replayed replayed in
    let here : list_of at.answer.state c ≡ Some list = ap (λ s. list_of s c) same ∙ is in
    by_list (list_of at.answer.state c) here at.answer.answers
  where
    outcome : Outcome
    outcome = record { reply = at.reply; entered = None }

    by_result : (result : Result (List ℕ) PrintRefusal) → IsPrintAnswer list limits.live result → AsPrinted result outcome → IsFound list it
    by_result (Ok bytes) answer told =
        let reply : at.reply ≡ Body bytes = ap (λ (o : Outcome). o.reply) told in
        let f : Some (Digest (name_of bytes)) ≡ Some it = ap found (sym reply) ∙ at.found_is in
        let same : Digest (name_of bytes) ≡ it = cc in
        let p = (answer.print bytes).only refl in
        subst (λ i. IsFound list i) same (subst (λ n. IsFirstWide list n None) live p.0, bytes, p.1, refl)
    by_result (Err (print.Wide inode)) answer told =
        let reply : at.reply ≡ No (refusal.Wide inode) = ap (λ (o : Outcome). o.reply) told in
        let f : Some (Wide inode) ≡ Some it = ap found (sym reply) ∙ at.found_is in
        let same : Wide inode ≡ it = cc in
        subst (λ i. IsFound list i) same (subst (λ n. IsFirstWide list n (Some inode)) live ((answer.wide inode).only refl))
    by_result (Err print.Memory) answer told = absurd told

    by_list : (o : Option (List Record)) → o ≡ Some list
        → MatchOption o (outcome ≡ refuses refusal.Channel) (λ l. (result : Result (List ℕ) PrintRefusal) × IsPrintAnswer l limits.live result × AsPrinted result outcome) → IsFound list it
    by_list None e h = absurd (cc e)
    by_list (Some l) e h = (let same : l ≡ list = cc in by_result h.0 (subst (λ k. IsPrintAnswer k limits.live h.0) same h.1) h.2)
