-- What the summary stands for: the prints of the closing are those of the sets.
use Rattle.std.proofs.Common.{◌≡◌, ◌≢◌, ℕ, zero, suc, ◌<◌, List, [], ◌∷◌, ◌++◌, length, get_or, refl, subst, arith}
use Rattle.std.specs.Prelude.{AllPairs}
use Rattle.pj_name.specs.Name.{name_of}
use Rattle.pj_machine.specs.declared.channel_name.ChannelName.{ChannelName}
use Rattle.pj_machine.specs.declared.journal.Entry.{Entry}
use Rattle.pj_machine.specs.declared.limits.Limits.{Limits}
use Rattle.pj_machine.specs.Legal.{IsLegal}
use Rattle.pj_machine.specs.Replay.{IsReplay}
use Rattle.pj_machine.specs.State.{State}
use Rattle.pj_gen.specs.declared.telling.Found.{Found}
use Rattle.pj_gen.specs.Changes.{line_name}
use Rattle.pj_gen.specs.Requests.{main}
use Rattle.pj_gen.specs.Summary.{line_texts, all_texts, IsFoundOf}
use Rattle.pj_load.specs.declared.seeing.Printed.{Printed}
use Rattle.pj_load.specs.Prints.{IsFoundAt, AreFoundAt}
use Rattle.pj_load.specs.Stages.{channels, HasRun}
use Rattle.pj_load.proofs.Prints.{is_found}
use Rattle.pj_load.proofs.Sets.{line_set, main_set}

-- what is found for one of the channels
found_one : (limits : Limits) (journal : List Entry) (cs : List ChannelName) (prints : List Printed) → AreFoundAt limits journal cs prints
    → (k : ℕ) (c : ChannelName) (d : Printed) → k < length cs → IsFoundAt limits journal (get_or cs k c) (get_or prints k d).found
found_one limits journal [] prints are k c d lt = absurd (omega (arith, lt))
found_one limits journal (x ∷ cs) [] are k c d lt = absurd are
found_one limits journal (x ∷ cs) (p ∷ prints) are zero c d lt = are.0
found_one limits journal (x ∷ cs) (p ∷ prints) are (suc k) c d lt = found_one limits journal cs prints are.1 k c d (omega (arith, lt))

channel_of : (l : ℕ) → l < 8 → get_or channels l [] ≡ line_name l
channel_of zero lt = refl
channel_of (suc zero) lt = refl
channel_of (suc (suc zero)) lt = refl
channel_of (suc (suc (suc zero))) lt = refl
channel_of (suc (suc (suc (suc zero)))) lt = refl
channel_of (suc (suc (suc (suc (suc zero))))) lt = refl
channel_of (suc (suc (suc (suc (suc (suc zero)))))) lt = refl
channel_of (suc (suc (suc (suc (suc (suc (suc zero))))))) lt = refl
channel_of (suc (suc (suc (suc (suc (suc (suc (suc l)))))))) lt = absurd (omega (arith, lt))

module _ (limits : Limits) (number sessions n : ℕ) (journal : List Entry) (prints : List Printed) (run : HasRun limits number sessions n journal prints) (legal : IsLegal limits journal) (live : limits.live ≡ 16384)
    (some : 0 < sessions) (apart : AllPairs (λ a b. name_of a ≢ name_of b) (all_texts number n)) (found : AreFoundAt limits journal channels prints) where
  legal_parts : IsLegal limits (run.prelude ++ run.rest)
  legal_parts = subst (λ l. IsLegal limits l) run.whole legal

  replay_parts : (t : State) → IsReplay journal t → IsReplay (run.prelude ++ run.rest) t
  replay_parts t replayed = subst (λ l. IsReplay l t) run.whole replayed

  pub line_found : (l : ℕ) (d : Printed) → l < 8 → IsFoundOf (line_texts number l n) (get_or prints l d).found
  line_found l d lt =
      let it : Found = (get_or prints l d).found in
      let at : IsFoundAt limits journal (line_name l) it = subst (λ c. IsFoundAt limits journal c it) (channel_of l lt) (found_one limits journal channels prints found l [] d (omega (arith, lt))) in
      let t : State = at.answer.state in
      let set = line_set number sessions n some run.prelude run.rest run.loaded limits t legal_parts (replay_parts t at.answer.replayed) apart l lt in
      record { S = set.list; is_set = set.set; found_is = is_found limits journal (line_name l) it t set.list live at at.answer.replayed set.is }

  pub main_found : (d : Printed) → IsFoundOf (all_texts number n) (get_or prints 8 d).found
  main_found d =
      let it : Found = (get_or prints 8 d).found in
      let at : IsFoundAt limits journal main it = found_one limits journal channels prints found 8 [] d (omega arith) in
      let t : State = at.answer.state in
      let set = main_set number sessions n some run.prelude run.rest run.loaded limits t legal_parts (replay_parts t at.answer.replayed) apart in
      record { S = set.list; is_set = set.set; found_is = is_found limits journal main it t set.list live at at.answer.replayed set.is }
