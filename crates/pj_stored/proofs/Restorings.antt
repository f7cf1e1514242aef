-- Lists that are restored.
use Rattle.std.proofs.Common.{◌≡◌, ◌∙◌, ℕ, zero, suc, ◌+◌, ◌<◌, List, [], ◌∷◌, ◌++◌, length, map, take, drop, All, Some, inl, inr, refl, sym, ap, subst, arith, append_assoc, append-nil, length-append}
use Rattle.std.proofs.lemmas.List.{length-map, map-append, take-append-drop, take-map}
use Rattle.std.proofs.lemmas.List.Elements.{All-nil, All-cons, All-head, All-tail}
use Rattle.pj_change.proofs.LawfulLists.{place_in}
use Rattle.pj_change.proofs.Members.{heads, tails, not_nil}
use Rattle.pj_journal.specs.Stored.{Stores}
use Rattle.pj_machine.specs.declared.command.Command.{Command}
use Rattle.pj_machine.specs.declared.command.Write.{Write}
use Rattle.pj_machine.specs.declared.journal.Entry.{Entry}
use Rattle.pj_machine.specs.declared.limits.Limits.{Limits}
use Rattle.pj_machine.specs.Answer.{IsAnswer}
use Rattle.pj_machine.specs.Call.{entry}
use Rattle.pj_machine.specs.Entries.{commands, writes, numbered_from}
use Rattle.pj_machine.specs.Legal.{IsLegal, Enters, command_of}
use Rattle.pj_machine.proofs.Entered.{entered}
use Rattle.pj_machine.proofs.OneAnswer.{answer_one}
use Rattle.pj_wire.specs.Requests.{spelling, IsCall}
use Rattle.pj_wire.proofs.OneRequest.{one_request}
use Rattle.pj_stored.specs.Laws.{RequestsAreStored, RestoredIsLegal, AtMostOneRestored, PrefixesAreRestored, CrashesAreRestored}
use Rattle.pj_stored.specs.Restored.{requests_of, IsAccepted, Restores}
use Rattle.pj_stored.proofs.Room.{entered_room}
use Rattle.pj_stored.proofs.SameWrites.{entered_same}

-- fewer requests
first_calls : (n : ℕ) (xs : List Command) → All IsCall xs → All IsCall (take n xs)
first_calls zero [] all = all
first_calls zero (x ∷ xs) all = All-nil IsCall
first_calls (suc n) [] all = all
first_calls (suc n) (x ∷ xs) all = All-cons IsCall x (take n xs) (All-head IsCall x xs all) (first_calls n xs (All-tail IsCall x xs all))

module _ (limits : Limits) (pass : ℕ) where
  -- the entry that a string leads to
  abbrev next_of : List Entry → Write → Entry
  next_of before w = entry pass (length before + 1) w

  -- ---- the requests are the strings

  -- an accepted string is the request of its write
  accepted_string : (before : List Entry) (string : List ℕ) (w : Write) → IsAccepted limits before string w → spelling (command_of w) ≡ string
  accepted_string before string w a = ap spelling (entered limits before a.command a.reply w a.answer).0 ∙ sym a.spelled

  -- the requests behind those of before are the strings
  requests_from : (before : List Entry) (strings : List (List ℕ)) (after : List Entry) → Restores limits pass before strings after →
      requests_of after ≡ requests_of before ++ strings
  requests_from before [] after r = ap requests_of r ∙ sym (append-nil (requests_of before))
  requests_from before (string ∷ strings) after r =
      let e : Entry = next_of before r.0 in
      let parts : requests_of (before ++ e ∷ []) ≡ requests_of before ++ spelling (command_of r.0) ∷ [] =
      ap (λ l. map spelling l) (map-append (λ (e : Entry). command_of e.write) before (e ∷ [])) ∙ map-append spelling (commands before)
      (command_of r.0 ∷ []) in
      requests_from (before ++ e ∷ []) strings after r.2
      ∙ ap (λ l. l ++ strings) (parts ∙ ap (λ s. requests_of before ++ s ∷ []) (accepted_string before string r.0 r.1))
      ∙ append_assoc (requests_of before) (string ∷ []) strings

  -- ---- they are legal

  -- a list of one entry has no other
  alone : (c : Entry) (prefix : List Entry) (x : Entry) (after : List Entry) → c ∷ [] ≡ prefix ++ x ∷ after → (c ≡ x) × (prefix ≡ [])
  alone c [] x after e = (heads c x [] after e, refl)
  alone c (y ∷ prefix) x after e = absurd (not_nil prefix x after (tails c y [] (prefix ++ x ∷ after) e))

  -- a legal journal with an entry that is entered after it is legal
  legal_push : (journal : List Entry) (c : Entry) → IsLegal limits journal → length journal < limits.entries → Enters limits journal c → IsLegal limits
      (journal ++ c ∷ [])
  legal_push journal c legal room enters = record {
    few = (let n = length-append journal (c ∷ []) in omega arith);
    each = λ before x after e. elim (place_in journal (c ∷ []) before x after e) [
      | inl i ↦ legal.each before x i.rest i.first
      | inr i ↦ last before x i.front (alone c i.front x after i.then) i.first
    ];
  }
    where
      last : (before : List Entry) (x : Entry) (prefix : List Entry) → (c ≡ x) × (prefix ≡ []) → before ≡ journal ++ prefix → Enters limits before x
      last before x prefix a b =
          let is : before ≡ journal = b ∙ ap (λ l. journal ++ l) a.1 ∙ append-nil journal in
          subst (λ l. Enters limits l x) (sym is) (subst (Enters limits journal) a.0 enters)

  -- what is restored behind a legal journal is legal
  legal_from : (before : List Entry) (strings : List (List ℕ)) (after : List Entry) → IsLegal limits before → Restores limits pass before strings after →
      IsLegal limits after
  legal_from before [] after legal r = subst (IsLegal limits) (sym r) legal
  legal_from before (string ∷ strings) after legal r =
      let one = entered limits before r.1.command r.1.reply r.0 r.1.answer in
      legal_from (before ++ next_of before r.0 ∷ []) strings after
      (legal_push before (next_of before r.0) legal (entered_room limits before r.1.command r.1.reply r.0 r.1.answer)
      (record { reply = r.1.reply; answer = subst (λ x. IsAnswer limits before x r.1.reply (Some r.0)) (sym one.0) r.1.answer }))
      r.2

  -- ---- they are one

  -- a string that is accepted enters one write
  same_write : (before : List Entry) (string : List ℕ) (v w : Write) → IsAccepted limits before string v → IsAccepted limits before string w → v ≡ w
  same_write before string v w a b =
      let asked : a.command ≡ b.command = (one_request a.command b.command [] [] a.call.allowed b.call.allowed
      (append-nil (spelling a.command) ∙ sym a.spelled ∙ b.spelled ∙ sym (append-nil (spelling b.command)))).0 in
      let one = answer_one limits before b.command a.reply b.reply (Some v) (Some w)
      (subst (λ x. IsAnswer limits before x a.reply (Some v)) asked a.answer) b.answer in
      let some : Some v ≡ Some w = one.1 in cc some

  -- what is restored behind a journal is one journal
  one_from : (before : List Entry) (strings : List (List ℕ)) (a b : List Entry) → Restores limits pass before strings a →
      Restores limits pass before strings b → a ≡ b
  one_from before [] a b r q = r ∙ sym q
  one_from before (string ∷ strings) a b r q =
      let same = same_write before string r.0 q.0 r.1 q.1 in
      one_from (before ++ next_of before q.0 ∷ []) strings a b (subst (λ w. Restores limits pass (before ++ next_of before w ∷ []) strings a) same r.2) q.2

  -- ---- from the entries of a legal journal

  -- each of the entries behind the first ones was entered there
  abbrev EnteredBehind : List Entry → List Entry → Type 0
  EnteredBehind before rest = (prefix : List Entry) (e : Entry) (after : List Entry) → rest ≡ prefix ++ e ∷ after → Enters limits (before ++ prefix) e

  -- the requests of entries that were entered one after the other are restored behind any journal of the same writes
  restores_from : (before other rest : List Entry) → writes before ≡ writes other → EnteredBehind before rest → All IsCall (commands rest) →
      Restores limits pass other (requests_of rest) (other ++ numbered_from pass (length other + 1) (writes rest))
  restores_from before other [] same each calls = append-nil other
  restores_from before other (e ∷ rest) same each calls =
      let first : Enters limits before e = subst (λ l. Enters limits l e) (append-nil before) (each [] e rest refl) in
      let next : Entry = next_of other e.write in
      let more : writes (before ++ e ∷ []) ≡ writes (other ++ next ∷ []) =
      map-append (λ (f : Entry). f.write) before (e ∷ []) ∙ ap (λ l. l ++ e.write ∷ []) same ∙ sym (map-append (λ (f : Entry). f.write) other (next ∷ [])) in
      let later : EnteredBehind (before ++ e ∷ []) rest =
      λ prefix f after is. subst (λ l. Enters limits l f) (sym (append_assoc before (e ∷ []) prefix)) (each (e ∷ prefix) f after (ap (λ l. e ∷ l) is)) in
      let behind = restores_from (before ++ e ∷ []) (other ++ next ∷ []) rest more later (All-tail IsCall (command_of e.write) (commands rest) calls) in
      let end : (other ++ next ∷ []) ++ numbered_from pass (length (other ++ next ∷ []) + 1) (writes rest) ≡ other ++ numbered_from pass (length other + 1)
      (writes (e ∷ rest)) =
      ap (λ n. (other ++ next ∷ []) ++ numbered_from pass (n + 1) (writes rest)) (length-append other (next ∷ []))
      ∙ append_assoc other (next ∷ []) (numbered_from pass (length other + 1 + 1) (writes rest)) in (
        e.write,
        record {
          command = command_of e.write;
          call = All-head IsCall (command_of e.write) (commands rest) calls;
          spelled = refl;
          reply = first.reply;
          answer = entered_same limits before other (command_of e.write) first.reply e.write same first.answer;
        },
        subst (λ l. Restores limits pass (other ++ next ∷ []) (requests_of rest) l) end behind,
      )

  -- a prefix of a legal journal is restored
  prefix_restored : (n : ℕ) (journal : List Entry) → IsLegal limits journal → All IsCall (commands journal) →
      Restores limits pass [] (requests_of (take n journal)) (numbered_from pass 1 (writes (take n journal)))
  prefix_restored n journal legal calls =
      restores_from [] [] (take n journal) refl
      (λ prefix e after is. legal.each prefix e (after ++ drop n journal)
      (sym (take-append-drop n journal) ∙ ap (λ l. l ++ drop n journal) is ∙ append_assoc prefix (e ∷ after) (drop n journal)))
      (subst (λ l. All IsCall l) (take-map (λ (e : Entry). command_of e.write) n journal) (first_calls n (commands journal) calls))

-- ---- the laws

-- the first law
pub requests_are_stored : RequestsAreStored
requests_are_stored limits pass strings journal r = requests_from limits pass [] strings journal r

-- a journal of no entries is legal
none_legal : (limits : Limits) → IsLegal limits []
none_legal limits = record { few = omega arith; each = λ before e after is. absurd (not_nil before e after is) }

-- the second law
pub restored_is_legal : RestoredIsLegal
restored_is_legal limits pass strings journal r = legal_from limits pass [] strings journal (none_legal limits) r

-- the third law
pub at_most_one_restored : AtMostOneRestored
at_most_one_restored limits pass strings journal other r q = one_from limits pass [] strings journal other r q

-- the law of prefixes
pub prefixes_are_restored : PrefixesAreRestored
prefixes_are_restored limits pass n journal legal calls = prefix_restored limits pass n journal legal calls

-- the law of crashes
pub crashes_are_restored : CrashesAreRestored
crashes_are_restored limits least journal c legal calls prefix =
    let taken : take prefix.count (requests_of journal) ≡ requests_of (take prefix.count journal) =
    take-map spelling prefix.count (commands journal) ∙ ap (λ l. map spelling l) (take-map (λ (e : Entry). command_of e.write) prefix.count journal) in
    record {
      count = prefix.count;
      enough = prefix.enough;
      within = (let a = prefix.within in let b = length-map (commands journal) spelling in let d = length-map journal
          (λ (e : Entry). command_of e.write) in omega arith);
      stored = subst (λ l. Stores c l) taken prefix.stored;
      restored = prefixes_are_restored limits 1 prefix.count journal legal calls;
    }
