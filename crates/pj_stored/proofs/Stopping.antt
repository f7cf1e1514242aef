-- Where a pass stopped, the list of the file cannot be restored.
use Rattle.std.proofs.Common.{◌≡◌, ◌≢◌, ◌⊎◌, ◌∙◌, ◌==◌, ℕ, ◌+◌, ◌≤◌, Bool, true, false, cond, Some, None, List, [], ◌∷◌, ◌++◌, length, take, drop, inl, inr, refl, sym, ap, subst, arith, append-nil, length-append, ⊎_elim}
use mathlib.Core.List.{IsPrefix}
use Rattle.pj_journal.specs.Stored.{EntryAt, IsClosedAt, Spans, Reads, end_of}
use Rattle.pj_machine.specs.declared.command.Command.{Command}
use Rattle.pj_machine.specs.declared.command.Write.{Write}
use Rattle.pj_machine.specs.declared.journal.Entry.{Entry}
use Rattle.pj_machine.specs.declared.limits.Limits.{Limits}
use Rattle.pj_machine.specs.declared.reply.Numbered.{Numbered}
use Rattle.pj_machine.specs.declared.reply.Numbered.TheVariants.{At, NoMemory}
use Rattle.pj_machine.specs.declared.reply.Reply.{Reply}
use Rattle.pj_machine.specs.Answer.{IsAnswer}
use Rattle.pj_machine.specs.Answered.{Answered}
use Rattle.pj_machine.specs.Call.{PassView, IsFresh, WasEntered, WasSeen, entry, entries_of, entries_at, own}
use Rattle.pj_machine.specs.Told.{is_entered}
use Rattle.pj_machine.proofs.OneAnswer.{answer_one}
use Rattle.pj_wire.specs.Requests.{spelling}
use Rattle.pj_wire.proofs.OneRequest.{one_request}
use Rattle.pj_stored.specs.Answered.{AcceptedAll, Declines}
use Rattle.pj_stored.specs.Laws.{StoppedIsNotRestored}
use Rattle.pj_stored.specs.Opened.{StoppedAt}
use Rattle.pj_stored.specs.Restored.{IsAccepted, Restores}
use Rattle.pj_stored.proofs.Alone.{accepted_are_restored}
use Rattle.pj_stored.proofs.Quiet.{gains_none, was_told}
use Rattle.pj_stored.proofs.Restorings.{at_most_one_restored}
use Rattle.pj_stored.proofs.Strings.{declines_later}

-- ---- the strings of the file

-- one string stands at a place at most
same_string : (file : List ℕ) (place : ℕ) (a b : List ℕ) → EntryAt file place a → EntryAt file place b → a ≡ b
same_string file place a b entry other =
    sym entry.text ∙ ap (λ n. take n (drop (place + 9) file)) (sym entry.size ∙ other.size) ∙ other.text

-- what the file has behind its first strings
record HasBehind (file : List ℕ) (place : ℕ) (first strings : List (List ℕ)) : Type 0 where
  rest : List (List ℕ)
  parts : strings ≡ first ++ rest
  spans : Spans file (end_of place first) rest
  closed : IsClosedAt file (end_of (end_of place first) rest)

-- behind strings that stand first the file has the others of its list
behind : (file : List ℕ) (place : ℕ) (first strings : List (List ℕ)) → Spans file place first → Spans file place strings →
    IsClosedAt file (end_of place strings) → HasBehind file place first strings
behind file place [] strings spans all closed = record { rest = strings; parts = refl; spans = all; closed = closed }
behind file place (string ∷ first) [] spans all closed = absurd (spans.0.is_open closed)
behind file place (string ∷ first) (other ∷ strings) spans all closed =
    let same : other ≡ string = same_string file place other string all.0 spans.0 in
    let more = behind file (place + (9 + length string)) first strings spans.1 (subst (λ s. Spans file (place + (9 + length s)) strings) same all.1)
    (subst (λ s. IsClosedAt file (end_of (place + (9 + length s)) strings)) same closed) in
    record {
      rest = more.rest;
      parts = ap (λ s. s ∷ strings) same ∙ ap (λ l. string ∷ l) more.parts;
      spans = more.spans;
      closed = more.closed;
    }

module _ (limits : Limits) (pass : ℕ) where
  -- the first strings are restored, and then the rest
  restores_parts : (before : List Entry) (first rest : List (List ℕ)) (after : List Entry) → Restores limits pass before (first ++ rest) after →
      (middle : List Entry) × Restores limits pass before first middle × Restores limits pass middle rest after
  restores_parts before [] rest after r = (before, refl, r)
  restores_parts before (string ∷ first) rest after r =
      let more = restores_parts (before ++ entry pass (length before + 1) r.0 ∷ []) first rest after r.2 in
      (more.0, (r.0, r.1, more.1), more.2)

-- a list that the file reads as begins with the strings that stand first
pub begins_with : (file : List ℕ) (first all : List (List ℕ)) → Spans file 8 first → Reads file all → IsPrefix first all
begins_with file first all spans reads = let b = behind file 8 first all spans reads.entries reads.closed in (b.rest, sym b.parts)

-- ---- a pass alone

-- no more entries are of a pass than there are
of_pass_few : (pass : ℕ) (es : List Entry) → length (entries_of pass es) ≤ length es
of_pass_few pass [] = omega arith
of_pass_few pass (f ∷ es) = by_pass (f.pass == pass) (of_pass_few pass es)
  where
    by_pass : (b : Bool) → length (entries_of pass es) ≤ length es → length (cond b (f ∷ entries_of pass es) (entries_of pass es)) ≤ length (f ∷ es)
    by_pass true le = omega arith
    by_pass false le = omega arith

-- a prefix of entries that are all of one pass is of that pass
pub prefix_alone : (pass : ℕ) (prefix rest : List Entry) → entries_of pass (prefix ++ rest) ≡ prefix ++ rest → entries_of pass prefix ≡ prefix
prefix_alone pass [] rest alone = refl
prefix_alone pass (e ∷ prefix) rest alone = by_pass (e.pass == pass) refl (prefix_alone pass prefix rest)
  where
    by_pass : (b : Bool) → (e.pass == pass) ≡ b → (entries_of pass (prefix ++ rest) ≡ prefix ++ rest → entries_of pass prefix ≡ prefix) → entries_of pass
        (e ∷ prefix) ≡ e ∷ prefix
    by_pass true is more =
        let whole : e ∷ entries_of pass (prefix ++ rest) ≡ e ∷ (prefix ++ rest) =
        sym (ap (λ b. cond b (e ∷ entries_of pass (prefix ++ rest)) (entries_of pass (prefix ++ rest))) is) ∙ alone in
        let behind : entries_of pass (prefix ++ rest) ≡ prefix ++ rest = cc in
        ap (λ b. cond b (e ∷ entries_of pass prefix) (entries_of pass prefix)) is ∙ ap (λ l. e ∷ l) (more behind)
    by_pass false is more =
        let gone : entries_of pass (prefix ++ rest) ≡ e ∷ (prefix ++ rest) =
        sym (ap (λ b. cond b (e ∷ entries_of pass (prefix ++ rest)) (entries_of pass (prefix ++ rest))) is) ∙ alone in
        let size : length (entries_of pass (prefix ++ rest)) ≡ length (e ∷ (prefix ++ rest)) = ap (λ (l : List Entry). length l) gone in
        absurd (let le = of_pass_few pass (prefix ++ rest) in omega arith)

-- a prefix that is as long as the whole is the whole
whole_prefix : (a b c : List Entry) → c ≡ a ++ b → length a ≡ length c → c ≡ a
whole_prefix a [] c is size = is ∙ append-nil a
whole_prefix a (x ∷ b) c is size =
    absurd (let n = length-append a (x ∷ b) in let m : length c ≡ length (a ++ x ∷ b) = ap (λ (l : List Entry). length l) is in omega arith)

-- what was declined entered nothing, and is answered so behind the entries of before
declined : (limits : Limits) (middle new : PassView) (x : Command) (r : Numbered) → own middle ≡ middle.journal → own new ≡ new.journal →
    Answered limits middle new x r → is_entered r ≡ false → r ≢ NoMemory → (reply : Reply) × IsAnswer limits middle.journal x reply None
declined limits middle new x NoMemory before after answered other some = absurd (some refl)
declined limits middle new x (At place reply) before after answered other some = by_result answered.result
  where
    in_place : (s : WasSeen limits new.journal new.number new.calls place x reply) → new.journal ≡ s.before
    in_place s = whole_prefix s.before s.after new.journal s.stands (sym s.at ∙ answered.place)

    same : entries_at new.number new.calls new.journal ≡ [] → new.journal ≡ middle.journal
    same none = sym after ∙ gains_none middle new answered.own none ∙ before

    by_result : WasEntered limits new.journal new.number new.calls place x reply ⊎ WasSeen limits new.journal new.number new.calls place x reply →
        (reply : Reply) × IsAnswer limits middle.journal x reply None
    by_result (inl w) = absurd (was_told limits new.journal new.number new.calls place x reply w other)
    by_result (inr s) = (reply, subst (λ l. IsAnswer limits l x reply None) (sym (in_place s) ∙ same s.none) s.answer)

-- ---- the law

module _ (limits : Limits) (middle new : PassView) (string : List ℕ) (before : own middle ≡ middle.journal) (after : own new ≡ new.journal) where
  -- what was declined is not accepted
  not_accepted : Declines limits middle new string → (w : Write) → IsAccepted limits middle.journal string w → ⊥
  not_accepted (inl none) w is = none.1 is.command is.call is.spelled
  not_accepted (inr one) w is =
      let asked : one.command ≡ is.command = (one_request one.command is.command [] [] one.call.allowed is.call.allowed
      (append-nil (spelling one.command) ∙ sym one.spelled ∙ is.spelled ∙ sym (append-nil (spelling is.command)))).0 in
      let no = declined limits middle new one.command one.reply before after one.answered one.says.0 one.says.1 in
      let both = answer_one limits middle.journal is.command no.0 is.reply None (Some w)
      (subst (λ x. IsAnswer limits middle.journal x no.0 None) asked no.1) is.answer in
      let k : None ≡ Some w = both.1 in cc k

module _ (limits : Limits) (old new : PassView) (file : List ℕ) (journal : List Entry) (fresh : IsFresh old) (alone : own new ≡ new.journal)
    (first : List (List ℕ)) (middle : PassView) (all : AcceptedAll limits old first middle) where
  -- an entry that was declined behind accepted ones is not restored
  not_restored : (string : List ℕ) (rest : List (List ℕ)) → Declines limits middle new string → Restores limits new.number []
      (first ++ string ∷ rest) journal → ⊥
  not_restored string rest declines restored =
      let later = declines_later limits middle new string declines in
      let prefix : entries_of new.number middle.journal ≡ middle.journal =
      prefix_alone new.number middle.journal later.journal.0 (subst (λ l. entries_of new.number l ≡ l) (sym later.journal.1) alone) in
      let before : own middle ≡ middle.journal = subst (λ n. entries_of n middle.journal ≡ middle.journal) later.number prefix in
      let parts = restores_parts limits new.number [] first (string ∷ rest) journal restored in
      let here : Restores limits new.number [] first middle.journal =
      subst (λ n. Restores limits n [] first middle.journal) (sym later.number) (accepted_are_restored limits old middle first fresh before all) in
      let same : parts.0 ≡ middle.journal = at_most_one_restored limits new.number first parts.0 middle.journal parts.1 here in
      not_accepted limits middle new string before alone declines parts.2.0 (subst (λ l. IsAccepted limits l string parts.2.0) same parts.2.1)

module _ (limits : Limits) (old new : PassView) (file : List ℕ) (number : ℕ) (strings : List (List ℕ)) (journal : List Entry) (fresh : IsFresh old)
    (alone : own new ≡ new.journal) (stop : StoppedAt limits old new true file number) (reads : Reads file strings)
    (restored : Restores limits new.number [] strings journal) where
  -- by what the file has behind the accepted strings
  by_rest : (rest : List (List ℕ)) → strings ≡ stop.strings ++ rest → Spans file (end_of 8 stop.strings) rest → IsClosedAt file
      (end_of (end_of 8 stop.strings) rest) → ⊥
  by_rest [] parts spans closed = ⊎_elim (λ none. (none.broken refl).is_open closed) (λ other. (other.stands refl).is_open closed) stop.then.1
  by_rest (string ∷ rest) parts spans closed = ⊎_elim
      (λ none. (none.broken refl).none string spans.0)
      (λ other.
      let same : string ≡ other.string = same_string file (end_of 8 stop.strings) string other.string spans.0 (other.stands refl) in
      not_restored limits old new file journal fresh alone stop.strings stop.middle stop.accepted other.string rest other.declined
      (subst (λ l. Restores limits new.number [] l journal) (parts ∙ ap (λ s. stop.strings ++ s ∷ rest) same) restored))
      stop.then.1

-- the law
pub stopped_is_not_restored : StoppedIsNotRestored
stopped_is_not_restored limits old new file number strings journal fresh alone stop reads restored =
    let b = behind file 8 stop.strings strings (stop.spans refl) reads.entries reads.closed in
    by_rest limits old new file number strings journal fresh alone stop reads restored b.rest b.parts b.spans b.closed
