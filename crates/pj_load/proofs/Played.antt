-- What the three stages did, in the journal of the closed repository.
use Rattle.std.proofs.Common.{◌≡◌, ◌≢◌, ◌==◌, ℕ, zero, suc, ◌+◌, ◌-◌, ◌^◌, ◌<◌, ◌≤◌, Bool, true, false, cond, ◌&&◌, List, [], ◌∷◌, ◌++◌, length, map, All, get_or, inl, inr, refl, sym, ◌∙◌, ap, subst, arith, eq-eqb}
use Rattle.std.specs.Prelude.{◌⊎◌, Contains}
use Rattle.std.proofs.lemmas.List.{get_or-map, length-map, get_or_append_left, get_or_push, length_push, get_or_default}
use Rattle.std.proofs.lemmas.List.Elements.{All-append, All-cons, All-nil, All-map, filter-append, Contains-append_left, Contains-append_right}
use mathlib.Core.Logic.{dite}
use mathlib.Core.List.{IsPrefix}
use native.Mathlib.Decide.{dec_le}
use Rattle.pj_change.proofs.Members.{no_member, first_member, later_member}
use Rattle.pj_change.proofs.PickedMembers.{kept}
use Rattle.pj_machine.specs.declared.command.Command.{Command}
use Rattle.pj_machine.specs.declared.command.Command.TheVariants as command
use Rattle.pj_machine.specs.declared.journal.Entry.{Entry}
use Rattle.pj_machine.specs.declared.limits.Limits.{Limits}
use Rattle.pj_machine.specs.declared.reply.Numbered.{Numbered}
use Rattle.pj_machine.specs.Call.{PassView, IsFresh, entries_of, own}
use Rattle.pj_machine.specs.Entries.{commands}
use Rattle.pj_machine.specs.Told.{is_entered}
use Rattle.pj_repo.specs.IsJournalOf.{HasOwn, IsJournalOf}
use Rattle.pj_session.specs.declared.end.End.{End}
use Rattle.pj_session.specs.declared.end.End.TheVariants.{Done, ReadFault, WriteFault, Bad, Cut, Spent, Memory, StoreFault}
use Rattle.pj_session.specs.declared.end.Ended.{Ended}
use Rattle.pj_session.specs.Calls.{Chain}
use Rattle.pj_session.specs.Entering.{accepted}
use Rattle.pj_session.specs.Spoke.{Spoke}
use Rattle.pj_session.proofs.Accepting.{enters_accepted}
use Rattle.pj_session.proofs.Spoken.{spoke_later}
use Rattle.pj_gen.specs.Laws.{ScriptsAreWhole}
use Rattle.pj_gen.specs.Requests.{opening_requests, session_requests, closing_requests, script, session_scripts}
use Rattle.pj_gen.proofs.Calls.{all_whole}
use Rattle.pj_load.specs.declared.seats.Seat.{Seat}
use Rattle.pj_load.specs.declared.seeing.Entering.{Entering}
use Rattle.pj_load.specs.declared.seeing.Printed.{Printed}
use Rattle.pj_load.specs.Load.{AreEnds, HasWrites}
use Rattle.pj_load.specs.Seats.{Enters, HasSpoken, AreSeats, AreNumbered}
use Rattle.pj_load.specs.Seen.{printed}
use Rattle.pj_load.specs.Speech.{EndsWith, IsScriptOf, Speech}
use Rattle.pj_load.specs.Stages.{channels, HasRun}
use Rattle.pj_load.proofs.Prints.{seen_prints, quiet, found_at}
use Rattle.pj_load.proofs.SeatRows.{AreSpoken, element, none_within, prefix_further, are_spoken}

-- ---- a row with one behind it

module _ {A B : Type 0} (f : A → B) (xs : List A) (z : B) where
  row_size : length (map f xs ++ z ∷ []) ≡ length xs + 1
  row_size = length_push (map f xs) z ∙ ap (λ n. n + 1) (length-map xs f)

  among : (k : ℕ) (a : A) (d : B) → k < length xs → get_or (map f xs ++ z ∷ []) k d ≡ f (get_or xs k a)
  among k a d lt = get_or_append_left (map f xs) (z ∷ []) d k (let m = length-map xs f in omega arith) ∙ get_or-map f xs k a d lt

  behind_all : (d : B) → get_or (map f xs ++ z ∷ []) (length xs) d ≡ z
  behind_all d = get_or_push (map f xs) z d (length xs) (length-map xs f)

pub views_are : {T : Type 0} (view : T → PassView) (seats : List (Seat T)) (last : T) → map view (map (λ s. s.pass) seats ++ last ∷ []) ≡ map (λ s. view s.pass) seats ++ view last ∷ []
views_are view [] last = refl
views_are view (s ∷ seats) last = ap (λ l. view s.pass ∷ l) (views_are view seats last)

-- ---- entries by their passes

none_of_pass : (journal : List Entry) (p : ℕ) (e : Entry) → entries_of p journal ≡ [] → Contains journal e → e.pass ≢ p
none_of_pass journal p e none m same = no_member e (subst (λ l. Contains l e) none (kept (λ f. f.pass == p) journal e m (eq-eqb e.pass p same)))

all_of_pass : (journal : List Entry) (p : ℕ) → ((e : Entry) → Contains journal e → e.pass ≡ p) → entries_of p journal ≡ journal
all_of_pass [] p is = refl
all_of_pass (e ∷ es) p is =
    ap (λ b. cond b (e ∷ entries_of p es) (entries_of p es)) (eq-eqb e.pass p (is e (first_member e es)))
    ∙ ap (λ l. e ∷ l) (all_of_pass es p (λ f m. is f (later_member e es f m)))

-- ---- a session that was entered whole

both_true : (a b : Bool) → (a && b) ≡ true → (a ≡ true) × (b ≡ true)
both_true true b h = (refl, h)
both_true false b h = absurd (cc h)

-- requests that were all entered were all accepted
all_accepted : (before after : Entering) (xs : List Command) (rs : List Numbered) → Chain Enters before xs rs after → after.all ≡ true → (before.all ≡ true) × (accepted xs rs ≡ xs)
all_accepted before after [] [] chain h = (ap (λ (s : Entering). s.all) (sym chain) ∙ h, refl)
all_accepted before after (x ∷ xs) (r ∷ rs) chain h =
    let rest = all_accepted chain.0 after xs rs chain.2 h in
    let here = both_true before.all (is_entered r) (sym chain.1 ∙ rest.0) in
    (here.0, ap (λ b. cond b (x ∷ accepted xs rs) (accepted xs rs)) here.1 ∙ ap (λ l. x ∷ l) rest.1)
all_accepted before after [] (r ∷ rs) chain h = absurd chain
all_accepted before after (x ∷ xs) [] chain h = absurd chain

-- its entries are its requests
entered_whole : (limits : Limits) (journal : List Entry) (pass : ℕ) (xs : List Command) (seen : Entering)
    → (rs : List Numbered) × Spoke limits journal pass xs rs × Chain Enters (record { all = true }) xs rs seen → seen.all ≡ true → HasWrites journal pass xs
entered_whole limits journal pass xs seen did all =
    enters_accepted limits journal pass xs did.0 did.1 ∙ (all_accepted (record { all = true }) seen xs did.0 did.2 all).1

closing_prints : closing_requests ≡ map (λ c. command.Print c) channels
unfolding closing_requests
closing_prints = refl

-- ---- the scripts of the sessions

pub as_many_scripts : (number changes sessions m : ℕ) → length (session_scripts number changes sessions m) ≡ m
unfolding session_scripts
as_many_scripts number changes sessions zero = refl
as_many_scripts number changes sessions (suc m) =
    let h = as_many_scripts number changes sessions m in
    let k = length_push (session_scripts number changes sessions m) (script (session_requests number sessions m (changes - 1))) in omega arith

pub script_at : (number changes sessions m i : ℕ) (d : List ℕ) → i < m → get_or (session_scripts number changes sessions m) i d ≡ script (session_requests number sessions i (changes - 1))
unfolding session_scripts
script_at number changes sessions zero i d lt = absurd (omega arith)
script_at number changes sessions (suc m) i d lt =
    let before : List (List ℕ) = session_scripts number changes sessions m in
    let size : length before ≡ m = as_many_scripts number changes sessions m in
    let last : List ℕ = script (session_requests number sessions m (changes - 1)) in
    dite (dec_le (i + 1) m)
    (λ below. get_or_append_left before (last ∷ []) d i (omega (arith, below)) ∙ script_at number changes sessions m i d (omega (arith, below)))
    (λ other. let at : m ≡ i = omega (arith, other) in get_or_push before last d i (size ∙ at) ∙ ap (λ k. script (session_requests number sessions k (changes - 1))) at)

-- ---- how a session ends

did_end : (Did : Type 0) (end : End) → EndsWith Did end → (end ≡ Done) ⊎ (end ≡ Memory)
did_end Did Done h = inl refl
did_end Did Memory h = inr refl
did_end Did ReadFault h = absurd h
did_end Did WriteFault h = absurd h
did_end Did Bad h = absurd h
did_end Did Cut h = absurd h
did_end Did Spent h = absurd h
did_end Did StoreFault h = absurd h

-- what was done by a session that is done
did_it : {Did : Type 0} (end : End) → end ≡ Done → EndsWith Did end → Did
did_it {Did} end is did = subst (λ x. EndsWith Did x) is did

-- ---- all stages

module _ {T : Type 0} (view : T → PassView) (limits : Limits) (p : PassView) (scripts : List (List ℕ)) (none first last : T) (seats : List (Seat T)) where
  -- what is known of the passes when all sessions have ended, where p is that of the prelude when it had ended
  pub record HaveEnded : Type 0 where
    pub none_number : (view none).number ≡ 0
    pub none_own : own (view none) ≡ []
    pub p_number : p.number ≡ 1
    pub first_number : (view first).number ≡ 1
    pub first_own : own (view first) ≡ own p
    pub first_sees : IsPrefix p.journal (view first).journal
    pub spoken : AreSpoken view limits p.journal scripts seats
    pub last_number : (view last).number ≡ length scripts + 2
    pub last_none : entries_of (length scripts + 2) p.journal ≡ []

  -- from what is known of the seats before their sessions, and of the pass of the closing when it was made
  pub have_ended : (seated : List (Seat T)) (made : PassView) → (view none).number ≡ 0 → own (view none) ≡ [] → p.number ≡ 1 → (view first).number ≡ p.number → own (view first) ≡ own p → IsPrefix p.journal (view first).journal
      → AreSeats view p.journal scripts seated → length seats ≡ length seated → ((i : ℕ) (d : Seat T) → i < length seated → HasSpoken view limits (get_or seated i d) (get_or seats i d))
      → IsFresh made → made.number ≡ length scripts + 2 → IsPrefix p.journal made.journal → (view last).number ≡ made.number → HaveEnded
  have_ended seated made none_number none_own p_number first_number first_own first_sees are_seated count each fresh number sees last_number = record {
    none_number = none_number;
    none_own = none_own;
    p_number = p_number;
    first_number = first_number ∙ p_number;
    first_own = first_own;
    first_sees = first_sees;
    spoken = are_spoken view limits p.journal scripts seated seats count each are_seated;
    last_number = last_number ∙ number;
    last_none = none_within p.journal made.journal (length scripts + 2) sees (ap (λ k. entries_of k made.journal) (sym number) ∙ fresh.own);
  }

  -- their passes
  abbrev pub views : List PassView
  views = view none ∷ view first ∷ (map (λ s. view s.pass) seats ++ view last ∷ [])

  -- their ends
  abbrev pub end_of : Seat T → Ended
  end_of s = record { pass = (view s.pass).number; end = s.end }

  abbrev pub last_end : End → Ended
  last_end f = record { pass = (view last).number; end = f }

  abbrev pub ends_of : End → End → List Ended
  ends_of e f = record { pass = (view first).number; end = e } ∷ (map end_of seats ++ last_end f ∷ [])

  module _ (h : HaveEnded) where
    many : length seats ≡ length scripts
    many = h.spoken.as_many

    size : length views ≡ length scripts + 3
    size = let r = row_size (λ (s : Seat T). view s.pass) seats (view last) in let m = many in omega arith

    number_at : (k : ℕ) (s : Seat T) → k < length seats → (view (get_or seats k s).pass).number ≡ k + 2
    number_at k s lt = (h.spoken.each k [] s lt).number

    pub numbered : AreNumbered views
    numbered zero d lt = h.none_number
    numbered (suc zero) d lt = h.first_number
    numbered (suc (suc k)) d lt = dite (dec_le (k + 1) (length seats))
        (λ below. let x = element seats k (omega (arith, below)) in
        let n = ap (λ (q : PassView). q.number) (among (λ (s : Seat T). view s.pass) seats (view last) k x.0 d (omega (arith, below))) ∙ number_at k x.0 (omega (arith, below)) in omega arith)
        (λ other. let z = size in let m = many in
        let at : length seats ≡ k = omega (arith, other) in
        let n = ap (λ (q : PassView). q.number) (ap (λ i. get_or (map (λ (s : Seat T). view s.pass) seats ++ view last ∷ []) i d) (sym at) ∙ behind_all (λ (s : Seat T). view s.pass) seats (view last) d) ∙ h.last_number in
        omega arith)

    module _ (journal : List Entry) (is : IsJournalOf journal views) where
      own_none : entries_of 0 journal ≡ []
      own_none = ap (λ k. entries_of k journal) (sym h.none_number) ∙ (is.each 0 (view none) (let z = size in omega arith)).own ∙ h.none_own

      has_first : HasOwn journal (view first)
      has_first = is.each 1 (view none) (let z = size in omega arith)

      own_first : entries_of 1 journal ≡ entries_of 1 p.journal
      own_first = ap (λ k. entries_of k journal) (sym h.first_number) ∙ has_first.own ∙ h.first_own ∙ ap (λ k. entries_of k p.journal) h.p_number

      begins : IsPrefix p.journal journal
      begins = prefix_further p.journal (view first).journal journal h.first_sees has_first.begins

      has_seat : (k : ℕ) (s : Seat T) → k < length seats → HasOwn journal (view (get_or seats k s).pass)
      has_seat k s lt = subst (λ q. HasOwn journal q) (among (λ (s : Seat T). view s.pass) seats (view last) k s (view last) lt) (is.each (suc (suc k)) (view last) (let z = size in let m = many in omega arith))

      own_seat : (k : ℕ) (s : Seat T) → k < length seats → entries_of (k + 2) journal ≡ entries_of (k + 2) (view (get_or seats k s).pass).journal
      own_seat k s lt =
          let n = number_at k s lt in
          ap (λ i. entries_of i journal) (sym n) ∙ (has_seat k s lt).own ∙ ap (λ i. entries_of i (view (get_or seats k s).pass).journal) n

      has_last : HasOwn journal (view last)
      has_last = subst (λ q. HasOwn journal q) (behind_all (λ (s : Seat T). view s.pass) seats (view last) (view last)) (is.each (suc (suc (length seats))) (view last) (let z = size in let m = many in omega arith))

      own_far : (q : ℕ) → length scripts + 2 < q → entries_of q journal ≡ []
      own_far q far = is.others q (λ has.
          let inside : has.0 < length views = (let l = has.1 in let m = length-map views (λ (x : PassView). x.number) in omega arith) in
          let value : get_or (map (λ (x : PassView). x.number) views) has.0 q ≡ has.0 = get_or-map (λ (x : PassView). x.number) views has.0 (view none) q inside ∙ numbered has.0 (view none) inside in
          let e = has.2 in let z = size in absurd (omega arith))

      in_row : (e : Entry) → Contains journal e → (0 < e.pass) × (e.pass ≤ length scripts + 2)
      in_row e m =
          let some : e.pass ≢ 0 = none_of_pass journal 0 e own_none m in (
            omega (arith, some),
            dite (dec_le e.pass (length scripts + 2)) (λ le. le) (λ above. absurd (none_of_pass journal e.pass e (own_far e.pass (omega (arith, above))) m refl)),
          )

      pub of_sessions : All (λ e. (0 < e.pass) × (e.pass ≤ length scripts + 2)) journal
      of_sessions k d lt = let e : Entry = get_or journal k d in in_row e (k, lt, get_or_default journal k e d lt)

      -- the prelude's entries stand first, and alone
      alone : (e : Entry) → Contains p.journal e → e.pass ≡ 1
      alone e m =
          let within : Contains journal e = subst (λ l. Contains l e) begins.1 (Contains-append_left p.journal begins.0 e m) in
          let row = in_row e within in let low = row.0 in let high = row.1 in let n = many in
          dite (dec_le e.pass 1) (λ le. omega (arith, le))
          (λ above. dite (dec_le (e.pass - 1) (length seats))
          (λ below. let x = element seats (e.pass - 2) (omega (arith, above, below)) in
          let nothing : entries_of (e.pass - 2 + 2) p.journal ≡ [] = (h.spoken.each (e.pass - 2) [] x.0 (omega (arith, above, below))).none in
          absurd (none_of_pass p.journal (e.pass - 2 + 2) e nothing m (omega (arith, above))))
          (λ other. absurd (none_of_pass p.journal (length scripts + 2) e h.last_none m (omega (arith, above, other)))))

      prelude_own : entries_of 1 p.journal ≡ p.journal
      prelude_own = all_of_pass p.journal 1 alone

      abbrev rest : List Entry
      rest = begins.0

      own_rest : (q : ℕ) → entries_of q p.journal ≡ [] → entries_of q rest ≡ entries_of q journal
      own_rest q nothing = sym (ap (λ l. entries_of q l) (sym begins.1) ∙ filter-append (λ e. e.pass == q) p.journal rest ∙ ap (λ l. l ++ entries_of q rest) nothing)

      -- ---- the scripts

      module _ (number sessions n : ℕ) (few : n + 1 < 2 ^ 32) (long : length scripts ≡ sessions) (scripts_are : (i : ℕ) (d : List ℕ) → i < sessions → get_or scripts i d ≡ script (session_requests number sessions i n))
          (seen : Entering) (prints : List Printed) (e f : End) (opening : Speech Enters limits (record { all = true }) seen p (script opening_requests) e)
          (closing : Speech (λ s x r t. t ≡ s ++ printed r) limits [] prints (view last) (script closing_requests) f) where
        whole : ScriptsAreWhole
        whole = all_whole

        abbrev SeatDid : ℕ → Seat T → Type 0
        SeatDid k y = (rs : List Numbered) × Spoke limits (view y.pass).journal (view y.pass).number (session_requests number sessions k n) rs × Chain Enters (record { all = true }) (session_requests number sessions k n) rs y.seen

        seat_did : (k : ℕ) (s : Seat T) → k < length seats → EndsWith (SeatDid k (get_or seats k s)) (get_or seats k s).end
        seat_did k s lt =
            let xs = session_requests number sessions k n in
            let here : k < sessions = (let m = many in omega arith) in
            (h.spoken.each k [] s lt).speech xs (subst (λ t. IsScriptOf t xs) (sym (scripts_are k [] here)) (whole.sessions_are number sessions k n few))

        abbrev IsWell : Ended → Type 0
        IsWell x = (x.end ≡ Done) ⊎ (x.end ≡ Memory)

        pub are_ends : AreEnds sessions (ends_of e f)
        are_ends = record {
          as_many = (let r = row_size end_of seats (last_end f) in let m = many in omega arith);
          numbers = numbers;
          each = All-cons IsWell (record { pass = (view first).number; end = e }) (map end_of seats ++ last_end f ∷ []) (did_end _ e (opening opening_requests whole.prelude_is))
              (All-append IsWell (map end_of seats) (last_end f ∷ []) (All-map IsWell end_of seats (λ k d lt. did_end _ _ (seat_did k d lt)))
              (All-cons IsWell (last_end f) [] (did_end _ f (closing closing_requests whole.closing_is)) (All-nil IsWell)));
        }
          where
            numbers : (i : ℕ) (d : Ended) → i < length (ends_of e f) → (get_or (ends_of e f) i d).pass ≡ i + 1
            numbers zero d lt = h.first_number
            numbers (suc k) d lt = dite (dec_le (k + 1) (length seats))
                (λ below. let x = element seats k (omega (arith, below)) in
                let v = ap (λ (q : Ended). q.pass) (among end_of seats (last_end f) k x.0 d (omega (arith, below))) ∙ number_at k x.0 (omega (arith, below)) in omega arith)
                (λ other. let m = many in let r = row_size end_of seats (last_end f) in
                let at : length seats ≡ k = omega (arith, other) in
                let v = ap (λ (q : Ended). q.pass) (ap (λ i. get_or (map end_of seats ++ last_end f ∷ []) i d) (sym at) ∙ behind_all end_of seats (last_end f) d) ∙ h.last_number in
                omega arith)

        -- where all requests were entered and all sessions are done
        module _ (seen_all : seen.all ≡ true) (seats_all : All (λ s. s.seen.all ≡ true) seats) (done : All (λ x. x.end ≡ Done) (ends_of e f)) where
          count : length (ends_of e f) ≡ length seats + 2
          count = let r = row_size end_of seats (last_end f) in omega arith

          first_done : e ≡ Done
          first_done = done 0 (last_end f) (let c = count in omega arith)

          seat_done : (k : ℕ) (s : Seat T) → k < length seats → (get_or seats k s).end ≡ Done
          seat_done k s lt = sym (ap (λ (x : Ended). x.end) (among end_of seats (last_end f) k s (last_end f) lt)) ∙ done (suc k) (last_end f) (let c = count in omega arith)

          last_done : f ≡ Done
          last_done = sym (ap (λ (x : Ended). x.end) (behind_all end_of seats (last_end f) (last_end f))) ∙ done (suc (length seats)) (last_end f) (let c = count in omega arith)

          prelude_writes : commands p.journal ≡ opening_requests
          prelude_writes =
              ap (λ l. commands l) (sym prelude_own ∙ ap (λ k. entries_of k p.journal) (sym h.p_number))
              ∙ entered_whole limits p.journal p.number opening_requests seen (did_it e first_done (opening opening_requests whole.prelude_is)) seen_all

          seat_writes : (k : ℕ) → k < sessions → HasWrites journal (k + 2) (session_requests number sessions k n)
          seat_writes k lt =
              let here : k < length seats = (let m = many in omega arith) in
              let x = element seats k here in
              let y : Seat T = get_or seats k x.0 in
              ap (λ l. commands l) (own_seat k x.0 here ∙ ap (λ i. entries_of i (view y.pass).journal) (sym (number_at k x.0 here)))
              ∙ entered_whole limits (view y.pass).journal (view y.pass).number (session_requests number sessions k n) y.seen
              (did_it y.end (seat_done k x.0 here) (seat_did k x.0 here)) (seats_all k x.0 here)

          none_seated : (k : ℕ) → k < sessions → entries_of (k + 2) p.journal ≡ []
          none_seated k lt = let here : k < length seats = (let m = many in omega arith) in (h.spoken.each k [] (element seats k here).0 here).none

          closing_did : (rs : List Numbered) × Spoke limits (view last).journal (view last).number (map (λ c. command.Print c) channels) rs × Chain (λ s x r t. t ≡ s ++ printed r) [] (map (λ c. command.Print c) channels) rs prints
          closing_did = subst (λ xs. (rs : List Numbered) × Spoke limits (view last).journal (view last).number xs rs × Chain (λ s x r t. t ≡ s ++ printed r) [] xs rs prints) closing_prints
              (did_it f last_done (closing closing_requests whole.closing_is))

          closing_spoke : Spoke limits journal (view last).number (map (λ c. command.Print c) channels) closing_did.0
          closing_spoke = spoke_later limits (view last).journal journal (view last).number _ closing_did.0 has_last.begins has_last.own closing_did.1

          own_last : entries_of (sessions + 2) journal ≡ []
          own_last = ap (λ k. entries_of k journal) (let l = h.last_number in let k : sessions + 2 ≡ (view last).number = omega arith in k) ∙ quiet limits journal (view last).number channels closing_did.0 closing_spoke

          first_none : entries_of 1 rest ≡ []
          first_none =
              let parted : entries_of 1 p.journal ++ entries_of 1 rest ≡ entries_of 1 p.journal = sym (filter-append (λ x. x.pass == 1) p.journal rest) ∙ ap (λ l. entries_of 1 l) begins.1 ∙ own_first in
              no_more (entries_of 1 p.journal) (entries_of 1 rest) parted
            where
              no_more : (a b : List Entry) → a ++ b ≡ a → b ≡ []
              no_more [] b k = k
              no_more (x ∷ a) b k = no_more a b (let t : a ++ b ≡ a = cc in t)

          between : (x : Entry) → Contains rest x → (2 ≤ x.pass) × (x.pass < sessions + 2)
          between x m =
              let within : Contains journal x = subst (λ l. Contains l x) begins.1 (Contains-append_right p.journal rest x m) in
              let row = in_row x within in let low = row.0 in let high = row.1 in
              let not_first : x.pass ≢ 1 = none_of_pass rest 1 x first_none m in
              let not_last : x.pass ≢ sessions + 2 = none_of_pass journal (sessions + 2) x own_last within in
              (omega (arith, low, not_first), omega (arith, high, long, not_last))

          pub has_run : HasRun limits number sessions n journal prints
          has_run = record {
            prelude = p.journal;
            rest = rest;
            whole = sym begins.1;
            loaded = record {
              prelude_is = prelude_writes;
              sessions_are = λ s lt. ap (λ l. commands l) (own_rest (s + 2) (none_seated s lt)) ∙ seat_writes s lt;
              passes_are = between;
            };
            opening = ap (λ l. commands l) (own_first ∙ prelude_own) ∙ prelude_writes;
            each = seat_writes;
            closing = ap (λ l. commands l) own_last;
            found_are = λ all places. found_at limits journal (view last).number 1 0 channels closing_did.0 prints closing_spoke.results
                (sym (seen_prints [] prints (map (λ c. command.Print c) channels) closing_did.0 closing_did.2)) all places;
          }
