-- What `serve` does implies that it ends well where nothing fails.
use Rattle.std.proofs.Common.{◌≡◌, ◌≢◌, ◌⊎◌, ℕ, zero, suc, ◌+◌, ◌-◌, ◌<◌, true, IsTrue, List, [], ◌∷◌, ◌++◌, length, map, get_or, All, Option, Some, None, refl, sym, ◌∙◌, ap, subst, inl, inr, arith, length-append}
use Rattle.std.specs.Prelude.{flat_map}
use Rattle.std.proofs.lemmas.List.{get_or-map, length-map, get_or_append_left, get_or-append_right}
use Rattle.std.proofs.lemmas.List.Elements.{All-head, All-tail}
use mathlib.Core.Logic.{dite}
use native.Mathlib.Decide.{dec_le}
use Rattle.pj_machine.specs.declared.journal.Entry.{Entry}
use Rattle.pj_machine.specs.declared.limits.Limits.{Limits}
use Rattle.pj_session.specs.declared.end.End.{End}
use Rattle.pj_session.specs.declared.end.End.TheVariants as ends
use Rattle.pj_session.specs.declared.end.Ended.{Ended}
use Rattle.pj_serve.specs.declared.finish.Finish.{Finish}
use Rattle.pj_serve.specs.declared.finish.Kept.{Kept}
use Rattle.pj_serve.specs.declared.status.Status.{Status}
use Rattle.pj_serve.specs.declared.status.Status.TheVariants.{Done, Words, ReadFault, Memory}
use Rattle.pj_serve.specs.Complete.{IsComplete, HasNoFault}
use Rattle.pj_io.specs.Causes.{Rose}
use Rattle.pj_io.specs.Meanings.{Streams, Doors}
use Rattle.pj_serve.specs.Opening.{OpeningFailed, LacksDoors}
use Rattle.pj_serve.specs.Outside.{Outside}
use Rattle.pj_serve.specs.Serves.{HaveServed, DoesServe}
use Rattle.pj_serve.specs.Sessions.{IsIdle, HasStopped}
use Rattle.pj_serve.specs.Shares.{shares}
use Rattle.pj_serve.specs.Shifts.{Shift, own_end, own_ends, IsSessionAt, AreShifts}
use Rattle.pj_serve.specs.Status.{exit_status, first_end, status_after}
use Rattle.pj_serve.specs.Workers.{IsOwnEnd}
use Rattle.pj_serve.proofs.Complete.{IsGood, good_end, good_status}
use Rattle.pj_serve.proofs.EndsWell.{rose_above, after_command, stopped_command, stopped_well, doors_memory}
use Rattle.pj_load.proofs.SeatRows.{element}
use Rattle.pj_serve.proofs.ShowLemmas.{exit_status_words}

-- ---- lists that stand behind one another

module _ {X : Type 0} (P : X → Type 0) where
  all_none : All P []
  all_none i d lt = absurd (omega arith)

  all_one : (x : X) → P x → All P (x ∷ [])
  all_one x p zero d lt = p
  all_one x p (suc i) d lt = absurd (omega arith)

  all_front : (xs ys : List X) → All P (xs ++ ys) → All P xs
  all_front xs ys all i d lt = subst P (get_or_append_left xs ys d i lt) (all i d (let s = length-append xs ys in omega arith))

  all_behind : (xs ys : List X) → All P (xs ++ ys) → All P ys
  all_behind xs ys all i d lt =
      let at = get_or-append_right xs ys (length xs) (i + length xs) d refl (omega arith) in
      let back : i + length xs - length xs ≡ i = omega arith in
      subst P (at ∙ ap (λ n. get_or ys n d) back) (all (i + length xs) d (let s = length-append xs ys in omega arith))

  all_both : (xs ys : List X) → All P xs → All P ys → All P (xs ++ ys)
  all_both xs ys p q i d lt =
      let size = length-append xs ys in
      dite (dec_le (length xs) i)
      (λ le. subst P (sym (get_or-append_right xs ys (length xs) i d refl le)) (q (i - length xs) d (omega (arith, le))))
      (λ below. subst P (sym (get_or_append_left xs ys d i (omega (arith, below)))) (p i d (omega (arith, below))))

abbrev pub AllGood : List Ended → Type 0
AllGood ended = All (λ e. IsGood e.end) ended

module _ {S D V : Type 0} (doors : Doors V) (streams : Streams S D) (limits : Limits) (journal : List Entry) where
  -- the door tells its sessions, as many as are left, and the bytes of each are all requests
  pub record IsWholeDoor (door : V) : Type 0 where
    pub tells : IsTrue (doors.tells door)
    pub as_many : length (doors.coming door) ≡ doors.left door
    pub complete : All (IsComplete limits.session) (doors.coming door)

  good_session : (door : V) (k pass : ℕ) (kept : Kept S D) (ended : Ended) → IsWholeDoor door → k < length (doors.coming door) → HasNoFault streams kept → IsSessionAt doors streams limits journal door k pass kept ended → IsGood ended.end
  good_session door k pass kept ended whole lt fault s =
      let served = s.served in
      good_end limits.session (streams.sources.tells s.opened.source) (streams.sources.left s.opened.source) (streams.sources.left kept.source) (s.given.source.told whole.tells)
      (subst (IsComplete limits.session) (sym (s.given.bytes_are whole.tells)) (whole.complete k [] lt)) _ ended.end served.session
      (λ is. let rose = rose_above _ _ (served.read_cause is) in let zero' = fault.source in absurd (omega arith))
      (λ is. let rose = rose_above _ _ (served.write_cause is) in let zero' = fault.sink in absurd (omega arith))
      served.store_cause

  good_own : (old new : V) (number : ℕ) (o : Option End) → IsOwnEnd doors old new o → doors.faults new ≡ 0 → AllGood (own_end number o)
  good_own old new number None h none = all_none (λ e. IsGood e.end)
  good_own old new number (Some ends.Memory) h none = all_one (λ e. IsGood e.end) (record { pass = number; end = ends.Memory }) (inr refl)
  good_own old new number (Some ends.ReadFault) h none = let rose = rose_above _ _ h.1 in absurd (omega arith)
  good_own old new number (Some ends.Done) h none = absurd h
  good_own old new number (Some ends.WriteFault) h none = absurd h
  good_own old new number (Some ends.StoreFault) h none = absurd h
  good_own old new number (Some ends.Bad) h none = absurd h
  good_own old new number (Some ends.Cut) h none = absurd h
  good_own old new number (Some ends.Spent) h none = absurd h

  good_shifts : (first : ℕ) (vs : List V) (ss : List (Shift S D V)) → AreShifts doors streams limits journal first vs ss → All IsWholeDoor vs → All (HasNoFault streams) (flat_map (λ s. s.kept) ss) → All (λ v. doors.faults v ≡ 0) (map (λ s. s.door) ss)
      → (number : ℕ) → AllGood (own_ends number ss) × AllGood (flat_map (λ s. s.ends) ss)
  good_shifts first [] [] h whole kept none number = (all_none (λ e. IsGood e.end), all_none (λ e. IsGood e.end))
  good_shifts first [] (s ∷ ss) h whole kept none number = absurd h
  good_shifts first (v ∷ vs) [] h whole kept none number = absurd h
  good_shifts first (v ∷ vs) (s ∷ ss) h whole kept none number =
      let its_door = All-head IsWholeDoor v vs whole in
      let rest = good_shifts (first + doors.left v) vs ss h.1 (All-tail IsWholeDoor v vs whole) (all_behind (HasNoFault streams) s.kept (flat_map (λ x. x.kept) ss) kept)
      (All-tail (λ x. doors.faults x ≡ 0) s.door (map (λ x. x.door) ss) none) (number + 1) in
      let its_kept = all_front (HasNoFault streams) s.kept (flat_map (λ x. x.kept) ss) kept in
      let many = h.0.as_many_kept in
      let many_ends = h.0.as_many_ends in
      let long = its_door.as_many in
      let here : AllGood s.ends = λ k e lt. (let r = element s.kept k (omega (arith, lt, many_ends)) in
      good_session v k (first + k) (get_or s.kept k r.0) (get_or s.ends k e) its_door (omega (arith, lt, many_ends, many, long)) (its_kept k r.0 (omega (arith, lt, many_ends))) (h.0.each k r.0 e (omega (arith, lt, many_ends)))) in (
        all_both (λ e. IsGood e.end) (own_end number s.own) (own_ends (number + 1) ss) (good_own v s.door number s.own h.0.own (All-head (λ x. doors.faults x ≡ 0) s.door (map (λ x. x.door) ss) none)) rest.0,
        all_both (λ e. IsGood e.end) s.ends (flat_map (λ x. x.ends) ss) here rest.1,
      )

module _ {O S D V : Type 0} (outside : Outside O S D V) (limits : Limits) (old new : O) (result : Finish S D V) (address : List ℕ) (sessions workers : ℕ) where
  served_well : (long : (door : V) → IsTrue (outside.doors.tells door) → length (outside.doors.coming door) ≡ outside.doors.left door) → IsTrue (outside.offices.tells old) → HaveServed outside limits old new result address sessions workers
      → All (All (IsComplete limits.session)) ((outside.offices.contents old).sessions address (shares sessions workers)) → All (HasNoFault outside.streams) result.kept.items → All (λ door. outside.doors.faults door ≡ 0) result.doors.items
      → (result.status ≡ exit_status Done) ⊎ (result.status ≡ exit_status Memory)
  served_well long told have complete kept none =
      let served = have.served in
      let whole : All (IsWholeDoor outside.doors outside.streams limits result.journal) have.opened = λ i v lt.
      (let tells : IsTrue (outside.doors.tells (get_or have.opened i v)) = (have.are_doors.made i v lt).told told in
      let all = subst (λ l. All (All (IsComplete limits.session)) l) (sym (have.are_doors.sessions told)) complete in
      let size = length-map have.opened outside.doors.coming in
      record {
        tells = tells;
        as_many = long (get_or have.opened i v) tells;
        complete = subst (λ l. All (IsComplete limits.session) l) (get_or-map outside.doors.coming have.opened i v [] lt) (all i [] (omega (arith, lt, size)));
      }) in
      let good = good_shifts outside.doors outside.streams limits result.journal (1 + length have.opened) have.opened served.shifts served.each whole
      (subst (λ l. All (HasNoFault outside.streams) l) served.kept_are kept) (subst (λ l. All (λ door. outside.doors.faults door ≡ 0) l) served.doors_are none) 1 in
      let all_good : AllGood result.ends = subst (λ l. AllGood l) (sym served.ends_are) (all_both (λ e. IsGood e.end) (own_ends 1 served.shifts) (flat_map (λ s. s.ends) served.shifts) good.0 good.1) in
      elim (good_status result.ends all_good) [ inl done ↦ inl (have.status ∙ ap exit_status done) | inr memory ↦ inr (have.status ∙ ap exit_status memory) ]

  -- the doors were not opened
  pub no_doors : (ended : Status) → result.status ≡ exit_status ended → result.input ≡ None → result.out ≡ None → IsIdle result →
      OpeningFailed ReadFault (Rose (outside.offices.read_faults old) (outside.offices.read_faults new)) ended → HasStopped (LacksDoors outside.offices old new) result
  no_doors ended is input out idle why = record {
    ended = ended;
    status = is;
    lacks = elim why [
      | inl fault ↦ subst (LacksDoors outside.offices old new result.kept.items result.input) (sym fault.0) (idle.kept, input, fault.1)
      | inr memory ↦ subst (LacksDoors outside.offices old new result.kept.items result.input) (sym memory) (idle.kept, input)
    ];
    none = record { journal = idle.journal; ends = idle.ends; out = out; doors = idle.doors };
  }

  pub does_serve : (long : (door : V) → IsTrue (outside.doors.tells door) → length (outside.doors.coming door) ≡ outside.doors.left door) → HaveServed outside limits old new result address sessions workers ⊎ HasStopped (LacksDoors outside.offices old new) result →
      outside.offices.write_faults new ≡ outside.offices.write_faults old → DoesServe outside limits old new result address sessions workers
  does_serve long outcome no_writing = record {
    outcome = outcome;
    no_writing = no_writing;
    ends_well = λ told complete none kept no_door. elim outcome [ inl have ↦ served_well long told have complete kept no_door | inr stopped ↦ stopped_well _ result (doors_memory outside.offices outside.streams old new none) stopped ];
  }

  -- `serve` never says that its words are none
  pub serve_command : DoesServe outside limits old new result address sessions workers → result.status ≢ exit_status Words
  serve_command does e = elim does.outcome [
    | inl have ↦ after_command (first_end result.ends) true (exit_status_words (status_after (first_end result.ends) true) (sym have.status ∙ e))
    | inr stopped ↦ stopped_command _ result (λ kept input l. l) stopped e
  ]
