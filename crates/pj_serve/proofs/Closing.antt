-- What all sessions did, in the journal of the closed repository.
use Rattle.std.proofs.Common.{◌≡◌, ◌≢◌, ◌==◌, ℕ, zero, suc, ◌+◌, ◌<◌, ◌≤◌, Bool, true, false, cond, List, [], ◌∷◌, ◌++◌, length, map, take, drop, get_or, refl, sym, ◌∙◌, ap, subst, arith, eq-eqb}
use Rattle.std.proofs.lemmas.List.{get_or-map, length-map, take-append-drop, drop_more}
use mathlib.Core.Logic.{dite}
use native.Mathlib.Decide.{dec_le}
use Rattle.pj_machine.specs.declared.journal.Entry.{Entry}
use Rattle.pj_machine.specs.declared.limits.Limits.{Limits}
use Rattle.pj_machine.specs.Call.{PassView, entries_of, own}
use Rattle.pj_machine.specs.Legal.{IsLegal}
use Rattle.pj_session.specs.declared.end.Ended.{Ended}
use Rattle.pj_session.specs.Served.{Served}
use Rattle.pj_session.proofs.Serving.{served_later}
use Rattle.pj_repo.specs.IsJournalOf.{HasOwn, IsJournalOf}
use Rattle.pj_serve.specs.declared.finish.Kept.{Kept}
use Rattle.pj_serve.specs.declared.opening.Opened.{Opened}
use Rattle.pj_serve.specs.declared.sessions.Seat.{Seat}
use Rattle.pj_io.specs.Meanings.{Streams}
use Rattle.pj_load.specs.Seats.{AreNumbered}
use Rattle.pj_serve.specs.Seats.{IsSeatOf, Seated}
use Rattle.pj_serve.specs.Served.{Spoken, IsSessionOf, AreSessions}
use Rattle.pj_load.proofs.SeatRows.{element}

-- an entry is among those of its pass
pub entry_counts : (before later : List Entry) (e : Entry) → 0 < length (entries_of e.pass (before ++ e ∷ later))
entry_counts [] later e =
    let h : entries_of e.pass (e ∷ later) ≡ e ∷ entries_of e.pass later = ap (λ t. cond t (e ∷ entries_of e.pass later) (entries_of e.pass later)) (eq-eqb e.pass e.pass refl) in
    let size = ap (λ (l : List Entry). length l) h in omega arith
entry_counts (x ∷ before) later e = let h = entry_counts before later e in let k = longer (x.pass == e.pass) in omega arith
  where
    longer : (b : Bool) → length (entries_of e.pass (before ++ e ∷ later)) ≤ length (cond b (x ∷ entries_of e.pass (before ++ e ∷ later)) (entries_of e.pass (before ++ e ∷ later)))
    longer true = omega arith
    longer false = omega arith

module _ {T S D : Type 0} (view : T → PassView) (streams : Streams S D) (limits : Limits) (opened : List (Opened S D)) (seats seats' : List (Seat T S D)) where
  -- what the sessions did, each in the journal that its pass has seen
  abbrev pub AllSpoken : Type 0
  AllSpoken = (i : ℕ) (d : Seat T S D) → i < length seats →
      Spoken streams limits (view (get_or seats i d).pass) (view (get_or seats' i d).pass)
      (get_or seats i d).source (get_or seats' i d).source (get_or seats i d).sink (get_or seats' i d).sink (get_or seats' i d).end

  module _ (seated : Seated view opened seats []) (long : length seats' ≡ length seats) (spoken : AllSpoken) where
    all_seated : length seats ≡ length opened
    all_seated = let count = seated.count in omega arith

    -- session i when it has ended
    record Ended-at (i : ℕ) : Type 0 where
      seat : Seat T S D
      at : (d : Seat T S D) → get_or seats' i d ≡ seat
      number : (view seat.pass).number ≡ i + 1
      served : (o : Opened S D) → Served streams limits (view seat.pass).journal (view seat.pass).number (get_or opened i o).source seat.source (get_or opened i o).sink seat.sink seat.end

    ended_at : (i : ℕ) → i < length seats → Ended-at i
    ended_at i lt =
        let x = element seats i lt in
        let y = element seats' i (let l = long in omega arith) in
        let P : Seat T S D → Seat T S D → Type 0 = λ a b. Spoken streams limits (view a.pass) (view b.pass) a.source b.source a.sink b.sink b.end in
        let s : P x.0 y.0 = subst (λ b. P x.0 b) (y.1 x.0) (subst (λ a. P a (get_or seats' i x.0)) (x.1 x.0) (spoken i x.0 lt)) in
        let seat_of : (o : Opened S D) → IsSeatOf view i (get_or opened i o) x.0 = λ o. subst (λ a. IsSeatOf view i (get_or opened i o) a) (x.1 x.0) (seated.each i o x.0 lt) in
        record {
          seat = y.0;
          at = y.1;
          number = s.number ∙ (seat_of (record { source = x.0.source; sink = x.0.sink })).number;
          served = λ o.
              let Q : S → D → Type 0 = λ a b. Served streams limits (view y.0.pass).journal (view y.0.pass).number a y.0.source b y.0.sink y.0.end in
              subst (λ a. Q a (get_or opened i o).sink) (seat_of o).source (subst (λ b. Q x.0.source b) (seat_of o).sink s.served);
        }

    -- the passes of the sessions
    abbrev pub views : List PassView
    views = map view (map (λ x. x.pass) seats')

    as_many_views : length views ≡ length opened
    as_many_views = length-map (map (λ x. x.pass) seats') view ∙ length-map seats' (λ x. x.pass) ∙ long ∙ all_seated

    view_at : (i : ℕ) (lt : i < length seats) (e : Ended-at i) (d : PassView) → get_or views i d ≡ view e.seat.pass
    view_at i lt e d =
        get_or-map view (map (λ x. x.pass) seats') i e.seat.pass d (let m = length-map seats' (λ x. x.pass) in let l = long in omega arith)
        ∙ ap view (get_or-map (λ x. x.pass) seats' i e.seat e.seat.pass (let l = long in omega arith) ∙ ap (λ x. x.pass) (e.at e.seat))

    pub numbered : (first : PassView) → first.number ≡ 0 → AreNumbered (first ∷ views)
    numbered first is zero d lt = is
    numbered first is (suc i) d lt =
        let inside : i < length seats = (let m = as_many_views in let a = all_seated in omega arith) in
        let e = ended_at i inside in
        let n = ap (λ p. p.number) (view_at i inside e d) ∙ e.number in
        omega arith

    -- the passes, with the first one before them, are as many as were made
    pub as_many_passes : (first : T) → length (first ∷ map (λ x. x.pass) seats') ≡ 1 + length opened
    as_many_passes first = let m = length-map seats' (λ x. x.pass) in let l = long in let a = all_seated in omega arith

    as_many : (first : PassView) → length (first ∷ views) ≡ 1 + length opened
    as_many first = let m = as_many_views in omega arith

    module _ (journal : List Entry) (first : PassView) (is : IsJournalOf journal (first ∷ views)) (number : first.number ≡ 0) (nothing : own first ≡ []) where
      -- a pass with an entry is that of a session
      in_row : (p : ℕ) → 0 < length (entries_of p journal) → (0 < p) × (p ≤ length opened)
      in_row p some =
          let not_first : p ≢ 0 = λ none.
          let at : entries_of p journal ≡ [] = ap (λ k. entries_of k journal) (none ∙ sym number) ∙ (is.each 0 first (omega arith)).own ∙ nothing in
          let gone = ap (λ (l : List Entry). length l) at in absurd (omega arith) in
          let not_later : length opened < p → ⊥ = λ above.
          let at : entries_of p journal ≡ [] = is.others p (λ has.
          let many : length (map (λ x. x.number) (first ∷ views)) ≡ 1 + length opened = length-map (first ∷ views) (λ x. x.number) ∙ as_many first in
          let inside : has.0 < length (first ∷ views) = (let h = has.1 in let m = as_many first in omega arith) in
          let value : get_or (map (λ x. x.number) (first ∷ views)) has.0 p ≡ has.0 =
          get_or-map (λ x. x.number) (first ∷ views) has.0 first p inside ∙ numbered first number has.0 first inside in
          let h = has.1 in let e = has.2 in
          absurd (omega arith)) in
          let gone = ap (λ (l : List Entry). length l) at in absurd (omega arith) in (
            dite (dec_le 1 p) (λ le. omega (arith, le)) (λ zero'. absurd (not_first (omega (arith, zero')))),
            dite (dec_le p (length opened)) (λ le. le) (λ above. absurd (not_later (omega (arith, above)))),
          )

      session_at : (kept : List (Kept S D)) (ends : List Ended)
          → kept ≡ map (λ x. record { pass = (view x.pass).number; source = x.source; sink = x.sink }) seats' → ends ≡ map (λ x. record { pass = (view x.pass).number; end = x.end }) seats'
          → (i : ℕ) (o : Opened S D) (k : Kept S D) (e : Ended) → i < length opened → IsSessionOf streams limits journal i (get_or opened i o) (get_or kept i k) (get_or ends i e)
      session_at kept ends kept_is ends_is i o k e inside =
          let lt : i < length seats = (let a = all_seated in omega arith) in
          let lt' : i < length seats' = (let l = long in omega arith) in
          let x = ended_at i lt in
          let y : Seat T S D = x.seat in
          let kept_at : get_or kept i k ≡ record { pass = (view y.pass).number; source = y.source; sink = y.sink } =
          ap (λ l. get_or l i k) kept_is ∙ get_or-map (λ z. record { pass = (view z.pass).number; source = z.source; sink = z.sink }) seats' i y k lt' ∙ ap (λ z. record { pass = (view z.pass).number; source = z.source; sink = z.sink }) (x.at y) in
          let end_at : get_or ends i e ≡ record { pass = (view y.pass).number; end = y.end } =
          ap (λ l. get_or l i e) ends_is ∙ get_or-map (λ z. record { pass = (view z.pass).number; end = z.end }) seats' i y e lt' ∙ ap (λ z. record { pass = (view z.pass).number; end = z.end }) (x.at y) in
          let has_own : HasOwn journal (view y.pass) = subst (λ p. HasOwn journal p) (view_at i lt x (view y.pass)) (is.each (suc i) (view y.pass) (let m = as_many first in omega arith)) in
          let served : Served streams limits journal (i + 1) (get_or opened i o).source y.source (get_or opened i o).sink y.sink y.end =
          subst (λ n. Served streams limits journal n (get_or opened i o).source y.source (get_or opened i o).sink y.sink y.end) x.number
          (served_later ⊥ streams limits (view y.pass).journal journal (view y.pass).number _ _ _ _ _ has_own.begins has_own.own (x.served o)) in
          let P : Kept S D → Ended → Type 0 = λ q f. Served streams limits journal (i + 1) (get_or opened i o).source q.source (get_or opened i o).sink q.sink f.end in
          record {
            kept_pass = ap (λ q. q.pass) kept_at ∙ x.number;
            ended_pass = ap (λ f. f.pass) end_at ∙ x.number;
            served = subst (λ q. P q (get_or ends i e)) (sym kept_at) (subst (λ f. P (record { pass = (view y.pass).number; source = y.source; sink = y.sink }) f) (sym end_at) served);
          }

      pub are_sessions : (kept : List (Kept S D)) (ends : List Ended)
          → kept ≡ map (λ x. record { pass = (view x.pass).number; source = x.source; sink = x.sink }) seats' → ends ≡ map (λ x. record { pass = (view x.pass).number; end = x.end }) seats'
          → IsLegal limits journal → AreSessions streams limits journal opened kept ends
      are_sessions kept ends kept_is ends_is legal = record {
        legal = legal;
        of_sessions = λ k d lt.
            let e : Entry = get_or journal k d in
            let stands : journal ≡ take k journal ++ e ∷ drop (k + 1) journal = sym (take-append-drop k journal) ∙ ap (λ t. take k journal ++ t) (drop_more journal k d lt) in
            in_row e.pass (subst (λ j. 0 < length (entries_of e.pass j)) (sym stands) (entry_counts (take k journal) (drop (k + 1) journal) e));
        as_many_kept = ap (λ (l : List (Kept S D)). length l) kept_is ∙ length-map seats' _ ∙ long ∙ all_seated;
        as_many_ends = ap (λ (l : List Ended). length l) ends_is ∙ length-map seats' _ ∙ long ∙ all_seated;
        each = λ i o k e inside. session_at kept ends kept_is ends_is i o k e inside;
      }
