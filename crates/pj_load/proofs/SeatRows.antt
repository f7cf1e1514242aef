-- Seats before and after their sessions.
use Rattle.std.proofs.Common.{◌≡◌, ◌==◌, ℕ, zero, suc, ◌+◌, ◌<◌, true, List, [], ◌∷◌, ◌++◌, length, get_or, drop, refl, sym, ◌∙◌, ap, subst, arith, append-nil, append_assoc}
use Rattle.std.proofs.lemmas.List.{get_or_append_left, get_or_push, length_push}
use Rattle.std.proofs.lemmas.List.Elements.{filter-append}
use mathlib.Core.List.{IsPrefix}
use mathlib.Core.Logic.{dite}
use native.Mathlib.Decide.{dec_le}
use Rattle.pj_machine.specs.declared.journal.Entry.{Entry}
use Rattle.pj_machine.specs.declared.limits.Limits.{Limits}
use Rattle.pj_machine.specs.Call.{PassView, IsFresh, entries_of}
use Rattle.pj_session.proofs.Accepting.{none_before}
use Rattle.pj_load.specs.declared.seats.Seat.{Seat}
use Rattle.pj_load.specs.Speech.{Speech}
use Rattle.pj_load.specs.Seats.{Enters, HasSpoken, IsSeatOf, AreSeats}

-- the session of a seat when it has ended: no entry of its pass stands in the prelude
pub record IsSpokenSeat {T : Type 0} (view : T → PassView) (limits : Limits) (prelude : List Entry) (i : ℕ) (script : List ℕ) (seat : Seat T) : Type 0 where
  pub number : (view seat.pass).number ≡ i + 2
  pub none : entries_of (i + 2) prelude ≡ []
  pub speech : Speech Enters limits (record { all = true }) seat.seen (view seat.pass) script seat.end

-- the sessions when they have ended
pub record AreSpoken {T : Type 0} (view : T → PassView) (limits : Limits) (prelude : List Entry) (scripts : List (List ℕ)) (seats : List (Seat T)) : Type 0 where
  pub as_many : length seats ≡ length scripts
  pub each : (i : ℕ) (d : List ℕ) (s : Seat T) → i < length seats → IsSpokenSeat view limits prelude i (get_or scripts i d) (get_or seats i s)

-- a front of a journal in which a pass has no entry has none of it
pub none_within : (front whole : List Entry) (pass : ℕ) → IsPrefix front whole → entries_of pass whole ≡ [] → entries_of pass front ≡ []
none_within front whole pass begins none =
    none_before (entries_of pass front) (entries_of pass begins.0)
    (sym (filter-append (λ e. e.pass == pass) front begins.0) ∙ ap (λ l. entries_of pass l) begins.1 ∙ none)

-- what stands at a place of a list
pub element : {X : Type 0} (xs : List X) (i : ℕ) → i < length xs → (x : X) × ((d : X) → get_or xs i d ≡ x)
element [] i lt = absurd (omega arith)
element (x ∷ xs) zero lt = (x, λ d. refl)
element (x ∷ xs) (suc i) lt = element xs i (omega arith)

-- fronts of journals
pub prefix_itself : (a : List Entry) → IsPrefix a a
prefix_itself a = ([], append-nil a)

pub prefix_further : (a b c : List Entry) → IsPrefix a b → IsPrefix b c → IsPrefix a c
prefix_further a b c x y = (x.0 ++ y.0, sym (append_assoc a x.0 y.0) ∙ ap (λ l. l ++ y.0) x.1 ∙ y.1)

-- the first element of what is left of a list, and the rest
pub next_left : {X : Type 0} (xs : List X) (n : ℕ) (x : X) (rest : List X) → x ∷ rest ≡ drop n xs → ((d : X) → get_or xs n d ≡ x) × (rest ≡ drop (suc n) xs)
next_left [] zero x rest e = cc
next_left [] (suc n) x rest e = cc
next_left (y ∷ xs) zero x rest e = let head : x ≡ y = cc in let tail : rest ≡ xs = cc in (λ d. sym head, tail)
next_left (y ∷ xs) (suc n) x rest e = next_left xs n x rest e

module _ {T : Type 0} (view : T → PassView) (limits : Limits) (prelude : List Entry) where
  spoken_seat : (i : ℕ) (script : List ℕ) (x y : Seat T) → IsSeatOf view prelude i script x → HasSpoken view limits x y → IsSpokenSeat view limits prelude i script y
  spoken_seat i script x y seat spoken = record {
    number = spoken.number ∙ seat.number;
    none = none_within prelude (view x.pass).journal (i + 2) seat.begins (ap (λ n. entries_of n (view x.pass).journal) (sym seat.number) ∙ seat.fresh.own);
    speech =
        let seen : x.seen ≡ record { all = true } = ap (λ b. record { all = b }) seat.none_seen in
        subst (λ s. Speech Enters limits s y.seen (view y.pass) script y.end) seen
        (subst (λ t. Speech Enters limits x.seen y.seen (view y.pass) t y.end) seat.script_is spoken.speech);
  }

  pub are_spoken : (scripts : List (List ℕ)) (seats seats' : List (Seat T)) → length seats' ≡ length seats
      → ((i : ℕ) (d : Seat T) → i < length seats → HasSpoken view limits (get_or seats i d) (get_or seats' i d)) → AreSeats view prelude scripts seats → AreSpoken view limits prelude scripts seats'
  are_spoken scripts seats seats' long spoken before = record {
    as_many = long ∙ before.as_many;
    each = λ i d s lt. let inside : i < length seats = (let l = long in omega arith) in spoken_seat i (get_or scripts i d) (get_or seats i s) (get_or seats' i s) (before.each i d s inside) (spoken i s inside);
  }

-- ---- seats are made one by one

module _ {T : Type 0} (view : T → PassView) (prelude : List Entry) where
  -- of all scripts the first have their seats, and these are left
  pub record SeatedSoFar (all : List (List ℕ)) (seats : List (Seat T)) (left : List (List ℕ)) : Type 0 where
    pub count : length seats + length left ≡ length all
    pub left_is : left ≡ drop (length seats) all
    pub each : (i : ℕ) (d : List ℕ) (s : Seat T) → i < length seats → IsSeatOf view prelude i (get_or all i d) (get_or seats i s)

  pub none_seated : (all : List (List ℕ)) (seats : List (Seat T)) → seats ≡ [] → SeatedSoFar all seats all
  none_seated all seats none = subst (λ l. SeatedSoFar all l all) (sym none) (record { count = omega arith; left_is = refl; each = λ i d s lt. absurd (omega arith) })

  pub one_seated : (all : List (List ℕ)) (seats seats' : List (Seat T)) (left left' : List (List ℕ)) (seat : Seat T) → SeatedSoFar all seats left → seats' ≡ seats ++ seat ∷ [] → left ≡ seat.script ∷ left'
      → (view seat.pass).number ≡ length seats + 2 → IsFresh (view seat.pass) → IsPrefix prelude (view seat.pass).journal → seat.seen.all ≡ true → SeatedSoFar all seats' left'
  one_seated all seats seats' left left' seat before made taken number fresh begins seen =
      let size : length seats' ≡ length seats + 1 = ap (λ (l : List (Seat T)). length l) made ∙ length_push seats seat in
      let fewer : length left ≡ length left' + 1 = ap (λ (l : List (List ℕ)). length l) taken ∙ (omega arith) in
      let count = before.count in
      let next = next_left all (length seats) seat.script left' (sym taken ∙ before.left_is) in
      let here : (d : List ℕ) → IsSeatOf view prelude (length seats) (get_or all (length seats) d) seat = λ d. record { number = number; fresh = fresh; begins = begins; script_is = sym (next.0 d); none_seen = seen } in
      record {
        count = omega arith;
        left_is = next.1 ∙ (let same : suc (length seats) ≡ length seats' = omega arith in ap (λ n. drop n all) same);
        each = λ i d s lt. dite (dec_le (length seats) i)
            (λ le. let at : length seats ≡ i = omega (arith, le) in
            let seat_is : seat ≡ get_or seats' i s = sym (get_or_push seats seat s (length seats) refl) ∙ ap (λ l. get_or l (length seats) s) (sym made) ∙ ap (λ n. get_or seats' n s) at in
            subst (λ x. IsSeatOf view prelude i (get_or all i d) x) seat_is (subst (λ n. IsSeatOf view prelude n (get_or all n d) seat) at (here d)))
            (λ below. let under : i < length seats = omega (arith, below) in
            let seat_is : get_or seats i s ≡ get_or seats' i s = sym (get_or_append_left seats (seat ∷ []) s i under) ∙ ap (λ l. get_or l i s) (sym made) in
            subst (λ x. IsSeatOf view prelude i (get_or all i d) x) seat_is (before.each i d s under));
      }

  pub all_seated : (all : List (List ℕ)) (seats : List (Seat T)) (left : List (List ℕ)) → SeatedSoFar all seats left → left ≡ [] → AreSeats view prelude all seats
  all_seated all seats left so_far none = (let count = so_far.count in let l : length left ≡ 0 = ap (λ (t : List (List ℕ)). length t) none in record { as_many = omega arith; each = so_far.each })

  pub all_fresh : (all : List (List ℕ)) (seats : List (Seat T)) → AreSeats view prelude all seats → (k : ℕ) (d : Seat T) → k < length seats → IsFresh (view (get_or seats k d).pass)
  all_fresh all seats s k d lt = (s.each k [] d lt).fresh
