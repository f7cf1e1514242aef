-- Seats are made one by one.
use Rattle.std.proofs.Common.{◌≡◌, ℕ, suc, ◌+◌, ◌<◌, List, [], ◌∷◌, ◌++◌, length, get_or, drop, refl, sym, ◌∙◌, ap, subst, arith}
use Rattle.std.proofs.lemmas.List.{get_or_append_left, get_or_push, length_push}
use mathlib.Core.Logic.{dite}
use native.Mathlib.Decide.{dec_le}
use Rattle.pj_machine.specs.Call.{PassView, IsFresh}
use Rattle.pj_load.proofs.SeatRows.{element, next_left}
use Rattle.pj_serve.specs.declared.opening.Opened.{Opened}
use Rattle.pj_serve.specs.declared.sessions.Seat.{Seat}
use Rattle.pj_serve.specs.Seats.{IsSeatOf, Seated}

module _ {T S D : Type 0} (view : T → PassView) (all : List (Opened S D)) where
  pub seated_none : (seats : List (Seat T S D)) → seats ≡ [] → Seated view all seats all
  seated_none seats none = subst (λ l. Seated view all l all) (sym none) (record {
    count = omega arith;
    left_is = refl;
    each = λ i o s lt. absurd (omega arith);
  })

  pub seated_more : (seats seats' : List (Seat T S D)) (left left' : List (Opened S D)) (seat : Seat T S D) (o : Opened S D) → Seated view all seats left → seats' ≡ seats ++ seat ∷ [] → left ≡ o ∷ left'
      → (view seat.pass).number ≡ 1 + length seats → IsFresh (view seat.pass) → seat.source ≡ o.source → seat.sink ≡ o.sink → Seated view all seats' left'
  seated_more seats seats' left left' seat o s made taken number fresh source sink =
      let size : length seats' ≡ length seats + 1 = ap (λ (l : List (Seat T S D)). length l) made ∙ length_push seats seat in
      let fewer : length left ≡ length left' + 1 = ap (λ (l : List (Opened S D)). length l) taken ∙ (omega arith) in
      let count = s.count in
      let next = next_left all (length seats) o left' (sym taken ∙ s.left_is) in
      let here : IsSeatOf view (length seats) o seat = record { number = omega arith; fresh = fresh; source = source; sink = sink } in
      record {
        count = omega arith;
        left_is = next.1 ∙ (let same : suc (length seats) ≡ length seats' = omega arith in ap (λ n. drop n all) same);
        each = λ i p q lt. dite (dec_le (length seats) i)
            (λ le. let at : length seats ≡ i = omega (arith, le) in
            let opened_is : o ≡ get_or all i p = sym (next.0 p) ∙ ap (λ n. get_or all n p) at in
            let seat_is : seat ≡ get_or seats' i q = sym (get_or_push seats seat q (length seats) refl) ∙ ap (λ l. get_or l (length seats) q) (sym made) ∙ ap (λ n. get_or seats' n q) at in
            subst (λ x. IsSeatOf view i (get_or all i p) x) seat_is (subst (λ x. IsSeatOf view i x seat) opened_is (subst (λ n. IsSeatOf view n o seat) at here)))
            (λ below. let under : i < length seats = omega (arith, below) in
            let seat_is : get_or seats i q ≡ get_or seats' i q = sym (get_or_append_left seats (seat ∷ []) q i under) ∙ ap (λ l. get_or l i q) (sym made) in
            subst (λ x. IsSeatOf view i (get_or all i p) x) seat_is (s.each i p q under));
      }

  -- each seat that was made is new
  pub fresh_at : (seats : List (Seat T S D)) → Seated view all seats [] → (k : ℕ) (d : Seat T S D) → k < length seats → IsFresh (view (get_or seats k d).pass)
  fresh_at seats s k d lt =
      let count = s.count in
      let opened = element all k (omega (arith, lt)) in
      (s.each k opened.0 d lt).fresh
