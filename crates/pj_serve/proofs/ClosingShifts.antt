-- The journal of the closed repository, and what workers did in it.
use Rattle.std.proofs.Common.{◌≡◌, ◌≢◌, ℕ, zero, suc, ◌+◌, ◌-◌, ◌<◌, ◌≤◌, List, [], ◌∷◌, ◌++◌, length, map, take, drop, get_or, refl, sym, ◌∙◌, ap, subst, inl, inr, arith, length-append}
use Rattle.std.specs.Prelude.{flat_map}
use Rattle.std.proofs.lemmas.List.{get_or-map, length-map, take-append-drop, drop_more, get_or_append_left, get_or-append_right}
use mathlib.Core.Logic.{dite}
use native.Mathlib.Decide.{dec_le}
use Rattle.pj_machine.specs.declared.journal.Entry.{Entry}
use Rattle.pj_machine.specs.declared.limits.Limits.{Limits}
use Rattle.pj_machine.specs.Call.{PassView, entries_of, own}
use Rattle.pj_machine.specs.Legal.{IsLegal}
use Rattle.pj_session.specs.declared.end.Ended.{Ended}
use Rattle.pj_session.specs.Served.{Served}
use Rattle.pj_session.proofs.Serving.{served_later}
use Rattle.pj_repo.specs.IsJournalOf.{HasOwn, IsJournalOf}
use Rattle.pj_serve.specs.declared.finish.Kept.{Kept}
use Rattle.pj_serve.specs.declared.working.Turn.{Turn}
use Rattle.pj_serve.specs.declared.working.Worker.{Worker}
use Rattle.pj_io.specs.Meanings.{Streams, Doors}
use Rattle.pj_load.specs.Seats.{AreNumbered}
use Rattle.pj_serve.specs.Shifts.{shift_of, own_ends, IsSessionAt, IsShift, AreShifts, IsPassOf, AreServed}
use Rattle.pj_serve.specs.Workers.{AreTurns, IsWorkerAt, AreWorkers, HasGiven, IsGiven, IsOwnEnd, HasWorked}
use Rattle.pj_serve.proofs.Closing.{entry_counts}
use Rattle.pj_load.proofs.SeatRows.{element}
use Rattle.pj_serve.proofs.WorkRows.{HaveWorked, NumberedFrom, numbered_append, as_many_turns, as_many_kept, number_at, unused_at, all_numbered_at}

-- what workers leave, one after the other
same_doors : {T S D V : Type 0} (ws : List (Worker T S D V)) → map (λ w. w.door) ws ≡ map (λ s. s.door) (map shift_of ws)
same_doors [] = refl
same_doors (w ∷ ws) = ap (λ l. w.door ∷ l) (same_doors ws)

same_kept : {T S D V : Type 0} (ws : List (Worker T S D V)) → flat_map (λ w. w.kept.items) ws ≡ flat_map (λ s. s.kept) (map shift_of ws)
same_kept [] = refl
same_kept (w ∷ ws) = ap (λ l. w.kept.items ++ l) (same_kept ws)

same_ends : {T S D V : Type 0} (ws : List (Worker T S D V)) → flat_map (λ w. w.ends.items) ws ≡ flat_map (λ s. s.ends) (map shift_of ws)
same_ends [] = refl
same_ends (w ∷ ws) = ap (λ l. w.ends.items ++ l) (same_ends ws)

module _ {T S D V : Type 0} (view : T → PassView) (doors : Doors V) (streams : Streams S D) (limits : Limits) (journal : List Entry) where
  -- the journal goes on from what each of these passes has seen
  abbrev OwnAll : List (Turn T) → Type 0
  OwnAll ts = (k : ℕ) (d : Turn T) → k < length ts → HasOwn journal (view (get_or ts k d).pass)

  own_front : (xs ys : List (Turn T)) → OwnAll (xs ++ ys) → OwnAll xs
  own_front xs ys all k d lt = subst (λ t. HasOwn journal (view t.pass)) (get_or_append_left xs ys d k lt) (all k d (let s = length-append xs ys in omega arith))

  own_behind : (xs ys : List (Turn T)) → OwnAll (xs ++ ys) → OwnAll ys
  own_behind xs ys all k d lt =
      let at = get_or-append_right xs ys (length xs) (k + length xs) d refl (omega arith) in
      let back : k + length xs - length xs ≡ k = omega arith in
      subst (λ t. HasOwn journal (view t.pass)) (at ∙ ap (λ n. get_or ys n d) back) (all (k + length xs) d (let s = length-append xs ys in omega arith))

  module _ (first : ℕ) (v : V) (a b : Worker T S D V) (at : IsWorkerAt view doors first v a) (w : HasWorked view doors streams limits a b) (all : OwnAll b.turns.items) where
    session_at : (k : ℕ) (r : Kept S D) (e : Ended) → k < length b.kept.items → IsSessionAt doors streams limits journal v k (first + k) (get_or b.kept.items k r) (get_or b.ends.items k e)
    session_at k r e lt =
        let few = as_many_kept view doors streams limits first v a b at w in
        let many = as_many_turns view doors streams limits first v a b at w in
        let d = element b.turns.items k (omega arith) in
        let t = at.turns k d.0 (let m = w.working.as_many_turns in omega arith) in
        let one = w.working.each k d.0 d.0 r e lt in
        let q = view (get_or b.turns.items k d.0).pass in
        let has = all k d.0 (omega arith) in
        let number : q.number ≡ first + k = number_at view doors streams limits first v a b at w k d.0 (omega arith) in
        record {
          opened = one.opened;
          given = subst (λ x. IsGiven doors streams x k one.opened) at.door_is one.given;
          kept_pass = one.kept_pass ∙ t.number_is;
          ended_pass = one.ended_pass ∙ t.number_is;
          served = subst (λ n. Served streams limits journal n one.opened.source (get_or b.kept.items k r).source one.opened.sink (get_or b.kept.items k r).sink (get_or b.ends.items k e).end) number
              (served_later ⊥ streams limits q.journal journal q.number _ _ _ _ _ has.begins has.own one.spoken.served);
        }

    shift_at : IsShift doors streams limits journal first v (shift_of b)
    shift_at = record {
      own = subst (λ x. IsOwnEnd doors x b.door b.own) at.door_is w.own;
      as_many_kept = as_many_kept view doors streams limits first v a b at w;
      as_many_ends = w.working.as_many_ends;
      door_gave = subst (λ x. HasGiven doors x b.door (length b.kept.items)) at.door_is w.door;
      each = session_at;
    }

  shifts_at : (first : ℕ) (vs : List V) (ws ws' : List (Worker T S D V)) → AreWorkers view doors first vs ws → HaveWorked view doors streams limits ws ws' → OwnAll (flat_map (λ w. w.turns.items) ws') → AreShifts doors streams limits journal first vs (map shift_of ws')
  shifts_at first [] [] [] h w all = tt
  shifts_at first [] [] (b ∷ ws') h w all = absurd w
  shifts_at first [] (a ∷ ws) ws' h w all = absurd h
  shifts_at first (v ∷ vs) [] ws' h w all = absurd h
  shifts_at first (v ∷ vs) (a ∷ ws) [] h w all = absurd w
  shifts_at first (v ∷ vs) (a ∷ ws) (b ∷ ws') h w all = (
    shift_at first v a b h.0 w.0 (own_front b.turns.items (flat_map (λ x. x.turns.items) ws') all),
    shifts_at (first + doors.left v) vs ws ws' h.1 w.1 (own_behind b.turns.items (flat_map (λ x. x.turns.items) ws') all),
  )

  -- an entry of a pass of the workers is of a pass that had a session
  in_shifts : (first : ℕ) (vs : List V) (ws ws' : List (Worker T S D V)) → AreWorkers view doors first vs ws → HaveWorked view doors streams limits ws ws' → OwnAll (flat_map (λ w. w.turns.items) ws')
      → (p : ℕ) → 0 < length (entries_of p journal) → first ≤ p → p < first + length (flat_map (λ w. w.turns.items) ws') → IsPassOf doors first vs (map shift_of ws') p
  in_shifts first [] [] [] h w all p some le lt = absurd (omega arith)
  in_shifts first [] [] (b ∷ ws') h w all p some le lt = absurd w
  in_shifts first [] (a ∷ ws) ws' h w all p some le lt = absurd h
  in_shifts first (v ∷ vs) [] ws' h w all p some le lt = absurd h
  in_shifts first (v ∷ vs) (a ∷ ws) [] h w all p some le lt = absurd w
  in_shifts first (v ∷ vs) (a ∷ ws) (b ∷ ws') h w all p some le lt =
      let rest = flat_map (λ x. x.turns.items) ws' in
      let size = length-append b.turns.items rest in
      let many = as_many_turns view doors streams limits first v a b h.0 w.0 in
      let k : ℕ = p - first in
      let p_is : first + k ≡ p = omega (arith, le) in
      dite (dec_le (first + length b.turns.items) p)
      (λ above. inr (in_shifts (first + doors.left v) vs ws ws' h.1 w.1 (own_behind b.turns.items rest all) p some (omega (arith, above)) (omega (arith, lt, above))))
      (λ not. let within : k < length b.turns.items = omega (arith, not, p_is) in
      let d = element b.turns.items k within in
      let has = own_front b.turns.items rest all k d.0 within in
      let number : (view (get_or b.turns.items k d.0).pass).number ≡ p = number_at view doors streams limits first v a b h.0 w.0 k d.0 within ∙ p_is in
      dite (dec_le (length b.kept.items) k)
      (λ unused. let none : entries_of p journal ≡ [] = ap (λ n. entries_of n journal) (sym number) ∙ has.own ∙ unused_at view doors streams limits first v a b h.0 w.0 k d.0 within unused in
      let gone = ap (λ (l : List Entry). length l) none in absurd (omega arith))
      (λ used. inl (le, (omega (arith, used, p_is)))))

-- the views of passes that stand behind one another
views : {T : Type 0} (view : T → PassView) (ts : List (Turn T)) → map view (map (λ t. t.pass) ts) ≡ map (λ t. view t.pass) ts
views view [] = refl
views view (t ∷ ts) = ap (λ l. view t.pass ∷ l) (views view ts)

module _ {T S D V : Type 0} (view : T → PassView) (doors : Doors V) (streams : Streams S D) (limits : Limits) (vs : List V) (ws ws' : List (Worker T S D V)) (own_turns : List (Turn T))
    (own_are : AreTurns view 1 own_turns) (one_each : length own_turns ≡ length vs)
    (at : AreWorkers view doors (1 + length vs) vs ws) (worked : HaveWorked view doors streams limits ws ws') where
  -- the passes of the workers, and then those of their sessions
  abbrev pub all_turns : List (Turn T)
  all_turns = own_turns ++ flat_map (λ w. w.turns.items) ws'

  numbered_all : NumberedFrom view doors streams limits 1 all_turns
  numbered_all = numbered_append view doors streams limits 1 own_turns (flat_map (λ w. w.turns.items) ws')
      (λ k d lt. (own_are k d lt).of_pass)
      (subst (λ n. NumberedFrom view doors streams limits (1 + n) (flat_map (λ w. w.turns.items) ws')) (sym one_each) (all_numbered_at view doors streams limits (1 + length vs) vs ws ws' at worked))

  pub numbered_row : (first : PassView) → first.number ≡ 0 → AreNumbered (first ∷ map view (map (λ t. t.pass) all_turns))
  numbered_row first is zero d lt = is
  numbered_row first is (suc i) d lt =
      let size : length (map view (map (λ t. t.pass) all_turns)) ≡ length all_turns = length-map (map (λ t. t.pass) all_turns) view ∙ length-map all_turns (λ t. t.pass) in
      let x = element all_turns i (omega arith) in
      let number : (get_or (map view (map (λ t. t.pass) all_turns)) i d).number ≡ 1 + i = ap (λ l. (get_or l i d).number) (views view all_turns)
      ∙ ap (λ p. p.number) (get_or-map (λ t. view t.pass) all_turns i x.0 d (omega arith))
      ∙ numbered_all i x.0 (omega arith) in
      number ∙ omega arith

  pub as_many_passes : (first : T) → length (first ∷ map (λ t. t.pass) all_turns) ≡ 1 + (length vs + length (flat_map (λ w. w.turns.items) ws'))
  as_many_passes first = let m = length-map all_turns (λ t. t.pass) in let s = length-append own_turns (flat_map (λ w. w.turns.items) ws') in let e = one_each in omega arith

  module _ (journal : List Entry) (first : PassView) (is : IsJournalOf journal (first ∷ map view (map (λ t. t.pass) all_turns))) (number : first.number ≡ 0) (nothing : own first ≡ []) where
    abbrev row : List PassView
    row = first ∷ map view (map (λ t. t.pass) all_turns)

    as_many_row : length row ≡ 1 + length all_turns
    as_many_row = let m = length-map (map (λ t. t.pass) all_turns) view in let n = length-map all_turns (λ t. t.pass) in omega (arith, m, n)

    own_all : OwnAll view doors streams limits journal all_turns
    own_all k d lt =
        let at_k : get_or row (suc k) first ≡ view (get_or all_turns k d).pass =
        ap (λ l. get_or l k first) (views view all_turns) ∙ get_or-map (λ t. view t.pass) all_turns k d first lt in
        subst (λ p. HasOwn journal p) at_k (is.each (suc k) first (let m = as_many_row in omega arith))

    -- a pass with an entry is that of a session
    in_row : (p : ℕ) → 0 < length (entries_of p journal) → IsPassOf doors (1 + length vs) vs (map shift_of ws') p
    in_row p some =
        let none_of_own : (q : ℕ) → entries_of q journal ≡ [] → q ≢ p = λ q none same.
        let gone = ap (λ (l : List Entry). length l) (ap (λ n. entries_of n journal) (sym same) ∙ none) in absurd (omega arith) in
        let not_first : p ≢ 0 = λ zero'. none_of_own 0 (ap (λ n. entries_of n journal) (sym number) ∙ (is.each 0 first (let m = as_many_row in omega arith)).own ∙ nothing) (sym zero') in
        let size = length-append own_turns (flat_map (λ w. w.turns.items) ws') in
        let not_own : length vs < p = dite (dec_le p (length vs))
        (λ le. let positive : 0 < p = dite (dec_le 1 p) (λ h. omega (arith, h)) (λ h. absurd (not_first (omega (arith, h)))) in
        let k : ℕ = p - 1 in
        let p_is : 1 + k ≡ p = omega (arith, positive) in
        let within : k < length own_turns = (let e = one_each in omega (arith, le, p_is)) in
        let d = element own_turns k within in
        let t = own_are k d.0 within in
        let has = own_front view doors streams limits journal own_turns (flat_map (λ w. w.turns.items) ws') own_all k d.0 within in
        absurd (none_of_own (view (get_or own_turns k d.0).pass).number (has.own ∙ t.fresh.own) (t.of_pass ∙ p_is)))
        (λ above. omega (arith, above)) in
        let below : p < 1 + length all_turns = dite (dec_le (1 + length all_turns) p)
        (λ above. let none : entries_of p journal ≡ [] = is.others p (λ has.
        let many : length (map (λ x. x.number) row) ≡ 1 + length all_turns = length-map row (λ x. x.number) ∙ as_many_row in
        let inside : has.0 < length row = (let h = has.1 in let m = as_many_row in omega arith) in
        let value : get_or (map (λ x. x.number) row) has.0 p ≡ has.0 = get_or-map (λ x. x.number) row has.0 first p inside ∙ numbered_row first number has.0 first inside in
        let h = has.1 in let e = has.2 in
        absurd (omega (arith, above))) in
        let gone = ap (λ (l : List Entry). length l) none in absurd (omega arith))
        (λ not. omega (arith, not)) in
        in_shifts view doors streams limits journal (1 + length vs) vs ws ws' at worked (own_behind view doors streams limits journal own_turns (flat_map (λ w. w.turns.items) ws') own_all) p some (omega (arith, not_own))
        (let e = one_each in omega (arith, below))

    pub are_served : (left : List V) (kept : List (Kept S D)) (ends : List Ended)
        → left ≡ map (λ w. w.door) ws' → kept ≡ flat_map (λ w. w.kept.items) ws' → ends ≡ own_ends 1 (map shift_of ws') ++ flat_map (λ w. w.ends.items) ws'
        → IsLegal limits journal → AreServed doors streams limits journal vs left kept ends
    are_served left kept ends left_is kept_is ends_is legal = record {
      shifts = map shift_of ws';
      each = shifts_at view doors streams limits journal (1 + length vs) vs ws ws' at worked (own_behind view doors streams limits journal own_turns (flat_map (λ w. w.turns.items) ws') own_all);
      legal = legal;
      of_sessions = λ k d lt.
          let e : Entry = get_or journal k d in
          let stands : journal ≡ take k journal ++ e ∷ drop (k + 1) journal = sym (take-append-drop k journal) ∙ ap (λ t. take k journal ++ t) (drop_more journal k d lt) in
          in_row e.pass (subst (λ j. 0 < length (entries_of e.pass j)) (sym stands) (entry_counts (take k journal) (drop (k + 1) journal) e));
      doors_are = left_is ∙ same_doors ws';
      kept_are = kept_is ∙ same_kept ws';
      ends_are = ends_is ∙ ap (λ l. own_ends 1 (map shift_of ws') ++ l) (same_ends ws');
    }
