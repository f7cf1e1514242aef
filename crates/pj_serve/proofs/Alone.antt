-- A pass that has the journal to itself.
use Rattle.std.proofs.Common.{◌≡◌, ◌≢◌, ◌==◌, ℕ, zero, suc, ◌+◌, ◌<◌, ◌≤◌, Bool, true, false, cond, List, [], ◌∷◌, ◌++◌, length, take, get_or, All, Some, None, refl, sym, ◌∙◌, ap, subst, inl, inr, arith, eq-eqb, append_assoc, append-nil, length-append}
use Rattle.std.specs.List.{filter}
use Rattle.std.proofs.lemmas.List.Elements.{All-head, All-tail}
use mathlib.Core.Logic.{dite}
use native.Mathlib.Decide.{dec_le}
use Rattle.pj_machine.specs.declared.command.Command.{Command}
use Rattle.pj_machine.specs.declared.command.Write.{Write}
use Rattle.pj_machine.specs.declared.journal.Entry.{Entry}
use Rattle.pj_machine.specs.declared.limits.Limits.{Limits}
use Rattle.pj_machine.specs.declared.reply.Numbered.{Numbered}
use Rattle.pj_machine.specs.declared.reply.Numbered.TheVariants.{At, NoMemory}
use Rattle.pj_machine.specs.declared.reply.Reply.{Reply}
use Rattle.pj_machine.specs.Answer.{IsAnswer}
use Rattle.pj_machine.specs.Call.{entry, entries_of, entries_at, IsResult, WasEntered, WasSeen}
use Rattle.pj_machine.proofs.OneAnswer.{answer_one}
use Rattle.pj_session.specs.declared.end.End.TheVariants.{Done}
use Rattle.pj_session.specs.Session.{IsSession}
use Rattle.pj_session.specs.Spoke.{Spoke, AreResults, IsPlaced, IsOfFirst, place_after}
use Rattle.pj_wire.specs.Replies.{written}
use Rattle.pj_wire.specs.Requests.{spellings, quitting, HasRequests}
use Rattle.pj_wire.proofs.Readings.{one_reading}
use Rattle.pj_serve.specs.Laws.{with_entry, RepliesInTurn, HasPlace, IsAlone}

-- ---- entries of one call

module _ (call : ℕ) where
  -- how many entries of the call there are
  abbrev of_call : List Entry → ℕ
  of_call es = length (entries_at 1 call es)

  counted : (e : Entry) (es : List Entry) → e.pass ≡ 1 → e.call ≡ call → of_call (e ∷ es) ≡ suc (of_call es)
  counted e es p c =
      ap (λ b. length (filter (λ x. x.call == call) (cond b (e ∷ entries_of 1 es) (entries_of 1 es)))) (eq-eqb e.pass 1 p)
      ∙ ap (λ b. length (cond b (e ∷ entries_at 1 call es) (entries_at 1 call es))) (eq-eqb e.call call c)

  no_fewer : (e : Entry) (es : List Entry) → of_call es ≤ of_call (e ∷ es)
  no_fewer e es = by_pass (e.pass == 1)
    where
      by_call : (b : Bool) → of_call es ≤ length (cond b (e ∷ entries_at 1 call es) (entries_at 1 call es))
      by_call true = omega arith
      by_call false = omega arith

      by_pass : (b : Bool) → of_call es ≤ length (filter (λ x. x.call == call) (cond b (e ∷ entries_of 1 es) (entries_of 1 es)))
      by_pass true = by_call (e.call == call)
      by_pass false = omega arith

  -- an entry of the call is counted
  some_of_call : (es : List Entry) (k : ℕ) (d : Entry) → k < length es → (get_or es k d).pass ≡ 1 → (get_or es k d).call ≡ call → 0 < of_call es
  some_of_call [] k d lt p c = absurd (omega arith)
  some_of_call (e ∷ es) zero d lt p c = let h = counted e es p c in omega arith
  some_of_call (e ∷ es) (suc k) d lt p c = let h = some_of_call es k d (omega arith) p c in let m = no_fewer e es in omega arith

  -- one entry of the call stands at one place
  one_place : (es : List Entry) (k l : ℕ) (d : Entry) → of_call es ≤ 1 → k < length es → l < length es → (get_or es k d).pass ≡ 1 → (get_or es k d).call ≡ call → (get_or es l d).pass ≡ 1 → (get_or es l d).call ≡ call → k ≡ l
  one_place [] k l d few lt lt' p c p' c' = absurd (omega arith)
  one_place (e ∷ es) zero zero d few lt lt' p c p' c' = refl
  one_place (e ∷ es) zero (suc l) d few lt lt' p c p' c' = let h = counted e es p c in let m = some_of_call es l d (omega arith) p' c' in absurd (omega arith)
  one_place (e ∷ es) (suc k) zero d few lt lt' p c p' c' = let h = counted e es p' c' in let m = some_of_call es k d (omega arith) p c in absurd (omega arith)
  one_place (e ∷ es) (suc k) (suc l) d few lt lt' p c p' c' = let m = no_fewer e es in ap suc (one_place es k l d (omega arith) (omega arith) (omega arith) p c p' c')

-- what stands behind a front
at_front : {A : Type 0} (front : List A) (x : A) (rest : List A) (d : A) → get_or (front ++ x ∷ rest) (length front) d ≡ x
at_front [] x rest d = refl
at_front (y ∷ front) x rest d = at_front front x rest d

take_front : {A : Type 0} (front rest : List A) → take (length front) (front ++ rest) ≡ front
take_front [] rest = refl
take_front (x ∷ front) rest = ap (λ t. x ∷ t) (take_front front rest)

take_one_more : {A : Type 0} (front : List A) (x : A) (rest : List A) → take (suc (length front)) (front ++ x ∷ rest) ≡ front ++ x ∷ []
take_one_more [] x rest = refl
take_one_more (y ∷ front) x rest = ap (λ t. y ∷ t) (take_one_more front x rest)

-- the entries of pass 1 are all
all_of_one : (es : List Entry) → All (λ e. e.pass ≡ 1) es → entries_of 1 es ≡ es
all_of_one [] all = refl
all_of_one (e ∷ es) all =
    ap (λ b. cond b (e ∷ entries_of 1 es) (entries_of 1 es)) (eq-eqb e.pass 1 (All-head (λ e. e.pass ≡ 1) e es all))
    ∙ ap (λ t. e ∷ t) (all_of_one es (All-tail (λ e. e.pass ≡ 1) e es all))

-- ---- the places of calls

module _ (limits : Limits) (journal : List Entry) (of_one : All (λ e. e.pass ≡ 1) journal) where
  -- an entry of the call stands at the place of its reply
  entered_at : (call place k : ℕ) (x : Command) (reply : Reply) (d : Entry) → WasEntered limits journal 1 call place x reply → k < length journal → (get_or journal k d).call ≡ call → place ≡ k + 1
  entered_at call place k x reply d w lt is =
      let e : Entry = entry 1 call w.write in
      let size : length journal ≡ length w.before + length (e ∷ w.after) = ap (λ (t : List Entry). length t) w.stands ∙ length-append w.before (e ∷ w.after) in
      let here : get_or journal (length w.before) d ≡ e = ap (λ t. get_or t (length w.before) d) w.stands ∙ at_front w.before e w.after d in
      let one : of_call call journal ≡ 1 = ap (λ (t : List Entry). length t) w.once in
      let same = one_place call journal k (length w.before) d (omega arith) lt (omega arith) (of_one k d lt) is (ap (λ z. z.pass) here) (ap (λ z. z.call) here) in
      let at = w.at in
      omega arith

  -- an entry of a later call stands behind all places so far
  later_place : (call low : ℕ) (xs : List Command) (rs : List Numbered) → AreResults limits journal 1 call low xs rs
      → (k : ℕ) (d : Entry) → k < length journal → call ≤ (get_or journal k d).call → (get_or journal k d).call < call + length xs → low ≤ k
  later_place call low [] [] m k d lt le below = absurd (omega arith)
  later_place call low [] (r ∷ rs) m k d lt le below = absurd m
  later_place call low (x ∷ xs) [] m k d lt le below = absurd m
  later_place call low (x ∷ xs) (r ∷ rs) m k d lt le below =
      dite (dec_le (call + 1) (get_or journal k d).call)
      (λ above. let h = later_place (call + 1) (place_after low r) xs rs m.2 k d lt above (omega arith) in let n = no_lower r m.1 in omega arith)
      (λ not. let is : (get_or journal k d).call ≡ call = omega (arith, le, not) in here r m.0 m.1 is)
    where
      no_lower : (r : Numbered) → IsPlaced journal 1 call low r → low ≤ place_after low r
      no_lower (At place reply) p = p.0
      no_lower NoMemory p = omega arith

      some : (get_or journal k d).call ≡ call → 0 < of_call call journal
      some is = some_of_call call journal k d lt (of_one k d lt) is

      some_entry : (get_or journal k d).call ≡ call → entries_at 1 call journal ≢ []
      some_entry is none = let s = some is in let size : of_call call journal ≡ 0 = ap (λ (t : List Entry). length t) none in absurd (omega arith)

      here : (r : Numbered) → IsResult limits journal 1 call x r → IsPlaced journal 1 call low r → (get_or journal k d).call ≡ call → low ≤ k
      here (At place reply) result placed is =
          elim result [
            | inl w ↦ let at = entered_at call place k x reply d w lt is in let above = placed.1 (some_entry is) in omega arith
            | inr s ↦ absurd (some_entry is s.none)
          ]
      here NoMemory none placed is = absurd (some_entry is none)

  -- the entries from this place on are of the calls from this one on
  abbrev From : ℕ → ℕ → Type 0
  From low call = (k : ℕ) (d : Entry) → low ≤ k → k < length journal → call ≤ (get_or journal k d).call

  abbrev Below : ℕ → Type 0
  Below calls = (k : ℕ) (d : Entry) → k < length journal → (get_or journal k d).call < calls

  module _ (call low : ℕ) (x : Command) (xs : List Command) (rs : List Numbered) (from : From low call) (below : Below (call + length (x ∷ xs))) (place : ℕ) (reply : Reply) (later : AreResults limits journal 1 (call + 1) place xs rs) where
    -- a reply to what was not entered numbers the last place
    seen_place : low ≤ place → (s : WasSeen limits journal 1 call place x reply) → place ≡ low
    seen_place le s =
        dite (dec_le place low) (λ h. omega (arith, le, h))
        (λ above. let size : length journal ≡ length s.before + length s.after = ap (λ (t : List Entry). length t) s.stands ∙ length-append s.before s.after in
        let at = s.at in
        let inside : low < length journal = omega arith in
        let d : Entry = entry 1 call (any journal inside) in
        let first = from low d (omega arith) inside in
        let other : (get_or journal low d).call ≢ call = λ is. let some = some_of_call call journal low d inside (of_one low d inside) is in let none : of_call call journal ≡ 0 = ap (λ (t : List Entry). length t) s.none in absurd (omega arith) in
        let next : call + 1 ≤ (get_or journal low d).call = dite (dec_le (call + 1) (get_or journal low d).call) (λ h. h) (λ no. absurd (other (omega (arith, no, first)))) in
        let h = later_place (call + 1) place xs rs later low d inside next (let b = below low d inside in omega arith) in
        absurd (omega arith))
      where
        any : (es : List Entry) → low < length es → Write
        any [] lt = absurd (omega arith)
        any (e ∷ es) lt = e.write

    -- a reply to what was entered numbers the next one
    entered_place : low < place → (w : WasEntered limits journal 1 call place x reply) → length w.before ≡ low
    entered_place lt w =
        let at = w.at in
        let e : Entry = entry 1 call w.write in
        let size : length journal ≡ length w.before + length (e ∷ w.after) = ap (λ (t : List Entry). length t) w.stands ∙ length-append w.before (e ∷ w.after) in
        dite (dec_le (length w.before) low) (λ h. omega (arith, h))
        (λ above. let inside : low < length journal = omega arith in
        let first = from low e (omega arith) inside in
        let other : (get_or journal low e).call ≢ call = λ is. let same = entered_at call place low x reply e w inside is in absurd (omega arith) in
        let next : call + 1 ≤ (get_or journal low e).call = dite (dec_le (call + 1) (get_or journal low e).call) (λ h. h) (λ no. absurd (other (omega (arith, no, first)))) in
        let h = later_place (call + 1) place xs rs later low e inside next (let b = below low e inside in omega arith) in
        absurd (omega arith))

  replies_from : (call low : ℕ) (xs : List Command) (rs : List Numbered) → AreResults limits journal 1 call low xs rs → All HasPlace rs → From low call → Below (call + length xs) → RepliesInTurn limits (take low journal) call xs rs
  replies_from call low [] [] m at from below = tt
  replies_from call low [] (r ∷ rs) m at from below = absurd m
  replies_from call low (x ∷ xs) [] m at from below = absurd m
  replies_from call low (x ∷ xs) (NoMemory ∷ rs) m at from below = absurd (All-head HasPlace NoMemory rs at)
  replies_from call low (x ∷ xs) (At place reply ∷ rs) m at from below =
      let again : (p : ℕ) → AreResults limits journal 1 (call + 1) p xs rs → From p (call + 1) → RepliesInTurn limits (take p journal) (call + 1) xs rs = λ p results others. replies_from (call + 1) p xs rs results (All-tail HasPlace (At place reply) rs at) others later_below in
      elim m.0 [ inl w ↦ entered again w | inr s ↦ seen again s ]
    where
      later_below : Below (call + 1 + length xs)
      later_below k d lt = let b = below k d lt in omega arith

      seen : ((p : ℕ) → AreResults limits journal 1 (call + 1) p xs rs → From p (call + 1) → RepliesInTurn limits (take p journal) (call + 1) xs rs) → WasSeen limits journal 1 call place x reply → RepliesInTurn limits (take low journal) call (x ∷ xs) (At place reply ∷ rs)
      seen again s =
          let is : place ≡ low = seen_place call low x xs rs from below place reply m.2 m.1.0 s in
          let before : s.before ≡ take low journal = sym (take_front s.before s.after) ∙ ap (λ t. take (length s.before) t) (sym s.stands) ∙ ap (λ n. take n journal) (sym s.at ∙ is) in
          let size : length journal ≡ length s.before + length s.after = ap (λ (t : List Entry). length t) s.stands ∙ length-append s.before s.after in
          let at_low : length (take low journal) ≡ low = sym (ap (λ (t : List Entry). length t) before) ∙ sym s.at ∙ is in
          let other : From low (call + 1) = λ k d le lt. dite (dec_le (call + 1) (get_or journal k d).call) (λ h. h)
          (λ no. let first = from k d le lt in let is_call : (get_or journal k d).call ≡ call = omega (arith, no, first) in
          let some = some_of_call call journal k d lt (of_one k d lt) is_call in let none : of_call call journal ≡ 0 = ap (λ (t : List Entry). length t) s.none in absurd (omega arith)) in (
            None,
            subst (λ b. IsAnswer limits b x reply None) before s.answer,
            is ∙ sym at_low,
            again low (subst (λ p. AreResults limits journal 1 (call + 1) p xs rs) is m.2) other,
          )

      entered : ((p : ℕ) → AreResults limits journal 1 (call + 1) p xs rs → From p (call + 1) → RepliesInTurn limits (take p journal) (call + 1) xs rs) → WasEntered limits journal 1 call place x reply → RepliesInTurn limits (take low journal) call (x ∷ xs) (At place reply ∷ rs)
      entered again w =
          let e : Entry = entry 1 call w.write in
          let some : entries_at 1 call journal ≢ [] = λ none. let h : e ∷ [] ≡ [] = sym w.once ∙ none in cc in
          let is : length w.before ≡ low = entered_place call low x xs rs from below place reply m.2 (m.1.1 some) w in
          let next : place ≡ low + 1 = (let a = w.at in omega arith) in
          let before : w.before ≡ take low journal = sym (take_front w.before (e ∷ w.after)) ∙ ap (λ t. take (length w.before) t) (sym w.stands) ∙ ap (λ n. take n journal) is in
          let after : take low journal ++ e ∷ [] ≡ take place journal =
          ap (λ t. t ++ e ∷ []) (sym before) ∙ sym (take_one_more w.before e w.after) ∙ ap (λ t. take (suc (length w.before)) t) (sym w.stands) ∙ (let same : suc (length w.before) ≡ place = (let a = w.at in omega arith) in ap (λ n. take n journal) same) in
          let at_place : length (take low journal ++ e ∷ []) ≡ place = length-append (take low journal) (e ∷ []) ∙ ap (λ n. n + 1) (sym (ap (λ (t : List Entry). length t) before) ∙ is) ∙ sym next in
          let other : From place (call + 1) = λ k d le lt. dite (dec_le (call + 1) (get_or journal k d).call) (λ h. h)
          (λ no. let first = from k d (omega arith) lt in let is_call : (get_or journal k d).call ≡ call = omega (arith, no, first) in
          let same = entered_at call place k x reply d w lt is_call in absurd (omega arith)) in (
            Some w.write,
            subst (λ b. IsAnswer limits b x reply (Some w.write)) before w.answer,
            sym at_place,
            subst (λ b. RepliesInTurn limits b (call + 1) xs rs) (sym after) (again place m.2 other),
          )

pub alone_as_one_thread : (limits : Limits) (journal : List Entry) (xs : List Command) (rs : List Numbered) → All (λ e. e.pass ≡ 1) journal → Spoke limits journal 1 xs rs → All HasPlace rs → RepliesInTurn limits [] 1 xs rs
alone_as_one_thread limits journal xs rs of_one spoke at =
    let of_first : All (IsOfFirst (length xs)) journal = subst (λ es. All (IsOfFirst (length xs)) es) (all_of_one journal of_one) spoke.no_other in
    replies_from limits journal of_one 1 0 xs rs spoke.results at (λ k d le lt. (of_first k d lt).0) (λ k d lt. let h = (of_first k d lt).1 in omega arith)

-- one thread has one list of replies
one_thread : (limits : Limits) (before : List Entry) (call : ℕ) (xs : List Command) (rs qs : List Numbered) → RepliesInTurn limits before call xs rs → RepliesInTurn limits before call xs qs → rs ≡ qs
one_thread limits before call [] [] [] a b = refl
one_thread limits before call [] [] (q ∷ qs) a b = absurd b
one_thread limits before call [] (r ∷ rs) qs a b = absurd a
one_thread limits before call (x ∷ xs) [] qs a b = absurd a
one_thread limits before call (x ∷ xs) (NoMemory ∷ rs) qs a b = absurd a
one_thread limits before call (x ∷ xs) (At place reply ∷ rs) [] a b = absurd b
one_thread limits before call (x ∷ xs) (At place reply ∷ rs) (NoMemory ∷ qs) a b = absurd b
one_thread limits before call (x ∷ xs) (At place reply ∷ rs) (At other again ∷ qs) a b =
    let same = answer_one limits before x reply again a.0 b.0 a.1 b.1 in
    let places : place ≡ other = a.2 ∙ ap (λ e. length (with_entry before call e)) same.1 ∙ sym b.2 in
    let rest : rs ≡ qs = one_thread limits (with_entry before call b.0) (call + 1) xs rs qs (subst (λ e. RepliesInTurn limits (with_entry before call e) (call + 1) xs rs) same.1 a.3) b.3 in
    ap (λ p. At p reply ∷ rs) places ∙ ap (λ r. At other r ∷ rs) same.0 ∙ ap (λ t. At other again ∷ t) rest

-- a session that is done has answered all requests of its source
done_requests : (limits : Limits) (bytes out : List ℕ) (a : IsAlone limits bytes out) → (left : List ℕ) × HasRequests bytes a.session.requests a.session.quit left
done_requests limits bytes out a =
    elim a.session.ends [
      | inl quits ↦ (
        s.rest ++ a.later,
        record {
          begins = record { whole = s.took ∙ ap (λ t. t ++ a.later) s.asked.begins.whole ∙ append_assoc (spellings s.requests ++ quitting s.quit) s.rest a.later; each = s.asked.begins.each };
          no_more = λ no. let h : true ≡ false = sym quits.0 ∙ no in absurd (cc h);
        },
      )
      | inr ends ↦ (s.rest, subst (λ t. HasRequests t s.requests s.quit s.rest) (sym (s.took ∙ ap (λ t. s.taken ++ t) ends.3 ∙ append-nil s.taken)) s.asked)
    ]
  where
    s : IsSession limits.session (λ taken. bytes ≡ taken ++ a.later) (a.later ≡ []) (λ xs rs. Spoke limits a.journal 1 xs rs × All HasPlace rs × (out ≡ written rs)) Done
    s = a.session

pub writes_by_reading : (limits : Limits) (bytes out other : List ℕ) → IsAlone limits bytes out → IsAlone limits bytes other → out ≡ other
writes_by_reading limits bytes out other a b =
    let x = done_requests limits bytes out a in
    let y = done_requests limits bytes other b in
    let same = (one_reading bytes a.session.requests b.session.requests a.session.quit b.session.quit x.0 y.0 x.1 y.1).0 in
    let one = alone_as_one_thread limits a.journal a.session.requests a.session.replies a.of_one a.session.did.0 a.session.did.1 in
    let two = alone_as_one_thread limits b.journal b.session.requests b.session.replies b.of_one b.session.did.0 b.session.did.1 in
    a.session.did.2 ∙ ap written (one_thread limits [] 1 b.session.requests a.session.replies b.session.replies (subst (λ xs. RepliesInTurn limits [] 1 xs a.session.replies) same one) two) ∙ sym b.session.did.2
