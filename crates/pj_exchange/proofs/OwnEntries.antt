-- The entries of a pass stand at the places of the replies to their calls.
use Rattle.std.proofs.Common.{◌≡◌, ◌≢◌, ◌==◌, ℕ, zero, suc, ◌+◌, ◌<◌, ◌≤◌, Bool, true, false, cond, List, [], ◌∷◌, length, get_or, All, refl, ◌∙◌, ap, subst, inl, inr, arith, eq-eqb, length-append}
use Rattle.std.specs.Prelude.{◌⊎◌}
use Rattle.std.specs.List.{filter}
use Rattle.std.proofs.lemmas.List.Elements.{All-head, All-tail}
use Rattle.std.proofs.Math.Seq.{get_or-append_seam}
use mathlib.Core.Logic.{dite}
use native.Mathlib.Decide.{dec_le}
use Rattle.pj_machine.specs.declared.command.Command.{Command}
use Rattle.pj_machine.specs.declared.journal.Entry.{Entry}
use Rattle.pj_machine.specs.declared.limits.Limits.{Limits}
use Rattle.pj_machine.specs.declared.reply.Numbered.{Numbered}
use Rattle.pj_machine.specs.declared.reply.Numbered.TheVariants.{At, NoMemory}
use Rattle.pj_machine.specs.declared.reply.Reply.{Reply}
use Rattle.pj_machine.specs.Call.{entry, entries_of, entries_at, IsResult, WasEntered, WasSeen}
use Rattle.pj_session.specs.Spoke.{Spoke, AreResults, IsPlaced, IsOfFirst, place_after}

-- ---- entries of one call of a pass

module _ (p call : ℕ) where
  -- how many entries of the call there are
  abbrev of_call : List Entry → ℕ
  of_call es = length (entries_at p call es)

  -- an entry of the call is one more
  counted : (e : Entry) (es : List Entry) → e.pass ≡ p → e.call ≡ call → of_call (e ∷ es) ≡ suc (of_call es)
  counted e es q c =
      ap (λ b. length (filter (λ x. x.call == call) (cond b (e ∷ entries_of p es) (entries_of p es)))) (eq-eqb e.pass p q)
      ∙ ap (λ b. length (cond b (e ∷ entries_at p call es) (entries_at p call es))) (eq-eqb e.call call c)

  -- and no entry is one less
  no_fewer : (e : Entry) (es : List Entry) → of_call es ≤ of_call (e ∷ es)
  no_fewer e es = by_pass (e.pass == p)
    where
      by_call : (b : Bool) → of_call es ≤ length (cond b (e ∷ entries_at p call es) (entries_at p call es))
      by_call true = omega arith
      by_call false = omega arith

      by_pass : (b : Bool) → of_call es ≤ length (filter (λ x. x.call == call) (cond b (e ∷ entries_of p es) (entries_of p es)))
      by_pass true = by_call (e.call == call)
      by_pass false = omega arith

  -- an entry of the call is counted
  some_of_call : (es : List Entry) (k : ℕ) (d : Entry) → k < length es → (get_or es k d).pass ≡ p → (get_or es k d).call ≡ call → 0 < of_call es
  some_of_call [] k d lt q c = absurd (omega arith)
  some_of_call (e ∷ es) zero d lt q c = let h = counted e es q c in omega arith
  some_of_call (e ∷ es) (suc k) d lt q c = let h = some_of_call es k d (omega arith) q c in let m = no_fewer e es in omega arith

  -- one entry of the call stands at one place
  one_place : (es : List Entry) (k l : ℕ) (d : Entry) → of_call es ≤ 1 → k < length es → l < length es → (get_or es k d).pass ≡ p →
      (get_or es k d).call ≡ call → (get_or es l d).pass ≡ p → (get_or es l d).call ≡ call → k ≡ l
  one_place [] k l d few lt lt' q c q' c' = absurd (omega arith)
  one_place (e ∷ es) zero zero d few lt lt' q c q' c' = refl
  one_place (e ∷ es) zero (suc l) d few lt lt' q c q' c' = let h = counted e es q c in let m = some_of_call es l d (omega arith) q' c' in absurd (omega arith)
  one_place (e ∷ es) (suc k) zero d few lt lt' q c q' c' = let h = counted e es q' c' in let m = some_of_call es k d (omega arith) q c in absurd (omega arith)
  one_place (e ∷ es) (suc k) (suc l) d few lt lt' q c q' c' = let m = no_fewer e es in ap suc
      (one_place es k l d (omega arith) (omega arith) (omega arith) q c q' c')

-- ---- the places of calls

module _ (limits : Limits) (journal : List Entry) (p : ℕ) where
  -- the entry of a call stands at the place of its reply
  entered_at : (call place k : ℕ) (x : Command) (reply : Reply) (d : Entry) → WasEntered limits journal p call place x reply → k < length journal
      → (get_or journal k d).pass ≡ p → (get_or journal k d).call ≡ call → place ≡ k + 1
  entered_at call place k x reply d w lt own is =
      let e : Entry = entry p call w.write in
      let size : length journal ≡ length w.before + length (e ∷ w.after) = ap (λ (t : List Entry). length t) w.stands ∙ length-append w.before (e ∷ w.after) in
      let here : get_or journal (length w.before) d ≡ e = ap (λ t. get_or t (length w.before) d) w.stands ∙ get_or-append_seam w.before e w.after d in
      let one : of_call p call journal ≡ 1 = ap (λ (t : List Entry). length t) w.once in
      let same = one_place p call journal k (length w.before) d (omega arith) lt (omega arith) own is (ap (λ z. z.pass) here) (ap (λ z. z.call) here) in
      let at = w.at in
      omega arith

  -- an entry of a later call stands behind all places so far
  later_place : (call low : ℕ) (xs : List Command) (rs : List Numbered) → AreResults limits journal p call low xs rs
      → (k : ℕ) (d : Entry) → k < length journal → (get_or journal k d).pass ≡ p → call ≤ (get_or journal k d).call →
      (get_or journal k d).call < call + length xs → low ≤ k
  later_place call low [] [] m k d lt own le below = absurd (omega arith)
  later_place call low [] (r ∷ rs) m k d lt own le below = absurd m
  later_place call low (x ∷ xs) [] m k d lt own le below = absurd m
  later_place call low (x ∷ xs) (r ∷ rs) m k d lt own le below =
      dite (dec_le (call + 1) (get_or journal k d).call)
      (λ above. let h = later_place (call + 1) (place_after low r) xs rs m.2 k d lt own above (omega arith) in let n = no_lower r m.1 in omega arith)
      (λ not. let is : (get_or journal k d).call ≡ call = omega (arith, le, not) in here r m.0 m.1 is)
    where
      no_lower : (r : Numbered) → IsPlaced journal p call low r → low ≤ place_after low r
      no_lower (At place reply) q = q.0
      no_lower NoMemory q = omega arith

      some_entry : (get_or journal k d).call ≡ call → entries_at p call journal ≢ []
      some_entry is none = let s = some_of_call p call journal k d lt own is in let size : of_call p call journal ≡ 0 = ap
          (λ (t : List Entry). length t) none in absurd (omega arith)

      here : (r : Numbered) → IsResult limits journal p call x r → IsPlaced journal p call low r → (get_or journal k d).call ≡ call → low ≤ k
      here (At place reply) result placed is =
          elim result [
            | inl w ↦ let at = entered_at call place k x reply d w lt own is in let above = placed.1 (some_entry is) in omega arith
            | inr s ↦ absurd (some_entry is s.none)
          ]
      here NoMemory none placed is = absurd (some_entry is none)

  -- the own entries from this place on are of the calls from this one on
  abbrev pub From : ℕ → ℕ → Type 0
  From low call = (k : ℕ) (d : Entry) → low ≤ k → k < length journal → (get_or journal k d).pass ≡ p → call ≤ (get_or journal k d).call

  -- all own entries are of calls before this one
  abbrev pub Below : ℕ → Type 0
  Below calls = (k : ℕ) (d : Entry) → k < length journal → (get_or journal k d).pass ≡ p → (get_or journal k d).call < calls

  -- how many entries the call had before it: where it has one, those before that
  abbrev pub EndsAt : ℕ → ℕ → Command → Reply → ℕ → Type 0
  EndsAt call place x reply end =
      (WasEntered limits journal p call place x reply × (place ≡ end + 1)) ⊎ (WasSeen limits journal p call place x reply × (place ≡ end))

  -- no place is below those before it
  pub no_lower : (call low : ℕ) (r : Numbered) → IsPlaced journal p call low r → low ≤ place_after low r
  no_lower call low (At place reply) placed = placed.0
  no_lower call low NoMemory placed = omega arith

  -- an own entry before the place of the next reply is of that call
  pub of_next : (call low : ℕ) (x : Command) (r : Numbered) (xs : List Command) (rs : List Numbered) → AreResults limits journal p call low (x ∷ xs) (r ∷ rs) →
      From low call → Below (call + length (x ∷ xs)) → (k : ℕ) (d : Entry) → low ≤ k → k < place_after low r → k < length journal →
      (get_or journal k d).pass ≡ p →
      (get_or journal k d).call ≡ call
  of_next call low x r xs rs m from below k d le before lt own =
      let first = from k d le lt own in
      let last = below k d lt own in
      dite (dec_le (call + 1) (get_or journal k d).call)
      (λ above. let h = later_place (call + 1) (place_after low r) xs rs m.2 k d lt own above (omega arith) in absurd (omega arith))
      (λ no. omega (arith, no, first))

  -- a call without an entry has none
  not_of : (call : ℕ) → entries_at p call journal ≡ [] → (k : ℕ) (d : Entry) → k < length journal → (get_or journal k d).pass ≡ p →
      (get_or journal k d).call ≡ call → ⊥
  not_of call none k d lt own is =
      let s = some_of_call p call journal k d lt own is in
      let size : of_call p call journal ≡ 0 = ap (λ (t : List Entry). length t) none in
      omega arith

  -- an own entry from the place of a reply on is not of its call
  not_behind : (call low : ℕ) (x : Command) (r : Numbered) → IsResult limits journal p call x r → (k : ℕ) (d : Entry) → place_after low r ≤ k →
      k < length journal →
      (get_or journal k d).pass ≡ p → (get_or journal k d).call ≡ call → ⊥
  not_behind call low x (At place reply) (inl w) k d le lt own is = (let at = entered_at call place k x reply d w lt own is in omega arith)
  not_behind call low x (At place reply) (inr s) k d le lt own is = not_of call s.none k d lt own is
  not_behind call low x NoMemory none k d le lt own is = not_of call none k d lt own is

  -- the own entries from the place of a reply on are of later calls
  pub from_next : (call low : ℕ) (x : Command) (r : Numbered) → IsResult limits journal p call x r → IsPlaced journal p call low r → From low call →
      From (place_after low r) (call + 1)
  from_next call low x r result placed from k d le lt own =
      let rises = no_lower call low r placed in
      let first = from k d (omega arith) lt own in
      dite (dec_le (call + 1) (get_or journal k d).call) (λ h. h) (λ no. absurd (not_behind call low x r result k d le lt own (omega (arith, no, first))))

  -- and none stands before the place of a reply of a call that has none
  pub none_before : (call low place : ℕ) (x : Command) (reply : Reply) (xs : List Command) (rs : List Numbered) →
      AreResults limits journal p call low (x ∷ xs) (At place reply ∷ rs) → From low call → Below (call + length (x ∷ xs)) → (end : ℕ) →
      EndsAt call place x reply end →
      (k : ℕ) (d : Entry) → low ≤ k → k < end → k < length journal → (get_or journal k d).pass ≡ p → ⊥
  none_before call low place x reply xs rs m from below end (inl ends) k d le before lt own =
      let n = ends.1 in
      let is = of_next call low x (At place reply) xs rs m from below k d le (omega arith) lt own in
      let at = entered_at call place k x reply d ends.0 lt own is in
      omega arith
  none_before call low place x reply xs rs m from below end (inr ends) k d le before lt own =
      let n = ends.1 in
      not_of call ends.0.none k d lt own (of_next call low x (At place reply) xs rs m from below k d le (omega arith) lt own)

-- an own entry is among those of the pass
module _ (p : ℕ) (P : Entry → Type 0) where
  -- what holds of each entry of the pass holds of an own entry at its place
  kept_at : (es : List Entry) (k : ℕ) (d : Entry) → All P (entries_of p es) → k < length es → (get_or es k d).pass ≡ p → P (get_or es k d)
  kept_at [] k d all lt own = absurd (omega arith)
  kept_at (e ∷ es) zero d all lt own =
      All-head P e (entries_of p es) (subst (λ l. All P l) (ap (λ b. cond b (e ∷ entries_of p es) (entries_of p es)) (eq-eqb e.pass p own)) all)
  kept_at (e ∷ es) (suc k) d all lt own = kept_at es k d (go (e.pass == p) all) (omega arith) own
    where
      go : (b : Bool) → All P (cond b (e ∷ entries_of p es) (entries_of p es)) → All P (entries_of p es)
      go true h = All-tail P e (entries_of p es) h
      go false h = h

-- what holds of the own entries from the first place on, and of all of them
pub own_from : (limits : Limits) (journal : List Entry) (p : ℕ) (xs : List Command) (rs : List Numbered) → Spoke limits journal p xs rs → (low : ℕ) →
    From limits journal p low 1
own_from limits journal p xs rs spoke low k d le lt own = (let h = (kept_at p (IsOfFirst (length xs)) journal k d spoke.no_other lt own).0 in omega arith)

-- and all of them are of the calls of the pass
pub own_below : (limits : Limits) (journal : List Entry) (p : ℕ) (xs : List Command) (rs : List Numbered) → Spoke limits journal p xs rs →
    Below limits journal p (1 + length xs)
own_below limits journal p xs rs spoke k d lt own = (let h = (kept_at p (IsOfFirst (length xs)) journal k d spoke.no_other lt own).1 in omega arith)
