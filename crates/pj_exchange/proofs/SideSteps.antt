-- What the replies to a side say of the list of the channel, one after the other.
use Rattle.std.proofs.Common.{◌≡◌, ◌≢◌, ℕ, ◌+◌, ◌<◌, ◌≤◌, List, [], ◌∷◌, ◌++◌, length, get_or, refl, sym, ◌∙◌, ap, subst, inl, inr, arith, append_assoc, length-append}
use Rattle.std.specs.Prelude.{Option, Some, None, MatchOption}
use Rattle.std.proofs.Math.Seq.{get_or-append_seam}
use Rattle.pj_change.specs.declared.change.Record.{Record}
use Rattle.pj_machine.specs.declared.channel_name.ChannelName.{ChannelName}
use Rattle.pj_machine.specs.declared.command.Command.{Command}
use Rattle.pj_machine.specs.declared.command.Write.{Write}
use Rattle.pj_machine.specs.declared.journal.Entry.{Entry}
use Rattle.pj_machine.specs.declared.limits.Limits.{Limits}
use Rattle.pj_machine.specs.declared.reply.Numbered.{Numbered}
use Rattle.pj_machine.specs.declared.reply.Numbered.TheVariants.{At, NoMemory}
use Rattle.pj_machine.specs.declared.reply.Reply.{Reply}
use Rattle.pj_machine.specs.Answer.{AnswersIn}
use Rattle.pj_machine.specs.Call.{entry, WasEntered, WasSeen}
use Rattle.pj_machine.specs.Legal.{IsLegal}
use Rattle.pj_machine.specs.Replay.{Leads, IsReplay}
use Rattle.pj_machine.specs.Sound.{IsSound}
use Rattle.pj_machine.specs.State.{State, opening, list_of}
use Rattle.pj_machine.specs.Step.{Steps}
use Rattle.pj_machine.proofs.Replays.{replay_one, leads_push}
use Rattle.pj_machine.proofs.SoundSteps.{legal_sound}
use Rattle.pj_session.specs.Calls.{Chain}
use Rattle.pj_session.specs.Spoke.{Spoke, AreResults, place_after}
use Rattle.pj_exchange.specs.Sides.{IsQuiet, last_place_from}
use Rattle.pj_exchange.proofs.OwnEntries.{From, Below, none_before, from_next, no_lower, own_from, own_below}
use Rattle.pj_exchange.proofs.Steps.{Keeps, leads_keep, leads_apart}

-- The command was answered so in a state in which the channel had the first list. Then it had the second, and each store is
-- within the last one.
pub record Stepped (limits : Limits) (c : ChannelName) (store : List Record) (old : Option (List Record)) (x : Command) (reply : Reply)
    (new : Option (List Record)) : Type 0 where
  pub journal : List Entry
  pub state : State
  pub replayed : IsReplay journal state
  pub sound : IsSound state
  pub entered : Option Write
  pub answers : AnswersIn limits state journal x (record { reply = reply; entered = entered })
  pub old_is : list_of state c ≡ old
  pub keeps : Keeps state.store store
  pub then : MatchOption entered (new ≡ old) (λ w. (t : State) × Steps state w t × (list_of t c ≡ new) × Keeps t.store store)

-- the same for a reply with its place; where there was no memory, the list stays
abbrev pub Links : Limits → ChannelName → List Record → Option (List Record) → Command → Numbered → Option (List Record) → Type 0
Links limits c store old x (At place reply) new = Stepped limits c store old x reply new
Links limits c store old x NoMemory new = new ≡ old

-- The command was answered so in a state whose store has what that of the first state has, and led to the last state.
pub record Held (limits : Limits) (old : State) (x : Command) (reply : Reply) (new : State) : Type 0 where
  pub journal : List Entry
  pub state : State
  pub replayed : IsReplay journal state
  pub sound : IsSound state
  pub entered : Option Write
  pub answers : AnswersIn limits state journal x (record { reply = reply; entered = entered })
  pub keeps : Keeps old.store state.store
  pub then : MatchOption entered (new ≡ state) (λ w. Steps state w new)

-- the same for a reply with its place; where there was no memory, the state stays
abbrev pub Holds : Limits → State → Command → Numbered → State → Type 0
Holds limits old x (At place reply) new = Held limits old x reply new
Holds limits old x NoMemory new = new ≡ old

-- after so many entries of the journal the channel has this list, or is not there
pub record Reached (journal : List Entry) (c : ChannelName) (place : ℕ) (list : Option (List Record)) : Type 0 where
  pub before : List Entry
  pub rest : List Entry
  pub is : journal ≡ before ++ rest
  pub size : length before ≡ place
  pub state : State
  pub replayed : IsReplay before state
  pub list_is : list_of state c ≡ list

-- a longer prefix begins with a shorter one
prefixes : (a b c d : List Entry) → a ++ c ≡ b ++ d → length a ≤ length b → (more : List Entry) × (b ≡ a ++ more)
prefixes [] b c d e le = (b, refl)
prefixes (x ∷ a) [] c d e le = absurd (omega arith)
prefixes (x ∷ a) (y ∷ b) c d e le =
    let first : x ≡ y = cc in
    let rest : a ++ c ≡ b ++ d = cc in
    let more = prefixes a b c d rest (omega arith) in
    (more.0, cc (first, more.1))

-- each prefix of a legal journal is one
pub legal_prefix : (limits : Limits) (journal before after : List Entry) → IsLegal limits journal → journal ≡ before ++ after → IsLegal limits before
legal_prefix limits journal before after legal stands = record {
  few = (let few = legal.few in let size : length journal ≡ length before + length after = ap
      (λ (l : List Entry). length l) stands ∙ length-append before after in omega arith);
  each = λ b e a is. legal.each b e (a ++ after) (stands ∙ ap (λ l. l ++ after) is ∙ append_assoc b (e ∷ a) after);
}

module _ (limits : Limits) (journal : List Entry) (p : ℕ) (c : ChannelName) (legal : IsLegal limits journal) (whole : State)
    (all : IsReplay journal whole) where
  -- the store after a prefix is within that after all
  pub kept : (before after : List Entry) → journal ≡ before ++ after → (s : State) → IsReplay before s → Keeps s.store whole.store
  kept before after stands s replayed =
      let parts = leads_apart opening whole before after (subst (λ l. IsReplay l whole) stands all) in
      let same = replay_one before parts.0 s parts.1 replayed in
      leads_keep s whole after (subst (λ x. Leads x after whole) same parts.2)

  -- entries of other passes leave the list
  stays : (start high : ℕ) → IsQuiet c p start high journal → (before more after : List Entry) (s t : State) → journal ≡ before ++ (more ++ after) →
      IsReplay before s →
      Leads s more t → start ≤ length before → length before + length more ≤ high →
      ((k : ℕ) (d : Entry) → length before ≤ k → k < length before + length more → (get_or journal k d).pass ≢ p) → list_of t c ≡ list_of s c
  stays start high quiet before [] after s t is replayed leads le below none = ap (λ (x : State). list_of x c) leads
  stays start high quiet before (e ∷ more) after s t is replayed leads le below none =
      let next : journal ≡ (before ++ e ∷ []) ++ (more ++ after) = is ∙ sym (append_assoc before (e ∷ []) (more ++ after)) in
      let size : length (before ++ e ∷ []) ≡ length before + 1 = length-append before (e ∷ []) in
      let here : get_or journal (length before) e ≡ e = ap (λ l. get_or l (length before) e) is ∙ get_or-append_seam before e (more ++ after) e in
      let other : e.pass ≢ p = λ own. none (length before) e (omega arith) (omega arith) (ap (λ (x : Entry). x.pass) here ∙ own) in
      stays start high quiet (before ++ e ∷ []) more after leads.0 t next (leads_push opening before e s leads.0 replayed leads.1) leads.2 (omega arith)
      (omega arith)
      (λ k d low high own. none k d (omega arith) (omega arith) own)
      ∙ quiet before e (more ++ after) is le (omega arith) other s leads.0 replayed leads.1

  -- from one place to a later one of which the pass has no entry in between
  stays_to : (start high low : ℕ) → IsQuiet c p start high journal →
      (list : Option (List Record)) (r : Reached journal c low list) (before after : List Entry) (s : State) →
      journal ≡ before ++ after → IsReplay before s → start ≤ low → low ≤ length before → length before ≤ high →
      ((k : ℕ) (d : Entry) → low ≤ k → k < length before → (get_or journal k d).pass ≢ p) → list_of s c ≡ list
  stays_to start high low quiet list r before after s stands replayed le grows below none =
      let at = r.size in
      let more = prefixes r.before before r.rest after (sym r.is ∙ stands) (omega arith) in
      let parts = leads_apart opening s r.before more.0 (subst (λ l. IsReplay l s) more.1 replayed) in
      let same = replay_one r.before parts.0 r.state parts.1 r.replayed in
      let whole : journal ≡ r.before ++ (more.0 ++ after) = stands ∙ ap (λ l. l ++ after) more.1 ∙ append_assoc r.before more.0 after in
      let size : length before ≡ length r.before + length more.0 = ap (λ (l : List Entry). length l) more.1 ∙ length-append r.before more.0 in
      stays start high quiet r.before more.0 after r.state s whole r.replayed (subst (λ x. Leads x more.0 s) same parts.2) (omega arith) (omega arith)
      (λ k d low high own. none k d (omega arith) (omega arith) own)
      ∙ r.list_is

  -- and the store has what it had
  keeps_to : (low : ℕ) (list : Option (List Record)) (r : Reached journal c low list) (before after : List Entry) (s : State) → journal ≡ before ++ after →
      IsReplay before s → low ≤ length before → Keeps r.state.store s.store
  keeps_to low list r before after s stands replayed grows =
      let at = r.size in
      let more = prefixes r.before before r.rest after (sym r.is ∙ stands) (omega arith) in
      let parts = leads_apart opening s r.before more.0 (subst (λ l. IsReplay l s) more.1 replayed) in
      let same = replay_one r.before parts.0 r.state parts.1 r.replayed in
      leads_keep r.state s more.0 (subst (λ x. Leads x more.0 s) same parts.2)

  -- the last place is not below any other
  last_above : (call low : ℕ) (xs : List Command) (rs : List Numbered) → AreResults limits journal p call low xs rs → low ≤ last_place_from low rs
  last_above call low [] [] m = omega arith
  last_above call low [] (r ∷ rs) m = absurd m
  last_above call low (x ∷ xs) [] m = absurd m
  last_above call low (x ∷ xs) (r ∷ rs) m =
      let one = no_lower limits journal p call low r m.1 in
      let rest = last_above (call + 1) (place_after low r) xs rs m.2 in omega arith

  -- one reply, and where it leads
  record Next (from : State) (place : ℕ) (old : Option (List Record)) (x : Command) (reply : Reply) : Type 0 where
    new : Option (List Record)
    link : Stepped limits c whole.store old x reply new
    reached : Reached journal c place new
    held : Held limits from x reply reached.state

  module _ (start high : ℕ) (quiet : IsQuiet c p start high journal) (call low place : ℕ) (old : Option (List Record)) (r : Reached journal c low old)
      (x : Command) (reply : Reply)
      (le : start ≤ low) (below : place ≤ high) where
    -- a reply to a call that entered nothing
    seen_next : (s : WasSeen limits journal p call place x reply) → low ≤ place →
        ((k : ℕ) (d : Entry) → low ≤ k → k < place → k < length journal → (get_or journal k d).pass ≡ p → ⊥) → Next r.state place old x reply
    seen_next s grows none =
        let at = s.at in
        let size : length journal ≡ length s.before + length s.after = ap (λ (l : List Entry). length l) s.stands ∙ length-append s.before s.after in
        let same : list_of s.answer.state c ≡ old =
        stays_to start high low quiet old r s.before s.after s.answer.state s.stands s.answer.replayed le (omega arith) (omega arith)
        (λ k d lo hi own. none k d lo (omega arith) (omega arith) own) in
        record {
          new = old;
          link = record {
            journal = s.before;
            state = s.answer.state;
            replayed = s.answer.replayed;
            sound = legal_sound limits s.before s.answer.state (legal_prefix limits journal s.before s.after legal s.stands) s.answer.replayed;
            entered = None;
            answers = s.answer.answers;
            old_is = same;
            keeps = kept s.before s.after s.stands s.answer.state s.answer.replayed;
            then = refl;
          };
          held = record {
            journal = s.before;
            state = s.answer.state;
            replayed = s.answer.replayed;
            sound = legal_sound limits s.before s.answer.state (legal_prefix limits journal s.before s.after legal s.stands) s.answer.replayed;
            entered = None;
            answers = s.answer.answers;
            keeps = keeps_to low old r s.before s.after s.answer.state s.stands s.answer.replayed (omega arith);
            then = refl;
          };
          reached = record {
            before = s.before;
            rest = s.after;
            is = s.stands;
            size = sym at;
            state = s.answer.state;
            replayed = s.answer.replayed;
            list_is = same;
          };
        }

    -- a reply to a call that entered a write
    entered_next : (w : WasEntered limits journal p call place x reply) → low < place →
        ((k : ℕ) (d : Entry) → low ≤ k → k + 1 < place → k < length journal → (get_or journal k d).pass ≡ p → ⊥) → Next r.state place old x reply
    entered_next w grows none =
        let at = w.at in
        let e : Entry = entry p call w.write in
        let s : State = w.answer.state in
        let size : length journal ≡ length w.before + length (e ∷ w.after) = ap (λ (l : List Entry). length l) w.stands ∙ length-append w.before
        (e ∷ w.after) in
        let same : list_of s c ≡ old =
        stays_to start high low quiet old r w.before (e ∷ w.after) s w.stands w.answer.replayed le (omega arith) (omega arith)
        (λ k d lo hi own. none k d lo (omega arith) (omega arith) own) in
        let parts = leads_apart opening whole w.before (e ∷ w.after) (subst (λ l. IsReplay l whole) w.stands all) in
        let on : Leads s (e ∷ w.after) whole = subst (λ z. Leads z (e ∷ w.after) whole) (replay_one w.before parts.0 s parts.1 w.answer.replayed) parts.2 in
        let then : journal ≡ (w.before ++ e ∷ []) ++ w.after = w.stands ∙ sym (append_assoc w.before (e ∷ []) w.after) in
        record {
          new = list_of on.0 c;
          link = record {
            journal = w.before;
            state = s;
            replayed = w.answer.replayed;
            sound = legal_sound limits w.before s (legal_prefix limits journal w.before (e ∷ w.after) legal w.stands) w.answer.replayed;
            entered = Some w.write;
            answers = w.answer.answers;
            old_is = same;
            keeps = kept w.before (e ∷ w.after) w.stands s w.answer.replayed;
            then = (on.0, on.1, refl, leads_keep on.0 whole w.after on.2);
          };
          held = record {
            journal = w.before;
            state = s;
            replayed = w.answer.replayed;
            sound = legal_sound limits w.before s (legal_prefix limits journal w.before (e ∷ w.after) legal w.stands) w.answer.replayed;
            entered = Some w.write;
            answers = w.answer.answers;
            keeps = keeps_to low old r w.before (e ∷ w.after) s w.stands w.answer.replayed (omega arith);
            then = on.1;
          };
          reached = record {
            before = w.before ++ e ∷ [];
            rest = w.after;
            is = then;
            size = (let n = length-append w.before (e ∷ []) in omega arith);
            state = on.0;
            replayed = leads_push opening w.before e s on.0 w.answer.replayed on.1;
            list_is = refl;
          };
        }

  -- from a place on, the replies say how the list went on
  pub record Went (from : State) (low : ℕ) (old : Option (List Record)) (xs : List Command) (rs : List Numbered) : Type 0 where
    pub new : Option (List Record)
    pub chain : Chain (λ o x r n. Links limits c whole.store o x r n) old xs rs new
    pub reached : Reached journal c (last_place_from low rs) new
    pub states : Chain (λ a x r b. Holds limits a x r b) from xs rs reached.state

  -- all replies, one after the other
  pub goes_on : (start high : ℕ) → IsQuiet c p start high journal → (call low : ℕ) (xs : List Command) (rs : List Numbered) →
      AreResults limits journal p call low xs rs →
      From limits journal p low call → Below limits journal p (call + length xs) → start ≤ low → last_place_from low rs ≤ high →
      (old : Option (List Record)) (at : Reached journal c low old) → Went at.state low old xs rs
  goes_on start high quiet call low [] [] m from below le end old r = record { new = old; chain = refl; reached = r; states = refl }
  goes_on start high quiet call low [] (r ∷ rs) m from below le end old at = absurd m
  goes_on start high quiet call low (x ∷ xs) [] m from below le end old at = absurd m
  goes_on start high quiet call low (x ∷ xs) (NoMemory ∷ rs) m from below le end old at =
      let rest = goes_on start high quiet (call + 1) low xs rs m.2 (from_next limits journal p call low x NoMemory m.0 m.1 from)
      (λ k d lt own. let b = below k d lt own in omega arith) le end old at in
      record { new = rest.new; chain = (old, refl, rest.chain); reached = rest.reached; states = (at.state, refl, rest.states) }
  goes_on start high quiet call low (x ∷ xs) (At place reply ∷ rs) m from below le end old at =
      let rises = m.1.0 in
      let above = last_above (call + 1) place xs rs m.2 in
      let next : Next at.state place old x reply = elim m.0 [
        | inl w ↦
            let some : low < place = m.1.1 (λ none. let k = sym none ∙ w.once in absurd (cc k)) in
            entered_next start high quiet call low place old at x reply le (omega arith) w some
            (λ k d lo hi lt own. none_before limits journal p call low place x reply xs rs m from below (length w.before) (inl (w, w.at)) k d lo
            (let n = w.at in omega arith) lt own)
        | inr s ↦
            seen_next start high quiet call low place old at x reply le (omega arith) s rises
            (λ k d lo hi lt own. none_before limits journal p call low place x reply xs rs m from below place (inr (s, refl)) k d lo hi lt own)
      ] in
      let rest = goes_on start high quiet (call + 1) place xs rs m.2 (from_next limits journal p call low x (At place reply) m.0 m.1 from)
      (λ k d lt own. let b = below k d lt own in omega arith) (omega arith) end next.new next.reached in
      record {
        new = rest.new;
        chain = (next.new, next.link, rest.chain);
        reached = rest.reached;
        states = (next.reached.state, next.held, rest.states);
      }

  -- where the first reply is to a read, the list at its place is where the chain begins
  pub record Began (place : ℕ) (xs : List Command) (rs : List Numbered) : Type 0 where
    pub old : Option (List Record)
    pub at : Reached journal c place old
    pub went : Went at.state place old xs rs

  -- the replies from a first one that entered nothing
  pub began : (place : ℕ) (x : Command) (reply : Reply) (xs : List Command) (rs : List Numbered) → Spoke limits journal p (x ∷ xs) (At place reply ∷ rs) →
      IsQuiet c p place (last_place_from place rs) journal → WasSeen limits journal p 1 place x reply → Began place (x ∷ xs) (At place reply ∷ rs)
  began place x reply xs rs spoke quiet s =
      let m = spoke.results in
      let again : AreResults limits journal p 1 place (x ∷ xs) (At place reply ∷ rs) = (inr s, (omega arith, λ some. absurd (some s.none)), m.2) in
      let at : Reached journal c place (list_of s.answer.state c) =
      record { before = s.before; rest = s.after; is = s.stands; size = sym s.at; state = s.answer.state; replayed = s.answer.replayed; list_is = refl } in
      record {
        old = list_of s.answer.state c;
        at = at;
        went = goes_on place (last_place_from place rs) quiet 1 place (x ∷ xs) (At place reply ∷ rs) again
            (own_from limits journal p (x ∷ xs) (At place reply ∷ rs) spoke place)
            (own_below limits journal p (x ∷ xs) (At place reply ∷ rs) spoke) (omega arith) (omega arith) (list_of s.answer.state c) at;
      }
