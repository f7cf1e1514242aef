-- A session, one piece of its input after the other.
use Rattle.std.proofs.Common.{◌≡◌, ℕ, ◌+◌, ◌<◌, ◌≤◌, Bool, true, false, List, [], ◌∷◌, ◌++◌, length, All, Option, Some, None, refl, sym, ◌∙◌, ap, subst, inl, inr, arith, append_assoc, length-append, ⊎_elim}
use Rattle.std.proofs.lemmas.List.Elements.{All-append}
use Rattle.pj_io.specs.Sink.{AppendsFront}
use Rattle.pj_machine.specs.declared.command.Command.{Command}
use Rattle.pj_machine.specs.declared.command.Command.TheVariants.{Quit}
use Rattle.pj_machine.specs.declared.limits.Limits.{Limits}
use Rattle.pj_machine.specs.declared.reply.Numbered.{Numbered}
use Rattle.pj_machine.specs.Answered.{Answered}
use Rattle.pj_machine.specs.Call.{PassView}
use Rattle.pj_wire.specs.Requests.{spelling, spellings, IsCall, IsPart, HasNone, HasRequests, Begins}
use Rattle.pj_wire.specs.Replies.{reply_bytes, written, IsReply}
use Rattle.pj_wire.proofs.Readings.{part_has_none, spellings_append}
use Rattle.pj_session.specs.declared.end.End.{End}
use Rattle.pj_session.specs.declared.end.End.TheVariants.{Done, ReadFault, WriteFault, Bad, Cut, Spent, Memory, StoreFault}
use Rattle.pj_session.specs.Calls.{Calls, Chain}
use Rattle.pj_session.specs.Session.{IsSession, Asked, EndsBy, piece}
use Rattle.pj_session.specs.Turn.{Turn, Wrote, WroteSoFar, WrotePart, WroteButLast, Stops}
use Rattle.pj_session.proofs.Bytes.{all_requests, all_to_quit, begins_with, no_longer, nothing_is_part, rest_of_more, rest_of_quit, written_append}
use Rattle.pj_session.proofs.Chains.{calls_count, chain_append}
use Rattle.pj_session.proofs.Turns.{Underway, none_yet}

-- ---- a session said of more

exhausted_under : (limit : ℕ) (taken : List ℕ) (E F : Type 0) (xs : List Command) (quit : Bool) (rest : List ℕ) (end : End) → (E → F) → EndsBy limit taken E xs quit rest end → EndsBy limit taken F xs quit rest end
exhausted_under limit taken E F xs quit rest Done f e = ⊎_elim (λ q. inl q) (λ n. inr (n.0, n.1, n.2, f n.3)) e
exhausted_under limit taken E F xs quit rest Bad f e = e
exhausted_under limit taken E F xs quit rest Cut f e = (e.0, e.1, e.2, e.3, f e.4)
exhausted_under limit taken E F xs quit rest Spent f e = e
exhausted_under limit taken E F xs quit rest ReadFault f e = e
exhausted_under limit taken E F xs quit rest WriteFault f e = e
exhausted_under limit taken E F xs quit rest StoreFault f e = e
exhausted_under limit taken E F xs quit rest Memory f e = e

-- what follows from each part follows from the whole
pub session_under : (limit : ℕ) (A B : List ℕ → Type 0) (E F : Type 0) (P Q : List Command → List Numbered → Type 0) (end : End) → ((taken : List ℕ) → A taken → B taken) → (E → F) → ((xs : List Command) (rs : List Numbered) → P xs rs → Q xs rs)
    → IsSession limit A E P end → IsSession limit B F Q end
session_under limit A B E F P Q end f g h s = record {
  taken = s.taken;
  requests = s.requests;
  replies = s.replies;
  quit = s.quit;
  rest = s.rest;
  few = s.few;
  asked = s.asked;
  took = f s.taken s.took;
  ends = exhausted_under limit s.taken E F s.requests s.quit s.rest end g s.ends;
  small = s.small;
  did = h s.requests s.replies s.did;
}

-- ---- what was taken so far, and what is left over of it

module _ (limits : Limits) {S : Type 0} (Does : S → Command → Numbered → S → Type 0) (before : PassView) (start : S) (limit : ℕ) (U : Type 0) (left0 : List ℕ) (T : Type 0) (old : List ℕ) where
  pub record SoFar (after : PassView) (now : S) (room : ℕ) (source_left left new : List ℕ) : Type 0 where
    pub taken : List ℕ
    pub so : Underway limits Does before start taken T old after now left new
    pub took : U → left0 ≡ taken ++ source_left
    pub counted : length taken + room ≡ limit
    pub part : IsPart left

  abbrev pub Ends : PassView → S → List ℕ → List ℕ → End → Type 0
  Ends after now source_left new end =
      IsSession limit (λ taken. U → left0 ≡ taken ++ source_left) (U → source_left ≡ [])
      (λ xs rs. Calls limits before xs rs after × Chain Does start xs rs now × (T → Wrote end old new rs)) end

  pub starts : limit ≡ limit → SoFar before start limit left0 [] old
  starts e = record {
    taken = [];
    so = none_yet limits Does before start [] T old refl;
    took = λ h. refl;
    counted = omega arith;
    part = nothing_is_part;
  }

  -- the calls so far, and the bytes that wait, are few
  pub few_calls : (after : PassView) (now : S) (room : ℕ) (source_left left new : List ℕ) → SoFar after now room source_left left new → after.calls + after.calls + length left + room ≤ before.calls + before.calls + limit
  few_calls after now room source_left left new s =
      let size : length s.taken ≡ length (spellings s.so.requests) + length left = ap (λ (t : List ℕ). length t) s.so.whole ∙ length-append (spellings s.so.requests) left in
      let counted = s.counted in
      omega (arith, calls_count limits before after s.so.requests s.so.replies s.so.calls, no_longer s.so.requests, size, counted)

  -- ---- it ends between two pieces

  module _ (after : PassView) (now : S) (room : ℕ) (source_left left new : List ℕ) (s : SoFar after now room source_left left new) where
    few : length s.taken ≤ limit
    few = let counted = s.counted in omega arith

    all_asked : HasRequests s.taken s.so.requests false left
    all_asked = all_requests s.taken s.so.requests left s.so.whole s.so.each (part_has_none left s.part)

    ended_here : (end : End) (source_then : List ℕ) → (U → left0 ≡ s.taken ++ source_then) → Asked end s.taken s.so.requests false left → EndsBy limit s.taken (U → source_then ≡ []) s.so.requests false left end
        → (T → Wrote end old new s.so.replies) → Ends after now source_then new end
    ended_here end source_then took asked ends wrote = record {
      taken = s.taken;
      requests = s.so.requests;
      replies = s.so.replies;
      quit = false;
      rest = left;
      few = few;
      took = took;
      asked = asked;
      ends = ends;
      small = s.so.small;
      did = (s.so.calls, s.so.steps, wrote);
    }

    pub ends_spent : room ≡ 0 → Ends after now source_left new Spent
    ends_spent full = ended_here Spent source_left s.took all_asked (refl, s.part, (let counted = s.counted in omega arith)) s.so.wrote

    module _ (later : List ℕ) (same : U → source_left ≡ later) where
      took_same : U → left0 ≡ s.taken ++ later
      took_same h = s.took h ∙ ap (λ t. s.taken ++ t) (same h)

      pub reads_fault : Ends after now later new ReadFault
      reads_fault = ended_here ReadFault later took_same all_asked (refl, s.part) s.so.wrote

      pub ends_done : 0 < room → (U → source_left ≡ []) → left ≡ [] → Ends after now later new Done
      ends_done some end none = ended_here Done later took_same all_asked (inr (refl, none, (let counted = s.counted in omega arith), λ h. sym (same h) ∙ end h)) s.so.wrote

      pub ends_cut : 0 < room → (U → source_left ≡ []) → ¬ (left ≡ []) → Ends after now later new Cut
      ends_cut some end more =
          ended_here Cut later took_same all_asked (refl, s.part, not_nothing left more, (let counted = s.counted in omega arith), λ h. sym (same h) ∙ end h) s.so.wrote
        where
          not_nothing : (l : List ℕ) → ¬ (l ≡ []) → 0 < length l
          not_nothing [] m = absurd (m refl)
          not_nothing (y ∷ l) m = omega arith

  -- ---- a piece was taken

  module _ (middle after : PassView) (between now : S) (room later : ℕ) (source_left source_later left got rest middle_bytes new : List ℕ) (s : SoFar middle between room source_left left middle_bytes)
      (moved : U → source_left ≡ got ++ source_later) (fewer : later + length got ≡ room) (short : length got ≤ piece) where
    taken_now : U → left0 ≡ (s.taken ++ got) ++ source_later
    taken_now h = s.took h ∙ ap (λ t. s.taken ++ t) (moved h) ∙ sym (append_assoc s.taken got source_later)

    counted_now : length (s.taken ++ got) + later ≡ limit
    counted_now = let counted = s.counted in omega (arith, length-append s.taken got)

    few_now : length (s.taken ++ got) ≤ limit
    few_now = let counted = counted_now in omega arith

    whole_now : s.taken ++ got ≡ spellings s.so.requests ++ (left ++ got)
    whole_now = ap (λ t. t ++ got) s.so.whole ∙ append_assoc (spellings s.so.requests) left got

    -- and could not be kept
    pub ends_memory : new ≡ middle_bytes → after ≡ middle → now ≡ between → Ends after now source_later new Memory
    ends_memory same still kept = record {
      taken = s.taken ++ got;
      requests = s.so.requests;
      replies = s.so.replies;
      quit = false;
      rest = left ++ got;
      few = few_now;
      took = taken_now;
      asked = begins_with (s.taken ++ got) s.so.requests (left ++ got) whole_now s.so.each;
      ends = refl;
      small = s.so.small;
      did = (subst (λ a. Calls limits before s.so.requests s.so.replies a) (sym still) s.so.calls, subst (λ a. Chain Does start s.so.requests s.so.replies a) (sym kept) s.so.steps, λ h. same ∙ s.so.wrote h);
    }

    abbrev Turned : Option End → Type 0
    Turned ended = Turn (left ++ got) rest (λ xs rs. Calls limits middle xs rs after × Chain Does between xs rs now × (T → WroteSoFar ended middle_bytes new rs)) ended

    module _ (ended : Option End) (t : Turned ended) where
      abbrev xs_now : List Command
      xs_now = s.so.requests ++ t.requests

      abbrev rs_now : List Numbered
      rs_now = s.so.replies ++ t.replies

      calls_now : Calls limits before xs_now rs_now after
      calls_now = chain_append (λ a x r b. Answered limits a b x r) before middle after s.so.requests t.requests s.so.replies t.replies s.so.calls t.did.0

      steps_now : Chain Does start xs_now rs_now now
      steps_now = chain_append Does start between now s.so.requests t.requests s.so.replies t.replies s.so.steps t.did.1

      each_now : All IsCall xs_now
      each_now = All-append IsCall s.so.requests t.requests s.so.each t.each

      small_now : All IsReply rs_now
      small_now = All-append IsReply s.so.replies t.replies s.so.small t.small

      all_now : (tail : List ℕ) → left ++ got ≡ spellings t.requests ++ tail → s.taken ++ got ≡ spellings xs_now ++ tail
      all_now tail e = whole_now ∙ ap (λ b. spellings s.so.requests ++ b) e ∙ sym (append_assoc (spellings s.so.requests) (spellings t.requests) tail) ∙ ap (λ b. b ++ tail) (sym (spellings_append s.so.requests t.requests))

      behind : (whole : List Numbered) → T → middle_bytes ++ written whole ≡ old ++ written (s.so.replies ++ whole)
      behind whole h = ap (λ b. b ++ written whole) (s.so.wrote h) ∙ append_assoc old (written s.so.replies) (written whole) ∙ ap (λ b. old ++ b) (sym (written_append s.so.replies whole))

      wrote_now : (T → new ≡ middle_bytes ++ written t.replies) → T → new ≡ old ++ written rs_now
      wrote_now w h = w h ∙ behind t.replies h

      none_before : HasNone left
      none_before = part_has_none left s.part

      some_now : 0 < length t.requests → 0 < length xs_now
      some_now some = omega (arith, length-append s.so.requests t.requests)

    wrote_part : (t : Turned (Some WriteFault)) → T → WrotePart old new (rs_now (Some WriteFault) t)
    wrote_part t h =
        let w = t.did.2 h in
        record {
          whole = s.so.replies ++ w.whole;
          last = w.last;
          all = ap (λ q. s.so.replies ++ q) w.all ∙ sym (append_assoc s.so.replies w.whole (w.last ∷ []));
          front = subst (λ b. AppendsFront b new (reply_bytes w.last)) (behind (Some WriteFault) t w.whole h) w.front;
        }

    wrote_but_last : (t : Turned (Some StoreFault)) → T → WroteButLast old new (rs_now (Some StoreFault) t)
    wrote_but_last t h =
        let w = t.did.2 h in
        record {
          whole = s.so.replies ++ w.whole;
          last = w.last;
          all = ap (λ q. s.so.replies ++ q) w.all ∙ sym (append_assoc s.so.replies w.whole (w.last ∷ []));
          bytes = w.bytes ∙ behind (Some StoreFault) t w.whole h;
        }

    -- and the session goes on
    pub goes_on : Turned None → SoFar after now later source_later rest new
    goes_on t = record {
      taken = s.taken ++ got;
      so = record { requests = xs_now None t; replies = rs_now None t; calls = calls_now None t; steps = steps_now None t; each = each_now None t; small = small_now None t; whole = all_now None t rest t.stops.0; wrote = wrote_now None t t.did.2 };
      took = taken_now;
      counted = counted_now;
      part = t.stops.1;
    }

    -- or ends
    ended_by : (end : End) (t : Turned (Some end)) (quit : Bool) (left_over : List ℕ) → Asked end (s.taken ++ got) (xs_now (Some end) t) quit left_over
        → EndsBy limit (s.taken ++ got) (U → source_later ≡ []) (xs_now (Some end) t) quit left_over end → (T → Wrote end old new (rs_now (Some end) t)) → Ends after now source_later new end
    ended_by end t quit left_over asked ends wrote = record {
      taken = s.taken ++ got;
      requests = xs_now (Some end) t;
      replies = rs_now (Some end) t;
      quit = quit;
      rest = left_over;
      few = few_now;
      took = taken_now;
      asked = asked;
      ends = ends;
      small = small_now (Some end) t;
      did = (calls_now (Some end) t, steps_now (Some end) t, wrote);
    }

    -- what stands behind the requests of the turn
    asked_first : (end : End) (t : Turned (Some end)) (tail : List ℕ) → left ++ got ≡ spellings t.requests ++ tail → Begins (s.taken ++ got) (xs_now (Some end) t) false tail
    asked_first end t tail e = begins_with (s.taken ++ got) (xs_now (Some end) t) tail (all_now (Some end) t tail e) (each_now (Some end) t)

    -- a request was answered, so less than a piece is left
    less_than_piece : (end : End) (t : Turned (Some end)) → 0 < length t.requests → left ++ got ≡ spellings t.requests ++ rest → (0 < length (xs_now (Some end) t)) × (length rest < piece)
    less_than_piece end t some e = (some_now (Some end) t some, (let less = rest_of_more left got t.requests rest (none_before (Some end) t) t.each some e in omega arith))

    pub turned : (end : End) → Turned (Some end) → Ends after now source_later new end
    turned Done t =
        ended_by Done t true rest (all_to_quit (s.taken ++ got) (xs_now (Some Done) t) rest (all_now (Some Done) t (spelling Quit ++ rest) t.stops) (each_now (Some Done) t))
        (inl (refl, (let less = rest_of_quit left got t.requests rest (none_before (Some Done) t) t.each t.stops in omega arith))) (wrote_now (Some Done) t t.did.2)
    turned Bad t =
        ended_by Bad t false rest (all_requests (s.taken ++ got) (xs_now (Some Bad) t) rest (all_now (Some Bad) t rest t.stops.0) (each_now (Some Bad) t) t.stops.1.has_none)
        (refl, t.stops.1) (wrote_now (Some Bad) t t.did.2)
    turned WriteFault t =
        let less = less_than_piece WriteFault t t.stops.1 t.stops.0 in
        ended_by WriteFault t false rest (asked_first WriteFault t rest t.stops.0) (refl, less.0, less.1) (wrote_part t)
    turned StoreFault t =
        let less = less_than_piece StoreFault t t.stops.1 t.stops.0 in
        ended_by StoreFault t false rest (asked_first StoreFault t rest t.stops.0) (refl, less.0, less.1) (wrote_but_last t)
    turned Memory t = ended_by Memory t false t.stops.0 (asked_first Memory t t.stops.0 t.stops.1) refl (wrote_now (Some Memory) t t.did.2)
    turned ReadFault t = absurd t.stops
    turned Cut t = absurd t.stops
    turned Spent t = absurd t.stops

-- a turn over equal bytes, told of the same sink
pub turn_at : (limits : Limits) {S : Type 0} (Does : S → Command → Numbered → S → Type 0) (middle after : PassView) (between now : S) (bytes bytes' rest : List ℕ) (T T' : Type 0) (a b : List ℕ) (ended : Option End) → bytes ≡ bytes' → (T → T')
    → Turn bytes rest (λ xs rs. Calls limits middle xs rs after × Chain Does between xs rs now × (T' → WroteSoFar ended a b rs)) ended
    → Turn bytes' rest (λ xs rs. Calls limits middle xs rs after × Chain Does between xs rs now × (T → WroteSoFar ended a b rs)) ended
turn_at limits Does middle after between now bytes bytes' rest T T' a b ended same f t =
    record { requests = t.requests; replies = t.replies; each = t.each; small = t.small; stops = subst (λ x. Stops ended t.requests x rest) same t.stops; did = (t.did.0, t.did.1, λ h. t.did.2 (f h)) }
