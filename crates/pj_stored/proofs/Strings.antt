-- Strings that were read and accepted so far.
use Rattle.std.proofs.Common.{◌≡◌, ◌∙◌, ℕ, suc, ◌+◌, ◌*◌, ◌≤◌, Bool, true, IsTrue, List, [], ◌∷◌, ◌++◌, length, map, take, inl, inr, refl, sym, ap, subst, arith, append_assoc, append-nil, length-append, ⊎_elim}
use Rattle.std.proofs.lemmas.List.Elements.{All-nil, All-cons, All-append}
use Rattle.std.proofs.lemmas.List.{map-append}
use mathlib.Core.List.{IsPrefix}
use Rattle.pj_disk.specs.Told.{Where}
use Rattle.pj_disk.specs.Causes.{Rose}
use Rattle.pj_journal.specs.Format.{header}
use Rattle.pj_journal.specs.Log.{IsBroken}
use Rattle.pj_journal.specs.Stored.{EntryAt, IsClosedAt, Spans, end_of}
use Rattle.pj_journal.proofs.Entries.{spans_push, end_push, reads_stores}
use Rattle.pj_journal.proofs.Moments.{and_then}
use Rattle.pj_machine.specs.declared.command.Command.{Command}
use Rattle.pj_machine.specs.declared.limits.Limits.{Limits}
use Rattle.pj_machine.specs.declared.reply.Numbered.{Numbered}
use Rattle.pj_machine.specs.Answered.{Answered}
use Rattle.pj_machine.specs.Call.{PassView}
use Rattle.pj_machine.specs.Told.{is_entered}
use Rattle.pj_session.proofs.Chains.{chain_push, calls_count}
use Rattle.pj_session.proofs.Spoken.{grew_all}
use Rattle.pj_wire.specs.Requests.{spelling, IsCall}
use Rattle.pj_stored.specs.Answered.{AcceptedAll, Accepts, AnsweredAs, Declines, Lacks}
use Rattle.pj_stored.specs.Opened.{Behind, HasRestored, StoppedAt, Stopped, Lacked}
use Rattle.pj_stored.specs.Reading.{IsRead}

-- ---- a disk that is read

module _ {K : Type 0} (tells : K → Bool) (seen : K → List ℕ) (may_leave : K → List ℕ → Type 0) (moment : K → ℕ)
    (left_since : K → ℕ → List ℕ → Type 0) (faults : K → ℕ) where
  -- nothing was read
  pub read_none : (only_now : (disk : K) (c : List ℕ) → left_since disk (moment disk) c → may_leave disk c) (a : K) →
      IsRead tells seen may_leave moment left_since faults a a
  read_none only_now a = record {
    told = refl;
    count = omega arith;
    seen_is = λ told. refl;
    images = λ told c is. is;
    moments = λ told. record { later = omega arith; each = λ c left. only_now a c left; before = λ t c le left. inl left };
  }

  -- one reading after another
  pub read_on : (a b d : K) → IsRead tells seen may_leave moment left_since faults a b → IsRead tells seen may_leave moment left_since faults b d →
      IsRead tells seen may_leave moment left_since faults a d
  read_on a b d p q = record {
    told = q.told ∙ p.told;
    count = omega (arith, p.count, q.count);
    seen_is = λ told. q.seen_is (subst IsTrue (sym p.told) told) ∙ p.seen_is told;
    images = λ told c is. p.images told c (q.images (subst IsTrue (sym p.told) told) c is);
    moments = λ told.
        and_then moment left_since a b d (may_leave a) (may_leave b) (p.moments told) (q.moments (subst IsTrue (sym p.told) told)) (p.images told);
  }

-- a count that rose later rose
pub rose_on : (a b d : ℕ) → a ≤ b → Rose b d → Rose a d
rose_on a b d le rose = omega arith

-- ---- accepted strings

-- none
pub accepted_none : (limits : Limits) (a : PassView) → AcceptedAll limits a [] a
accepted_none limits a = record {
  commands = [];
  spelled = refl;
  each = All-nil IsCall;
  replies = [];
  calls = refl;
  entered = All-nil
      (λ r. is_entered r ≡ true);
}

-- one more
pub accepted_more : (limits : Limits) (a m b : PassView) (strings : List (List ℕ)) (string : List ℕ) → AcceptedAll limits a strings m →
    Accepts limits m b string →
    AcceptedAll limits a (strings ++ string ∷ []) b
accepted_more limits a m b strings string all one = record {
  commands = all.commands ++ one.command ∷ [];
  spelled = map-append spelling all.commands (one.command ∷ []) ∙ ap (λ l. l ++ spelling one.command ∷ []) all.spelled ∙ ap (λ s. strings ++ s ∷ [])
      (sym one.spelled);
  each = All-append IsCall all.commands (one.command ∷ []) all.each (All-cons IsCall one.command [] one.call (All-nil IsCall));
  replies = all.replies ++ one.reply ∷ [];
  calls = chain_push (λ a x r b. Answered limits a b x r) a m b all.commands all.replies one.command one.reply all.calls one.answered;
  entered = All-append (λ r. is_entered r ≡ true) all.replies (one.reply ∷ []) all.entered
      (All-cons (λ r. is_entered r ≡ true) one.reply [] one.says (All-nil (λ r. is_entered r ≡ true)));
}

-- each is a call
pub accepted_count : (limits : Limits) (a b : PassView) (strings : List (List ℕ)) → AcceptedAll limits a strings b → b.calls ≡ a.calls + length strings
accepted_count limits a b strings all =
    let size : length strings ≡ length all.commands = ap (λ (l : List (List ℕ)). length l) (sym all.spelled) ∙ length_map all.commands in
    calls_count limits a b all.commands all.replies all.calls ∙ ap (λ n. a.calls + n) (sym size)
  where
    length_map : (xs : List Command) → length (map spelling xs) ≡ length xs
    length_map [] = refl
    length_map (x ∷ xs) = ap (λ n. suc n) (length_map xs)

-- ---- a pass goes on

-- its number is the same, and what it had seen is a prefix
pub record IsLater (a b : PassView) : Type 0 where
  pub number : b.number ≡ a.number
  pub journal : IsPrefix a.journal b.journal

-- a pass that did nothing
later_same : (a b : PassView) → b ≡ a → IsLater a b
later_same a b e = record { number = ap (λ (p : PassView). p.number) e; journal = ([], append-nil a.journal ∙ ap (λ (p : PassView). p.journal) (sym e)) }

-- a pass that went on, and then went on
later_on : (a b d : PassView) → IsLater a b → IsLater b d → IsLater a d
later_on a b d p q = record {
  number = q.number ∙ p.number;
  journal = (p.journal.0 ++ q.journal.0, sym (append_assoc a.journal p.journal.0 q.journal.0) ∙ ap (λ t. t ++ q.journal.0) p.journal.1 ∙ q.journal.1);
}

-- strings were accepted
pub accepted_later : (limits : Limits) (a b : PassView) (strings : List (List ℕ)) → AcceptedAll limits a strings b → IsLater a b
accepted_later limits a b strings all =
    let grew = grew_all limits a b all.commands all.replies all.calls in record { number = grew.number; journal = grew.begins }

-- a string was answered
answered_later : (limits : Limits) (a b : PassView) (string : List ℕ) (Says : Numbered → Type 0) → AnsweredAs limits a b string Says → IsLater a b
answered_later limits a b string Says one = record { number = one.answered.number; journal = one.answered.journal }

-- a string was not accepted
pub declines_later : (limits : Limits) (a b : PassView) (string : List ℕ) → Declines limits a b string → IsLater a b
declines_later limits a b string (inl none) = later_same a b none.0
declines_later limits a b string (inr one) = answered_later limits a b string _ one

-- there was no memory for a string
lacks_later : (limits : Limits) (a b : PassView) (string : List ℕ) → Lacks limits a b string → IsLater a b
lacks_later limits a b string (inl none) = later_same a b none
lacks_later limits a b string (inr one) = answered_later limits a b string _ one

-- strings were accepted, and then the pass went on
behind_later : (limits : Limits) (a b : PassView) (told : Bool) (file : List ℕ) (Then : List (List ℕ) → PassView → Type 0)
    (behind : Behind limits a told file Then) →
    IsLater behind.middle b → IsLater a b
behind_later limits a b told file Then behind later = later_on a behind.middle b (accepted_later limits a behind.middle behind.strings behind.accepted) later

-- however it ends
module _ (limits : Limits) (a b : PassView) (told : Bool) (file : List ℕ) where
  -- all were accepted
  pub whole_later : HasRestored limits a b told file → IsLater a b
  whole_later h = accepted_later limits a b h.strings h.accepted

  -- the pass stopped at an entry
  pub stopped_later : (number : ℕ) → StoppedAt limits a b told file number → IsLater a b
  stopped_later number h =
      behind_later limits a b told file _ h
      (⊎_elim (λ none. later_same h.middle b none.same) (λ other. declines_later limits h.middle b other.string other.declined) h.then.1)

  -- a string was not read
  pub unread_later : Stopped limits a b told file → IsLater a b
  unread_later h = behind_later limits a b told file _ h (later_same h.middle b h.then)

  -- there was no memory
  pub lacked_later : Lacked limits a b told file → IsLater a b
  lacked_later h =
      behind_later limits a b told file _ h
      (⊎_elim (λ none. later_same h.middle b none) (λ more. lacks_later limits h.middle b more.string more.lacks) h.then)

-- an entry that was found stands in the file, which was only read
pub stands_there : (told now : Bool) (file seen : List ℕ) (place : ℕ) (string items : List ℕ) → now ≡ told → Where told (seen ≡ file) → string ≡ items →
    Where now (EntryAt seen place items) → Where told (EntryAt file place string)
stands_there told now file seen place string items same is text found h =
    subst (λ f. EntryAt f place string) (is h) (subst (λ t. EntryAt seen place t) (sym text) (found (subst IsTrue (sym same) h)))

-- ---- so far

-- the strings up to the place were accepted, and this is the number of the next one
pub record SoFar (limits : Limits) (old now : PassView) (told : Bool) (file : List ℕ) (place number : ℕ) : Type 0 where
  pub strings : List (List ℕ)
  pub accepted : AcceptedAll limits old strings now
  pub spans : Where told (Spans file 8 strings)
  pub place_is : end_of 8 strings ≡ place
  pub number_is : number ≡ length strings + 1

-- none
pub so_far_none : (limits : Limits) (old : PassView) (told : Bool) (file : List ℕ) → SoFar limits old old told file 8 1
so_far_none limits old told file = record { strings = []; accepted = accepted_none limits old; spans = λ h. tt; place_is = refl; number_is = refl }

-- each string takes nine bytes and more
end_count : (place : ℕ) (strings : List (List ℕ)) → place + 9 * length strings ≤ end_of place strings
end_count place [] = omega arith
end_count place (string ∷ strings) = let more = end_count (place + (9 + length string)) strings in omega arith

module _ (limits : Limits) (old now : PassView) (told : Bool) (file : List ℕ) (place number : ℕ) (so_far : SoFar limits old now told file place number) where
  -- there are fewer than bytes
  pub few_so_far : 9 * number ≤ place + 1
  few_so_far = omega (arith, end_count 8 so_far.strings, so_far.place_is, so_far.number_is)

  -- each string so far was one call
  pub calls_so_far : now.calls + 1 ≡ old.calls + number
  calls_so_far = omega (arith, accepted_count limits old now so_far.strings so_far.accepted, so_far.number_is)

  -- one more
  pub so_far_more : (next : PassView) (string : List ℕ) (behind : ℕ) → Where told (EntryAt file place string) → Accepts limits now next string →
      behind ≡ place + (9 + length string) → SoFar limits old next told file behind (number + 1)
  so_far_more next string behind stands one is = record {
    strings = so_far.strings ++ string ∷ [];
    accepted = accepted_more limits old now next so_far.strings string so_far.accepted one;
    spans = λ h. spans_push file 8 so_far.strings string (so_far.spans h) (subst (λ p. EntryAt file p string) (sym so_far.place_is) (stands h));
    place_is = end_push 8 so_far.strings string ∙ ap (λ p. p + (9 + length string)) so_far.place_is ∙ sym is;
    number_is = omega (arith, so_far.number_is, length-append so_far.strings (string ∷ []));
  }

  -- the end
  pub ends : Where told (take 8 file ≡ header) → Where told (IsClosedAt file place) → HasRestored limits old now told file
  ends begins closed = record {
    strings = so_far.strings;
    accepted = so_far.accepted;
    stored = λ h. reads_stores file so_far.strings
        (record { header = begins h; entries = so_far.spans h; closed = subst (IsClosedAt file) (sym so_far.place_is) (closed h) });
  }

  -- an entry is broken
  pub stops_broken : Where told (IsBroken file place) → StoppedAt limits old now told file number
  stops_broken broken = record {
    strings = so_far.strings;
    middle = now;
    accepted = so_far.accepted;
    spans = so_far.spans;
    then = (so_far.number_is, inl (record { same = refl; broken = λ h. subst (IsBroken file) (sym so_far.place_is) (broken h) }));
  }

  -- one was not accepted
  pub stops_other : (next : PassView) (string : List ℕ) → Where told (EntryAt file place string) → Declines limits now next string →
      StoppedAt limits old next told file number
  stops_other next string stands declined = record {
    strings = so_far.strings;
    middle = now;
    accepted = so_far.accepted;
    spans = so_far.spans;
    then = (
      so_far.number_is,
      inr
          (record { string = string; stands = λ h. subst (λ p. EntryAt file p string) (sym so_far.place_is) (stands h); declined = declined }),
    );
  }

  -- the disk failed
  pub stops : Stopped limits old now told file
  stops = record { strings = so_far.strings; middle = now; accepted = so_far.accepted; spans = so_far.spans; then = refl }

  -- there was no memory for a string
  pub lacks_string : Lacked limits old now told file
  lacks_string = record { strings = so_far.strings; middle = now; accepted = so_far.accepted; spans = so_far.spans; then = inl refl }

  -- nor to answer it
  pub lacks_answer : (next : PassView) (string : List ℕ) → Where told (EntryAt file place string) → Lacks limits now next string →
      Lacked limits old next told file
  lacks_answer next string stands lacks = record {
    strings = so_far.strings;
    middle = now;
    accepted = so_far.accepted;
    spans = so_far.spans;
    then = inr (record { string = string; stands = λ h. subst (λ p. EntryAt file p string) (sym so_far.place_is) (stands h); lacks = lacks });
  }
