-- The entries of a pass are the writes of its accepted requests.
use Rattle.std.proofs.Common.{◌≡◌, ◌≢◌, ◌==◌, ℕ, zero, suc, ◌+◌, ◌<◌, ◌≤◌, Bool, true, false, cond, List, [], ◌∷◌, ◌++◌, length, filter, take, drop, All, inl, inr, refl, sym, ◌∙◌, ap, arith, append_assoc, length-append, eq-eqb, ◌⊎◌}
use Rattle.std.specs.Prelude.{nat_le}
use Rattle.std.proofs.lemmas.List.{take-append-drop, take-append-le}
use Rattle.std.proofs.lemmas.List.Elements.{All-head, All-tail, filter-append}
use Rattle.pj_machine.specs.declared.command.Command.{Command}
use Rattle.pj_machine.specs.declared.command.Write.{Write}
use Rattle.pj_machine.specs.declared.command.Write.TheVariants as write
use Rattle.pj_machine.specs.declared.journal.Entry.{Entry}
use Rattle.pj_machine.specs.declared.limits.Limits.{Limits}
use Rattle.pj_machine.specs.declared.reply.Numbered.{Numbered}
use Rattle.pj_machine.specs.declared.reply.Numbered.TheVariants.{At, NoMemory}
use Rattle.pj_machine.specs.declared.reply.Reply.{Reply}
use Rattle.pj_machine.specs.Call.{entry, entries_of, entries_at, WasEntered, WasSeen}
use Rattle.pj_machine.specs.Entries.{commands, writes, numbered_from}
use Rattle.pj_machine.specs.Laws.{reply_of}
use Rattle.pj_machine.specs.Legal.{command_of}
use Rattle.pj_machine.specs.Told.{is_entered}
use Rattle.pj_machine.proofs.Entered.{entered}
use Rattle.pj_machine.proofs.NoneTold.{none_told}
use Rattle.pj_session.specs.Entering.{accepted, EntersAccepted, AcceptedInOrder}
use Rattle.pj_session.specs.Spoke.{Spoke, AreResults, IsPlaced}

-- ---- entries by their calls

-- those of one call, and those of the calls from one on
abbrev pub of_call : ℕ → List Entry → List Entry
of_call call es = filter (λ e. e.call == call) es

abbrev pub since : ℕ → List Entry → List Entry
since call es = filter (λ e. nat_le call e.call) es

-- without an entry of a call, those from the call on are those from the next one on
pub none_of : (call : ℕ) (es : List Entry) → of_call call es ≡ [] → since call es ≡ since (call + 1) es
none_of call [] none = refl
none_of call (e ∷ es) none = go (none_of call es) (e.call == call) refl (nat_le call e.call) refl (nat_le (call + 1) e.call) refl
  where
    go : (of_call call es ≡ [] → since call es ≡ since (call + 1) es) → (here : Bool) → (e.call == call) ≡ here → (b : Bool) → nat_le call e.call ≡ b →
        (later : Bool) → nat_le (call + 1) e.call ≡ later → since call (e ∷ es) ≡ since (call + 1) (e ∷ es)
    go rest true is b p later q = absurd (let h : e ∷ of_call call es ≡ [] = sym (ap (λ t. cond t (e ∷ of_call call es) (of_call call es)) is) ∙ none in cc)
    go rest false is true p true q = rw p (rw q (ap (λ t. e ∷ t) (rest (sym (ap (λ t. cond t (e ∷ of_call call es) (of_call call es)) is) ∙ none))))
    go rest false is false p false q = rw p (rw q (rest (sym (ap (λ t. cond t (e ∷ of_call call es) (of_call call es)) is) ∙ none)))
    go rest false is true p false q = absurd (grind (arith, is, p, q))
    go rest false is false p true q = absurd (grind (arith, is, p, q))

-- where no call is so late, there are none
pub none_since : (call : ℕ) (es : List Entry) → All (λ e. e.call < call) es → since call es ≡ []
none_since call [] before = refl
none_since call (e ∷ es) before =
    let h = All-head (λ x. x.call < call) e es before in
    let not : nat_le call e.call ≡ false = grind (arith, h) in
    rw not (none_since call es (All-tail (λ x. x.call < call) e es before))

-- where all calls are so late, they are all
pub all_since : (call : ℕ) (es : List Entry) → All (λ e. call ≤ e.call) es → since call es ≡ es
all_since call [] late = refl
all_since call (e ∷ es) late =
    let h = All-head (λ x. call ≤ x.call) e es late in
    let is : nat_le call e.call ≡ true = grind (arith, h) in
    rw is (ap (λ t. e ∷ t) (all_since call es (All-tail (λ x. call ≤ x.call) e es late)))

pub none_before : {X : Type 0} (a b : List X) → a ++ b ≡ [] → a ≡ []
none_before [] b e = refl
none_before (x ∷ a) b e = absurd (cc e)

-- one element between two lists is all where the whole is of one
only_before : (a b : List Entry) (e f : Entry) → a ++ e ∷ b ≡ f ∷ [] → a ≡ []
only_before [] b e f h = refl
only_before (x ∷ a) b e f h =
    absurd (let n = length-append a (e ∷ b) in let size : length (a ++ e ∷ b) ≡ 0 = (let t : a ++ e ∷ b ≡ [] = cc in ap (λ (l : List Entry). length l) t) in omega arith)

only_behind : (a b : List Entry) (e f : Entry) → a ++ e ∷ b ≡ f ∷ [] → b ≡ []
only_behind [] b e f h = cc
only_behind (x ∷ a) b e f h =
    absurd (let n = length-append a (e ∷ b) in let size : length (a ++ e ∷ b) ≡ 0 = (let t : a ++ e ∷ b ≡ [] = cc in ap (λ (l : List Entry). length l) t) in omega arith)

-- the reply to a write that is entered tells so
pub entered_told : (place : ℕ) (w : Write) → is_entered (At place (reply_of w)) ≡ true
entered_told place (write.Put r) = refl
entered_told place (write.New name) = refl
entered_told place (write.Fork from to) = refl
entered_told place (write.Drop name) = refl
entered_told place (write.Apply name change) = refl
entered_told place (write.Unrecord name change) = refl
entered_told place (write.Uproot name change) = refl
entered_told place (write.Pull into from) = refl

module _ (limits : Limits) (journal : List Entry) (pass : ℕ) where
  -- the entries of the calls from one on are those of these requests, and none of them stands in a front of the journal
  record Stand (call low : ℕ) (xs : List Command) (rs : List Numbered) : Type 0 where
    entries : List Entry
    of_requests : commands entries ≡ accepted xs rs
    are : since call (entries_of pass journal) ≡ entries
    none_yet : since call (entries_of pass (take low journal)) ≡ []
    in_order : All (λ r. is_entered r ≡ true) rs → entries ≡ numbered_from pass call (writes entries)

  -- a front of what has none has none
  front_none : (call : ℕ) (es front rest : List Entry) → es ≡ front ++ rest → since call (entries_of pass es) ≡ [] → since call (entries_of pass front) ≡ []
  front_none call es front rest is none =
      let parted : since call (entries_of pass front) ++ since call (entries_of pass rest) ≡ [] =
      sym (ap (λ l. since call l) (ap (λ l. entries_of pass l) is ∙ filter-append (λ e. e.pass == pass) front rest) ∙ filter-append (λ e. nat_le call e.call) (entries_of pass front) (entries_of pass rest)) ∙ none in
      none_before (since call (entries_of pass front)) (since call (entries_of pass rest)) parted

  -- an entered call before those that stand
  stands_more : (call low place : ℕ) (x : Command) (xs : List Command) (reply : Reply) (rs : List Numbered) → low < place →
      WasEntered limits journal pass call place x reply → Stand (call + 1) place xs rs → Stand call low (x ∷ xs) (At place reply ∷ rs)
  stands_more call low place x xs reply rs above w rest = record {
    entries = e ∷ rest.entries;
    of_requests = ap (λ c. c ∷ commands rest.entries) asked ∙ ap (λ t. x ∷ t) rest.of_requests ∙ sym (ap (λ b. cond b (x ∷ accepted xs rs) (accepted xs rs)) told);
    are = ap (λ l. since call l) whole ∙ filter-append (λ f. nat_le call f.call) B (e ∷ A) ∙ ap (λ l. l ++ since call (e ∷ A)) nothing
        ∙ ap (λ b. cond b (e ∷ since call A) (since call A)) here ∙ ap (λ l. e ∷ l) (none_of call A none_A ∙ sym later_A ∙ rest.are);
    none_yet = front_none call w.before (take low journal) (drop low w.before) front nothing;
    in_order = λ all. ap (λ l. e ∷ l) (rest.in_order (All-tail (λ r. is_entered r ≡ true) (At place reply) rs all));
  }
    where
      e : Entry
      e = entry pass call w.write

      asked : command_of w.write ≡ x
      asked = (entered limits w.before x reply w.write w.answer).0

      told : is_entered (At place reply) ≡ true
      told = ap (λ y. is_entered (At place y)) (entered limits w.before x reply w.write w.answer).1 ∙ entered_told place w.write

      B : List Entry
      B = entries_of pass w.before

      A : List Entry
      A = entries_of pass w.after

      own : entries_of pass (e ∷ w.after) ≡ e ∷ A
      own = ap (λ b. cond b (e ∷ A) A) (eq-eqb pass pass refl)

      whole : entries_of pass journal ≡ B ++ e ∷ A
      whole = ap (λ l. entries_of pass l) w.stands ∙ filter-append (λ f. f.pass == pass) w.before (e ∷ w.after) ∙ ap (λ l. B ++ l) own

      here : nat_le call call ≡ true
      here = grind arith

      not_later : nat_le (call + 1) call ≡ false
      not_later = grind arith

      once : of_call call B ++ e ∷ of_call call A ≡ e ∷ []
      once = sym (ap (λ l. of_call call l) whole ∙ filter-append (λ f. f.call == call) B (e ∷ A) ∙ ap (λ b. of_call call B ++ cond b (e ∷ of_call call A) (of_call call A)) (eq-eqb call call refl)) ∙ w.once

      none_B : of_call call B ≡ []
      none_B = only_before (of_call call B) (of_call call A) e e once

      none_A : of_call call A ≡ []
      none_A = only_behind (of_call call B) (of_call call A) e e once

      -- the entries before the place
      up_to : take place journal ≡ w.before ++ e ∷ []
      up_to = ap (λ n. take n journal) w.at ∙ ap (λ l. take (length w.before + 1) l) (w.stands ∙ sym (append_assoc w.before (e ∷ []) w.after)) ∙ cut (w.before ++ e ∷ []) w.after (length w.before + 1) (length-append w.before (e ∷ []))
        where
          cut : (a b : List Entry) (n : ℕ) → length a ≡ n → take n (a ++ b) ≡ a
          cut [] [] zero h = refl
          cut [] (x ∷ b) zero h = refl
          cut [] b (suc n) h = absurd (omega arith)
          cut (x ∷ a) b zero h = absurd (omega arith)
          cut (x ∷ a) b (suc n) h = ap (λ l. x ∷ l) (cut a b n (omega arith))

      later_B : since (call + 1) B ≡ []
      later_B = front_none (call + 1) (take place journal) w.before (e ∷ []) up_to rest.none_yet

      nothing : since call B ≡ []
      nothing = none_of call B none_B ∙ later_B

      later_A : since (call + 1) (entries_of pass journal) ≡ since (call + 1) A
      later_A = ap (λ l. since (call + 1) l) whole ∙ filter-append (λ f. nat_le (call + 1) f.call) B (e ∷ A) ∙ ap (λ l. l ++ since (call + 1) (e ∷ A)) later_B
          ∙ ap (λ b. cond b (e ∷ since (call + 1) A) (since (call + 1) A)) not_later

      front : w.before ≡ take low journal ++ drop low w.before
      front = sym (take-append-drop low w.before) ∙ ap (λ l. l ++ drop low w.before) (sym (ap (λ l. take low l) w.stands ∙ take-append-le low w.before (e ∷ w.after) (let a = w.at in omega arith)))

  -- fewer entries of a longer front
  shorter : (call low high : ℕ) → low ≤ high → since call (entries_of pass (take high journal)) ≡ [] → since call (entries_of pass (take low journal)) ≡ []
  shorter call low high under none = front_none call (take high journal) (take low journal) (drop low (take high journal)) parts none
    where
      fewer : (es : List Entry) (n m : ℕ) → n ≤ m → take n (take m es) ≡ take n es
      fewer [] zero m h = refl
      fewer [] (suc n) zero h = refl
      fewer [] (suc n) (suc m) h = refl
      fewer (e ∷ es) zero m h = refl
      fewer (e ∷ es) (suc n) zero h = absurd (omega arith)
      fewer (e ∷ es) (suc n) (suc m) h = ap (λ l. e ∷ l) (fewer es n m (omega arith))

      parts : take high journal ≡ take low journal ++ drop low (take high journal)
      parts = sym (take-append-drop low (take high journal)) ∙ ap (λ l. l ++ drop low (take high journal)) (fewer journal low high under)

  -- a call that entered nothing before those that stand
  stands_on : (call low high : ℕ) (x : Command) (xs : List Command) (r : Numbered) (rs : List Numbered) → low ≤ high → is_entered r ≡ false →
      entries_at pass call journal ≡ [] → Stand (call + 1) high xs rs → Stand call low (x ∷ xs) (r ∷ rs)
  stands_on call low high x xs r rs under other none rest = record {
    entries = rest.entries;
    of_requests = rest.of_requests ∙ sym (ap (λ b. cond b (x ∷ accepted xs rs) (accepted xs rs)) other);
    are = none_of call (entries_of pass journal) none ∙ rest.are;
    none_yet = none_of call (entries_of pass (take low journal)) none_front ∙ shorter (call + 1) low high under rest.none_yet;
    in_order = λ all. absurd (let h = All-head (λ r. is_entered r ≡ true) r rs all in let no : true ≡ false = sym h ∙ other in cc no);
  }
    where
      front : of_call call (entries_of pass (take low journal)) ++ of_call call (entries_of pass (drop low journal)) ≡ []
      front = sym (filter-append (λ f. f.call == call) (entries_of pass (take low journal)) (entries_of pass (drop low journal)))
          ∙ ap (λ l. of_call call l) (sym (filter-append (λ f. f.pass == pass) (take low journal) (drop low journal)) ∙ ap (λ l. entries_of pass l) (take-append-drop low journal)) ∙ none

      none_front : of_call call (entries_of pass (take low journal)) ≡ []
      none_front = none_before (of_call call (entries_of pass (take low journal))) (of_call call (entries_of pass (drop low journal))) front

  later_calls : (call n : ℕ) (es : List Entry) → All (λ e. e.call < call + suc n) es → All (λ e. e.call < call + 1 + n) es
  later_calls call n es few k d lt = let h = few k d lt in omega arith

  -- a call with a reply before those that stand
  by_result : (call low place : ℕ) (x : Command) (xs : List Command) (reply : Reply) (rs : List Numbered) →
      WasEntered limits journal pass call place x reply ⊎ WasSeen limits journal pass call place x reply →
      IsPlaced journal pass call low (At place reply) → Stand (call + 1) place xs rs → Stand call low (x ∷ xs) (At place reply ∷ rs)
  by_result call low place x xs reply rs (inl w) placed rest =
      let some : entries_at pass call journal ≢ [] = λ none. let h : entry pass call w.write ∷ [] ≡ [] = sym w.once ∙ none in cc in
      stands_more call low place x xs reply rs (placed.1 some) w rest
  by_result call low place x xs reply rs (inr s) placed rest =
      stands_on call low place x xs (At place reply) rs placed.0 (none_told limits s.before x place reply s.answer) s.none rest

  stand_all : (call low : ℕ) (xs : List Command) (rs : List Numbered) → AreResults limits journal pass call low xs rs →
      All (λ e. e.call < call + length xs) (entries_of pass journal) → Stand call low xs rs
  stand_all call low [] [] results few =
      let none : since call (entries_of pass journal) ≡ [] = none_since call (entries_of pass journal) (λ k d lt. let h = few k d lt in omega arith) in
      record {
        entries = [];
        of_requests = refl;
        are = none;
        none_yet = front_none call journal (take low journal) (drop low journal) (sym (take-append-drop low journal)) none;
        in_order = λ all. refl;
      }
  stand_all call low [] (r ∷ rs) results few = absurd results
  stand_all call low (x ∷ xs) [] results few = absurd results
  stand_all call low (x ∷ xs) (NoMemory ∷ rs) results few =
      stands_on call low low x xs NoMemory rs (omega arith) refl results.0 (stand_all (call + 1) low xs rs results.2 (later_calls call (length xs) (entries_of pass journal) few))
  stand_all call low (x ∷ xs) (At place reply ∷ rs) results few =
      by_result call low place x xs reply rs results.0 results.1 (stand_all (call + 1) place xs rs results.2 (later_calls call (length xs) (entries_of pass journal) few))

-- ---- the laws

module _ (limits : Limits) (journal : List Entry) (pass : ℕ) (xs : List Command) (rs : List Numbered) (spoke : Spoke limits journal pass xs rs) where
  spoken : Stand limits journal pass 1 0 xs rs
  spoken = stand_all limits journal pass 1 0 xs rs spoke.results (λ k d lt. let h = (spoke.no_other k d lt).1 in omega arith)

  all_are : entries_of pass journal ≡ spoken.entries
  all_are = sym (all_since 1 (entries_of pass journal) (λ k d lt. let h = (spoke.no_other k d lt).0 in omega arith)) ∙ spoken.are

pub enters_accepted : EntersAccepted
enters_accepted limits journal pass xs rs spoke =
    ap commands (all_are limits journal pass xs rs spoke) ∙ (spoken limits journal pass xs rs spoke).of_requests

pub accepted_in_order : AcceptedInOrder
accepted_in_order limits journal pass xs rs spoke all =
    let same = all_are limits journal pass xs rs spoke in
    same ∙ (spoken limits journal pass xs rs spoke).in_order all ∙ ap (λ es. numbered_from pass 1 (writes es)) (sym same)
