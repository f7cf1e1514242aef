-- From calls one by one to what was spoken in one journal.
use Rattle.std.proofs.Common.{◌≡◌, ◌≢◌, ◌⊎◌, ◌==◌, ℕ, ◌+◌, ◌<◌, ◌≤◌, Bool, true, false, cond, List, [], ◌∷◌, ◌++◌, length, filter, All, refl, sym, ◌∙◌, ap, subst, inl, inr, arith, append_assoc, append-nil, length-append, ⊎_elim}
use Rattle.std.specs.List.{AllByRecursion}
use Rattle.std.proofs.lemmas.List.Elements.{All-from_recursion}
use Rattle.std.proofs.lemmas.Bool.{ne_eqb}
use mathlib.Core.List.{IsPrefix}
use Rattle.pj_machine.specs.declared.command.Command.{Command}
use Rattle.pj_machine.specs.declared.journal.Entry.{Entry}
use Rattle.pj_machine.specs.declared.limits.Limits.{Limits}
use Rattle.pj_machine.specs.declared.reply.Numbered.{Numbered}
use Rattle.pj_machine.specs.declared.reply.Numbered.TheVariants.{At, NoMemory}
use Rattle.pj_machine.specs.Answered.{Answered}
use Rattle.pj_machine.specs.Call.{PassView, IsFresh, IsResult, IsAtEnd, GainsLast, entry, entries_of, entries_at, own}
use Rattle.pj_session.specs.Calls.{Calls}
use Rattle.pj_session.specs.Spoke.{Spoke, AreResults, IsPlaced, IsOfFirst, place_after}
use Rattle.pj_session.proofs.Chains.{calls_count}

-- ---- entries by their calls

-- the calls of these entries are above `low` and at most `high`
abbrev pub Within : ℕ → ℕ → List Entry → Type 0
Within low high es = AllByRecursion (λ e. (low < e.call) × (e.call ≤ high)) es

within_append : (low high : ℕ) (es fs : List Entry) → Within low high es → Within low high fs → Within low high (es ++ fs)
within_append low high [] fs p q = q
within_append low high (e ∷ es) fs p q = (p.0, within_append low high es fs p.1 q)

within_wider : (low high lower higher : ℕ) (es : List Entry) → lower ≤ low → high ≤ higher → Within low high es → Within lower higher es
within_wider low high lower higher [] a b p = tt
within_wider low high lower higher (e ∷ es) a b p = let at = p.0 in ((omega arith, omega arith), within_wider low high lower higher es a b p.1)

-- the entries of one call among these
abbrev of_call : ℕ → List Entry → List Entry
of_call call es = filter (λ e. e.call == call) es

of_call_append : (call : ℕ) (es fs : List Entry) → of_call call (es ++ fs) ≡ of_call call es ++ of_call call fs
of_call_append call [] fs = refl
of_call_append call (e ∷ es) fs = by_case (e.call == call) (of_call_append call es fs)
  where
    by_case : (b : Bool) → of_call call (es ++ fs) ≡ of_call call es ++ of_call call fs → cond b (e ∷ of_call call (es ++ fs)) (of_call call (es ++ fs)) ≡ cond b (e ∷ of_call call es) (of_call call es) ++ of_call call fs
    by_case true h = ap (λ t. e ∷ t) h
    by_case false h = h

none_of_call : (low high call : ℕ) (es : List Entry) → Within low high es → (call ≤ low) ⊎ (high < call) → of_call call es ≡ []
none_of_call low high call [] p out = refl
none_of_call low high call (e ∷ es) p out =
    let at = p.0 in
    let differs : e.call ≢ call = λ same. ⊎_elim (λ le. absurd (omega (arith, le))) (λ lt. absurd (omega (arith, lt))) out in
    ap (λ b. cond b (e ∷ of_call call es) (of_call call es)) (ne_eqb e.call call differs) ∙ none_of_call low high call es p.1 out

-- ---- a pass goes on

-- what it had seen is a front of what it has seen now, and its own entries gained these, of later calls
pub record Grew (before after : PassView) : Type 0 where
  pub begins : IsPrefix before.journal after.journal
  pub number : after.number ≡ before.number
  pub rises : before.calls ≤ after.calls
  pub gained : List Entry
  pub own_is : own after ≡ own before ++ gained
  pub within : Within before.calls after.calls gained

grew_same : (t : PassView) → Grew t t
grew_same t = record { begins = ([], append-nil t.journal); number = refl; rises = omega arith; gained = []; own_is = sym (append-nil (own t)); within = tt }

grew_on : (a b c : PassView) → Grew a b → Grew b c → Grew a c
grew_on a b c p q = record {
  begins = (p.begins.0 ++ q.begins.0, sym (append_assoc a.journal p.begins.0 q.begins.0) ∙ ap (λ t. t ++ q.begins.0) p.begins.1 ∙ q.begins.1);
  number = q.number ∙ p.number;
  rises = (let x = p.rises in let y = q.rises in omega arith);
  gained = p.gained ++ q.gained;
  own_is = q.own_is ∙ ap (λ t. t ++ q.gained) p.own_is ∙ append_assoc (own a) p.gained q.gained;
  within = (let x = p.rises in let y = q.rises in within_append a.calls c.calls p.gained q.gained (within_wider a.calls b.calls a.calls c.calls p.gained (omega arith) y p.within) (within_wider b.calls c.calls a.calls c.calls q.gained x (omega arith) q.within));
}

grew_one : (limits : Limits) (a b : PassView) (x : Command) (r : Numbered) → Answered limits a b x r → Grew a b
grew_one limits a b x r one = let calls = one.calls in ⊎_elim
    (λ same. record { begins = one.journal; number = one.number; rises = omega arith; gained = []; own_is = same ∙ sym (append-nil (own a)); within = tt })
    (λ g. record { begins = one.journal; number = one.number; rises = omega arith; gained = entry b.number b.calls g.write ∷ []; own_is = g.gained; within = ((omega arith, omega arith), tt) })
    one.own

pub grew_all : (limits : Limits) (a b : PassView) (xs : List Command) (rs : List Numbered) → Calls limits a xs rs b → Grew a b
grew_all limits a b [] [] p = subst (λ t. Grew a t) (sym p) (grew_same a)
grew_all limits a b (x ∷ xs) (r ∷ rs) p = grew_on a p.0 b (grew_one limits a p.0 x r p.1) (grew_all limits p.0 b xs rs p.2)
grew_all limits a b [] (r ∷ rs) p = absurd p
grew_all limits a b (x ∷ xs) [] p = absurd p

-- ---- a result in a longer journal

result_later : (limits : Limits) (journal longer : List Entry) (pass call : ℕ) (x : Command) (r : Numbered) → IsPrefix journal longer → entries_at pass call longer ≡ entries_at pass call journal
    → IsResult limits journal pass call x r → IsResult limits longer pass call x r
result_later limits journal longer pass call x (At place reply) begins same is =
    ⊎_elim
    (λ e. inl (record {
      write = e.write;
      before = e.before;
      after = e.after ++ begins.0;
      stands = sym begins.1 ∙ ap (λ t. t ++ begins.0) e.stands ∙ append_assoc e.before (entry pass call e.write ∷ e.after) begins.0;
      at = e.at;
      once = same ∙ e.once;
      answer = e.answer;
    }))
    (λ s. inr (record {
      before = s.before;
      after = s.after ++ begins.0;
      stands = sym begins.1 ∙ ap (λ t. t ++ begins.0) s.stands ∙ append_assoc s.before s.after begins.0;
      at = s.at;
      none = same ∙ s.none;
      answer = s.answer;
    }))
    is
result_later limits journal longer pass call x NoMemory begins same is = same ∙ is

-- ---- one call, and those after it

wide : (journal longer : List Entry) → IsPrefix journal longer → length journal ≤ length longer
wide journal longer p = omega (arith, length-append journal p.0, ap (λ (t : List Entry). length t) p.1)

module _ (limits : Limits) (a m b : PassView) (x : Command) (r : Numbered) (one : Answered limits a m x r) (few : Within 0 a.calls (own a)) (later : Grew m b) where
  -- the entries of this call in the last journal
  at_call : entries_at b.number m.calls b.journal ≡ entries_at m.number m.calls m.journal
  at_call =
      ap (λ t. of_call m.calls t) later.own_is
      ∙ of_call_append m.calls (own m) later.gained
      ∙ ap (λ t. of_call m.calls (own m) ++ t) (none_of_call m.calls b.calls m.calls later.gained later.within (inl (omega arith)))
      ∙ append-nil (of_call m.calls (own m))

  same_at : entries_at m.number m.calls b.journal ≡ entries_at m.number m.calls m.journal
  same_at = ap (λ n. entries_at n m.calls b.journal) (sym later.number) ∙ at_call

  result_at : IsResult limits b.journal b.number (a.calls + 1) x r
  result_at =
      subst (λ c. IsResult limits b.journal b.number c x r) one.calls
      (subst (λ n. IsResult limits b.journal n m.calls x r) (sym later.number)
      (result_later limits m.journal b.journal m.number m.calls x r later.begins same_at one.result))

  -- where the call has an entry the journal is longer than before
  longer_by_own : GainsLast a m → length a.journal < length m.journal
  longer_by_own g = by_rest one.journal.0 one.journal.1
    where
      by_rest : (rest : List Entry) → a.journal ++ rest ≡ m.journal → length a.journal < length m.journal
      by_rest [] e =
          let same : own m ≡ own a = ap (λ n. entries_of n m.journal) one.number ∙ ap (λ t. entries_of a.number t) (sym e ∙ append-nil a.journal) in
          let size : length (own m) ≡ length (own a) + 1 = ap (λ (t : List Entry). length t) g.gained ∙ length-append (own a) (entry m.number m.calls g.write ∷ []) in
          absurd (omega (arith, ap (λ (t : List Entry). length t) same))
      by_rest (y ∷ ys) e = omega (arith, length-append a.journal (y ∷ ys), ap (λ (t : List Entry). length t) e)

  above : entries_at b.number (a.calls + 1) b.journal ≢ [] → length a.journal < length m.journal
  above some = let calls = one.calls in ⊎_elim
      (λ same. absurd (some (ap (λ c. entries_at b.number c b.journal) (sym calls) ∙ at_call ∙ ap (λ t. of_call m.calls t) same ∙ none_of_call 0 a.calls m.calls (own a) few (inr (omega arith)))))
      longer_by_own one.own

  placed : (low : ℕ) → low ≤ length a.journal → IsPlaced b.journal b.number (a.calls + 1) low r
  placed low under = by_result r one.place
    where
      by_result : (q : Numbered) → IsAtEnd m.journal q → IsPlaced b.journal b.number (a.calls + 1) low q
      by_result (At place reply) end = (omega (arith, wide a.journal m.journal one.journal), λ some. let more = above some in omega arith)
      by_result NoMemory end = tt

  next_low : (low : ℕ) → low ≤ length a.journal → place_after low r ≤ length m.journal
  next_low low under = by_result r one.place
    where
      by_result : (q : Numbered) → IsAtEnd m.journal q → place_after low q ≤ length m.journal
      by_result (At place reply) end = omega arith
      by_result NoMemory end = omega (arith, wide a.journal m.journal one.journal)

within_next : (a m : PassView) → Within 0 a.calls (own a) → Grew a m → Within 0 m.calls (own m)
within_next a m few g =
    let up = g.rises in
    subst (λ es. Within 0 m.calls es) (sym g.own_is)
    (within_append 0 m.calls (own a) g.gained (within_wider 0 a.calls 0 m.calls (own a) (omega arith) up few) (within_wider a.calls m.calls 0 m.calls g.gained (omega arith) (omega arith) g.within))

all_results : (limits : Limits) (a b : PassView) (low : ℕ) (xs : List Command) (rs : List Numbered) → Calls limits a xs rs b → Within 0 a.calls (own a) → low ≤ length a.journal → AreResults limits b.journal b.number (a.calls + 1) low xs rs
all_results limits a b low [] [] p few under = tt
all_results limits a b low (x ∷ xs) (r ∷ rs) p few under =
    let m : PassView = p.0 in
    let one = p.1 in
    let later : Grew m b = grew_all limits m b xs rs p.2 in
    let more : AreResults limits b.journal b.number (m.calls + 1) (place_after low r) xs rs =
    all_results limits m b (place_after low r) xs rs p.2 (within_next a m few (grew_one limits a m x r one)) (next_low limits a m b x r one few later low under) in
    (result_at limits a m b x r one few later, placed limits a m b x r one few later low under, subst (λ n. AreResults limits b.journal b.number (n + 1) (place_after low r) xs rs) one.calls more)
all_results limits a b low [] (r ∷ rs) p few under = absurd p
all_results limits a b low (x ∷ xs) [] p few under = absurd p

-- what a new pass spoke
pub all_spoke : (limits : Limits) (a b : PassView) (xs : List Command) (rs : List Numbered) → IsFresh a → Calls limits a xs rs b → Spoke limits b.journal b.number xs rs
all_spoke limits a b xs rs fresh p =
    let no_call = fresh.calls in
    let few : Within 0 a.calls (own a) = subst (λ es. Within 0 a.calls es) (sym fresh.own) tt in
    let grew = grew_all limits a b xs rs p in
    let count = calls_count limits a b xs rs p in
    let first : a.calls + 1 ≡ 1 = omega arith in
    let gained : grew.gained ≡ own b = sym (grew.own_is ∙ ap (λ t. t ++ grew.gained) fresh.own) in
    record {
      results = subst (λ n. AreResults limits b.journal b.number n 0 xs rs) first (all_results limits a b 0 xs rs p few (omega arith));
      no_other = All-from_recursion (IsOfFirst (length xs)) (own b) (subst (λ es. Within 0 (length xs) es) gained (within_wider a.calls b.calls 0 (length xs) grew.gained (omega arith) (omega arith) grew.within));
    }

-- ---- a later journal, where the pass has no more entries

module _ (limits : Limits) (journal longer : List Entry) (pass : ℕ) (begins : IsPrefix journal longer) (same : entries_of pass longer ≡ entries_of pass journal) where
  same_call : (call : ℕ) → entries_at pass call longer ≡ entries_at pass call journal
  same_call call = ap (λ t. of_call call t) same

  placed_later : (call low : ℕ) (r : Numbered) → IsPlaced journal pass call low r → IsPlaced longer pass call low r
  placed_later call low (At place reply) p = (p.0, λ some. p.1 (λ none. some (same_call call ∙ none)))
  placed_later call low NoMemory p = tt

  results_later : (call low : ℕ) (xs : List Command) (rs : List Numbered) → AreResults limits journal pass call low xs rs → AreResults limits longer pass call low xs rs
  results_later call low [] [] m = tt
  results_later call low (x ∷ xs) (r ∷ rs) m =
      (result_later limits journal longer pass call x r begins (same_call call) m.0, placed_later call low r m.1, results_later (call + 1) (place_after low r) xs rs m.2)
  results_later call low [] (r ∷ rs) m = absurd m
  results_later call low (x ∷ xs) [] m = absurd m

pub spoke_later : (limits : Limits) (journal longer : List Entry) (pass : ℕ) (xs : List Command) (rs : List Numbered)
    → IsPrefix journal longer → entries_of pass longer ≡ entries_of pass journal → Spoke limits journal pass xs rs → Spoke limits longer pass xs rs
spoke_later limits journal longer pass xs rs begins same s = record {
  results = results_later limits journal longer pass begins same 1 0 xs rs s.results;
  no_other = subst (λ es. All (IsOfFirst (length xs)) es) (sym same) s.no_other;
}
