-- From what the book says of a call of a pass to what the machine says of it.
use Rattle.std.proofs.Common.{◌≡◌, ◌≢◌, ℕ, ◌+◌, ◌≤◌, List, [], ◌∷◌, ◌++◌, length, All, refl, sym, ◌∙◌, ap, subst, inl, inr, arith, append-nil, length-append, append_assoc, ◌==◌}
use Rattle.std.specs.List.{filter}
use Rattle.std.specs.Prelude.{Some, None}
use Rattle.std.proofs.lemmas.List.{map-append, append_cancel_left}
use Rattle.std.proofs.lemmas.List.Elements.{filter-append}
use mathlib.Core.List.{IsPrefix}
use Rattle.pj_book.specs.Gains.{Gains}
use Rattle.pj_book.specs.Token.{Token}
use Rattle.pj_book.specs.Token as token
use Rattle.pj_change.proofs.Members.{heads}
use Rattle.pj_machine.specs.declared.command.Command.{Command}
use Rattle.pj_machine.specs.declared.command.Write.{Write}
use Rattle.pj_machine.specs.declared.journal.Entry.{Entry}
use Rattle.pj_machine.specs.declared.limits.Limits.{Limits}
use Rattle.pj_machine.specs.declared.reply.Numbered.{Numbered}
use Rattle.pj_machine.specs.declared.reply.Numbered.TheVariants.{At, NoMemory}
use Rattle.pj_machine.specs.declared.reply.Reply.{Reply}
use Rattle.pj_machine.specs.Answer.{IsAnswer}
use Rattle.pj_machine.specs.Call.{entry, own, entries_at}
use Rattle.pj_state.specs.Kept.{Kept, pushed}
use Rattle.pj_state.specs.Replies.{Replies, Reads}
use Rattle.pj_machine.specs.Answered.{Answered}
use Rattle.pj_repo.specs.LookedAt.{LookedAt}
use Rattle.pj_repo.specs.Views.{book_entry, book_journal, machine_entry, machine_journal, pass_view}
use Rattle.pj_repo.proofs.Journals.{prefix_map, there_and_back, own_view, none_of_call, one_of_call}

-- what the book says of one call of a pass that was lent a state and left one
pub record Lent (limits : Limits) (old new : Token Write) (lent left : Kept) : Type 0 where
  pub limits_are : lent.limits ≡ limits
  pub number : new.number ≡ old.number
  pub calls : new.calls ≡ old.calls + 1
  pub begins : IsPrefix old.seen (book_journal lent.journal)
  pub sees : new.seen ≡ book_journal left.journal
  pub gains : Gains (book_journal lent.journal) (book_journal left.journal) (token.own old) (token.own new) new.number new.calls
  pub fresh : All (λ e. e.call ≢ new.calls) (token.own old)

prefix_trans : {X : Type 0} (a b c : List X) → IsPrefix a b → IsPrefix b c → IsPrefix a c
prefix_trans a b c (first, e) (second, f) = (first ++ second, sym (append_assoc a first second) ∙ ap (λ l. l ++ second) e ∙ f)

longer : {X : Type 0} (xs ys : List X) (x : X) → ys ≡ xs ++ x ∷ [] → ys ≡ xs → ⊥
longer xs ys x more same = (let a = ap length more in let b = ap length same in let n = length-append xs (x ∷ []) in omega arith)

module _ (limits : Limits) (old new : Token Write) (lent left : Kept) (l : Lent limits old new lent left) where
  seen_now : machine_journal new.seen ≡ left.journal
  seen_now = ap machine_journal l.sees ∙ there_and_back left.journal

  seen_before : IsPrefix (machine_journal old.seen) lent.journal
  seen_before = subst (λ j. IsPrefix (machine_journal old.seen) j) (there_and_back lent.journal) (prefix_map machine_entry old.seen (book_journal lent.journal) l.begins)

  none_before : filter (λ e. e.call == new.calls) (own (pass_view old)) ≡ []
  none_before = ap (λ es. filter (λ e. e.call == new.calls) es) (own_view old) ∙ none_of_call new.calls (token.own old) l.fresh

  -- ---- nothing was entered

  module _ (same : left ≡ lent) where
    own_stays : own (pass_view new) ≡ own (pass_view old)
    own_stays = elim l.gains [
      | inl a ↦ own_view new ∙ ap machine_journal a.1 ∙ sym (own_view old)
      | inr b ↦ absurd (longer (book_journal lent.journal) (book_journal left.journal) b.0 b.1 (ap (λ (k : Kept). book_journal k.journal) same))
    ]

    none_now : entries_at new.number new.calls (machine_journal new.seen) ≡ []
    none_now = ap (λ es. filter (λ e. e.call == new.calls) es) own_stays ∙ none_before

    begins_same : IsPrefix (machine_journal old.seen) (machine_journal new.seen)
    begins_same = subst (λ j. IsPrefix (machine_journal old.seen) j) (sym (seen_now ∙ ap (λ (k : Kept). k.journal) same)) seen_before

    pub looked_on : (command : Command) (reply : Reply) (place : ℕ) → place ≡ length left.journal → IsAnswer lent.limits lent.journal command reply None → Answered limits (pass_view old) (pass_view new) command (At place reply)
    looked_on command reply place at answer = record {
      number = l.number;
      calls = l.calls;
      journal = begins_same;
      own = inl own_stays;
      place = at ∙ sym (ap length seen_now);
      result = inr (record {
        before = lent.journal;
        after = [];
        stands = seen_now ∙ ap (λ (k : Kept). k.journal) same ∙ sym (append-nil lent.journal);
        at = at ∙ ap (λ (k : Kept). length k.journal) same;
        none = none_now;
        answer = subst (λ x. IsAnswer x lent.journal command reply None) l.limits_are answer;
      });
    }

    pub without_memory : (command : Command) → Answered limits (pass_view old) (pass_view new) command NoMemory
    without_memory command = record {
      number = l.number;
      calls = l.calls;
      journal = begins_same;
      own = inl own_stays;
      place = tt;
      result = none_now;
    }

  -- ---- a write was entered

  module _ (w : Write) (more : left ≡ pushed lent new.number new.calls w) where
    abbrev last : Entry
    last = entry new.number new.calls w

    longer_by : left.journal ≡ lent.journal ++ last ∷ []
    longer_by = ap (λ (k : Kept). k.journal) more

    booked : book_journal left.journal ≡ book_journal lent.journal ++ book_entry last ∷ []
    booked = ap book_journal longer_by ∙ map-append book_entry lent.journal (last ∷ [])

    own_grows : own (pass_view new) ≡ own (pass_view old) ++ last ∷ []
    own_grows = elim l.gains [
      | inl a ↦ absurd (longer (book_journal lent.journal) (book_journal left.journal) (book_entry last) booked a.0)
      | inr b ↦ (
          let ends : b.0 ∷ [] ≡ book_entry last ∷ [] = append_cancel_left (book_journal lent.journal) (b.0 ∷ []) (book_entry last ∷ []) (sym b.1 ∙ booked) in
          let is : b.0 ≡ book_entry last = heads b.0 (book_entry last) [] [] ends in
          own_view new ∙ ap machine_journal b.2 ∙ map-append machine_entry (token.own old) (b.0 ∷ []) ∙ ap (λ e. machine_journal (token.own old) ++ machine_entry e ∷ []) is
          ∙ ap (λ es. es ++ last ∷ []) (sym (own_view old)))
    ]

    once : entries_at new.number new.calls (machine_journal new.seen) ≡ last ∷ []
    once =
        ap (λ es. filter (λ e. e.call == new.calls) es) own_grows ∙ filter-append (λ e. e.call == new.calls) (own (pass_view old)) (last ∷ [])
        ∙ ap (λ es. es ++ filter (λ e. e.call == new.calls) (last ∷ [])) none_before ∙ one_of_call new.number new.calls w

    pub entered_last : (command : Command) (reply : Reply) (place : ℕ) → place ≡ length left.journal → IsAnswer lent.limits lent.journal command reply (Some w) → Answered limits (pass_view old) (pass_view new) command (At place reply)
    entered_last command reply place at answer = record {
      number = l.number;
      calls = l.calls;
      journal = (seen_before.0 ++ last ∷ [], sym (append_assoc (machine_journal old.seen) seen_before.0 (last ∷ [])) ∙ ap (λ j. j ++ last ∷ []) seen_before.1 ∙ sym longer_by ∙ sym seen_now);
      own = inr (record { write = w; before = lent.journal; last = seen_now ∙ longer_by; gained = own_grows });
      place = at ∙ sym (ap length seen_now);
      result = inl (record {
        write = w;
        before = lent.journal;
        after = [];
        stands = seen_now ∙ longer_by;
        at = (let n = length-append lent.journal (last ∷ []) in let m = ap length longer_by in omega arith);
        once = once;
        answer = subst (λ x. IsAnswer x lent.journal command reply (Some w)) l.limits_are answer;
      });
    }

  -- ---- both

  pub answered : (command : Command) (numbered : Numbered) → Replies lent new.number new.calls command left numbered → Answered limits (pass_view old) (pass_view new) command numbered
  answered command (At place reply) r = elim r.1 [
    | inl e ↦ entered_last e.write e.entered command reply place r.0 e.answer
    | inr n ↦ looked_on n.same command reply place r.0 n.answer
  ]
  answered command NoMemory r = without_memory r command

-- ---- a look

module _ (limits : Limits) (old new : Token Write) (reads : Kept → Type 0) (seen : LookedAt limits old new reads) where
  lent_to_look : Lent limits old new seen.state seen.state
  lent_to_look = record {
    limits_are = seen.limits_are;
    number = seen.number;
    calls = seen.calls;
    begins = seen.begins;
    sees = seen.sees;
    gains = inl (refl, seen.own_stays);
    fresh = subst (λ es. All (λ e. e.call ≢ new.calls) es) seen.own_stays seen.fresh;
  }

  pub answered_by_look : (command : Command) (numbered : Numbered) → Reads seen.state command numbered → Answered limits (pass_view old) (pass_view new) command numbered
  answered_by_look command (At place reply) r = looked_on limits old new seen.state seen.state lent_to_look refl command reply place r.0 r.1
  answered_by_look command NoMemory r = without_memory limits old new seen.state seen.state lent_to_look refl command

-- ---- a commit

pub committed : (limits : Limits) (old new : Token Write) (lent left : Kept) → lent.limits ≡ limits → new.number ≡ old.number → new.calls ≡ old.calls + 1 → IsPrefix old.seen (book_journal lent.journal) →
    new.seen ≡ book_journal left.journal → Gains (book_journal lent.journal) (book_journal left.journal) (token.own old) (token.own new) old.number (old.calls + 1) →
    All (λ e. (1 ≤ e.call) × (e.call ≤ old.calls)) (token.own old) → (command : Command) (numbered : Numbered) → Replies lent old.number (old.calls + 1) command left numbered →
    Answered limits (pass_view old) (pass_view new) command numbered
committed limits old new lent left limits_are number calls begins sees gains between command numbered replies =
    let at : (P : ℕ → ℕ → Type 0) → P old.number (old.calls + 1) → P new.number new.calls = λ P h. subst (λ n. P n new.calls) (sym number) (subst (λ n. P old.number n) (sym calls) h) in
    answered limits old new lent left (record {
      limits_are = limits_are;
      number = number;
      calls = calls;
      begins = begins;
      sees = sees;
      gains = at (λ n call. Gains (book_journal lent.journal) (book_journal left.journal) (token.own old) (token.own new) n call) gains;
      fresh = λ k d lt same. (let b = between k d lt in omega arith);
    }) command numbered (at (λ n call. Replies lent n call command left numbered) replies)

-- ---- a look, and then a second half

module _ (limits : Limits) (old half : Token Write) (reads : Kept → Type 0) (seen : LookedAt limits old half reads) where
  pub came_back : (new : Token Write) (lent left : Kept) → lent.limits ≡ limits → new.number ≡ half.number → new.calls ≡ half.calls → IsPrefix half.seen (book_journal lent.journal) →
      new.seen ≡ book_journal left.journal → Gains (book_journal lent.journal) (book_journal left.journal) (token.own half) (token.own new) half.number half.calls →
      (command : Command) (numbered : Numbered) → Replies lent half.number half.calls command left numbered → Answered limits (pass_view old) (pass_view new) command numbered
  came_back new lent left limits_are number calls begins sees gains command numbered replies =
      let at : (P : ℕ → ℕ → Type 0) → P half.number half.calls → P new.number new.calls = λ P h. subst (λ n. P n new.calls) (sym number) (subst (λ n. P half.number n) (sym calls) h) in
      let later : IsPrefix (book_journal seen.state.journal) (book_journal lent.journal) = subst (λ l. IsPrefix l (book_journal lent.journal)) seen.sees begins in
      answered limits old new lent left (record {
        limits_are = limits_are;
        number = number ∙ seen.number;
        calls = calls ∙ seen.calls;
        begins = prefix_trans old.seen (book_journal seen.state.journal) (book_journal lent.journal) seen.begins later;
        sees = sees;
        gains = at (λ n call. Gains (book_journal lent.journal) (book_journal left.journal) (token.own old) (token.own new) n call)
            (subst (λ es. Gains (book_journal lent.journal) (book_journal left.journal) es (token.own new) half.number half.calls) seen.own_stays gains);
        fresh = subst (λ n. All (λ e. e.call ≢ n) (token.own old)) (sym calls) (subst (λ es. All (λ e. e.call ≢ half.calls) es) seen.own_stays seen.fresh);
      }) command numbered (at (λ n call. Replies lent n call command left numbered) replies)
