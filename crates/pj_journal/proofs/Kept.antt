-- A log stays behind entries that are on the disk.
use Rattle.std.proofs.Common.{◌≡◌, ◌∙◌, ℕ, ◌+◌, Bool, true, false, List, [], ◌∷◌, ◌++◌, length, take, sym, ap, subst}
use Rattle.pj_disk.specs.Image.{Only, AddsNone}
use Rattle.pj_journal.specs.Format.{IsStorable}
use Rattle.pj_journal.specs.Stored.{IsClosedAt, EntryAt, end_of, Spans, Reads, Stores, EndsAt}
use Rattle.pj_journal.specs.Appended.{appended, LeftByAppend, IsBeforeOrAfter}
use Rattle.pj_journal.specs.Log.{IsKept}
use Rattle.pj_journal.proofs.Entries.{spans_push, end_push, stores_one, reads_stores}
use Rattle.pj_journal.proofs.Appends.{reads_appended, stores_left}

module _ (file : List ℕ) (may_leave : List ℕ → Type 0) (place : ℕ) (ended : Bool) (kept : IsKept file may_leave place ended) where
  -- behind an entry that was read
  pub kept_read : (string file_after : List ℕ) (may_leave_after : List ℕ → Type 0)
      → EntryAt file place string → file_after ≡ file → AddsNone may_leave may_leave_after
      → IsKept file_after may_leave_after (place + (9 + length string)) false
  kept_read string file_after may_leave_after entry same none = record {
    strings = kept.strings ++ string ∷ [];
    header = ap (take 8) same ∙ kept.header;
    entries = subst (λ f. Spans f 8 (kept.strings ++ string ∷ [])) (sym same)
        (spans_push file 8 kept.strings string kept.entries (subst (λ p. EntryAt file p string) (sym kept.place_is) entry));
    place_is = end_push 8 kept.strings string ∙ ap (λ p. p + (9 + length string)) kept.place_is;
    closed = λ not_ended. absurd (false_is_not_true not_ended);
    durable = λ c is. kept.durable c (none c is) ∙ sym same;
  }
    where
      false_is_not_true : false ≡ true → ⊥
      false_is_not_true same = cc

  module _ (at_end : ended ≡ true) where
    -- the list of what was read and appended is that of the file
    pub kept_reads : Reads file kept.strings
    kept_reads = record {
      header = kept.header;
      entries = kept.entries;
      closed = subst (IsClosedAt file) (sym kept.place_is) (kept.closed at_end);
    }

    -- and the gate behind it stands at the place
    pub kept_end : EndsAt file place
    kept_end = record { strings = kept.strings; reads = kept_reads; place_is = kept.place_is }

    module _ (string : List ℕ) (storable : IsStorable string) where
      pub appended_reads : Reads (appended file place string) (kept.strings ++ string ∷ [])
      appended_reads =
          subst (λ p. Reads (appended file p string) (kept.strings ++ string ∷ [])) kept.place_is
          (reads_appended file kept.strings kept_reads string storable)

      -- behind an entry that was appended
      pub kept_appended : (file_after : List ℕ) (may_leave_after : List ℕ → Type 0)
          → file_after ≡ appended file place string → Only file_after may_leave_after
          → IsKept file_after may_leave_after (place + (9 + length string)) ended
      kept_appended file_after may_leave_after is only =
          let end : end_of 8 (kept.strings ++ string ∷ []) ≡ place + (9 + length string) =
          end_push 8 kept.strings string ∙ ap (λ p. p + (9 + length string)) kept.place_is in
          let reads : Reads file_after (kept.strings ++ string ∷ []) = subst (λ f. Reads f (kept.strings ++ string ∷ [])) (sym is) appended_reads in
          record {
            strings = kept.strings ++ string ∷ [];
            header = reads.header;
            entries = reads.entries;
            place_is = end;
            closed = λ _. subst (IsClosedAt file_after) end reads.closed;
            durable = only;
          }

      same_list : (strings : List (List ℕ)) → Stores file strings → kept.strings ≡ strings
      same_list strings stored = stores_one file kept.strings strings (reads_stores file kept.strings kept_reads) stored

      -- the file then stores the list with the string
      pub stores_appended : (file_after : List ℕ) → file_after ≡ appended file place string
          → (strings : List (List ℕ)) → Stores file strings → Stores file_after (strings ++ string ∷ [])
      stores_appended file_after is strings stored =
          subst (λ f. Stores f (strings ++ string ∷ [])) (sym is)
          (subst (λ list. Stores (appended file place string) (list ++ string ∷ [])) (same_list strings stored)
          (reads_stores _ _ appended_reads))

      -- and what a crash left in the middle stores it with the string or without
      pub stores_either : (strings : List (List ℕ)) → Stores file strings
          → (c : List ℕ) → LeftByAppend file place string c → IsBeforeOrAfter strings string c
      stores_either strings stored c left =
          subst (λ list. IsBeforeOrAfter list string c) (same_list strings stored)
          (stores_left file kept.strings kept_reads string storable c
          (subst (λ p. LeftByAppend file p string c) (sym kept.place_is) left))
