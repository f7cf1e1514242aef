-- The journal of a closed book, as the machine sees it.
use Rattle.std.proofs.Common.{◌≡◌, ℕ, List, [], ◌∷◌, map, refl, sym, ◌∙◌, ap, subst}
use Rattle.std.specs.Prelude.{Contains}
use Rattle.std.proofs.lemmas.List.Elements.{All-map}
use mathlib.Core.List.{IsPrefix}
use Rattle.pj_book.specs.EntriesOf as book
use Rattle.pj_book.specs.IsAll.{numbers}
use Rattle.pj_book.specs.IsOf as closed
use Rattle.pj_book.specs.Token.{Token}
use Rattle.pj_machine.specs.declared.command.Write.{Write}
use Rattle.pj_machine.specs.declared.journal.Entry.{Entry}
use Rattle.pj_machine.specs.Call.{PassView, entries_of}
use Rattle.pj_repo.specs.IsJournalOf.{HasOwn, IsJournalOf}
use Rattle.pj_repo.specs.Views.{book_journal, machine_entry, machine_journal, pass_view}
use Rattle.pj_repo.proofs.Journals.{prefix_map, there_and_back, entries_view, own_view}

module _ (journal : List Entry) where
  entries_there : (pass : ℕ) → entries_of pass journal ≡ machine_journal (book.entries_of pass (book_journal journal))
  entries_there pass = ap (entries_of pass) (sym (there_and_back journal)) ∙ entries_view pass (book_journal journal)

  has_own : (p : Token Write) → closed.HasOwn (book_journal journal) p → HasOwn journal (pass_view p)
  has_own p h = record {
    begins = subst (λ j. IsPrefix (machine_journal p.seen) j) (there_and_back journal) (prefix_map machine_entry p.seen (book_journal journal) h.begins);
    own = entries_there p.number ∙ ap machine_journal h.own ∙ sym (own_view p);
  }

  numbers_view : (passes : List (Token Write)) → map (λ (p : PassView). p.number) (map pass_view passes) ≡ numbers passes
  numbers_view [] = refl
  numbers_view (p ∷ passes) = ap (λ ns. p.number ∷ ns) (numbers_view passes)

  pub journal_of_passes : (passes : List (Token Write)) → closed.IsOf (book_journal journal) passes → IsJournalOf journal (map pass_view passes)
  journal_of_passes passes h = record {
    each = All-map (HasOwn journal) pass_view passes (λ k d lt. has_own _ (h.each k d lt));
    others = λ n none. entries_there n ∙ ap machine_journal (h.others n (λ m. none (subst (λ ns. Contains ns n) (sym (numbers_view passes)) m)));
  }
