-- Journals and passes of the book, as the machine sees them.
use Rattle.std.proofs.Common.{◌≡◌, ◌≢◌, ◌==◌, ℕ, Bool, true, false, List, [], ◌∷◌, map, All, refl, sym, ◌∙◌, ap, arith}
use Rattle.std.specs.List.{filter}
use Rattle.std.proofs.lemmas.Bool.Decides.{nat_tests}
use Rattle.std.proofs.lemmas.List.{map-append}
use Rattle.std.proofs.lemmas.List.Elements.{All-head, All-tail}
use mathlib.Core.List.{IsPrefix}
use Rattle.pj_book.specs.declared.entry.Entry.{Entry as BookEntry}
use Rattle.pj_book.specs.Token.{Token}
use Rattle.pj_book.specs.Token as token
use Rattle.pj_book.specs.EntriesOf as book
use Rattle.pj_machine.specs.declared.command.Write.{Write}
use Rattle.pj_machine.specs.declared.journal.Entry.{Entry}
use Rattle.pj_machine.specs.Call.{entry, entries_of, own}
use Rattle.pj_repo.specs.Views.{book_journal, machine_entry, machine_journal, pass_view}

module _ {X Y : Type 0} (f : X → Y) where
  pub prefix_map : (a b : List X) → IsPrefix a b → IsPrefix (map f a) (map f b)
  prefix_map a b (more, joined) = (map f more, sym (map-append f a more) ∙ ap (λ l. map f l) joined)

  pub filter_of_map : (p : Y → Bool) (xs : List X) → filter p (map f xs) ≡ map f (filter (λ x. p (f x)) xs)
  filter_of_map p [] = refl
  filter_of_map p (x ∷ xs) = go (filter_of_map p xs) (p (f x)) refl
    where
      go : filter p (map f xs) ≡ map f (filter (λ y. p (f y)) xs) → (b : Bool) → p (f x) ≡ b → filter p (map f (x ∷ xs)) ≡ map f (filter (λ y. p (f y)) (x ∷ xs))
      go rest true h = rw h (ap (λ l. f x ∷ l) rest)
      go rest false h = rw h rest

-- the machine's journal, through the book's and back
pub there_and_back : (journal : List Entry) → machine_journal (book_journal journal) ≡ journal
there_and_back [] = refl
there_and_back (e ∷ journal) = ap (λ l. e ∷ l) (there_and_back journal)

-- the entries of a pass are those in the book
pub entries_view : (pass : ℕ) (log : List (BookEntry Write)) → entries_of pass (machine_journal log) ≡ machine_journal (book.entries_of pass log)
entries_view pass log = filter_of_map machine_entry (λ e. e.pass == pass) log

pub own_view : (p : Token Write) → own (pass_view p) ≡ machine_journal (token.own p)
own_view p = entries_view p.number p.seen

-- no entry is of the call
pub none_of_call : (call : ℕ) (entries : List (BookEntry Write)) → All (λ e. e.call ≢ call) entries → filter (λ e. e.call == call) (machine_journal entries) ≡ []
none_of_call call [] none = refl
none_of_call call (e ∷ entries) none =
    go (none_of_call call entries (All-tail (λ (x : BookEntry Write). x.call ≢ call) e entries none)) (All-head (λ (x : BookEntry Write). x.call ≢ call) e entries none) (e.call == call) refl
  where
    go : filter (λ x. x.call == call) (machine_journal entries) ≡ [] → e.call ≢ call → (b : Bool) → (e.call == call) ≡ b → filter (λ x. x.call == call) (machine_journal (e ∷ entries)) ≡ []
    go rest other true h = absurd (other (grind (arith, nat_tests)))
    go rest other false h = rw h rest

-- the one entry is of the call
pub one_of_call : (pass call : ℕ) (w : Write) → filter (λ e. e.call == call) (entry pass call w ∷ []) ≡ entry pass call w ∷ []
one_of_call pass call w = go (call == call) refl
  where
    go : (b : Bool) → (call == call) ≡ b → filter (λ e. e.call == call) (entry pass call w ∷ []) ≡ entry pass call w ∷ []
    go true h = rw h refl
    go false h = absurd (grind (arith, nat_tests))
