-- A look at the state of a repository.
use Rattle.std.specs.Prelude.{◌≡◌, ◌≢◌, ◌+◌, All}
use mathlib.Core.List.{IsPrefix}
use Rattle.pj_book.specs.Token.{Token, own}
use Rattle.pj_machine.specs.declared.command.Write.{Write}
use Rattle.pj_machine.specs.declared.limits.Limits.{Limits}
use Rattle.pj_state.specs.Kept.{Kept}
use Rattle.pj_repo.specs.Views.{book_journal}

-- a call of the pass was lent a state under these limits, of which this holds: it has seen the journal, and has no entry of the call
pub record LookedAt (limits : Limits) (old new : Token Write) (reads : Kept → Type 0) : Type 0 where
  pub state : Kept
  pub limits_are : state.limits ≡ limits
  pub read : reads state
  pub number : new.number ≡ old.number
  pub calls : new.calls ≡ old.calls + 1
  pub begins : IsPrefix old.seen (book_journal state.journal)
  pub sees : new.seen ≡ book_journal state.journal
  pub own_stays : own new ≡ own old
  pub fresh : All (λ e. e.call ≢ new.calls) (own new)
