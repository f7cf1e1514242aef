-- What was worked out at an earlier place may be installed where the channel had no entry since.
use Rattle.std.proofs.Common.{◌≡◌, ℕ, List, ◌++◌, sym, ◌∙◌, ap, subst}
use mathlib.Core.List.{IsPrefix}
use Rattle.pj_name.specs.declared.name.Name.{Name}
use Rattle.pj_change.specs.declared.change.Record.{Record}
use Rattle.pj_machine.specs.declared.channel_name.ChannelName.{ChannelName}
use Rattle.pj_machine.specs.declared.command.Write.{Write}
use Rattle.pj_machine.specs.declared.journal.Entry.{Entry}
use Rattle.pj_machine.specs.Replay.{IsReplay}
use Rattle.pj_machine.specs.State.{opening}
use Rattle.pj_state.specs.Kept.{Kept}
use Rattle.pj_state.specs.LastEntry.{last_of}
use Rattle.pj_state.specs.Shared.{IsAt, HasChannel, Stores, InstallsBoth}
use Rattle.pj_repo.specs.MayInstall.{MayInstall}
use Rattle.pj_repo.specs.Views.{book_journal, machine_entry, machine_journal}
use Rattle.pj_repo.proofs.Journals.{prefix_map, there_and_back}
use Rattle.pj_repo.proofs.Quiet.{leads_in_parts, list_stays_since, record_stays_on}

module _ (k : Kept) (place : ℕ) (name : ChannelName) (list : List Record) (change : Name) (r : Record) (there : IsAt k place (HasChannel name list)) (stored : IsAt k place (Stores change r))
    (writes : ChannelName → Write) (after : List Record) (installs : InstallsBoth list change r writes after) where
  -- in a journal that goes on
  installs_later : (later : Kept) (more : List Entry) → k.journal ++ more ≡ later.journal → (last : ℕ) → last ≡ last_of name k.journal → MayInstall later (writes name) name last after
  installs_later later more goes_on last is same s replayed =
      let whole : IsReplay (k.journal ++ more) s = subst (λ j. IsReplay j s) (sym goes_on) replayed in
      let parts = leads_in_parts opening s k.journal more whole in
      let quiet : last_of name (k.journal ++ more) ≡ last_of name k.journal = ap (last_of name) goes_on ∙ same ∙ is in
      installs later s name (list_stays_since parts.0 s k.journal more name parts.2 quiet ∙ there.state parts.0 parts.1) (record_stays_on parts.0 s more change r parts.2 (stored.state parts.0 parts.1))

  -- in every state that the book lends to a pass that has seen it
  pub may_install : (seen : List _) → seen ≡ book_journal k.journal → (later : Kept) → IsPrefix seen (book_journal later.journal) → (last : ℕ) → last ≡ last_of name k.journal → MayInstall later (writes name) name last after
  may_install seen sees later begins last is =
      let books : IsPrefix (book_journal k.journal) (book_journal later.journal) = subst (λ l. IsPrefix l (book_journal later.journal)) sees begins in
      let back : IsPrefix (machine_journal (book_journal k.journal)) (machine_journal (book_journal later.journal)) = prefix_map machine_entry (book_journal k.journal) (book_journal later.journal) books in
      let now : IsPrefix k.journal (machine_journal (book_journal later.journal)) = subst (λ l. IsPrefix l (machine_journal (book_journal later.journal))) (there_and_back k.journal) back in
      let on : IsPrefix k.journal later.journal = subst (λ l. IsPrefix k.journal l) (there_and_back later.journal) now in
      installs_later later on.0 on.1 last is
