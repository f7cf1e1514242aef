use Rattle.std.proofs.Common.{List, map, ◌∙◌, ap, subst, sym}
use Rattle.pj_machine.specs.declared.journal.Entry.{Entry}
use Rattle.pj_state.specs.Kept.{Kept}
use Rattle.pj_repo.specs.IsJournalOf.{IsJournalOf}
use Rattle.pj_repo.specs.Views.{pass_view}
use Rattle.pj_repo.proofs.Closing.{journal_of_passes}
use Rattle.pj_repo.proofs.repo.Repo.finish.Goals as goal

pub returns-in-Ok-clause-journal : goal.returns-in-Ok-clause-journal
returns-in-Ok-clause-journal g c =
    subst (λ (journal : List Entry). IsJournalOf journal (map pass_view c.args.passes.items)) (sym (c.into_parts-entries.ensures.entries ∙ ap (λ (k : Kept). k.journal) c.locked.view_is))
    (journal_of_passes c.in-Ok.locked.journal c.args.passes.items c.in-Ok.ensures.journal)
