use Rattle.std.proofs.Common.{◌≡◌, ◌∙◌, [], ◌∷◌, ◌++◌, map, sym, ap, subst}
use Rattle.pj_repo.specs.IsJournalOf.{IsJournalOf}
use Rattle.pj_repo.specs.Views.{pass_view}
use Rattle.pj_load.specs.Seats.{AreNumbered}
use Rattle.pj_kept.proofs.Numbers.{numbered_one, of_one}
use Rattle.pj_kept.proofs.journals.journal_of_one.Goals as goal

pub journal_of-requires-clause-row : goal.journal_of-requires-clause-row
journal_of-requires-clause-row g c =
    let first : c.push_reserved.new.self.items ≡ c.args.zero ∷ [] = c.push_reserved.ensures.items ∙ ap (λ l. l ++ c.args.zero ∷ []) c.requires.room.0 in
    let both : c.push_reserved-2.new.self.items ≡ c.args.zero ∷ c.args.first ∷ [] = c.push_reserved-2.ensures.items ∙ ap (λ l. l ++ c.args.first ∷ []) first in
    subst (λ l. AreNumbered (map pass_view l)) (sym both)
    (numbered_one (pass_view c.args.zero) (pass_view c.args.first) c.requires.zero.0 c.requires.first)

pub returns-clause-journal : goal.returns-clause-journal
returns-clause-journal g c =
    let first : c.push_reserved.new.self.items ≡ c.args.zero ∷ [] = c.push_reserved.ensures.items ∙ ap (λ l. l ++ c.args.zero ∷ []) c.requires.room.0 in
    let both : c.push_reserved-2.new.self.items ≡ c.args.zero ∷ c.args.first ∷ [] = c.push_reserved-2.ensures.items ∙ ap (λ l. l ++ c.args.first ∷ []) first in
    of_one c.journal_of.result (pass_view c.args.zero) (pass_view c.args.first) c.requires.zero.0 c.requires.zero.1 c.requires.first
    (subst (λ l. IsJournalOf c.journal_of.result (map pass_view l)) both c.journal_of.ensures.journal)
