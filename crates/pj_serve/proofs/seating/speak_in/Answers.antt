-- The passes are all that were made, and each session did in the closed journal what it did in the one that its pass had seen.
use Rattle.std.proofs.Common.{List, length, map, sym, ◌∙◌, ap, subst}
use Rattle.pj_book.specs.Token.{Token}
use Rattle.pj_machine.specs.Call.{own}
use Rattle.pj_machine.specs.Legal.{IsLegal}
use Rattle.pj_repo.specs.IsJournalOf.{IsJournalOf}
use Rattle.pj_repo.specs.Views.{pass_view}
use Rattle.pj_load.specs.Seats.{AreNumbered}
use Rattle.pj_serve.proofs.SeatRows.{fresh_at}
use Rattle.pj_serve.proofs.Closing.{numbered, as_many_passes, are_sessions}
use Rattle.pj_serve.proofs.seating.speak_in.Goals as goal

pub spoken-seats-requires-clause-fresh : goal.spoken-seats-requires-clause-fresh
spoken-seats-requires-clause-fresh g c κs within = λ k d lt. fresh_at pass_view _ _ c.seated-seats.ensures.seated k d lt

pub journal_of-journal-requires-clause-row : goal.journal_of-journal-requires-clause-row
journal_of-journal-requires-clause-row g c =
    subst (λ passes. AreNumbered (map pass_view passes)) (sym c.parted-passes.ensures.passes)
    (numbered pass_view _ _ _ _ _ c.seated-seats.ensures.seated c.spoken-seats.ensures.count c.spoken-seats.ensures.each
    (pass_view c.seated-seats.new.zero) (c.seated-seats.ensures.number ∙ ap (λ (t : Token _). t.number) c.requires.zero))

pub journal_of-journal-requires-clause-count : goal.journal_of-journal-requires-clause-count
journal_of-journal-requires-clause-count g c =
    ap (λ (l : List (Token _)). length l) c.parted-passes.ensures.passes
    ∙ as_many_passes pass_view _ _ _ _ _ c.seated-seats.ensures.seated c.spoken-seats.ensures.count c.spoken-seats.ensures.each c.seated-seats.new.zero
    ∙ sym c.seated-seats.ensures.made

pub returns : goal.returns
returns g c =
    let journal = c.journal_of-journal.result in
    are_sessions pass_view _ _ _ _ _ c.seated-seats.ensures.seated c.spoken-seats.ensures.count c.spoken-seats.ensures.each
    journal (pass_view c.seated-seats.new.zero)
    (subst (λ passes. IsJournalOf journal (map pass_view passes)) c.parted-passes.ensures.passes c.journal_of-journal.ensures.journal)
    (c.seated-seats.ensures.number ∙ ap (λ (t : Token _). t.number) c.requires.zero)
    (c.seated-seats.ensures.own ∙ ap (λ t. own (pass_view t)) c.requires.zero)
    c.parted-passes.result.1.items c.of.result c.parted-passes.ensures.kept (c.of.ensures ∙ c.parted-passes.ensures.ends)
    (subst (λ limits. IsLegal limits journal) (c.seated-seats.ensures.limits ∙ ap (λ r. r.limits) c.requires.repo) c.journal_of-journal.ensures.legal)
