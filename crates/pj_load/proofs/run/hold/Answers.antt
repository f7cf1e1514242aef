-- What the stages leave, and the summary of what they printed.
use Rattle.std.proofs.Common.{◌≡◌, ◌-◌, All, List, length, get_or, refl, sym, ◌∙◌, ap, subst, arith}
use Rattle.std.specs.Prelude.{IfSome}
use Rattle.pj_session.specs.declared.end.End.TheVariants.{Done}
use Rattle.pj_gen.specs.Summary.{line_texts, all_texts, IsFoundOf, IsSummary}
use Rattle.pj_load.specs.declared.seeing.Printed.{Printed}
use Rattle.pj_load.specs.Load.{HasSummary}
use Rattle.pj_load.specs.Prints.{AreFoundAt}
use Rattle.pj_load.specs.Stages.{channels, HasPlayed, HasRun}
use Rattle.pj_load.proofs.SeatRows.{element}
use Rattle.pj_load.proofs.Summed.{line_found, main_found}
use Rattle.pj_load.proofs.run.hold.Goals.{then-entered+then-all_done+in-Some, then-entered+then-all_done+in-None, else-entered}
use Rattle.pj_load.proofs.run.hold.Goals as goal

pub returns : goal.returns
returns g c = λ number scripts_are.
    let changes = c.args.changes in
    let sessions = c.args.sessions in
    let journal = c.play-journal.result.journal in
    let prints = c.play-journal.result.prints.items in
    let most = c.requires.changes in
    let few = c.requires.sessions in
    let played : HasPlayed c.args.limits number sessions (changes - 1) c.play-journal.result = c.play-journal.ensures number changes sessions most.1 scripts_are in
    record {
      legal = played.legal;
      of_sessions = played.of_sessions;
      ends = played.ends;
      summary = elim c.if-entered.branch [
        | then-entered+then-all_done+in-Some w ↦
            let done : All (λ x. x.end ≡ Done) c.play-journal.result.ends = subst (λ l. All (λ x. x.end ≡ Done) l) w.items-then-entered.ensures (w.if-all_done.ensures refl) in
            let run : HasRun c.args.limits number sessions (changes - 1) journal prints = played.run w.if-entered.true done in
            let many : length prints ≡ length channels = ap (λ (l : List Printed). length l) (sym w.deref.ensures.value) ∙ w.in-Some.ensures.many in
            let places : All (λ p. p.place ≡ length journal) prints = subst (λ j. All (λ p. p.place ≡ length j) prints) c.items-2.ensures (subst (λ l. All (λ p. p.place ≡ length c.items-2.result.now) l) w.deref.ensures.value w.in-Some.ensures.places) in
            let found : AreFoundAt c.args.limits journal channels prints = run.found_are many places in
            let d : Printed = (element prints 0 (omega (arith, many))).0 in
            subst (λ o. IfSome o (λ bytes. HasSummary number changes sessions journal c.play-journal.result.ends bytes)) (sym w.summary-is) (record {
              done = done;
              prelude = run.opening;
              each = run.each;
              closing = run.closing;
              summary_is = λ apart. subst (λ bytes. IsSummary number changes sessions bytes) (sym w.of.ensures) (w.in-Some.ensures.summary number d
                  (λ k lt. subst (λ l. IsFoundOf (line_texts number k (changes - 1)) (get_or l k d).found) (sym w.deref.ensures.value) (line_found c.args.limits number sessions (changes - 1) journal prints run played.legal c.requires.live (omega (arith, few)) apart found k d lt))
                  (subst (λ l. IsFoundOf (all_texts number (changes - 1)) (get_or l 8 d).found) (sym w.deref.ensures.value) (main_found c.args.limits number sessions (changes - 1) journal prints run played.legal c.requires.live (omega (arith, few)) apart found d)));
            })
        | then-entered+then-all_done+in-None w ↦ subst (λ o. IfSome o (λ bytes. HasSummary number changes sessions journal c.play-journal.result.ends bytes)) (sym w.summary-is) tt
        | else-entered w ↦ subst (λ o. IfSome o (λ bytes. HasSummary number changes sessions journal c.play-journal.result.ends bytes)) (sym w.summary-is) tt
      ];
    }
