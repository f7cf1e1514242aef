-- What each stage gives, to what all of them did.
use Rattle.std.proofs.Common.{◌≡◌, ◌+◌, ◌-◌, ◌^◌, ◌<◌, ◌≤◌, ◌++◌, [], ◌∷◌, ℕ, length, get_or, map, All, true, false, List, sym, ◌∙◌, ap, subst, arith, length-append}
use Rattle.std.proofs.lemmas.List.{length-map}
use mathlib.Core.List.{IsPrefix}
use Rattle.pj_book.specs.Token.{Token}
use Rattle.pj_machine.specs.Call.{PassView, own}
use Rattle.pj_machine.specs.Legal.{IsLegal}
use Rattle.pj_repo.specs.IsJournalOf.{IsJournalOf}
use Rattle.pj_repo.specs.Views.{pass_view}
use Rattle.pj_session.specs.declared.end.End.TheVariants.{Done}
use Rattle.pj_gen.specs.Requests.{opening_requests, closing_requests, session_requests, script}
use Rattle.pj_load.specs.Load.{AreEnds}
use Rattle.pj_load.specs.Seats.{AreNumbered, Enters}
use Rattle.pj_load.specs.Seen.{printed}
use Rattle.pj_load.specs.Speech.{Speech}
use Rattle.pj_load.specs.Stages.{HasRun}
use Rattle.pj_load.proofs.Played.{HaveEnded, have_ended, views, views_are, ends_of, numbered, of_sessions, as_many_scripts, script_at, are_ends, has_run}
use Rattle.pj_load.proofs.SeatRows.{all_fresh, prefix_further}
use Rattle.pj_load.proofs.stages.play.Goals.{then-entering, else-entering}
use Rattle.pj_load.proofs.stages.play.Goals as goal

pub spoken-seats-requires-clause-fresh : goal.spoken-seats-requires-clause-fresh
spoken-seats-requires-clause-fresh g c κs within = all_fresh pass_view (pass_view c.speak-prelude.new.pass).journal _ _ c.seated-seats.ensures.seated

pub journal_of-journal-requires-clause-row : goal.journal_of-journal-requires-clause-row
journal_of-journal-requires-clause-row g c =
    let p_number = c.speak-prelude.ensures.number ∙ ap (λ (t : Token _). t.number) c.pass-first.ensures.new ∙ ap (λ r. r.made) c.requires.repo in
    let seen = ap (λ t. (pass_view t).journal) c.pass-last.ensures.new in
    let sees = prefix_further _ _ _ c.seated-seats.ensures.sees c.pass-last.ensures.from_sees in
    let made = c.seated-seats.ensures.made in
    let ended : HaveEnded pass_view c.args.limits (pass_view c.speak-prelude.new.pass) c.args.copies.items c.pass-first.new.from c.pass-last.new.from c.speak-closing.new.pass c.spoken-seats.result.items = have_ended pass_view c.args.limits (pass_view c.speak-prelude.new.pass) c.args.copies.items c.pass-first.new.from c.pass-last.new.from c.speak-closing.new.pass c.spoken-seats.result.items
    c.seated-seats.result.items (pass_view c.pass-last.result) (ap (λ (t : Token _). t.number) c.pass-first.ensures.from ∙ ap (λ (t : Token _). t.number) c.requires.zero)
    (c.pass-first.ensures.from_own ∙ ap (λ t. own (pass_view t)) c.requires.zero) p_number (ap (λ (t : Token _). t.number) c.pass-last.ensures.from ∙ c.seated-seats.ensures.number)
    (c.pass-last.ensures.from_own ∙ c.seated-seats.ensures.own) sees c.seated-seats.ensures.seated c.spoken-seats.ensures.count c.spoken-seats.ensures.each c.pass-last.ensures.fresh
    (ap (λ (t : Token _). t.number) c.pass-last.ensures.new ∙ (omega arith)) (subst (λ j. IsPrefix (pass_view c.speak-prelude.new.pass).journal j) (sym seen) sees) c.speak-closing.ensures.number in
    let rows = ap (λ l. map pass_view l) c.parted-passes.ensures.passes ∙ ap (λ l. pass_view c.pass-first.new.from ∷ pass_view c.pass-last.new.from ∷ l) (views_are pass_view c.spoken-seats.result.items c.speak-closing.new.pass) in
    subst AreNumbered (sym rows) (numbered pass_view c.args.limits (pass_view c.speak-prelude.new.pass) c.args.copies.items c.pass-first.new.from c.pass-last.new.from c.speak-closing.new.pass c.spoken-seats.result.items ended)

pub journal_of-journal-requires-clause-count : goal.journal_of-journal-requires-clause-count
journal_of-journal-requires-clause-count g c =
    let seats = c.spoken-seats.result.items in
    let front : List _ = c.pass-first.new.from ∷ c.pass-last.new.from ∷ map (λ s. s.pass) seats in
    let size : length c.parted-passes.result.0.items ≡ length front + 1 = ap (λ (l : List _). length l) c.parted-passes.ensures.passes ∙ length-append front (c.speak-closing.new.pass ∷ []) in
    let passes : length front ≡ length seats + 2 = (let m = length-map seats (λ s. s.pass) in omega arith) in
    let spoken = c.spoken-seats.ensures.count in
    let seated = c.seated-seats.ensures.seated.as_many in
    let made = c.seated-seats.ensures.made in
    let last : c.pass-last.new.self.made ≡ c.seated-seats.new.repo.made + 1 = ap (λ r. r.made) c.pass-last.ensures.made in
    omega arith

pub returns : goal.returns
returns g c = λ number changes sessions few scripts_are.
    let p_number = c.speak-prelude.ensures.number ∙ ap (λ (t : Token _). t.number) c.pass-first.ensures.new ∙ ap (λ r. r.made) c.requires.repo in
    let seen = ap (λ t. (pass_view t).journal) c.pass-last.ensures.new in
    let sees = prefix_further _ _ _ c.seated-seats.ensures.sees c.pass-last.ensures.from_sees in
    let made = c.seated-seats.ensures.made in
    let ended : HaveEnded pass_view c.args.limits (pass_view c.speak-prelude.new.pass) c.args.copies.items c.pass-first.new.from c.pass-last.new.from c.speak-closing.new.pass c.spoken-seats.result.items = have_ended pass_view c.args.limits (pass_view c.speak-prelude.new.pass) c.args.copies.items c.pass-first.new.from c.pass-last.new.from c.speak-closing.new.pass c.spoken-seats.result.items
    c.seated-seats.result.items (pass_view c.pass-last.result) (ap (λ (t : Token _). t.number) c.pass-first.ensures.from ∙ ap (λ (t : Token _). t.number) c.requires.zero)
    (c.pass-first.ensures.from_own ∙ ap (λ t. own (pass_view t)) c.requires.zero) p_number (ap (λ (t : Token _). t.number) c.pass-last.ensures.from ∙ c.seated-seats.ensures.number)
    (c.pass-last.ensures.from_own ∙ c.seated-seats.ensures.own) sees c.seated-seats.ensures.seated c.spoken-seats.ensures.count c.spoken-seats.ensures.each c.pass-last.ensures.fresh
    (ap (λ (t : Token _). t.number) c.pass-last.ensures.new ∙ (omega arith)) (subst (λ j. IsPrefix (pass_view c.speak-prelude.new.pass).journal j) (sym seen) sees) c.speak-closing.ensures.number in
    let p : PassView = pass_view c.speak-prelude.new.pass in
    let scripts = c.args.copies.items in
    let none = c.pass-first.new.from in
    let first = c.pass-last.new.from in
    let last = c.speak-closing.new.pass in
    let seats = c.spoken-seats.result.items in
    let journal = c.journal_of-journal.result in
    let rows = ap (λ l. map pass_view l) c.parted-passes.ensures.passes ∙ ap (λ l. pass_view none ∷ pass_view first ∷ l) (views_are pass_view seats last) in
    let is : IsJournalOf journal (views pass_view c.args.limits p scripts none first last seats) = subst (λ l. IsJournalOf journal l) rows c.journal_of-journal.ensures.journal in
    let all_scripts = c.requires.copies ∙ scripts_are.sessions_are in
    let long : length scripts ≡ sessions = ap (λ (l : List (List ℕ)). length l) all_scripts ∙ as_many_scripts number changes sessions sessions in
    let each : (i : ℕ) (d : List ℕ) → i < sessions → get_or scripts i d ≡ script (session_requests number sessions i (changes - 1)) = λ i d lt. ap (λ l. get_or l i d) all_scripts ∙ script_at number changes sessions sessions i d lt in
    let short : changes - 1 + 1 < 2 ^ 32 = omega (arith, few) in
    let at_first : c.pass-first.new.self.limits ≡ c.args.limits = ap (λ r. r.limits) c.pass-first.ensures.made ∙ ap (λ r. r.limits) c.requires.repo in
    let at_last : c.pass-last.new.self.limits ≡ c.args.limits = ap (λ r. r.limits) c.pass-last.ensures.made ∙ c.seated-seats.ensures.limits ∙ at_first in
    let seen = c.speak-prelude.new.seen in
    let prints = c.speak-closing.new.seen in
    let e = c.speak-prelude.result in
    let f = c.speak-closing.result in
    let opening : Speech Enters c.args.limits (record { all = true }) seen p (script opening_requests) e =
    subst (λ l. Speech Enters l (record { all = true }) seen p (script opening_requests) e) at_first
    (subst (λ t. Speech Enters c.pass-first.new.self.limits (record { all = true }) seen p t e) (c.items.ensures ∙ scripts_are.prelude_is) c.speak-prelude.ensures.speech) in
    let closing : Speech (λ s x r t. t ≡ s ++ printed r) c.args.limits [] prints (pass_view last) (script closing_requests) f =
    subst (λ l. Speech (λ s x r t. t ≡ s ++ printed r) l [] prints (pass_view last) (script closing_requests) f) at_last
    (subst (λ t. Speech (λ s x r t. t ≡ s ++ printed r) c.pass-last.new.self.limits [] prints (pass_view last) t f) (c.items-2.ensures ∙ scripts_are.closing_is)
    (subst (λ b. Speech (λ s x r t. t ≡ s ++ printed r) c.pass-last.new.self.limits b prints (pass_view last) c.items-2.result.now f) c.new.ensures.items c.speak-closing.ensures.speech)) in
    let ends_are : c.of.result ≡ ends_of pass_view c.args.limits p scripts none first last seats e f = c.of.ensures ∙ c.parted-passes.ensures.ends in
    record {
      legal = subst (λ l. IsLegal l journal) at_last c.journal_of-journal.ensures.legal;
      of_sessions = subst (λ k. All (λ x. (0 < x.pass) × (x.pass ≤ k + 2)) journal) long (of_sessions pass_view c.args.limits p scripts none first last seats ended journal is);
      ends = subst (λ l. AreEnds sessions l) (sym ends_are) (are_ends pass_view c.args.limits p scripts none first last seats ended journal is number sessions (changes - 1) short long each seen prints e f opening closing);
      run = λ entered done.
          let both : (seen.all ≡ true) × All (λ s. s.seen.all ≡ true) seats = elim c.if-entering.branch [
            | then-entering w ↦ (w.if-entering.true, subst (λ l. All (λ s. s.seen.all ≡ true) l) w.deref.ensures.value (w.all_entered-entered.ensures (sym w.entered-is ∙ entered)))
            | else-entering w ↦ absurd (let k : true ≡ false = sym entered ∙ w.entered-is ∙ w.if-entering.false in cc k)
          ] in
          subst (λ l. HasRun c.args.limits number sessions (changes - 1) journal l) (sym c.printing.view_is)
          (has_run pass_view c.args.limits p scripts none first last seats ended journal is number sessions (changes - 1) short long each seen prints e f opening closing both.0 both.1 (subst (λ l. All (λ x. x.end ≡ Done) l) ends_are done));
    }
