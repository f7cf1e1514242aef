-- A call whose reply is not that to a write that was entered has no entry.
use Rattle.std.proofs.Common.{◌≡◌, ◌∙◌, ◌==◌, ℕ, true, false, List, [], ◌∷◌, ◌++◌, filter, inl, inr, refl, sym, ap, ⊎_elim, cond, eq-eqb}
use Rattle.std.proofs.lemmas.List.Elements.{filter-append}
use Rattle.pj_change.proofs.Members.{not_nil}
use Rattle.pj_machine.specs.declared.command.Command.{Command}
use Rattle.pj_machine.specs.declared.journal.Entry.{Entry}
use Rattle.pj_machine.specs.declared.limits.Limits.{Limits}
use Rattle.pj_machine.specs.declared.reply.Numbered.{Numbered}
use Rattle.pj_machine.specs.declared.reply.Numbered.TheVariants.{At, NoMemory}
use Rattle.pj_machine.specs.declared.reply.Reply.{Reply}
use Rattle.pj_machine.specs.Answered.{Answered}
use Rattle.pj_machine.specs.Call.{PassView, GainsAtMostLast, WasEntered, entry, entries_at, own}
use Rattle.pj_machine.specs.Told.{is_entered}
use Rattle.pj_machine.proofs.Entered.{entered}
use Rattle.pj_session.proofs.Accepting.{entered_told}
use Rattle.pj_stored.specs.Answered.{Declines, Lacks}

-- a call without an entry adds none to those of its pass
pub gains_none : (middle new : PassView) → GainsAtMostLast middle new → entries_at new.number new.calls new.journal ≡ [] → own new ≡ own middle
gains_none middle new gains none = ⊎_elim
    (λ kept. kept)
    (λ g.
    let e : Entry = entry new.number new.calls g.write in
    let here : filter (λ f. f.call == new.calls) (e ∷ []) ≡ e ∷ [] = ap (λ b. cond b (e ∷ []) []) (eq-eqb new.calls new.calls refl) in
    let parts : entries_at new.number new.calls new.journal ≡ filter (λ f. f.call == new.calls) (own middle) ++ e ∷ [] =
    ap (λ l. filter (λ f. f.call == new.calls) l) g.gained ∙ filter-append (λ f. f.call == new.calls) (own middle) (e ∷ [])
    ∙ ap (λ l. filter (λ f. f.call == new.calls) (own middle) ++ l) here in
    absurd (not_nil (filter (λ f. f.call == new.calls) (own middle)) e [] (sym none ∙ parts)))
    gains

-- an entry has the reply to a write that was entered
pub was_told : (limits : Limits) (journal : List Entry) (pass call place : ℕ) (x : Command) (reply : Reply) →
    WasEntered limits journal pass call place x reply → is_entered (At place reply) ≡ false → ⊥
was_told limits journal pass call place x reply w other =
    let told : is_entered (At place reply) ≡ true = ap (λ y. is_entered (At place y)) (entered limits w.before x reply w.write w.answer).1
    ∙ entered_told place w.write in
    let k : true ≡ false = sym told ∙ other in cc k

-- what was not told as entered was not entered
pub quiet_own : (limits : Limits) (a b : PassView) (x : Command) (r : Numbered) → Answered limits a b x r → is_entered r ≡ false → own b ≡ own a
quiet_own limits a b x NoMemory answered other = gains_none a b answered.own answered.result
quiet_own limits a b x (At place reply) answered other = ⊎_elim
    (λ w. absurd (was_told limits b.journal b.number b.calls place x reply w other))
    (λ s. gains_none a b answered.own s.none)
    answered.result

-- a string that was not accepted
pub declines_own : (limits : Limits) (a b : PassView) (string : List ℕ) → Declines limits a b string → own b ≡ own a
declines_own limits a b string (inl none) = ap own none.0
declines_own limits a b string (inr one) = quiet_own limits a b one.command one.reply one.answered one.says.0

-- and one that there was no memory to answer
pub lacks_own : (limits : Limits) (a b : PassView) (string : List ℕ) → Lacks limits a b string → own b ≡ own a
lacks_own limits a b string (inl none) = ap own none
lacks_own limits a b string (inr one) = quiet_own limits a b one.command one.reply one.answered (ap is_entered one.says)
