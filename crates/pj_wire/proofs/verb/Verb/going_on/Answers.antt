use Rattle.std.proofs.Common.{◌≡◌, ℕ, List, true, false, ◌∷◌, ◌++◌, take, get_or, sym, ◌∙◌, ap, subst, arith}
use borrow.Author.Count.{below_more}
use Rattle.pj_wire.specs.declared.verb.Verb.{Verb}
use Rattle.pj_wire.specs.declared.verb.Verb.TheVariants as verb
use Rattle.pj_wire.specs.declared.verb.TheConstants.{VERBS}
use Rattle.pj_wire.specs.Verbs.{GoesOn}
use Rattle.pj_wire.proofs.Verbs.{place_of}
use Rattle.pj_wire.proofs.verb.Verb.going_on.Goals as goal

pub loop-verb-preserved : goal.loop-verb-preserved
loop-verb-preserved c =
    let front = c.split_at.ensures.front ∙ ap (λ (s : List ℕ). take c.args.read s) c.word.ensures in
    below_more (λ (k : ℕ). GoesOn c.args.self c.args.read c.args.byte (get_or VERBS k verb.Apply) → ⊥) c.loop-verb.verb-index c.loop-verb.invariant
    (λ on.
    let found = c.goes_on.ensures.1 (on.0, c.word-in-loop-verb.ensures ∙ on.1 ∙ ap (λ (s : List ℕ). s ++ c.args.byte ∷ on.0) (sym front)) in
    let both : true ≡ false = sym found ∙ c.if-goes_on.false in
    cc both)

pub returns-clause-none : goal.returns-clause-none
returns-clause-none c = λ none v on.
    let place = place_of v in
    let within = place.1 in
    c.loop-verb.invariant place.0 (omega (arith, within, c.loop-verb-test.false)) (subst (λ (u : Verb). GoesOn c.args.self c.args.read c.args.byte u) (sym place.2) on)
