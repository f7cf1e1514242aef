use Rattle.std.proofs.Common.{◌≡◌, [], length, sym, ◌∙◌, arith}
use Rattle.std.proofs.lemmas.Bool.{and_parts}
use Rattle.pj_change.specs.Text.{text_of}
use Rattle.pj_change.specs.Parts.{parts}
use Rattle.pj_change.proofs.ChangeLemmas.{change_from, length-line, length-text_parts}
use Rattle.pj_change.proofs.rules.keep_rules.Goals as goal

pub others_length-others-requires-clause-message : goal.others_length-others-requires-clause-message
others_length-others-requires-clause-message c =
    let all = and_parts _ _ (sym c.lines_hold.ensures ∙ c.if-not-lines_hold.false) in
    length-line c.args.message.now (and_parts _ _ all.0).1

pub others_length-others-requires-clause-author : goal.others_length-others-requires-clause-author
others_length-others-requires-clause-author c =
    length-line c.args.author.now (and_parts _ _ (sym c.lines_hold.ensures ∙ c.if-not-lines_hold.false)).1

pub returns : goal.returns
returns c =
    let whole = length-text_parts c.args.version c.args.message.now c.args.author.now c.args.time c.args.needs.now c.args.knows.now c.args.hunks.now in
    let others : c.others_length-others.result ≡ length (text_of (parts c.args.version c.args.message.now c.args.author.now c.args.time c.args.needs.now c.args.knows.now [])) =
    c.others_length-others.ensures in (
      λ h.
          let fits = c.hunks_fit.ensures.0 h in
          change_from _ (sym c.lines_hold.ensures ∙ c.if-not-lines_hold.false) (sym c.names_hold.ensures ∙ c.if-not-names_hold.false) (sym c.hunks_hold.ensures ∙ c.if-not-hunks_hold.false)
          c.ranges.time.fits fits.0 (omega (arith, fits.1, whole, others, c.longest.ensures)),
      λ k. c.hunks_fit.ensures.1 (k.hunks, omega (arith, k.short, whole, others, c.longest.ensures)),
    )
