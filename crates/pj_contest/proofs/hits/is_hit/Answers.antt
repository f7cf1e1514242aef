use Rattle.std.proofs.Common.{◌≡◌, true, false, ◌&&◌, ◌∷◌, List, sym, ap, ◌∙◌, subst}
use Rattle.pj_change.specs.declared.change.Record.{Record}
use Rattle.pj_change.specs.Lawful.{is_held}
use Rattle.pj_contest.specs.Contests.{IsFree}
use Rattle.pj_contest.specs.Rivals.{is_stranger_of}
use Rattle.pj_contest.specs.Sought.{is_worked_on}
use Rattle.pj_contest.proofs.Named.{apart_pairs}
use Rattle.pj_contest.proofs.RangeHits.{range_held, range_hit}
use Rattle.pj_contest.proofs.hits.is_hit.Goals as goal

pub is_stranger-requires-clause-held : goal.is_stranger-requires-clause-held
is_stranger-requires-clause-held g c =
    subst (λ (l : List Record). is_held (c.args.change.now ∷ l) c.args.range.by.change ≡ true) (sym c.requires.same) (range_held (c.args.change.now ∷ c.args.owners.now) c.args.range c.requires.one)

pub is_stranger-requires-clause-free : goal.is_stranger-requires-clause-free
is_stranger-requires-clause-free g c = subst (λ (l : List Record). IsFree l c.args.change.now) (sym c.requires.same) c.requires.free

pub returns-then-is_stranger-clause-hit : goal.returns-then-is_stranger-clause-hit
returns-then-is_stranger-clause-hit g c =
    let S = c.args.owners.now in
    let i = c.args.change.now in
    let q = c.args.range in
    let stranger : is_stranger_of S i q.by.change ≡ true = ap (λ l. is_stranger_of l i q.by.change) (sym c.requires.same) ∙ sym c.is_stranger.ensures.stranger ∙ c.if-is_stranger.true in
    c.works_on.ensures.works ∙ sym (range_hit S (apart_pairs S c.requires.distinct) i c.requires.fresh q c.requires.one ∙ ap (λ b. b && is_worked_on S q i) stranger)

pub returns-else-is_stranger-clause-hit : goal.returns-else-is_stranger-clause-hit
returns-else-is_stranger-clause-hit g c =
    let S = c.args.owners.now in
    let i = c.args.change.now in
    let q = c.args.range in
    let stranger : is_stranger_of S i q.by.change ≡ false = ap (λ l. is_stranger_of l i q.by.change) (sym c.requires.same) ∙ sym c.is_stranger.ensures.stranger ∙ c.if-is_stranger.false in
    c.if-is_stranger.false ∙ sym (range_hit S (apart_pairs S c.requires.distinct) i c.requires.fresh q c.requires.one ∙ ap (λ b. b && is_worked_on S q i) stranger)
