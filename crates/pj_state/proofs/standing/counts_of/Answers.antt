use Rattle.std.proofs.Common.{◌≡◌, ◌∙◌, ◌++◌, ◌∷◌, [], sym, ap, map, append_assoc, append-nil}
use Rattle.pj_machine.specs.declared.listings.ChannelCount.{ChannelCount}
use Rattle.pj_state.specs.IsKept.{count}
use Rattle.pj_state.proofs.standing.counts_of.Goals as goal

pub loop-name-preserved : goal.loop-name-preserved
loop-name-preserved c =
    let before = c.loop-name.counts.items in
    let rest = map count c.next.new.self in
    let counted : c.in_ok-count.count ≡ count (c.in-Some.name.now, c.in-Some.standing.now) =
    λ i. record { name = c.in_ok-count.ensures.0 i; changes = c.in_ok-count.ensures.1 i } in
    ap (λ l. l ++ rest) c.in_ok-push.ensures.items
    ∙ append_assoc before (c.in_ok-count.count ∷ []) rest
    ∙ ap (λ (x : ChannelCount). before ++ x ∷ rest) counted
    ∙ ap (λ l. before ++ map count l) (sym c.in-Some.ensures.steps)
    ∙ c.loop-name.invariant

pub returns-clause-counts : goal.returns-clause-counts
returns-clause-counts c =
    let before = c.loop-name.counts.items in
    sym (append-nil before) ∙ ap (λ l. before ++ map count l) (sym c.in-None.ensures.steps.0) ∙ c.loop-name.invariant
