use Rattle.std.proofs.Common.{◌≡◌, ℕ, [], get_or, refl, subst}
use Rattle.std.specs.Prelude.{Option, Some}
use Rattle.pj_change.specs.Gathers.{Gathers}
use Rattle.pj_plain.specs.Links.{IsPlaced}
use Rattle.pj_change.proofs.Gathering.{of_more}
use Rattle.pj_plain.proofs.Places.{pair_added}
use Rattle.pj_plain.proofs.file_text.placed_pairs.Goals as goal

pub loop-a-preserved : goal.loop-a-preserved
loop-a-preserved c =
    let pairs = c.args.pairs.now in
    let i = c.loop-a.a-index in
    let numbers = get_or pairs i (0, 0) in
    let middle = c.loop-a.edges.items in
    let new = c.add_pair.new.pairs.items in
    of_more (IsPlaced c.args.places.now) pairs i numbers (0, 0) c.loop-a-test.true refl [] middle new c.loop-a.invariant
    (subst (λ (o : Option (ℕ × ℕ)). Gathers (λ x. o ≡ Some x) middle new) c.placed.ensures (pair_added c.placed.result middle new c.in_ok-add_pair.ensures))
