use Rattle.std.proofs.Common.{◌≡◌, length, refl, sym, ◌∙◌, ap, arith}
use Rattle.std.specs.List.{range_with_len}
use Rattle.std.proofs.lemmas.List.FromFn.{map-range_with_len_more, length-range_with_len}
use Rattle.pj_bits.specs.Matrix.{size as size_of}
use Rattle.pj_layout.specs.Counts.{predecessors}
use Rattle.pj_layout.proofs.Predecessors.{all_below, no_more_than_listed, ranks_rise}
use Rattle.pj_layout.proofs.order.ranks.Goals as goal

pub of-requires : goal.of-requires
of-requires c =
    let are : c.as_slice.result.now ≡ range_with_len 0 (size_of c.args.before.now) = c.as_slice.ensures.value ∙ rw (← c.size-size.ensures.size) c.in_ok-classes.ensures in
    rw are (all_below (size_of c.args.before.now))

pub get-requires-clause-fits : goal.get-requires-clause-fits
get-requires-clause-fits c =
    let counted = c.in_ok-counts.ensures.counted c.loop-class.class in
    let most = no_more_than_listed c.args.before.now c.as_slice.result.now c.loop-class.class in
    let long : length c.as_slice.result.now ≡ c.size-size.result = ap length (c.as_slice.ensures.value ∙ c.in_ok-classes.ensures) ∙ length-range_with_len 0 c.size-size.result in
    omega (arith)

pub loop-class-preserved : goal.loop-class-preserved
loop-class-preserved c =
    let are : c.as_slice.result.now ≡ range_with_len 0 (size_of c.args.before.now) = c.as_slice.ensures.value ∙ rw (← c.size-size.ensures.size) c.in_ok-classes.ensures in
    let count : c.get.result ≡ predecessors c.args.before.now (range_with_len 0 (size_of c.args.before.now)) c.loop-class.class = c.get.ensures ∙ c.in_ok-counts.ensures.counted c.loop-class.class ∙ rw are refl in
    rw (c.in_ok-push.ensures.items, c.loop-class.invariant, count) (sym (map-range_with_len_more (predecessors c.args.before.now (range_with_len 0 (size_of c.args.before.now))) 0 c.loop-class.class c.loop-class.class (omega arith)))

pub returns-clause-rising : goal.returns-clause-rising
returns-clause-rising c =
    let all : c.loop-class.class ≡ size_of c.args.before.now = omega (arith, c.loop-class.auto.class-end, c.loop-class-test.false, c.size-size.ensures.size) in
    ranks_rise c.args.before.now c.requires c.loop-class.ranks.items (c.loop-class.invariant ∙ rw all refl) (λ x y h. rw (← c.size-size.ensures.size) (c.size-size.ensures.inside x y h))
