use Rattle.std.proofs.Common.{rules, ◌<◌, ◌≤◌, length, arith, inl, inr}
use Rattle.std.proofs.lemmas.List.Sorted.{All-permutation, IsPermutation-refl}
use Rattle.pj_bits.specs.Matrix.{size as size_of}
use Rattle.pj_change.specs.Layout.{AreUnordered, AreOrdered}
use Rattle.pj_layout.specs.Orders.{Before}
use Rattle.pj_layout.proofs.LayoutsOfParts.{parts_sorted, parts_inside, layouts_more, series_layout, sides_layout, tangle_layout, linked_as_one}
use Rattle.pj_layout.proofs.sets.+lay.Goals as goal
use Rattle.pj_layout.proofs.sets.+lay.Goals.{lay_set-then-depth-lt-DEEPEST_LAYOUT+in_ok-by_rank+in_ok-parts+else-len-gt1+in_ok-parts-2+else-len-gt1-2, lay_set-else-depth-lt-DEEPEST_LAYOUT}

pub lay_set-linked_sets-requires : goal.lay_set-linked_sets-requires
lay_set-linked_sets-requires t c =
    rw c.as_slice-then-depth-lt-DEEPEST_LAYOUT.ensures.value (All-permutation (λ class. class < size_of c.args.order.now.before.now) c.args.classes.now c.in_ok-by_rank.by_rank.items c.in_ok-by_rank.ensures.same c.requires.inside)

pub lay_set-lay_sets-requires : goal.lay_set-lay_sets-requires
lay_set-lay_sets-requires t c =
    let unordered = AreUnordered (Before c.args.order.now.before.now) in
    let sorted = c.in_ok-by_rank.by_rank.items in
    let parts = c.in_ok-parts.parts.items in
    let found = rw c.as_slice-then-depth-lt-DEEPEST_LAYOUT.ensures.value at c.in_ok-parts.ensures in
    let inside = All-permutation (λ class. class < size_of c.args.order.now.before.now) c.args.classes.now sorted c.in_ok-by_rank.ensures.same c.requires.inside in (
      search rules,
      (
        omega (arith, c.if-depth-lt-DEEPEST_LAYOUT.true),
        (
          rw c.as_slice-then-len-gt1.ensures.value (parts_sorted unordered sorted parts found),
          rw c.as_slice-then-len-gt1.ensures.value (parts_inside unordered sorted parts found (λ class. class < size_of c.args.order.now.before.now) inside),
        ),
      ),
    )

pub lay_set-returns-then-len-gt1 : goal.lay_set-returns-then-len-gt1
lay_set-returns-then-len-gt1 t c =
    let order = c.args.order.now in
    series_layout order.before.now order.after order.ranks.items order.prepared c.args.depth c.args.classes.now c.in_ok-by_rank.by_rank.items c.in_ok-parts.parts.items c.in_ok-layouts.layouts
    c.in_ok-by_rank.ensures.same
    (rw c.as_slice.ensures.value at c.in_ok-by_rank.ensures.rising)
    (rw c.as_slice-then-depth-lt-DEEPEST_LAYOUT.ensures.value at c.in_ok-parts.ensures)
    (omega (arith, c.if-len-gt1.true, c.len.ensures))
    c.if-depth-lt-DEEPEST_LAYOUT.true
    (rw c.as_slice-then-len-gt1.ensures.value at c.in_ok-layouts.ensures)

pub lay_set-lay_sets-requires-then-len-gt1-2 : goal.lay_set-lay_sets-requires-then-len-gt1-2
lay_set-lay_sets-requires-then-len-gt1-2 t c =
    let ordered = AreOrdered (Before c.args.order.now.before.now) in
    let parts = c.in_ok-parts-2.parts.items in (
      search rules,
      (
        omega (arith, c.if-depth-lt-DEEPEST_LAYOUT.true),
        (
          rw c.as_slice-then-len-gt1-2.ensures.value (parts_sorted ordered c.args.classes.now parts c.in_ok-parts-2.ensures),
          rw c.as_slice-then-len-gt1-2.ensures.value (parts_inside ordered c.args.classes.now parts c.in_ok-parts-2.ensures (λ class. class < size_of c.args.order.now.before.now) c.requires.inside),
        ),
      ),
    )

pub lay_set-returns-then-len-gt1-2 : goal.lay_set-returns-then-len-gt1-2
lay_set-returns-then-len-gt1-2 t c =
    let order = c.args.order.now in
    let found = rw c.as_slice-then-depth-lt-DEEPEST_LAYOUT.ensures.value at c.in_ok-parts.ensures in
    let single : length c.in_ok-parts.parts.items ≤ 1 = omega (arith, c.if-len-gt1.false, c.len.ensures) in
    sides_layout order.before.now order.after order.ranks.items order.prepared c.args.depth c.args.classes.now c.in_ok-parts-2.parts.items c.in_ok-layouts-2.layouts
    c.requires.sorted
    (linked_as_one c.args.classes.now (AreUnordered (Before order.before.now)) c.in_ok-by_rank.by_rank.items c.in_ok-parts.parts.items c.in_ok-by_rank.ensures.same found single)
    c.in_ok-parts-2.ensures
    (omega (arith, c.if-len-gt1-2.true, c.len-then-depth-lt-DEEPEST_LAYOUT.ensures))
    c.if-depth-lt-DEEPEST_LAYOUT.true
    (rw c.as_slice-then-len-gt1-2.ensures.value at c.in_ok-layouts-2.ensures)

pub lay_set-returns : goal.lay_set-returns
lay_set-returns t c =
    let order = c.args.order.now in
    let classes = c.args.classes.now in
    tangle_layout order.before.now order.after order.ranks.items order.prepared c.args.depth classes c.in_ok-tangle.field-0
    (omega (arith, c.if-classes-eq0.false, c.if-classes-eq1.false))
    (elim c.if-depth-lt-DEEPEST_LAYOUT.branch [
      | lay_set-then-depth-lt-DEEPEST_LAYOUT+in_ok-by_rank+in_ok-parts+else-len-gt1+in_ok-parts-2+else-len-gt1-2 w ↦ inr (
        w.if-depth-lt-DEEPEST_LAYOUT.true,
        linked_as_one classes (AreUnordered (Before order.before.now)) w.in_ok-by_rank.by_rank.items w.in_ok-parts.parts.items w.in_ok-by_rank.ensures.same
            (rw w.as_slice-then-depth-lt-DEEPEST_LAYOUT.ensures.value at w.in_ok-parts.ensures) (omega (arith, w.if-len-gt1.false, w.len.ensures)),
        linked_as_one classes (AreOrdered (Before order.before.now)) classes w.in_ok-parts-2.parts.items (IsPermutation-refl classes) w.in_ok-parts-2.ensures
            (omega (arith, w.if-len-gt1-2.false, w.len-then-depth-lt-DEEPEST_LAYOUT.ensures)),
      )
      | lay_set-else-depth-lt-DEEPEST_LAYOUT w ↦ inl (omega (arith, w.if-depth-lt-DEEPEST_LAYOUT.false, c.requires.depth))
    ])
    c.in_ok-tangle.ensures

pub lay_sets-loop-set-preserved : goal.lay_sets-loop-set-preserved
lay_sets-loop-set-preserved t c =
    layouts_more (Before c.args.order.now.before.now) c.args.depth c.args.sets.now c.loop-set.set-index c.set-item.result c.loop-set.layouts.items c.push.new.self.items c.in_ok-lay_set.field-0
    c.loop-set-test.true c.set-item.is c.in_ok-push.ensures.items c.loop-set.invariant (rw c.as_slice.ensures.value at c.in_ok-lay_set.ensures)
