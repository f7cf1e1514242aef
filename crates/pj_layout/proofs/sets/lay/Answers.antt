use Rattle.std.proofs.Common.{◌≡◌, ◌<◌, All, IfOk, subst, sym, ◌∙◌, ap}
use Rattle.std.specs.List.{range_with_len}
use Rattle.std.specs.Ordering.{nat_cmp}
use Rattle.std.specs.List.Sorted.{IsStrictlySortedBy}
use Rattle.pj_bits.specs.Matrix.{size as size_of}
use Rattle.pj_change.specs.Layout.{IsLayout}
use Rattle.pj_layout.specs.Orders.{Before}
use Rattle.pj_layout.specs.Shapes.{shape}
use Rattle.pj_layout.proofs.Predecessors.{all_below, range_sorted}
use Rattle.pj_layout.proofs.sets.lay.Goals as goal

pub lay_set-requires-clause-sorted : goal.lay_set-requires-clause-sorted
lay_set-requires-clause-sorted c =
    subst (IsStrictlySortedBy nat_cmp) (sym (c.as_slice.ensures.value ∙ c.in_ok-classes.ensures)) (range_sorted c.size.result)

pub lay_set-requires-clause-inside : goal.lay_set-requires-clause-inside
lay_set-requires-clause-inside c =
    let count : c.size.result ≡ size_of c.in_ok-order.order.before.now = c.size.ensures.size ∙ sym (ap size_of c.in_ok-order.ensures) in
    subst (All (λ x. x < size_of c.in_ok-order.order.before.now)) (sym (c.as_slice.ensures.value ∙ c.in_ok-classes.ensures))
    (subst (λ n. All (λ x. x < n) (range_with_len 0 c.size.result)) count (all_below c.size.result))

pub returns : goal.returns
returns c =
    let all : c.as_slice.result.now ≡ range_with_len 0 (size_of c.args.before.now) = c.as_slice.ensures.value ∙ c.in_ok-classes.ensures ∙ ap (range_with_len 0) c.size.ensures.size in
    subst (λ rows. IfOk c.lay_set.result (λ layout. IsLayout (Before rows) 0 (range_with_len 0 (size_of c.args.before.now)) (shape layout))) c.in_ok-order.ensures
    (subst (λ l. IfOk c.lay_set.result (λ layout. IsLayout (Before c.in_ok-order.order.before.now) 0 l (shape layout))) all c.lay_set.ensures)
