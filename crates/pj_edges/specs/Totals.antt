-- Both orders are total.
use Rattle.std.specs.Cmp.{IsTotalOrder, IsEquivalence, IsPartialEquivalence, IsPartialOrder, on_total, then_total, nat_cmp_total, eq_by_cmp_equiv, partial_equiv_from_equiv, partial_order_from_total}
use Rattle.std.specs.Ordering.{as_partial_cmp, eq_by_cmp}
use Rattle.pj_name.proofs.Names.{name_cmp-total}
use Rattle.pj_change.specs.Graph.{label_rank}
use Rattle.pj_change.proofs.Orders.{place_total, point_total}
use Rattle.pj_edges.specs.Orders.{out_cmp, into_cmp}

pub out_total : IsTotalOrder out_cmp
out_total =
    then_total (on_total (λ k. k.row.source) place_total)
    (then_total (on_total (λ k. k.row.target) point_total) (then_total (on_total (λ k. label_rank k.row.label) nat_cmp_total) (on_total (λ k. k.row.introducer) name_cmp-total)))

pub out_equivalence : IsEquivalence (eq_by_cmp out_cmp)
out_equivalence = eq_by_cmp_equiv out_total

pub out_partial_equivalence : IsPartialEquivalence (eq_by_cmp out_cmp)
out_partial_equivalence = partial_equiv_from_equiv out_equivalence

pub out_partial_order : IsPartialOrder (eq_by_cmp out_cmp) (as_partial_cmp out_cmp)
out_partial_order = partial_order_from_total out_total

pub into_total : IsTotalOrder into_cmp
into_total =
    then_total (on_total (λ k. k.row.target) point_total)
    (then_total (on_total (λ k. k.row.source) place_total) (then_total (on_total (λ k. label_rank k.row.label) nat_cmp_total) (on_total (λ k. k.row.introducer) name_cmp-total)))

pub into_equivalence : IsEquivalence (eq_by_cmp into_cmp)
into_equivalence = eq_by_cmp_equiv into_total

pub into_partial_equivalence : IsPartialEquivalence (eq_by_cmp into_cmp)
into_partial_equivalence = partial_equiv_from_equiv into_equivalence

pub into_partial_order : IsPartialOrder (eq_by_cmp into_cmp) (as_partial_cmp into_cmp)
into_partial_order = partial_order_from_total into_total
