-- The order of rows is total.
use Rattle.std.specs.Cmp.{IsTotalOrder, IsEquivalence, IsPartialEquivalence, IsPartialOrder, on_total, then_total, nat_cmp_total, bool_cmp_total, eq_by_cmp_equiv, partial_equiv_from_equiv, partial_order_from_total}
use Rattle.std.specs.Cmp.Lexicographic.{lists_total, options_total}
use Rattle.std.specs.Ordering.{as_partial_cmp, eq_by_cmp}
use Rattle.std.specs.Option.{option_cmp}
use Rattle.std.specs.Prelude.{Option}
use Rattle.std.specs.declared.cmp.Ordering.{Ordering}
use Rattle.pj_change.proofs.Orders.{place_total, point_total}
use Rattle.pj_tree.specs.declared.row.NameRow.{NameRow}
use Rattle.pj_tree.specs.Rows.{pair_cmp, row_cmp}

pub pair_total : IsTotalOrder pair_cmp
pair_total = then_total (on_total (λ r. r.parent) place_total) (then_total (on_total (λ r. r.name) (lists_total nat_cmp_total)) (on_total (λ r. r.child) point_total))

pub row_total : IsTotalOrder row_cmp
row_total =
    then_total pair_total (then_total (on_total (λ r. r.at) point_total) (then_total (on_total (λ r. r.dir) bool_cmp_total) (on_total (λ r. r.exec) bool_cmp_total)))

-- what is below each row before the rows
abbrev pub key_cmp : Option NameRow → Option NameRow → Ordering
key_cmp = option_cmp row_cmp

pub key_total : IsTotalOrder key_cmp
key_total = options_total row_total

pub key_equivalence : IsEquivalence (eq_by_cmp key_cmp)
key_equivalence = eq_by_cmp_equiv key_total

pub key_partial_equivalence : IsPartialEquivalence (eq_by_cmp key_cmp)
key_partial_equivalence = partial_equiv_from_equiv key_equivalence

pub key_partial_order : IsPartialOrder (eq_by_cmp key_cmp) (as_partial_cmp key_cmp)
key_partial_order = partial_order_from_total key_total
