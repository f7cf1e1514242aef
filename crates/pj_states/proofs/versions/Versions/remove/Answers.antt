use Rattle.std.proofs.Common.{◌∙◌, ◌&&◌, ◌≡◌, not, sym, ap, subst, length, Some, None, arith}
use Rattle.std.specs.Arc.{arc_value}
use Rattle.std.specs.Ordering.{is_eq}
use Rattle.pj_ranges.specs.declared.range.RangeAt.{RangeAt}
use Rattle.pj_ranges.specs.Units.{hunk_cmp, range_cmp}
use Rattle.pj_ranges.specs.Over.{has_range}
use Rattle.pj_name.specs.declared.name.Name.{Name}
use Rattle.pj_pmap.specs.Pairs.{IsRising, without_key}
use Rattle.pj_pmap.proofs.Lookups.{value_without}
use Rattle.pj_ranges.proofs.RangeOrder.{hunk_total}
use Rattle.pj_states.specs.Rows.{Rows, hunk_at, said_by, shown_rows}
use Rattle.pj_states.specs.Index.{AreIndexed}
use Rattle.pj_states.specs.Named.{AreNamed, by_count, is_named, is_one_of}
use Rattle.pj_states.proofs.Indexed.{indexed_without}
use Rattle.pj_states.proofs.NamedRows.{named_without}
use Rattle.pj_states.proofs.ShownRows.{without_shown, without_none, rising_shown}
use Rattle.pj_states.proofs.SetChanges.{said_without_none}
use Rattle.pj_states.proofs.versions.Versions.remove.Goals as goal

pub returns-clause-rows : goal.returns-clause-rows
returns-clause-rows g c =
    ap shown_rows c.in_ok-hunks.ensures.same
    ∙ without_shown hunk_cmp arc_value (hunk_at c.args.change c.args.hunk) c.self.inside.hunks
    ∙ ap (λ (rows : Rows). without_key hunk_cmp (hunk_at c.args.change c.args.hunk) rows) c.self.view_is

pub invariant_of-result-2 : goal.invariant_of-result-2
invariant_of-result-2 g c =
    let x = subst (λ rows. AreIndexed rows c.self.inside.ranges) c.self.view_is c.self.invariant.0 in
    let n = subst (λ rows. AreNamed rows c.self.inside.named) c.self.view_is c.self.invariant.1 in
    let said = subst (λ (rows : Rows). said_by (hunk_at c.args.change c.args.hunk) rows ≡ Some c.in-Some.op.now) c.self.view_is c.in-Some.ensures in
    let same = returns-clause-rows g c in (
      subst (λ rows. AreIndexed rows c.in_ok-ranges.ranges) (sym same)
          (indexed_without c.args.self c.self.inside.ranges c.in_ok-ranges.ranges x (hunk_at c.args.change c.args.hunk) c.in-Some.op.now said
          (λ q. c.in_ok-ranges.ensures.ranges q ∙ ap (λ (r : RangeAt). not (is_eq (range_cmp q r)) && has_range c.self.inside.ranges q) c.range_of-range.ensures.same)
          (subst (IsRising hunk_cmp) same (rising_shown hunk_cmp arc_value c.in_ok-hunks.hunks c.in_ok-hunks.ensures.rising))),
      subst (λ rows. AreNamed rows c.in_ok-named.named) (sym same)
          (named_without c.args.self c.self.inside.named c.in_ok-named.named n (hunk_at c.args.change c.args.hunk) c.in-Some.op.now x.rising said
          (λ name j. c.in_ok-named.ensures.rows name j ∙ ap (λ names. not (is_one_of names name && is_eq (hunk_cmp j (hunk_at c.args.change c.args.hunk))) && is_named c.self.inside.named name j) c.items.ensures)),
    )

pub range_of-range-requires : goal.range_of-range-requires
range_of-range-requires g c =
    let x = subst (λ rows. AreIndexed rows c.self.inside.ranges) c.self.view_is c.self.invariant.0 in
    let said = subst (λ (rows : Rows). said_by (hunk_at c.args.change c.args.hunk) rows ≡ Some c.in-Some.op.now) c.self.view_is c.in-Some.ensures in
    x.some (hunk_at c.args.change c.args.hunk) c.in-Some.op.now said

pub returns-in_default-clause-rows : goal.returns-in_default-clause-rows
returns-in_default-clause-rows g c =
    let none = subst (λ (rows : Rows). said_by (hunk_at c.args.change c.args.hunk) rows ≡ None) c.self.view_is c.in_default.ensures in
    c.self.view_is ∙ sym (without_none hunk_cmp (hunk_at c.args.change c.args.hunk) c.args.self none)

pub returns-clause-said : goal.returns-clause-said
returns-clause-said g c = λ k.
    let x = subst (λ rows. AreIndexed rows c.self.inside.ranges) c.self.view_is c.self.invariant.0 in
    ap (said_by k) (returns-clause-rows g c) ∙ value_without hunk_cmp hunk_total k (hunk_at c.args.change c.args.hunk) c.args.self x.rising

pub returns-in_default-clause-said : goal.returns-in_default-clause-said
returns-in_default-clause-said g c = λ k.
    let none = subst (λ (rows : Rows). said_by (hunk_at c.args.change c.args.hunk) rows ≡ None) c.self.view_is c.in_default.ensures in
    ap (said_by k) c.self.view_is ∙ said_without_none c.args.self (hunk_at c.args.change c.args.hunk) k none

pub returns-in_err-named-clause-cost : goal.returns-in_err-named-clause-cost
returns-in_err-named-clause-cost g c =
    let said = subst (λ (rows : Rows). said_by (hunk_at c.args.change c.args.hunk) rows ≡ Some c.in-Some.op.now) c.self.view_is c.in-Some.ensures in
    let count : by_count (said_by (hunk_at c.args.change c.args.hunk) c.args.self) ≡ length c.in-Some.op.now.by = ap by_count said in
    let names = ap (length {A = Name}) c.items.ensures in
    omega (arith, c.in_ok-ranges.ensures.cost, c.in_err-named.ensures.cost, count, names)

pub returns-in_err-hunks-clause-cost : goal.returns-in_err-hunks-clause-cost
returns-in_err-hunks-clause-cost g c =
    let said = subst (λ (rows : Rows). said_by (hunk_at c.args.change c.args.hunk) rows ≡ Some c.in-Some.op.now) c.self.view_is c.in-Some.ensures in
    let count : by_count (said_by (hunk_at c.args.change c.args.hunk) c.args.self) ≡ length c.in-Some.op.now.by = ap by_count said in
    let names = ap (length {A = Name}) c.items.ensures in
    omega (arith, c.in_ok-ranges.ensures.cost, c.in_ok-named.ensures.cost, c.in_err-hunks.ensures.cost, count, names)

pub returns-clause-cost : goal.returns-clause-cost
returns-clause-cost g c =
    let said = subst (λ (rows : Rows). said_by (hunk_at c.args.change c.args.hunk) rows ≡ Some c.in-Some.op.now) c.self.view_is c.in-Some.ensures in
    let count : by_count (said_by (hunk_at c.args.change c.args.hunk) c.args.self) ≡ length c.in-Some.op.now.by = ap by_count said in
    let names = ap (length {A = Name}) c.items.ensures in
    omega (arith, c.in_ok-ranges.ensures.cost, c.in_ok-named.ensures.cost, c.in_ok-hunks.ensures.cost, count, names)
