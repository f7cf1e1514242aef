use Rattle.std.proofs.Common.{refl, inl}
use Rattle.pj_ranges.specs.declared.range.RangeAt.{RangeAt}
use Rattle.pj_ranges.proofs.RangeOrder.{less_by_start}
use Rattle.pj_contest.proofs.Walks.{above_bound_at}
use Rattle.pj_contest.proofs.starts.bound.Goals as goal

pub returns-then-range-from-clause-keeps : goal.returns-then-range-from-clause-keeps
returns-then-range-from-clause-keeps c =
    let bound : RangeAt = record { owner = c.args.range.owner; unit = c.args.range.unit; start = c.args.from; end = 0; by = c.args.range.by } in
    inl (less_by_start c.args.range bound refl refl c.if-range-from.true)

pub returns-then-range-from-clause-skips : goal.returns-then-range-from-clause-skips
returns-then-range-from-clause-skips c = λ q owner low some above.
    let bound : RangeAt = record { owner = c.args.range.owner; unit = c.args.range.unit; start = c.args.from; end = 0; by = c.args.range.by } in
    above_bound_at c.args.range bound q c.args.from refl refl refl refl owner low some above
