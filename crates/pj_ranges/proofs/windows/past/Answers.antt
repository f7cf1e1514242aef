use Rattle.std.proofs.Common.{◌+◌, ◌-◌, ◌*◌, refl, inl, arith}
use Rattle.pj_ranges.specs.declared.range.RangeAt.{RangeAt}
use Rattle.pj_ranges.proofs.RangeOrder.{less_by_unit, less_by_start, upto_by_end}
use Rattle.pj_ranges.proofs.windows.past.Goals as goal

pub returns-then-at-range-clause-keeps : goal.returns-then-at-range-clause-keeps
returns-then-at-range-clause-keeps c =
    let bound : RangeAt = record { owner = c.args.range.owner; unit = c.args.range.unit + 1; start = 0; end = 0; by = c.args.range.by } in
    inl (less_by_unit c.args.range bound refl (omega arith))

pub returns-then-from-reach-clause-keeps : goal.returns-then-from-reach-clause-keeps
returns-then-from-reach-clause-keeps c =
    let bound : RangeAt = record { owner = c.args.range.owner; unit = c.args.range.unit; start = c.from-limit.result + 2 - 2 * c.from-reach.result; end = 0; by = c.args.range.by } in
    inl (less_by_start c.args.range bound refl refl (let h = c.if-from-reach.true in let f = c.from.ensures in omega arith))

pub returns-then-range-at-clause-keeps : goal.returns-then-range-at-clause-keeps
returns-then-range-at-clause-keeps c =
    let bound : RangeAt = record { owner = c.args.range.owner; unit = c.args.range.unit; start = c.args.range.start; end = c.args.at.offset; by = c.last_hunk.result } in
    upto_by_end c.args.range bound refl refl refl c.if-range-at.true (c.last_hunk.ensures c.args.range.by (let fits = c.well_formed in omega arith))
