use Rattle.std.proofs.Common.{sym, subst, arith}
use Rattle.pj_contest.specs.Contests.{AreRowsOf}
use Rattle.pj_contest.proofs.indexes.Indexes.with.Goals as goal

pub returns-clause-rows : goal.returns-clause-rows
returns-clause-rows g c = λ S is.
    let rows = subst (AreRowsOf S) (sym c.self.view_is) is in
    record {
      ups = c.in_ok-ups.ensures.rows S rows.ups;
      bases = c.in_ok-bases.ensures.rows S rows.bases;
      children = c.in_ok-children.ensures.rows S rows.children;
      ranges = c.in_ok-ranges.ensures.rows S rows.ranges;
    }

pub returns-in_err-ups-clause-cost : goal.returns-in_err-ups-clause-cost
returns-in_err-ups-clause-cost g c =
    let e0 = c.with_ups.ensures.cost in
    omega arith

pub returns-in_err-bases-clause-cost : goal.returns-in_err-bases-clause-cost
returns-in_err-bases-clause-cost g c =
    let e0 = c.with_ups.ensures.cost in
    let e1 = c.with_bases.ensures.cost in
    omega arith

pub returns-in_err-children-clause-cost : goal.returns-in_err-children-clause-cost
returns-in_err-children-clause-cost g c =
    let e0 = c.with_ups.ensures.cost in
    let e1 = c.with_bases.ensures.cost in
    let e2 = c.with_children.ensures.cost in
    omega arith

pub returns-in_err-ranges-clause-cost : goal.returns-in_err-ranges-clause-cost
returns-in_err-ranges-clause-cost g c =
    let e0 = c.with_ups.ensures.cost in
    let e1 = c.with_bases.ensures.cost in
    let e2 = c.with_children.ensures.cost in
    let e3 = c.with_deleted.ensures.cost in
    omega arith

pub returns-clause-cost : goal.returns-clause-cost
returns-clause-cost g c =
    let e0 = c.with_ups.ensures.cost in
    let e1 = c.with_bases.ensures.cost in
    let e2 = c.with_children.ensures.cost in
    let e3 = c.with_deleted.ensures.cost in
    omega arith
