use Rattle.std.proofs.Common.{◌≡◌, ◌+◌, ◌-◌, ◌*◌, ◌≤◌, length, ap, arith, length-take, length-drop}
use Rattle.std.specs.Int.{div_ceil}
use Rattle.pj_bits.proofs.Rows.{square_seen, cut_row}
use Rattle.pj_bits.proofs.Squares.{row_is_there}
use Rattle.pj_bits.proofs.matrix.BitMatrix.row.Goals as goal
use Rattle.pj_bits.proofs.matrix.BitMatrix.row.Goals.{After-self, After-div_ceil}

pub overflow_mul-at : goal.overflow_mul-at
overflow_mul-at c =
    let size = square_seen c.self.inside.size c.self.inside.width c.self.inside.words.items c.args.self.now c.self.view_is in
    let there = row_is_there c.self.inside.size c.self.inside.width c.args.row (length c.self.inside.words.items) (omega (arith, size, c.requires)) c.self.invariant.0 in
    omega (arith, there, c.self.inside.words.ok.0)

-- the words of the row are among those that are lent
lent : (c : After-div_ceil) → c.args.row * c.self.inside.width + c.div_ceil.result ≤ length c.deref.result.now
lent c =
    let size = square_seen c.self.inside.size c.self.inside.width c.self.inside.words.items c.args.self.now c.self.view_is in
    let there = row_is_there c.self.inside.size c.self.inside.width c.args.row (length c.self.inside.words.items) (omega (arith, size, c.requires)) c.self.invariant.0 in
    omega (arith, there, c.self.invariant.1, ap length c.deref.ensures.value)

pub overflow_add-result : goal.overflow_add-result
overflow_add-result c = omega (arith, lent c)

pub offset_bounds-deref-at : goal.offset_bounds-deref-at
offset_bounds-deref-at c = omega (arith, lent c)

pub slice_bounds-result-end : goal.slice_bounds-result-end
slice_bounds-result-end c = omega (arith, lent c)

pub returns-clause-len : goal.returns-clause-len
returns-clause-len c =
    let there = lent (goal.at.returns-clause-len c).After-div_ceil in
    let size = square_seen c.self.inside.size c.self.inside.width c.self.inside.words.items c.args.self.now c.self.view_is in
    simp (length-take, length-drop) (omega (arith, there, size))

pub returns-clause-bits : goal.returns-clause-bits
returns-clause-bits c =
    let size = square_seen c.self.inside.size c.self.inside.width c.self.inside.words.items c.args.self.now c.self.view_is in
    let long : c.args.row * c.self.inside.width + c.div_ceil.result - c.args.row * c.self.inside.width ≡ div_ceil c.self.inside.size 64 = omega (arith, c.div_ceil.ensures) in
    rw (size, long, c.deref.ensures.value, ← c.self.view_is) (cut_row c.self.inside.size c.self.inside.width c.self.inside.words.items c.args.row c.self.invariant.1 (omega (arith, size, c.requires)))
