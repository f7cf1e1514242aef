use Rattle.std.proofs.Common.{◌≡◌, ◌+◌, ◌*◌, ◌/◌, ◌%◌, ◌<◌, length, get_or, ◌∙◌, ap, arith, nat_eq}
use Rattle.std.specs.Int.{bit_at}
use Rattle.std.proofs.lemmas.List.{get_or_read}
use Rattle.std.proofs.lemmas.Nat.Bits.{shr_and_one}
use Rattle.pj_bits.specs.Words.{word_bit}
use Rattle.pj_bits.specs.Matrix.{size as size_of}
use Rattle.pj_bits.proofs.Squares.{bit-rows_of, length-rows_of, place_is_there}
use Rattle.pj_bits.proofs.matrix.BitMatrix.get.Goals as goal

in_row : (c : goal.After-self) → c.args.row < c.self.inside.size
in_row c = let s : size_of c.args.self.now ≡ c.self.inside.size = rw (← c.self.view_is) (length-rows_of c.self.inside.size c.self.inside.width c.self.inside.words.items) in omega (arith, s)

in_column : (c : goal.After-self) → c.args.column < c.self.inside.size
in_column c = let s : size_of c.args.self.now ≡ c.self.inside.size = rw (← c.self.view_is) (length-rows_of c.self.inside.size c.self.inside.width c.self.inside.words.items) in omega (arith, s)

there : (c : goal.After-self) → c.args.row * c.self.inside.width + c.args.column / 64 < length c.self.inside.words.items
there c = let p = place_is_there c.self.inside.size c.self.inside.width c.args.row c.args.column c.self.invariant.1 (in_row c) (in_column c) in omega (arith, p, c.self.invariant.0)

pub overflow_mul-at : goal.overflow_mul-at
overflow_mul-at c = let p = there c in omega (arith, p)

pub overflow_add-at : goal.overflow_add-at
overflow_add-at c = let p = there c in omega (arith, p)

pub index-requires : goal.index-requires
index-requires c = let p = there c in omega (arith, p, c.self.inside.words.ok.0)

pub returns : goal.returns
unfolding word_bit
returns c =
    let in_row : c.args.row < c.self.inside.size = let s : size_of c.args.self.now ≡ c.self.inside.size = rw (← c.self.view_is) (length-rows_of c.self.inside.size c.self.inside.width c.self.inside.words.items) in omega (arith, s) in
    let in_column : c.args.column < c.self.inside.size = let s : size_of c.args.self.now ≡ c.self.inside.size = rw (← c.self.view_is) (length-rows_of c.self.inside.size c.self.inside.width c.self.inside.words.items) in omega (arith, s) in
    let there : c.args.row * c.self.inside.width + c.args.column / 64 < length c.self.inside.words.items = let p = place_is_there c.self.inside.size c.self.inside.width c.args.row c.args.column c.self.invariant.1 in_row in_column in omega (arith, p, c.self.invariant.0) in
    let read : c.index.result.now ≡ get_or c.self.inside.words.items (c.args.row * c.self.inside.width + c.args.column / 64) 0 = get_or_read c.self.inside.words.items (c.args.row * c.self.inside.width + c.args.column / 64) c.index.result.now there c.index.ensures 0 in
    rw (← c.self.view_is, bit-rows_of c.self.inside.size c.self.inside.width c.self.inside.words.items c.args.row c.args.column in_row in_column)
    (ap (λ x. nat_eq x 1) (shr_and_one c.index.result.now (c.args.column % 64) ∙ ap (λ x. bit_at x (c.args.column % 64)) read))
