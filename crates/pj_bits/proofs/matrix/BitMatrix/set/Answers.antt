use Rattle.std.proofs.Common.{◌≡◌, ◌+◌, ◌*◌, ◌/◌, ◌%◌, ◌<◌, length, get_or, sym, ◌∙◌, arith}
use Rattle.std.proofs.lemmas.List.{get_or_read}
use Rattle.pj_bits.specs.Matrix.{size as size_of}
use Rattle.pj_bits.proofs.Squares.{with_bit, set_bit_here, set_bit_others, length-rows_of, place_is_there}
use Rattle.pj_bits.proofs.matrix.BitMatrix.set.Goals as goal

in_row : (c : goal.After-self) → c.args.row < c.self.inside.size
in_row c = let s : size_of c.args.self.now ≡ c.self.inside.size = rw (← c.self.view_is) (length-rows_of c.self.inside.size c.self.inside.width c.self.inside.words.items) in omega (arith, s)

in_column : (c : goal.After-self) → c.args.column < c.self.inside.size
in_column c = let s : size_of c.args.self.now ≡ c.self.inside.size = rw (← c.self.view_is) (length-rows_of c.self.inside.size c.self.inside.width c.self.inside.words.items) in omega (arith, s)

there : (c : goal.After-self) → c.args.row * c.self.inside.width + c.args.column / 64 < length c.self.inside.words.items
there c = let p = place_is_there c.self.inside.size c.self.inside.width c.args.row c.args.column c.self.invariant.1 (in_row c) (in_column c) in omega (arith, p, c.self.invariant.0)

pub overflow_mul-at : goal.overflow_mul-at
overflow_mul-at c = let p = there c in omega (arith, p)

pub overflow_add-at : goal.overflow_add-at
overflow_add-at c = let p = there c in omega (arith, p)

pub index_mut-requires : goal.index_mut-requires
index_mut-requires c =
    let in_row : c.args.row < c.self.inside.size = let s : size_of c.args.self.now ≡ c.self.inside.size = rw (← c.self.view_is) (length-rows_of c.self.inside.size c.self.inside.width c.self.inside.words.items) in omega (arith, s) in
    let in_column : c.args.column < c.self.inside.size = let s : size_of c.args.self.now ≡ c.self.inside.size = rw (← c.self.view_is) (length-rows_of c.self.inside.size c.self.inside.width c.self.inside.words.items) in omega (arith, s) in
    let there : c.args.row * c.self.inside.width + c.args.column / 64 < length c.self.inside.words.items = let p = place_is_there c.self.inside.size c.self.inside.width c.args.row c.args.column c.self.invariant.1 in_row in_column in omega (arith, p, c.self.invariant.0) in
    omega (arith, there, c.self.inside.words.ok.0)

pub returns-clause-size : goal.returns-clause-size
returns-clause-size c = rw (← c.self.view_is) (length-rows_of c.self.inside.size c.self.inside.width (with_bit c.self.inside.words.items (c.args.row * c.self.inside.width + c.args.column / 64) c.index_mut.result.now (c.args.column % 64)) ∙ sym (length-rows_of c.self.inside.size c.self.inside.width c.self.inside.words.items))

pub returns-clause-here : goal.returns-clause-here
returns-clause-here c =
    let in_row : c.args.row < c.self.inside.size = let s : size_of c.args.self.now ≡ c.self.inside.size = rw (← c.self.view_is) (length-rows_of c.self.inside.size c.self.inside.width c.self.inside.words.items) in omega (arith, s) in
    let in_column : c.args.column < c.self.inside.size = let s : size_of c.args.self.now ≡ c.self.inside.size = rw (← c.self.view_is) (length-rows_of c.self.inside.size c.self.inside.width c.self.inside.words.items) in omega (arith, s) in
    let there : c.args.row * c.self.inside.width + c.args.column / 64 < length c.self.inside.words.items = let p = place_is_there c.self.inside.size c.self.inside.width c.args.row c.args.column c.self.invariant.1 in_row in_column in omega (arith, p, c.self.invariant.0) in
    let read : c.index_mut.result.now ≡ get_or c.self.inside.words.items (c.args.row * c.self.inside.width + c.args.column / 64) 0 = get_or_read c.self.inside.words.items (c.args.row * c.self.inside.width + c.args.column / 64) c.index_mut.result.now there c.index_mut.ensures.value 0 in
    set_bit_here c.self.inside.size c.self.inside.width c.self.inside.words.items c.args.row c.args.column c.index_mut.result.now c.self.invariant.1 c.self.invariant.0 in_row in_column read

pub returns-clause-others : goal.returns-clause-others
returns-clause-others c =
    let in_row : c.args.row < c.self.inside.size = let s : size_of c.args.self.now ≡ c.self.inside.size = rw (← c.self.view_is) (length-rows_of c.self.inside.size c.self.inside.width c.self.inside.words.items) in omega (arith, s) in
    let in_column : c.args.column < c.self.inside.size = let s : size_of c.args.self.now ≡ c.self.inside.size = rw (← c.self.view_is) (length-rows_of c.self.inside.size c.self.inside.width c.self.inside.words.items) in omega (arith, s) in
    let there : c.args.row * c.self.inside.width + c.args.column / 64 < length c.self.inside.words.items = let p = place_is_there c.self.inside.size c.self.inside.width c.args.row c.args.column c.self.invariant.1 in_row in_column in omega (arith, p, c.self.invariant.0) in
    let read : c.index_mut.result.now ≡ get_or c.self.inside.words.items (c.args.row * c.self.inside.width + c.args.column / 64) 0 = get_or_read c.self.inside.words.items (c.args.row * c.self.inside.width + c.args.column / 64) c.index_mut.result.now there c.index_mut.ensures.value 0 in
    rw (← c.self.view_is) (set_bit_others c.self.inside.size c.self.inside.width c.self.inside.words.items c.args.row c.args.column c.index_mut.result.now c.self.invariant.1 c.self.invariant.0 in_row in_column read)
