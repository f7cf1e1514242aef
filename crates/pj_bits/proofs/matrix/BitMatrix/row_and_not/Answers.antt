use Rattle.std.proofs.Common.{◌≡◌, ℕ, ◌+◌, ◌*◌, ◌<◌, ◌≤◌, length, sym, ◌∙◌, ap, arith}
use Rattle.std.specs.Vec.{with_items}
use Rattle.std.proofs.lemmas.List.{with_items_is}
use Rattle.pj_bits.specs.Matrix.{size as size_of}
use Rattle.pj_bits.proofs.Squares.{length-rows_of, row_is_there, and_not_row_bit, other_row_bit}
use Rattle.pj_bits.proofs.matrix.BitMatrix.row_and_not.Goals as goal

there : (c : goal.After-as_mut_slice) (row : ℕ) → row < size_of c.args.self.now → row * c.self.inside.width + c.self.inside.width ≤ length c.as_mut_slice.result.now
there c row h =
    let s : size_of c.args.self.now ≡ c.self.inside.size = rw (← c.self.view_is) (length-rows_of c.self.inside.size c.self.inside.width c.self.inside.words.items) in
    let p = row_is_there c.self.inside.size c.self.inside.width row (length c.self.inside.words.items) (omega (arith, s, h)) c.self.invariant.0 in
    omega (arith, p, ap length c.as_mut_slice.ensures.value)

pub overflow_mul-into : goal.overflow_mul-into
overflow_mul-into c = let p = there c c.args.into c.requires.into_is_there in omega (arith, p)

pub overflow_mul-from : goal.overflow_mul-from
overflow_mul-from c = let p = there c c.args.from c.requires.from_is_there in omega (arith, p)

pub and_not_words-requires-clause-into_fits : goal.and_not_words-requires-clause-into_fits
and_not_words-requires-clause-into_fits c = there c c.args.into c.requires.into_is_there

pub and_not_words-requires-clause-from_fits : goal.and_not_words-requires-clause-from_fits
and_not_words-requires-clause-from_fits c = there c c.args.from c.requires.from_is_there

-- the words at the return are those that the call left
after_is : (c : goal.After-self-1) → (with_items c.self.inside.words c.and_not_words.new.words).items ≡ c.and_not_words.new.words
after_is c = with_items_is c.self.inside.words c.and_not_words.new.words (c.and_not_words.ensures.len ∙ ap length c.as_mut_slice.ensures.value ∙ sym c.self.inside.words.ok.0)

is_row : (c : goal.After-self-1) (row : ℕ) → row < size_of c.args.self.now → row < c.self.inside.size
is_row c row h = let s : size_of c.args.self.now ≡ c.self.inside.size = rw (← c.self.view_is) (length-rows_of c.self.inside.size c.self.inside.width c.self.inside.words.items) in omega (arith, s)

pub returns-clause-size : goal.returns-clause-size
returns-clause-size c = rw (← c.self.view_is) (length-rows_of c.self.inside.size c.self.inside.width (with_items c.self.inside.words c.and_not_words.new.words).items ∙ sym (length-rows_of c.self.inside.size c.self.inside.width c.self.inside.words.items))

pub returns-clause-taken : goal.returns-clause-taken
returns-clause-taken c =
    rw (← c.self.view_is, after_is c, ← c.as_mut_slice.ensures.value)
    (and_not_row_bit c.self.inside.size c.self.inside.width c.as_mut_slice.result.now c.and_not_words.new.words c.args.into c.self.invariant.1 c.args.from (is_row c c.args.into c.requires.into_is_there) (is_row c c.args.from c.requires.from_is_there) c.and_not_words.ensures.fit c.and_not_words.ensures.taken)

pub returns-clause-others : goal.returns-clause-others
returns-clause-others c =
    rw (← c.self.view_is, after_is c, ← c.as_mut_slice.ensures.value)
    (other_row_bit c.self.inside.size c.self.inside.width c.as_mut_slice.result.now c.and_not_words.new.words c.args.into c.self.invariant.1 c.and_not_words.ensures.below c.and_not_words.ensures.above)
