use Rattle.std.proofs.Common.{◌≡◌, ◌/◌, ◌%◌, ◌<◌, length, get_or, ◌∙◌, ap, arith, nat_eq}
use Rattle.std.specs.Int.{bit_at}
use Rattle.std.proofs.lemmas.List.{get_or_read}
use Rattle.std.proofs.lemmas.Nat.Bits.{shr_and_one}
use Rattle.pj_bits.specs.Words.{column_bit}
use Rattle.pj_bits.proofs.Rows.{has-row_of, size_seen, word_there}
use Rattle.pj_bits.proofs.row.BitRow.get.Goals as goal

inside : (c : goal.After-self) → c.args.column < c.self.inside.size
inside c = omega (arith, size_seen c.self.inside.size c.self.inside.words.items c.args.self.now c.self.view_is)

pub index-requires : goal.index-requires
index-requires c = (let h = word_there c.self.inside.size (length c.self.inside.words.items) c.args.column c.self.invariant (inside c) in omega (arith, h, c.self.inside.words.ok.0))

pub returns : goal.returns
unfolding column_bit
returns c =
    let in_row : c.args.column < c.self.inside.size = omega (arith, size_seen c.self.inside.size c.self.inside.words.items c.args.self.now c.self.view_is) in
    let there = word_there c.self.inside.size (length c.self.inside.words.items) c.args.column c.self.invariant in_row in
    let read : c.index.result.now ≡ get_or c.self.inside.words.items (c.args.column / 64) 0 = get_or_read c.self.inside.words.items (c.args.column / 64) c.index.result.now there c.index.ensures 0 in
    rw (← c.self.view_is, has-row_of c.self.inside.size c.self.inside.words.items c.args.column in_row)
    (ap (λ x. nat_eq x 1) (shr_and_one c.index.result.now (c.args.column % 64) ∙ ap (λ x. bit_at x (c.args.column % 64)) read))
