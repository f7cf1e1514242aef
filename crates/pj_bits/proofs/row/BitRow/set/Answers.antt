use Rattle.std.proofs.Common.{◌≡◌, ◌*◌, ◌/◌, ◌%◌, ◌^◌, ◌<◌, length, get_or, sym, ◌∙◌, ap, arith, nat_eq, set, bit_or}
use Rattle.std.specs.Int.{w64}
use Rattle.std.proofs.lemmas.List.{get_or_read}
use Rattle.std.proofs.lemmas.Nat.{mod_below}
use Rattle.std.proofs.lemmas.Nat.Bits.{bit_at_set_same, bit_at_set_other}
use Rattle.pj_bits.proofs.Rows.{length-row_of, new_bit, other_bits, size_seen, word_there}
use Rattle.pj_bits.proofs.row.BitRow.set.Goals as goal
use Rattle.pj_bits.proofs.row.BitRow.set.Goals.{After-self}

inside : (c : After-self) → c.args.column < c.self.inside.size
inside c = omega (arith, size_seen c.self.inside.size c.self.inside.words.items c.args.self.now c.self.view_is)

there : (c : After-self) → c.args.column / 64 < length c.self.inside.words.items
there c = word_there c.self.inside.size (length c.self.inside.words.items) c.args.column c.self.invariant (inside c)

pub index_mut-requires : goal.index_mut-requires
index_mut-requires c = (let h = there (goal.at.index_mut-requires c).After-self in omega (arith, h, c.self.inside.words.ok.0))

pub returns-clause-size : goal.returns-clause-size
returns-clause-size c = rw (← c.self.view_is) (length-row_of c.self.inside.size (set c.self.inside.words.items (c.args.column / 64) (bit_or c.index_mut.result.now (1 * 2 ^ (c.args.column % 64) % 2 ^ 64))) ∙ sym (length-row_of c.self.inside.size c.self.inside.words.items))

pub returns-clause-here : goal.returns-clause-here
returns-clause-here c =
    let at = (goal.at.returns-clause-here c).After-self in
    new_bit c.self.inside.size c.self.inside.words.items c.args.column c.self.invariant (inside at) (bit_or c.index_mut.result.now (1 * 2 ^ (c.args.column % 64) % 2 ^ 64))
    ∙ ap (λ x. nat_eq x 1) (bit_at_set_same w64 c.index_mut.result.now (c.args.column % 64) (mod_below c.args.column 64 (omega arith)))

pub returns-clause-others : goal.returns-clause-others
returns-clause-others c =
    let at = (goal.at.returns-clause-others c).After-self in
    let was : c.index_mut.result.now ≡ get_or c.self.inside.words.items (c.args.column / 64) 0 = get_or_read c.self.inside.words.items (c.args.column / 64) c.index_mut.result.now (there at) c.index_mut.ensures.value 0 in
    rw (← c.self.view_is) (other_bits c.self.inside.size c.self.inside.words.items c.args.column c.self.invariant (inside at) c.index_mut.result.now (bit_or c.index_mut.result.now (1 * 2 ^ (c.args.column % 64) % 2 ^ 64)) was (λ k h n. bit_at_set_other w64 c.index_mut.result.now (c.args.column % 64) (mod_below c.args.column 64 (omega arith)) k n))
