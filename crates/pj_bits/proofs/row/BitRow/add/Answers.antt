use Rattle.std.proofs.Common.{◌≡◌, length, get_or, refl, sym, ◌∙◌, ap, nat_eq}
use Rattle.std.specs.Prelude.{◌&&◌}
use Rattle.std.specs.Int.{bit_at}
use Rattle.std.specs.Vec.{with_items}
use Rattle.std.proofs.lemmas.List.{with_items_is}
use Rattle.pj_bits.specs.Row.{differ, has}
use Rattle.pj_bits.specs.Words.{row_of}
use Rattle.pj_bits.proofs.Rows.{length-row_of, row_by, size_seen, same_lengths, bit_and_is, bit_xor_is}
use Rattle.pj_bits.proofs.row.BitRow.add.Goals as goal

pub add_words-requires : goal.add_words-requires
add_words-requires c =
    let size = size_seen c.self.inside.size c.self.inside.words.items c.args.self.now c.self.view_is in
    let other = size_seen c.carry.inside.size c.carry.inside.words.items c.args.carry.now c.carry.view_is in
    ap length c.as_mut_slice-2.ensures.value
    ∙ same_lengths c.self.inside.size c.carry.inside.size (length c.self.inside.words.items) (length c.carry.inside.words.items) c.self.invariant c.carry.invariant (sym other ∙ c.requires ∙ size)
    ∙ sym (ap length c.as_mut_slice.ensures.value)

pub returns-clause-size : goal.returns-clause-size
returns-clause-size c = rw (← c.self.view_is) (length-row_of c.self.inside.size (with_items c.self.inside.words c.add_words.new.sum).items ∙ sym (length-row_of c.self.inside.size c.self.inside.words.items))

pub returns-clause-carry_size : goal.returns-clause-carry_size
returns-clause-carry_size c = rw (← c.carry.view_is) (length-row_of c.carry.inside.size (with_items c.carry.inside.words c.add_words.new.carry).items ∙ sym (length-row_of c.carry.inside.size c.carry.inside.words.items))

pub returns-clause-sum : goal.returns-clause-sum
returns-clause-sum c = λ k.
    let size = size_seen c.self.inside.size c.self.inside.words.items c.args.self.now c.self.view_is in
    let carry_size : c.carry.inside.size ≡ c.self.inside.size = sym (size_seen c.carry.inside.size c.carry.inside.words.items c.args.carry.now c.carry.view_is) ∙ c.requires ∙ size in
    let after : (with_items c.self.inside.words c.add_words.new.sum).items ≡ c.add_words.new.sum = with_items_is c.self.inside.words c.add_words.new.sum (c.add_words.ensures.len ∙ ap length c.as_mut_slice.ensures.value ∙ sym c.self.inside.words.ok.0) in
    let self_bits : has c.args.self.now k ≡ has (row_of c.self.inside.size c.as_mut_slice.result.now) k = rw (← c.self.view_is, c.as_mut_slice.ensures.value) refl in
    let carry_bits : has c.args.carry.now k ≡ has (row_of c.self.inside.size c.as_mut_slice-2.result.now) k = rw (← c.carry.view_is, c.as_mut_slice-2.ensures.value, carry_size) refl in
    rw (after, self_bits, carry_bits)
    (row_by (λ a b d. differ a b) refl c.self.inside.size (length c.as_mut_slice.result.now) (ap length c.as_mut_slice.ensures.value ∙ c.self.invariant)
    c.as_mut_slice.result.now c.as_mut_slice-2.result.now c.as_mut_slice-2.result.now c.add_words.new.sum
    (λ i j h b. ap (λ w. nat_eq (bit_at w j) 1) (c.add_words.ensures.sum i h) ∙ bit_xor_is (get_or c.as_mut_slice.result.now i 0) (get_or c.as_mut_slice-2.result.now i 0) j) k)

pub returns-clause-carried : goal.returns-clause-carried
returns-clause-carried c = λ k.
    let size = size_seen c.self.inside.size c.self.inside.words.items c.args.self.now c.self.view_is in
    let carry_size : c.carry.inside.size ≡ c.self.inside.size = sym (size_seen c.carry.inside.size c.carry.inside.words.items c.args.carry.now c.carry.view_is) ∙ c.requires ∙ size in
    let after : (with_items c.carry.inside.words c.add_words.new.carry).items ≡ c.add_words.new.carry = with_items_is c.carry.inside.words c.add_words.new.carry (c.add_words.ensures.carry_len ∙ ap length c.as_mut_slice-2.ensures.value ∙ sym c.carry.inside.words.ok.0) in
    let self_bits : has c.args.self.now k ≡ has (row_of c.self.inside.size c.as_mut_slice.result.now) k = rw (← c.self.view_is, c.as_mut_slice.ensures.value) refl in
    let carry_bits : has c.args.carry.now k ≡ has (row_of c.self.inside.size c.as_mut_slice-2.result.now) k = rw (← c.carry.view_is, c.as_mut_slice-2.ensures.value, carry_size) refl in
    rw (after, carry_size, self_bits, carry_bits)
    (row_by (λ a b d. a && b) refl c.self.inside.size (length c.as_mut_slice.result.now) (ap length c.as_mut_slice.ensures.value ∙ c.self.invariant)
    c.as_mut_slice.result.now c.as_mut_slice-2.result.now c.as_mut_slice-2.result.now c.add_words.new.carry
    (λ i j h b. ap (λ w. nat_eq (bit_at w j) 1) (c.add_words.ensures.carried i h) ∙ bit_and_is (get_or c.as_mut_slice.result.now i 0) (get_or c.as_mut_slice-2.result.now i 0) j) k)
