use Rattle.std.proofs.Common.{◌≡◌, length, get_or, refl, sym, ◌∙◌, ap, nat_eq}
use Rattle.std.specs.Prelude.{◌||◌, ◌&&◌, not}
use Rattle.std.specs.Int.{bit_at, bit_not, w64}
use Rattle.std.specs.Vec.{with_items}
use Rattle.std.proofs.lemmas.List.{with_items_is}
use Rattle.pj_bits.specs.Row.{differ, has}
use Rattle.pj_bits.specs.Words.{row_of}
use Rattle.pj_bits.proofs.Rows.{length-row_of, row_by, size_seen, same_lengths, bit_and_is, bit_not_is, bit_or_is, bit_xor_is}
use Rattle.pj_bits.proofs.row.BitRow.subtract.Goals as goal

pub subtract_words-requires-clause-borrow_len : goal.subtract_words-requires-clause-borrow_len
subtract_words-requires-clause-borrow_len c =
    let size = size_seen c.self.inside.size c.self.inside.words.items c.args.self.now c.self.view_is in
    let other = size_seen c.borrow.inside.size c.borrow.inside.words.items c.args.borrow.now c.borrow.view_is in
    ap length c.as_mut_slice-2.ensures.value
    ∙ same_lengths c.self.inside.size c.borrow.inside.size (length c.self.inside.words.items) (length c.borrow.inside.words.items) c.self.invariant c.borrow.invariant (sym other ∙ c.requires.borrow_size ∙ size)
    ∙ sym (ap length c.as_mut_slice.ensures.value)

pub subtract_words-requires-clause-seen_len : goal.subtract_words-requires-clause-seen_len
subtract_words-requires-clause-seen_len c =
    let size = size_seen c.self.inside.size c.self.inside.words.items c.args.self.now c.self.view_is in
    let other = size_seen c.seen.inside.size c.seen.inside.words.items c.args.seen.now c.seen.view_is in
    ap length c.as_mut_slice-3.ensures.value
    ∙ same_lengths c.self.inside.size c.seen.inside.size (length c.self.inside.words.items) (length c.seen.inside.words.items) c.self.invariant c.seen.invariant (sym other ∙ c.requires.seen_size ∙ size)
    ∙ sym (ap length c.as_mut_slice.ensures.value)

pub returns-clause-size : goal.returns-clause-size
returns-clause-size c = rw (← c.self.view_is) (length-row_of c.self.inside.size (with_items c.self.inside.words c.subtract_words.new.rest).items ∙ sym (length-row_of c.self.inside.size c.self.inside.words.items))

pub returns-clause-borrow_size : goal.returns-clause-borrow_size
returns-clause-borrow_size c = rw (← c.borrow.view_is) (length-row_of c.borrow.inside.size (with_items c.borrow.inside.words c.subtract_words.new.borrow).items ∙ sym (length-row_of c.borrow.inside.size c.borrow.inside.words.items))

pub returns-clause-seen_size : goal.returns-clause-seen_size
returns-clause-seen_size c = rw (← c.seen.view_is) (length-row_of c.seen.inside.size (with_items c.seen.inside.words c.subtract_words.new.seen).items ∙ sym (length-row_of c.seen.inside.size c.seen.inside.words.items))

pub returns-clause-difference : goal.returns-clause-difference
returns-clause-difference c = λ k.
    let size = size_seen c.self.inside.size c.self.inside.words.items c.args.self.now c.self.view_is in
    let borrow_size : c.borrow.inside.size ≡ c.self.inside.size = sym (size_seen c.borrow.inside.size c.borrow.inside.words.items c.args.borrow.now c.borrow.view_is) ∙ c.requires.borrow_size ∙ size in
    let after : (with_items c.self.inside.words c.subtract_words.new.rest).items ≡ c.subtract_words.new.rest = with_items_is c.self.inside.words c.subtract_words.new.rest (c.subtract_words.ensures.len ∙ ap length c.as_mut_slice.ensures.value ∙ sym c.self.inside.words.ok.0) in
    let self_bits : has c.args.self.now k ≡ has (row_of c.self.inside.size c.as_mut_slice.result.now) k = rw (← c.self.view_is, c.as_mut_slice.ensures.value) refl in
    let borrow_bits : has c.args.borrow.now k ≡ has (row_of c.self.inside.size c.as_mut_slice-2.result.now) k = rw (← c.borrow.view_is, c.as_mut_slice-2.ensures.value, borrow_size) refl in
    rw (after, self_bits, borrow_bits)
    (row_by (λ a b d. differ a b) refl c.self.inside.size (length c.as_mut_slice.result.now) (ap length c.as_mut_slice.ensures.value ∙ c.self.invariant)
    c.as_mut_slice.result.now c.as_mut_slice-2.result.now c.as_mut_slice-2.result.now c.subtract_words.new.rest
    (λ i j h b. ap (λ w. nat_eq (bit_at w j) 1) (c.subtract_words.ensures.left i h) ∙ bit_xor_is (get_or c.as_mut_slice.result.now i 0) (get_or c.as_mut_slice-2.result.now i 0) j) k)

pub returns-clause-borrowed : goal.returns-clause-borrowed
returns-clause-borrowed c = λ k.
    let size = size_seen c.self.inside.size c.self.inside.words.items c.args.self.now c.self.view_is in
    let borrow_size : c.borrow.inside.size ≡ c.self.inside.size = sym (size_seen c.borrow.inside.size c.borrow.inside.words.items c.args.borrow.now c.borrow.view_is) ∙ c.requires.borrow_size ∙ size in
    let after : (with_items c.borrow.inside.words c.subtract_words.new.borrow).items ≡ c.subtract_words.new.borrow = with_items_is c.borrow.inside.words c.subtract_words.new.borrow (c.subtract_words.ensures.borrow_len ∙ ap length c.as_mut_slice-2.ensures.value ∙ sym c.borrow.inside.words.ok.0) in
    let self_bits : has c.args.self.now k ≡ has (row_of c.self.inside.size c.as_mut_slice.result.now) k = rw (← c.self.view_is, c.as_mut_slice.ensures.value) refl in
    let borrow_bits : has c.args.borrow.now k ≡ has (row_of c.self.inside.size c.as_mut_slice-2.result.now) k = rw (← c.borrow.view_is, c.as_mut_slice-2.ensures.value, borrow_size) refl in
    rw (after, borrow_size, self_bits, borrow_bits)
    (row_by (λ a b d. not a && b) refl c.self.inside.size (length c.as_mut_slice.result.now) (ap length c.as_mut_slice.ensures.value ∙ c.self.invariant)
    c.as_mut_slice.result.now c.as_mut_slice-2.result.now c.as_mut_slice-2.result.now c.subtract_words.new.borrow
    (λ i j h b. ap (λ w. nat_eq (bit_at w j) 1) (c.subtract_words.ensures.borrowed i h) ∙ bit_and_is (bit_not w64 (get_or c.as_mut_slice.result.now i 0)) (get_or c.as_mut_slice-2.result.now i 0) j ∙ ap (λ x. x && nat_eq (bit_at (get_or c.as_mut_slice-2.result.now i 0) j) 1) (bit_not_is (get_or c.as_mut_slice.result.now i 0) j (c.subtract_words.ensures.fit i) b)) k)

pub returns-clause-seen : goal.returns-clause-seen
returns-clause-seen c = λ k.
    let size = size_seen c.self.inside.size c.self.inside.words.items c.args.self.now c.self.view_is in
    let seen_size : c.seen.inside.size ≡ c.self.inside.size = sym (size_seen c.seen.inside.size c.seen.inside.words.items c.args.seen.now c.seen.view_is) ∙ c.requires.seen_size ∙ size in
    let after : (with_items c.seen.inside.words c.subtract_words.new.seen).items ≡ c.subtract_words.new.seen = with_items_is c.seen.inside.words c.subtract_words.new.seen (c.subtract_words.ensures.seen_len ∙ ap length c.as_mut_slice-3.ensures.value ∙ sym c.seen.inside.words.ok.0) in
    let left : (with_items c.self.inside.words c.subtract_words.new.rest).items ≡ c.subtract_words.new.rest = with_items_is c.self.inside.words c.subtract_words.new.rest (c.subtract_words.ensures.len ∙ ap length c.as_mut_slice.ensures.value ∙ sym c.self.inside.words.ok.0) in
    let seen_bits : has c.args.seen.now k ≡ has (row_of c.self.inside.size c.as_mut_slice-3.result.now) k = rw (← c.seen.view_is, c.as_mut_slice-3.ensures.value, seen_size) refl in
    rw (after, left, seen_size, seen_bits)
    (row_by (λ a b d. a || b) refl c.self.inside.size (length c.as_mut_slice.result.now) (ap length c.as_mut_slice.ensures.value ∙ c.self.invariant)
    c.as_mut_slice-3.result.now c.subtract_words.new.rest c.subtract_words.new.rest c.subtract_words.new.seen
    (λ i j h b. ap (λ w. nat_eq (bit_at w j) 1) (c.subtract_words.ensures.seen i h) ∙ bit_or_is (get_or c.as_mut_slice-3.result.now i 0) (get_or c.subtract_words.new.rest i 0) j) k)
