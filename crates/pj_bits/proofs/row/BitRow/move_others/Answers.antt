use Rattle.std.proofs.Common.{◌≡◌, length, get_or, refl, sym, ◌∙◌, ap, nat_eq, bit_and}
use Rattle.std.specs.Prelude.{◌||◌, ◌&&◌, not}
use Rattle.std.specs.Int.{bit_at, bit_not, w64}
use Rattle.std.specs.Vec.{with_items}
use Rattle.std.proofs.lemmas.List.{with_items_is}
use Rattle.pj_bits.specs.Row.{has}
use Rattle.pj_bits.specs.Words.{row_of}
use Rattle.pj_bits.proofs.Rows.{length-row_of, row_by, size_seen, same_lengths, bit_or_is, bit_and_is, bit_not_is}
use Rattle.pj_bits.proofs.row.BitRow.move_others.Goals as goal

pub move_others-requires-clause-to_len : goal.move_others-requires-clause-to_len
move_others-requires-clause-to_len c =
    let size = size_seen c.self.inside.size c.self.inside.words.items c.args.self.now c.self.view_is in
    let other = size_seen c.to.inside.size c.to.inside.words.items c.args.to.now c.to.view_is in
    ap length c.as_mut_slice-2.ensures.value
    ∙ same_lengths c.self.inside.size c.to.inside.size (length c.self.inside.words.items) (length c.to.inside.words.items) c.self.invariant c.to.invariant (sym other ∙ c.requires.to_size ∙ size)
    ∙ sym (ap length c.as_mut_slice.ensures.value)

pub move_others-requires-clause-chosen_len : goal.move_others-requires-clause-chosen_len
move_others-requires-clause-chosen_len c =
    let size = size_seen c.self.inside.size c.self.inside.words.items c.args.self.now c.self.view_is in
    let other = size_seen c.chosen.inside.size c.chosen.inside.words.items c.args.chosen.now c.chosen.view_is in
    ap length c.as_slice.ensures.value
    ∙ same_lengths c.self.inside.size c.chosen.inside.size (length c.self.inside.words.items) (length c.chosen.inside.words.items) c.self.invariant c.chosen.invariant (sym other ∙ c.requires.chosen_size ∙ size)
    ∙ sym (ap length c.as_mut_slice.ensures.value)

pub returns-clause-size : goal.returns-clause-size
returns-clause-size c = rw (← c.self.view_is) (length-row_of c.self.inside.size (with_items c.self.inside.words c.move_others.new.rest).items ∙ sym (length-row_of c.self.inside.size c.self.inside.words.items))

pub returns-clause-to_size : goal.returns-clause-to_size
returns-clause-to_size c = rw (← c.to.view_is) (length-row_of c.to.inside.size (with_items c.to.inside.words c.move_others.new.to).items ∙ sym (length-row_of c.to.inside.size c.to.inside.words.items))

pub returns-clause-kept : goal.returns-clause-kept
returns-clause-kept c = λ k.
    let size = size_seen c.self.inside.size c.self.inside.words.items c.args.self.now c.self.view_is in
    let chosen_size : c.chosen.inside.size ≡ c.self.inside.size = sym (size_seen c.chosen.inside.size c.chosen.inside.words.items c.args.chosen.now c.chosen.view_is) ∙ c.requires.chosen_size ∙ size in
    let after : (with_items c.self.inside.words c.move_others.new.rest).items ≡ c.move_others.new.rest = with_items_is c.self.inside.words c.move_others.new.rest (c.move_others.ensures.len ∙ ap length c.as_mut_slice.ensures.value ∙ sym c.self.inside.words.ok.0) in
    let self_bits : has c.args.self.now k ≡ has (row_of c.self.inside.size c.as_mut_slice.result.now) k = rw (← c.self.view_is, c.as_mut_slice.ensures.value) refl in
    let chosen_bits : has c.args.chosen.now k ≡ has (row_of c.self.inside.size c.as_slice.result.now) k = rw (← c.chosen.view_is, c.as_slice.ensures.value, chosen_size) refl in
    rw (after, self_bits, chosen_bits)
    (row_by (λ a b d. a && b) refl c.self.inside.size (length c.as_mut_slice.result.now) (ap length c.as_mut_slice.ensures.value ∙ c.self.invariant)
    c.as_mut_slice.result.now c.as_slice.result.now c.as_slice.result.now c.move_others.new.rest
    (λ i j h b. ap (λ w. nat_eq (bit_at w j) 1) (c.move_others.ensures.kept i h) ∙ bit_and_is (get_or c.as_mut_slice.result.now i 0) (get_or c.as_slice.result.now i 0) j) k)

pub returns-clause-moved : goal.returns-clause-moved
returns-clause-moved c = λ k.
    let size = size_seen c.self.inside.size c.self.inside.words.items c.args.self.now c.self.view_is in
    let to_size : c.to.inside.size ≡ c.self.inside.size = sym (size_seen c.to.inside.size c.to.inside.words.items c.args.to.now c.to.view_is) ∙ c.requires.to_size ∙ size in
    let chosen_size : c.chosen.inside.size ≡ c.self.inside.size = sym (size_seen c.chosen.inside.size c.chosen.inside.words.items c.args.chosen.now c.chosen.view_is) ∙ c.requires.chosen_size ∙ size in
    let after : (with_items c.to.inside.words c.move_others.new.to).items ≡ c.move_others.new.to = with_items_is c.to.inside.words c.move_others.new.to (c.move_others.ensures.to_len ∙ ap length c.as_mut_slice-2.ensures.value ∙ sym c.to.inside.words.ok.0) in
    let self_bits : has c.args.self.now k ≡ has (row_of c.self.inside.size c.as_mut_slice.result.now) k = rw (← c.self.view_is, c.as_mut_slice.ensures.value) refl in
    let to_bits : has c.args.to.now k ≡ has (row_of c.self.inside.size c.as_mut_slice-2.result.now) k = rw (← c.to.view_is, c.as_mut_slice-2.ensures.value, to_size) refl in
    let chosen_bits : has c.args.chosen.now k ≡ has (row_of c.self.inside.size c.as_slice.result.now) k = rw (← c.chosen.view_is, c.as_slice.ensures.value, chosen_size) refl in
    rw (after, to_size, self_bits, to_bits, chosen_bits)
    (row_by (λ a b d. a || (b && not d)) refl c.self.inside.size (length c.as_mut_slice.result.now) (ap length c.as_mut_slice.ensures.value ∙ c.self.invariant)
    c.as_mut_slice-2.result.now c.as_mut_slice.result.now c.as_slice.result.now c.move_others.new.to
    (λ i j h b. ap (λ w. nat_eq (bit_at w j) 1) (c.move_others.ensures.moved i h) ∙ bit_or_is (get_or c.as_mut_slice-2.result.now i 0) (bit_and (get_or c.as_mut_slice.result.now i 0) (bit_not w64 (get_or c.as_slice.result.now i 0))) j ∙ ap (λ x. nat_eq (bit_at (get_or c.as_mut_slice-2.result.now i 0) j) 1 || x) (bit_and_is (get_or c.as_mut_slice.result.now i 0) (bit_not w64 (get_or c.as_slice.result.now i 0)) j ∙ ap (λ x. nat_eq (bit_at (get_or c.as_mut_slice.result.now i 0) j) 1 && x) (bit_not_is (get_or c.as_slice.result.now i 0) j (c.move_others.ensures.fit_chosen i) b))) k)
