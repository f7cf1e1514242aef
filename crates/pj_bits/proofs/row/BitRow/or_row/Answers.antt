use Rattle.std.proofs.Common.{◌≡◌, length, get_or, refl, sym, ◌∙◌, ap, nat_eq}
use Rattle.std.specs.Prelude.{◌||◌}
use Rattle.std.specs.Vec.{with_items}
use Rattle.std.proofs.lemmas.List.{with_items_is}
use Rattle.std.specs.Int.{bit_at}
use Rattle.pj_bits.specs.Matrix.{bit}
use Rattle.pj_bits.specs.Row.{has}
use Rattle.pj_bits.specs.Words.{row_of}
use Rattle.pj_bits.proofs.Rows.{length-row_of, row_by, bit_or_is, size_seen, same_lengths}
use Rattle.pj_bits.proofs.row.BitRow.or_row.Goals as goal

pub join_words-requires : goal.join_words-requires
join_words-requires c =
    let size = size_seen c.self.inside.size c.self.inside.words.items c.args.self.now c.self.view_is in
    same_lengths c.self.inside.size _ (length c.self.inside.words.items) (length c.row.result.now) c.self.invariant c.row.ensures.len (c.requires.same_size ∙ size)
    ∙ sym (ap length c.as_mut_slice.ensures.value)

pub returns-clause-size : goal.returns-clause-size
returns-clause-size c = rw (← c.self.view_is) (length-row_of c.self.inside.size (with_items c.self.inside.words c.join_words.new.into).items ∙ sym (length-row_of c.self.inside.size c.self.inside.words.items))

pub returns-clause-joined : goal.returns-clause-joined
returns-clause-joined c = λ k.
    let size = size_seen c.self.inside.size c.self.inside.words.items c.args.self.now c.self.view_is in
    let after : (with_items c.self.inside.words c.join_words.new.into).items ≡ c.join_words.new.into = with_items_is c.self.inside.words c.join_words.new.into (c.join_words.ensures.len ∙ ap length c.as_mut_slice.ensures.value ∙ sym c.self.inside.words.ok.0) in
    let row : has (row_of c.self.inside.size c.row.result.now) k ≡ bit c.args.matrix.now c.args.row k = rw (← size, ← c.requires.same_size) (c.row.ensures.bits k) in
    rw (after, ← row, ← c.self.view_is, ← c.as_mut_slice.ensures.value)
    (row_by (λ a b d. a || b) refl c.self.inside.size (length c.as_mut_slice.result.now) (ap length c.as_mut_slice.ensures.value ∙ c.self.invariant)
    c.as_mut_slice.result.now c.row.result.now c.row.result.now c.join_words.new.into
    (λ i j h b. ap (λ w. nat_eq (bit_at w j) 1) (c.join_words.ensures.joined i h) ∙ bit_or_is (get_or c.as_mut_slice.result.now i 0) (get_or c.row.result.now i 0) j) k)
