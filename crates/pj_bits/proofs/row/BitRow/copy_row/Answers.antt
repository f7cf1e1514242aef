use Rattle.std.proofs.Common.{◌≡◌, length, sym, ◌∙◌, ap}
use Rattle.std.specs.Vec.{with_items}
use Rattle.std.proofs.lemmas.List.{with_items_is}
use Rattle.pj_bits.proofs.Rows.{length-row_of, size_seen, same_lengths}
use Rattle.pj_bits.proofs.row.BitRow.copy_row.Goals as goal

pub copy_from_slice-requires : goal.copy_from_slice-requires
copy_from_slice-requires c =
    let size = size_seen c.self.inside.size c.self.inside.words.items c.args.self.now c.self.view_is in
    ap length c.as_mut_slice.ensures.value ∙ sym (same_lengths c.self.inside.size _ (length c.self.inside.words.items) (length c.row.result.now) c.self.invariant c.row.ensures.len (c.requires.same_size ∙ size))

pub returns-clause-size : goal.returns-clause-size
returns-clause-size c = rw (← c.self.view_is) (length-row_of c.self.inside.size (with_items c.self.inside.words c.copy_from_slice.new.self).items ∙ sym (length-row_of c.self.inside.size c.self.inside.words.items))

pub returns-clause-copied : goal.returns-clause-copied
returns-clause-copied c =
    let size = size_seen c.self.inside.size c.self.inside.words.items c.args.self.now c.self.view_is in
    let after : (with_items c.self.inside.words c.copy_from_slice.new.self).items ≡ c.copy_from_slice.new.self = with_items_is c.self.inside.words c.copy_from_slice.new.self (c.copy_from_slice.ensures.len ∙ ap length c.as_mut_slice.ensures.value ∙ sym c.self.inside.words.ok.0) in
    rw (after, c.copy_from_slice.ensures.after, ← size, ← c.requires.same_size) c.row.ensures.bits
