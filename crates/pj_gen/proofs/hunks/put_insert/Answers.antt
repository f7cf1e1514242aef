use Rattle.std.specs.Prelude.{decimal, length, ◌∷◌, []}
use Rattle.pj_change.specs.Text.{hunk_text, reference, references}
use Rattle.pj_gen.specs.Pieces.{at_most_one}
use Rattle.pj_gen.proofs.Texts.{inserted}
use Rattle.pj_gen.proofs.hunks.put_insert.Goals as goal

pub returns : goal.returns
unfolding hunk_text
returns c =
    inserted c.args.out.now.items (reference c.args.file) (references (c.args.up ∷ [])) (references (at_most_one c.args.down)) (decimal (length c.args.bytes.now)) c.args.bytes.now
    c.extend_from_slice.new.self.items c.put_reference.new.out.items c.extend_from_slice-2.new.self.items c.put_references.new.out.items c.extend_from_slice-3.new.self.items c.put_references-2.new.out.items c.extend_from_slice-4.new.self.items c.put_length.new.out.items c.put_word.new.out.items
    c.in_ok-extend_from_slice.ensures.items c.in_ok-put_reference.ensures c.in_ok-extend_from_slice-2.ensures.items c.in_ok-put_references.ensures c.in_ok-extend_from_slice-3.ensures.items c.in_ok-put_references-2.ensures c.in_ok-extend_from_slice-4.ensures.items c.in_ok-put_length.ensures c.in_ok-put_word.ensures
