use Rattle.pj_change.specs.Parts.{parts_of}
use Rattle.pj_text.proofs.Joins.{lines_written}
use Rattle.pj_text.proofs.writing.spelled.Goals as goal

pub returns : goal.returns
returns c =
    lines_written (parts_of c.args.change.now) c.from.result c.items.result.now c.items-2.result.now c.from-2.result c.items-3.result.now c.items-4.result.now c.items-5.result.now
    (record {
      version_is = c.from.ensures;
      message_is = c.items.ensures;
      author_is = c.items-2.ensures;
      time_is = c.from-2.ensures;
      needs_are = c.items-3.ensures;
      knows_are = c.items-4.ensures;
      hunks_are = c.items-5.ensures;
    })
    c.new-out.result.items c.number_line.new.out.items c.text_line.new.out.items c.text_line-2.new.out.items c.number_line-2.new.out.items c.name_lines.new.out.items c.name_lines-2.new.out.items c.hunks.new.out.items c.extend_from_slice.new.self.items
    c.new-out.ensures.items c.in_ok-number_line.ensures c.in_ok-text_line.ensures c.in_ok-text_line-2.ensures c.in_ok-number_line-2.ensures c.in_ok-name_lines.ensures c.in_ok-name_lines-2.ensures c.in_ok-hunks.ensures c.in_ok-extend_from_slice.ensures.items
