use Rattle.std.proofs.Common.{ℕ, List, arith}
use Rattle.std.specs.Prelude.{slice_index_or}
use Rattle.pj_gen.specs.Summary.{line_row}
use Rattle.pj_gen.proofs.Counts.{eight_appended, read_row}
use Rattle.pj_gen.proofs.telling.put_rows.Goals as goal

pub returns : goal.returns
returns c = λ number d.
    let row : ℕ → List ℕ = λ l. line_row number c.args.changes l (slice_index_or c.args.lines.now l d) in
    eight_appended c.args.out.now.items (row 0) (row 1) (row 2) (row 3) (row 4) (row 5) (row 6) (row 7)
    c.put_row.new.out.items c.put_row-2.new.out.items c.put_row-3.new.out.items c.put_row-4.new.out.items c.put_row-5.new.out.items c.put_row-6.new.out.items c.put_row-7.new.out.items c.put_row-8.new.out.items
    (read_row number c.args.changes 0 c.args.lines.now c.index-lines-0.result d c.index-lines-0.is (omega (arith, c.requires.lines)) c.args.out.now.items c.put_row.new.out.items (c.in_ok-put_row.ensures number))
    (read_row number c.args.changes 1 c.args.lines.now c.index-lines-1.result d c.index-lines-1.is (omega (arith, c.requires.lines)) c.put_row.new.out.items c.put_row-2.new.out.items (c.in_ok-put_row-2.ensures number))
    (read_row number c.args.changes 2 c.args.lines.now c.index-lines-2.result d c.index-lines-2.is (omega (arith, c.requires.lines)) c.put_row-2.new.out.items c.put_row-3.new.out.items (c.in_ok-put_row-3.ensures number))
    (read_row number c.args.changes 3 c.args.lines.now c.index-lines-3.result d c.index-lines-3.is (omega (arith, c.requires.lines)) c.put_row-3.new.out.items c.put_row-4.new.out.items (c.in_ok-put_row-4.ensures number))
    (read_row number c.args.changes 4 c.args.lines.now c.index-lines-4.result d c.index-lines-4.is (omega (arith, c.requires.lines)) c.put_row-4.new.out.items c.put_row-5.new.out.items (c.in_ok-put_row-5.ensures number))
    (read_row number c.args.changes 5 c.args.lines.now c.index-lines-5.result d c.index-lines-5.is (omega (arith, c.requires.lines)) c.put_row-5.new.out.items c.put_row-6.new.out.items (c.in_ok-put_row-6.ensures number))
    (read_row number c.args.changes 6 c.args.lines.now c.index-lines-6.result d c.index-lines-6.is (omega (arith, c.requires.lines)) c.put_row-6.new.out.items c.put_row-7.new.out.items (c.in_ok-put_row-7.ensures number))
    (read_row number c.args.changes 7 c.args.lines.now c.index-lines-7.result d c.index-lines-7.is (omega (arith, c.requires.lines)) c.put_row-7.new.out.items c.put_row-8.new.out.items (c.in_ok-put_row-8.ensures number))
