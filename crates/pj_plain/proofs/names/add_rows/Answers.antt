use Rattle.std.proofs.Common.{◌≡◌, ◌∙◌, length, ap, subst, arith, Option, Some}
use Rattle.pj_change.specs.declared.hunk.Hunk.{Hunk}
use Rattle.pj_tree.specs.declared.row.NameRow.{NameRow}
use Rattle.pj_change.specs.Gathers.{Gathers}
use Rattle.pj_change.specs.Shared.{records}
use Rattle.pj_change.proofs.PositionLemmas.{hunk_read}
use Rattle.pj_tree.proofs.GatheredRows.{row_added, rows_more, rows_all}
use Rattle.pj_plain.proofs.names.add_rows.Goals as goal

pub row_of_hunk-requires-clause-small : goal.row_of_hunk-requires-clause-small
row_of_hunk-requires-clause-small g c =
    let h = hunk_read c.args.r.now c.items-hunk-items.result.now c.loop-hunk.hunk-index c.hunk-item.result c.items-hunk-items.ensures c.hunk-item.is c.loop-hunk-test.true in
    omega (arith, h.small, c.loop-hunk.invariant.place)

pub overflow_cast-first : goal.overflow_cast-first
overflow_cast-first g c =
    let h = hunk_read c.args.r.now c.items-hunk-items.result.now c.loop-hunk.hunk-index c.hunk-item.result c.items-hunk-items.ensures c.hunk-item.is c.loop-hunk-test.true in
    omega (arith, h.small, c.position_count.ensures)

pub overflow_add-first : goal.overflow_add-first
overflow_add-first g c =
    let h = hunk_read c.args.r.now c.items-hunk-items.result.now c.loop-hunk.hunk-index c.hunk-item.result c.items-hunk-items.ensures c.hunk-item.is c.loop-hunk-test.true in
    omega (arith, h.small, c.position_count.ensures, c.loop-hunk.invariant.place)

pub loop-hunk-preserved : goal.loop-hunk-preserved
loop-hunk-preserved g c =
    let r = c.args.r.now in
    let i = c.loop-hunk.hunk-index in
    let hunk = c.hunk-item.result in
    let h = hunk_read r c.items-hunk-items.result.now i hunk c.items-hunk-items.ensures c.hunk-item.is c.loop-hunk-test.true in
    let at = c.loop-hunk.invariant.place in
    let size = c.position_count.ensures in
    let next = h.next in
    let middle = c.loop-hunk.tree.rows in
    let new = c.add_row.new.tree.rows in
    let added = row_added c.in_ok-row.row middle new c.in_ok-add_row.ensures.rows in
    record {
      place = omega (arith, at, size, next);
      rows = rows_more (records c.args.changes.now) r i c.loop-hunk.first hunk h.there at c.args.tree.now.rows middle new c.loop-hunk.invariant.rows
          (subst (λ (o : Option NameRow). Gathers (λ x. o ≡ Some x) middle new) c.in_ok-row.ensures added);
      inodes = c.in_ok-add_row.ensures.inodes ∙ c.loop-hunk.invariant.inodes;
    }

pub returns-clause-rows : goal.returns-clause-rows
returns-clause-rows g c =
    let all : length c.args.r.now.change.hunks ≡ c.loop-hunk.hunk-index = omega (arith, ap (length {A = Hunk}) c.items-hunk-items.ensures) in
    rows_all (records c.args.changes.now) c.args.r.now c.loop-hunk.hunk-index all c.args.tree.now.rows c.loop-hunk.tree.rows c.loop-hunk.invariant.rows
