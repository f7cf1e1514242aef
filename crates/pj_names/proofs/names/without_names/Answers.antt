use Rattle.std.proofs.Common.{◌≡◌, sym, refl, length, ap, subst, arith, Option, Some, [], ◌∷◌, ◌++◌}
use Rattle.pj_change.specs.declared.hunk.Hunk.{Hunk}
use Rattle.pj_change.proofs.PositionLemmas.{hunk_read}
use Rattle.pj_tree.specs.declared.row.NameRow.{NameRow}
use Rattle.pj_tree.specs.TreeOf.{hunk_row}
use Rattle.pj_names.specs.Given.{IsAtInodeBelow, Leaves}
use Rattle.pj_names.proofs.Steps.{row_taken, rows_less, inodes_less, none_at, no_rows, all_rows}
use Rattle.pj_names.proofs.names.without_names.Goals as goal

pub row_of_hunk-requires-clause-small : goal.row_of_hunk-requires-clause-small
row_of_hunk-requires-clause-small g c =
    let h = hunk_read c.args.record.now c.items-hunk-items.result.now c.loop-hunk.hunk-index c.hunk-item.result c.items-hunk-items.ensures c.hunk-item.is c.loop-hunk-test.true in
    omega (arith, h.small, c.loop-hunk.invariant.place)

pub inode_in-requires : goal.inode_in-requires
inode_in-requires g c =
    let h = hunk_read c.args.record.now c.items-hunk-items.result.now c.loop-hunk.hunk-index c.hunk-item.result c.items-hunk-items.ensures c.hunk-item.is c.loop-hunk-test.true in
    omega (arith, h.small, c.loop-hunk.invariant.place)

pub overflow_cast-first : goal.overflow_cast-first
overflow_cast-first g c =
    let h = hunk_read c.args.record.now c.items-hunk-items.result.now c.loop-hunk.hunk-index c.hunk-item.result c.items-hunk-items.ensures c.hunk-item.is c.loop-hunk-test.true in
    omega (arith, h.small, c.position_count.ensures)

pub overflow_add-first : goal.overflow_add-first
overflow_add-first g c =
    let h = hunk_read c.args.record.now c.items-hunk-items.result.now c.loop-hunk.hunk-index c.hunk-item.result c.items-hunk-items.ensures c.hunk-item.is c.loop-hunk-test.true in
    omega (arith, h.small, c.position_count.ensures, c.loop-hunk.invariant.place)

pub loop-hunk-init : goal.loop-hunk-init
loop-hunk-init g c = record {
  place = refl;
  rows = rw c.in_ok-now.ensures.same (no_rows (g.P.Peers.records c.args.others.now ++ c.args.record.now ∷ []) c.args.record.now c.args.tree.now.rows);
  inodes = rw c.in_ok-now.ensures.same (none_at c.args.record.now c.args.tree.now.inodes);
  cost = omega arith;
}

pub loop-hunk-preserved : goal.loop-hunk-preserved
loop-hunk-preserved g c =
    let r = c.args.record.now in
    let S = g.P.Peers.records c.args.others.now ++ r ∷ [] in
    let i = c.loop-hunk.hunk-index in
    let hunk = c.hunk-item.result in
    let h = hunk_read r c.items-hunk-items.result.now i hunk c.items-hunk-items.ensures c.hunk-item.is c.loop-hunk-test.true in
    let at = c.loop-hunk.invariant.place in
    let size = c.position_count.ensures in
    let next = h.next in
    let middle = c.loop-hunk.now.rows in
    let left = c.in_ok-unnamed.unnamed.rows in
    let taken : Leaves (λ x. hunk_row S r c.loop-hunk.first hunk ≡ Some x) middle left =
    subst (λ (o : Option NameRow). Leaves (λ x. o ≡ Some x) middle left) c.in_ok-row.ensures (row_taken c.in_ok-row.row middle left c.in_ok-unnamed.ensures.rows) in
    let so_far : Leaves (IsAtInodeBelow r i) c.args.tree.now.inodes c.in_ok-unnamed.unnamed.inodes = rw c.in_ok-unnamed.ensures.inodes c.loop-hunk.invariant.inodes in
    record {
      place = omega (arith, at, size, next);
      rows = rw c.in_ok-now-2.ensures.rows (rows_less r i c.loop-hunk.first hunk h.there at S c.args.tree.now.rows middle left c.loop-hunk.invariant.rows taken);
      inodes = inodes_less r i c.loop-hunk.first hunk h.there at c.inode_in.result c.inode_in.ensures c.args.tree.now.inodes c.in_ok-unnamed.unnamed.inodes c.in_ok-now-2.now.inodes so_far c.in_ok-now-2.ensures.inodes;
      cost = omega (arith, c.loop-hunk.invariant.cost, c.in_ok-unnamed.ensures.cost, c.in_ok-now-2.ensures.cost);
    }

pub returns-clause-rows : goal.returns-clause-rows
returns-clause-rows g c =
    let all : length c.args.record.now.change.hunks ≡ c.loop-hunk.hunk-index = omega (arith, ap (length {A = Hunk}) c.items-hunk-items.ensures) in
    all_rows (g.P.Peers.records c.args.others.now ++ c.args.record.now ∷ []) c.args.record.now c.loop-hunk.hunk-index all c.args.tree.now.rows c.loop-hunk.now.rows c.loop-hunk.invariant.rows

pub returns-clause-inodes : goal.returns-clause-inodes
returns-clause-inodes g c =
    let all : length c.args.record.now.change.hunks ≡ c.loop-hunk.hunk-index = omega (arith, ap (length {A = Hunk}) c.items-hunk-items.ensures) in
    subst (λ n. Leaves (IsAtInodeBelow c.args.record.now n) c.args.tree.now.inodes c.loop-hunk.now.inodes) (sym all) c.loop-hunk.invariant.inodes
