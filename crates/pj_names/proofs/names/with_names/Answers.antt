use Rattle.std.proofs.Common.{◌≡◌, sym, refl, length, ap, subst, arith, Option, Some, [], ◌∷◌, ◌++◌}
use Rattle.pj_change.specs.declared.hunk.Hunk.{Hunk}
use Rattle.pj_change.specs.Gathers.{Gathers}
use Rattle.pj_change.proofs.PositionLemmas.{hunk_read}
use Rattle.pj_tree.specs.declared.row.NameRow.{NameRow}
use Rattle.pj_tree.specs.TreeOf.{hunk_row}
use Rattle.pj_tree.proofs.GatheredRows.{row_added, rows_none, rows_more, rows_all}
use Rattle.pj_names.specs.Given.{HasInodesBelow}
use Rattle.pj_names.proofs.Steps.{inodes_more, inodes_none}
use Rattle.pj_names.proofs.names.with_names.Goals as goal

pub row_of_hunk-requires-clause-small : goal.row_of_hunk-requires-clause-small
row_of_hunk-requires-clause-small g c =
    let h = hunk_read c.args.record.now c.items-hunk-items.result.now c.loop-hunk.hunk-index c.hunk-item.result c.items-hunk-items.ensures c.hunk-item.is c.loop-hunk-test.true in
    omega (arith, h.small, c.loop-hunk.invariant.place)

pub inode_in-requires : goal.inode_in-requires
inode_in-requires g c =
    let h = hunk_read c.args.record.now c.items-hunk-items.result.now c.loop-hunk.hunk-index c.hunk-item.result c.items-hunk-items.ensures c.hunk-item.is c.loop-hunk-test.true in
    omega (arith, h.small, c.loop-hunk.invariant.place)

pub overflow_cast-first : goal.overflow_cast-first
overflow_cast-first g c =
    let h = hunk_read c.args.record.now c.items-hunk-items.result.now c.loop-hunk.hunk-index c.hunk-item.result c.items-hunk-items.ensures c.hunk-item.is c.loop-hunk-test.true in
    omega (arith, h.small, c.position_count.ensures)

pub overflow_add-first : goal.overflow_add-first
overflow_add-first g c =
    let h = hunk_read c.args.record.now c.items-hunk-items.result.now c.loop-hunk.hunk-index c.hunk-item.result c.items-hunk-items.ensures c.hunk-item.is c.loop-hunk-test.true in
    omega (arith, h.small, c.position_count.ensures, c.loop-hunk.invariant.place)

pub loop-hunk-init : goal.loop-hunk-init
loop-hunk-init g c = record {
  place = refl;
  rows = rw c.in_ok-now.ensures.same (rows_none (g.P.Peers.records c.args.others.now ++ c.args.record.now ∷ []) c.args.record.now c.args.tree.now.rows);
  inodes = rw c.in_ok-now.ensures.same (inodes_none c.args.record.now c.args.tree.now.inodes);
  cost = omega arith;
}

pub loop-hunk-preserved : goal.loop-hunk-preserved
loop-hunk-preserved g c =
    let r = c.args.record.now in
    let S = g.P.Peers.records c.args.others.now ++ r ∷ [] in
    let i = c.loop-hunk.hunk-index in
    let hunk = c.hunk-item.result in
    let h = hunk_read r c.items-hunk-items.result.now i hunk c.items-hunk-items.ensures c.hunk-item.is c.loop-hunk-test.true in
    let at = c.loop-hunk.invariant.place in
    let size = c.position_count.ensures in
    let next = h.next in
    let middle = c.loop-hunk.now.rows in
    let named = c.in_ok-named.named.rows in
    let added : Gathers (λ x. hunk_row S r c.loop-hunk.first hunk ≡ Some x) middle named =
    subst (λ (o : Option NameRow). Gathers (λ x. o ≡ Some x) middle named) c.in_ok-row.ensures (row_added c.in_ok-row.row middle named c.in_ok-named.ensures.rows) in
    let so_far : HasInodesBelow r i c.args.tree.now.inodes c.in_ok-named.named.inodes = rw c.in_ok-named.ensures.inodes c.loop-hunk.invariant.inodes in
    record {
      place = omega (arith, at, size, next);
      rows = rw c.in_ok-now-2.ensures.rows (rows_more S r i c.loop-hunk.first hunk h.there at c.args.tree.now.rows middle named c.loop-hunk.invariant.rows added);
      inodes = inodes_more r i c.loop-hunk.first hunk h.there at c.inode_in.result c.inode_in.ensures c.args.tree.now.inodes c.in_ok-named.named.inodes c.in_ok-now-2.now.inodes so_far c.in_ok-now-2.ensures.inodes;
      cost = omega (arith, c.loop-hunk.invariant.cost, c.in_ok-named.ensures.cost, c.in_ok-now-2.ensures.cost);
    }

pub returns-clause-rows : goal.returns-clause-rows
returns-clause-rows g c =
    let all : length c.args.record.now.change.hunks ≡ c.loop-hunk.hunk-index = omega (arith, ap (length {A = Hunk}) c.items-hunk-items.ensures) in
    rows_all (g.P.Peers.records c.args.others.now ++ c.args.record.now ∷ []) c.args.record.now c.loop-hunk.hunk-index all c.args.tree.now.rows c.loop-hunk.now.rows c.loop-hunk.invariant.rows

pub returns-clause-inodes : goal.returns-clause-inodes
returns-clause-inodes g c =
    let all : length c.args.record.now.change.hunks ≡ c.loop-hunk.hunk-index = omega (arith, ap (length {A = Hunk}) c.items-hunk-items.ensures) in
    subst (λ n. HasInodesBelow c.args.record.now n c.args.tree.now.inodes c.loop-hunk.now.inodes) (sym all) c.loop-hunk.invariant.inodes
