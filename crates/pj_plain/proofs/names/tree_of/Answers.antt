use Rattle.std.proofs.Common.{◌≡◌, ◌∙◌, List, [], length, sym, subst, arith}
use Rattle.std.specs.Prelude.{Contains, ◌↔◌}
use Rattle.pj_tree.specs.declared.row.NameRow.{NameRow}
use Rattle.pj_change.specs.Gathers.{IsOfOne}
use Rattle.pj_change.specs.Shared.{records}
use Rattle.pj_tree.specs.TreeOf.{IsRowOf}
use Rattle.pj_plain.proofs.Gathering.{of_more_shared, of_all_shared}
use Rattle.pj_change.proofs.Gathering.{gathered}
use Rattle.pj_tree.proofs.VertexInodes.{vertices_apart, inodes_told}
use Rattle.pj_plain.proofs.names.tree_of.Goals as goal

pub loop-r-preserved : goal.loop-r-preserved
loop-r-preserved g c = record {
  rows = of_more_shared (IsRowOf (records c.args.changes.now)) c.args.changes.now c.loop-r.r-index c.r-item.result c.deref.result.now
      c.loop-r-test.true c.r-item.is c.deref.ensures [] c.loop-r.tree.rows c.add_rows.new.tree.rows c.loop-r.invariant.rows c.in_ok-add_rows.ensures.rows;
  inodes = c.in_ok-add_rows.ensures.inodes ∙ c.loop-r.invariant.inodes;
}

pub add_inodes-requires-clause-tied : goal.add_inodes-requires-clause-tied
add_inodes-requires-clause-tied g c = vertices_apart (records c.args.changes.now) c.requires.lawful c.args.vertices.now c.requires.vertices

pub returns : goal.returns
returns g c =
    let S = records c.args.changes.now in
    let rows = c.loop-r.tree.rows in
    let all : length c.args.changes.now ≡ c.loop-r.r-index = omega arith in
    let a = of_all_shared (IsRowOf S) c.args.changes.now c.loop-r.r-index all [] rows c.loop-r.invariant.rows in
    record {
      rows = subst (λ (l : List NameRow). (row : NameRow) → Contains l row ↔ IsOfOne (IsRowOf S) S row) (sym c.in_ok-add_inodes.ensures.rows) (λ row. (gathered (IsOfOne (IsRowOf S) S) rows a row, a.all row));
      inodes = inodes_told S c.args.vertices.now c.requires.vertices c.add_inodes.new.tree.inodes c.in_ok-add_inodes.ensures.inodes;
    }
