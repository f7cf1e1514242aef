use Rattle.std.proofs.Common.{sym, subst, arith, []}
use Rattle.std.specs.Prelude.{Contains}
use Rattle.std.proofs.lemmas.List.Elements.{Contains-get_or}
use Rattle.pj_change.specs.declared.point.Point.{Point}
use Rattle.pj_change.specs.Gathers.{IsOfOne}
use Rattle.pj_change.proofs.Gathering.{gathers_none, of_none, of_more, of_all, gathers_alike}
use Rattle.pj_change.proofs.DeadPaths.{end_dead}
use Rattle.pj_dead.specs.declared.row.PseudoRow.{PseudoRow}
use Rattle.pj_dead.specs.DeadRows.{Enters, Leaves, IsRowOfSet}
use Rattle.pj_dead.proofs.EntryRows.{IsFromTo, entry_of_set, set_of_entry}
use Rattle.pj_dead.proofs.across.add_rows_by_entries.Goals as goal

pub loop-entry-init : goal.loop-entry-init
loop-entry-init g c =
    let h = g.V.View.graph c.args.view.now in
    let P : Point → PseudoRow → Type 0 = λ u. IsFromTo (Enters h u) (Leaves h u) c.args.least in
    record { rows = gathers_none (IsOfOne P []) c.args.rows.now.items (of_none P); known = c.requires.known }

pub add_rows_in-requires-clause-dead : goal.add_rows_in-requires-clause-dead
add_rows_in-requires-clause-dead g c =
    let set = c.args.set.now in
    let entry = c.entry-item.result in
    end_dead ((c.requires.set entry).0 (subst (Contains set) (sym c.entry-item.is) (Contains-get_or set c.loop-entry.entry-index entry c.loop-entry-test.true)))

pub loop-entry-preserved : goal.loop-entry-preserved
loop-entry-preserved g c =
    let h = g.V.View.graph c.args.view.now in
    let entry = c.entry-item.result in
    record {
      rows = of_more (λ u. IsFromTo (Enters h u) (Leaves h u) c.args.least) c.args.set.now c.loop-entry.entry-index entry entry c.loop-entry-test.true c.entry-item.is
          c.args.rows.now.items c.loop-entry.rows.items c.add_rows_in.new.rows.items c.loop-entry.invariant.rows c.in_ok-add_rows_in.ensures.rows;
      known = c.in_ok-add_rows_in.ensures.known;
    }

pub returns-clause-rows : goal.returns-clause-rows
returns-clause-rows g c =
    let h = g.V.View.graph c.args.view.now in
    let set = c.args.set.now in
    let least = c.args.least in
    let old = c.args.rows.now.items in
    let new = c.loop-entry.rows.items in
    let P : Point → PseudoRow → Type 0 = λ u. IsFromTo (Enters h u) (Leaves h u) least in
    let all = of_all P set c.loop-entry.entry-index (omega arith) old new c.loop-entry.invariant.rows in
    gathers_alike (IsOfOne P set) (IsRowOfSet h c.args.at) old new (entry_of_set h c.args.at least set c.requires.set c.requires.least) (set_of_entry h c.args.at least set c.requires.set c.requires.least) all
