use Rattle.std.proofs.Common.{sym, subst, arith, []}
use Rattle.std.specs.Prelude.{Contains}
use Rattle.std.proofs.lemmas.List.Elements.{Contains-get_or}
use Rattle.pj_change.specs.declared.point.Point.{Point}
use Rattle.pj_change.specs.Gathers.{IsOfOne}
use Rattle.pj_change.proofs.Gathering.{gathers_none, of_none, of_more, of_all, gathers_alike}
use Rattle.pj_change.proofs.DeadPaths.{end_dead}
use Rattle.pj_dead.specs.declared.row.PseudoRow.{PseudoRow}
use Rattle.pj_dead.specs.DeadRows.{Arrives, Departs, IsRowOfSet}
use Rattle.pj_dead.proofs.EntryRows.{IsFromTo, exit_of_set, set_of_exit}
use Rattle.pj_dead.proofs.across.add_rows_by_exits.Goals as goal

pub loop-exit-init : goal.loop-exit-init
loop-exit-init g c =
    let h = g.V.View.graph c.args.view.now in
    let P : Point → PseudoRow → Type 0 = λ u. IsFromTo (Arrives h u) (Departs h u) c.args.least in
    record { rows = gathers_none (IsOfOne P []) c.args.rows.now.items (of_none P); known = c.requires.known }

pub add_rows_out-requires-clause-dead : goal.add_rows_out-requires-clause-dead
add_rows_out-requires-clause-dead g c =
    let set = c.args.set.now in
    let exit = c.exit-item.result in
    end_dead ((c.requires.set exit).0 (subst (Contains set) (sym c.exit-item.is) (Contains-get_or set c.loop-exit.exit-index exit c.loop-exit-test.true)))

pub loop-exit-preserved : goal.loop-exit-preserved
loop-exit-preserved g c =
    let h = g.V.View.graph c.args.view.now in
    let exit = c.exit-item.result in
    record {
      rows = of_more (λ u. IsFromTo (Arrives h u) (Departs h u) c.args.least) c.args.set.now c.loop-exit.exit-index exit exit c.loop-exit-test.true c.exit-item.is
          c.args.rows.now.items c.loop-exit.rows.items c.add_rows_out.new.rows.items c.loop-exit.invariant.rows c.in_ok-add_rows_out.ensures.rows;
      known = c.in_ok-add_rows_out.ensures.known;
    }

pub returns-clause-rows : goal.returns-clause-rows
returns-clause-rows g c =
    let h = g.V.View.graph c.args.view.now in
    let set = c.args.set.now in
    let least = c.args.least in
    let old = c.args.rows.now.items in
    let new = c.loop-exit.rows.items in
    let P : Point → PseudoRow → Type 0 = λ u. IsFromTo (Arrives h u) (Departs h u) least in
    let all = of_all P set c.loop-exit.exit-index (omega arith) old new c.loop-exit.invariant.rows in
    gathers_alike (IsOfOne P set) (IsRowOfSet h c.args.at) old new (exit_of_set h c.args.at least set c.requires.set c.requires.least) (set_of_exit h c.args.at least set c.requires.set c.requires.least) all
