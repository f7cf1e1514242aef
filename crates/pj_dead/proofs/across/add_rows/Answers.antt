use Rattle.std.proofs.Common.{◌≡◌, arith, []}
use Rattle.std.specs.Prelude.{Contains}
use Rattle.pj_change.specs.declared.point.Point.{Point}
use Rattle.pj_change.specs.Gathers.{IsOfOne}
use Rattle.pj_change.proofs.Gathering.{gathers_none, of_none, of_more, of_all, gathers_alike}
use Rattle.pj_dead.specs.declared.row.PseudoRow.{PseudoRow}
use Rattle.pj_dead.proofs.EntryRows.{IsFromTo, one_each, each_one}
use Rattle.pj_dead.proofs.across.add_rows.Goals as goal

pub loop-source-init : goal.loop-source-init
loop-source-init c =
    let P : Point → PseudoRow → Type 0 = λ s. IsFromTo (λ z. z ≡ s) (Contains c.args.targets.now) c.args.least in
    gathers_none (IsOfOne P []) c.args.rows.now.items (of_none P)

pub loop-source-preserved : goal.loop-source-preserved
loop-source-preserved c =
    let source = c.source-item.result in
    let P : Point → PseudoRow → Type 0 = λ s. IsFromTo (λ z. z ≡ s) (Contains c.args.targets.now) c.args.least in
    of_more P c.args.sources.now c.loop-source.source-index source source c.loop-source-test.true c.source-item.is c.args.rows.now.items c.loop-source.rows.items c.add_rows_from.new.rows.items c.loop-source.invariant c.in_ok-add_rows_from.ensures

pub returns : goal.returns
returns c =
    let P : Point → PseudoRow → Type 0 = λ s. IsFromTo (λ z. z ≡ s) (Contains c.args.targets.now) c.args.least in
    let all = of_all P c.args.sources.now c.loop-source.source-index (omega arith) c.args.rows.now.items c.loop-source.rows.items c.loop-source.invariant in
    gathers_alike (IsOfOne P c.args.sources.now) (IsFromTo (Contains c.args.sources.now) (Contains c.args.targets.now) c.args.least) c.args.rows.now.items c.loop-source.rows.items
    (one_each c.args.sources.now c.args.targets.now c.args.least) (each_one c.args.sources.now c.args.targets.now c.args.least) all
