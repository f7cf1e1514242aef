use Rattle.std.proofs.Common.{◌≡◌, sym, refl, arith, []}
use Rattle.std.specs.Prelude.{Contains}
use Rattle.pj_change.specs.Gathers.{Gathers, IsOfOne}
use Rattle.pj_change.proofs.Gathering.{gathers_none, gathers_one, of_none, of_more, of_all, gathers_alike}
use Rattle.pj_dead.specs.declared.row.PseudoRow.{PseudoRow}
use Rattle.pj_dead.proofs.EntryRows.{IsFrom, IsFromTo, one_from, from_one}
use Rattle.pj_dead.proofs.across.add_rows_from.Goals as goal

pub loop-target-init : goal.loop-target-init
loop-target-init c = gathers_none (IsOfOne (IsFrom c.args.source c.args.least c.args.targets.now) []) c.args.rows.now.items (of_none (IsFrom c.args.source c.args.least c.args.targets.now))

pub loop-target-preserved : goal.loop-target-preserved
loop-target-preserved c =
    let targets = c.args.targets.now in
    let P = IsFrom c.args.source c.args.least targets in
    let target = c.target-item.result in
    let row : PseudoRow = record { source = c.args.source; target = target; least = c.args.least } in
    let one : Gathers (P target) c.loop-target.rows.items c.push.new.self.items = gathers_one (P target) row c.loop-target.rows.items c.push.new.self.items c.in_ok-push.ensures.items refl (λ r e. sym e) in
    of_more P targets c.loop-target.target-index target target c.loop-target-test.true c.target-item.is c.args.rows.now.items c.loop-target.rows.items c.push.new.self.items c.loop-target.invariant one

pub returns : goal.returns
returns c =
    let targets = c.args.targets.now in
    let P = IsFrom c.args.source c.args.least targets in
    let all = of_all P targets c.loop-target.target-index (omega arith) c.args.rows.now.items c.loop-target.rows.items c.loop-target.invariant in
    gathers_alike (IsOfOne P targets) (IsFromTo (λ s. s ≡ c.args.source) (Contains targets) c.args.least) c.args.rows.now.items c.loop-target.rows.items (one_from c.args.source c.args.least targets) (from_one c.args.source c.args.least targets) all
