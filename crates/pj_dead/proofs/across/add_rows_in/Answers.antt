use Rattle.std.proofs.Common.{◌↔◌, sym, ◌∙◌, arith}
use Rattle.std.specs.Prelude.{Contains}
use Rattle.pj_change.specs.declared.point.Point.{Point}
use Rattle.pj_change.proofs.Gathering.{gathers_none, gathers_alike}
use Rattle.pj_dead.specs.DeadRows.{Enters, Leaves}
use Rattle.pj_dead.proofs.EntryRows.{none_left, IsFromTo, ends_there, ends_back}
use Rattle.pj_dead.proofs.across.add_rows_in.Goals as goal

pub returns-then-is_empty-clause-rows : goal.returns-then-is_empty-clause-rows
returns-then-is_empty-clause-rows g c =
    let h = g.V.View.graph c.args.view.now in
    gathers_none (IsFromTo (Enters h c.args.at) (Leaves h c.args.at) c.args.least) c.args.rows.now.items
    (λ row k. (let m = (c.in_ok-before.ensures.sources row.source).1 k.0 in let e = none_left c.in_ok-before.before.len (sym c.is_empty.ensures ∙ c.if-is_empty.true) in let k = c.in_ok-before.before.ok in omega (arith, m.1, e, k)))

pub returns-clause-rows : goal.returns-clause-rows
returns-clause-rows g c =
    let h = g.V.View.graph c.args.view.now in
    let at = c.args.at in
    let before = c.deref-2.result.now in
    let after = c.points.result.now in
    let old = c.args.rows.now.items in
    let new = c.add_rows.new.rows.items in
    let sources : (p : Point) → Contains before p ↔ Enters h at p = rw c.deref-2.ensures.value c.in_ok-before.ensures.sources in
    let once : (p : Point) → Contains after p ↔ Contains c.deref.result.now p = rw c.points.ensures c.in_ok-each.ensures in
    let all : (p : Point) → Contains c.deref.result.now p ↔ Leaves h at p = rw c.deref.ensures.value c.in_ok-after.ensures.targets in
    let targets : (p : Point) → Contains after p ↔ Leaves h at p = λ p. (λ m. (all p).0 ((once p).0 m), λ l. (once p).1 ((all p).1 l)) in
    gathers_alike (IsFromTo (Contains before) (Contains after) c.args.least) (IsFromTo (Enters h at) (Leaves h at) c.args.least) old new
    (ends_there (Contains before) (Enters h at) (Contains after) (Leaves h at) sources targets c.args.least)
    (ends_back (Contains before) (Enters h at) (Contains after) (Leaves h at) sources targets c.args.least) c.in_ok-add_rows.ensures
