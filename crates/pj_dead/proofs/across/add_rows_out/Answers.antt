use Rattle.std.proofs.Common.{◌↔◌, sym, ◌∙◌, arith}
use Rattle.std.specs.Prelude.{Contains}
use Rattle.pj_change.specs.declared.point.Point.{Point}
use Rattle.pj_change.proofs.Gathering.{gathers_none, gathers_alike}
use Rattle.pj_dead.specs.DeadRows.{Arrives, Departs}
use Rattle.pj_dead.proofs.EntryRows.{none_left, IsFromTo, ends_there, ends_back}
use Rattle.pj_dead.proofs.across.add_rows_out.Goals as goal

pub returns-then-is_empty-clause-rows : goal.returns-then-is_empty-clause-rows
returns-then-is_empty-clause-rows g c =
    let h = g.V.View.graph c.args.view.now in
    gathers_none (IsFromTo (Arrives h c.args.at) (Departs h c.args.at) c.args.least) c.args.rows.now.items
    (λ row k. (let m = (c.in_ok-after.ensures.targets row.target).1 k.1 in let e = none_left c.in_ok-after.after.len (sym c.is_empty.ensures ∙ c.if-is_empty.true) in let k = c.in_ok-after.after.ok in omega (arith, m.1, e, k)))

pub returns-clause-rows : goal.returns-clause-rows
returns-clause-rows g c =
    let h = g.V.View.graph c.args.view.now in
    let at = c.args.at in
    let before = c.points.result.now in
    let after = c.deref-2.result.now in
    let old = c.args.rows.now.items in
    let new = c.add_rows.new.rows.items in
    let once : (p : Point) → Contains before p ↔ Contains c.deref.result.now p = rw c.points.ensures c.in_ok-each.ensures in
    let all : (p : Point) → Contains c.deref.result.now p ↔ Arrives h at p = rw c.deref.ensures.value c.in_ok-before.ensures.sources in
    let sources : (p : Point) → Contains before p ↔ Arrives h at p = λ p. (λ m. (all p).0 ((once p).0 m), λ l. (once p).1 ((all p).1 l)) in
    let targets : (p : Point) → Contains after p ↔ Departs h at p = rw c.deref-2.ensures.value c.in_ok-after.ensures.targets in
    gathers_alike (IsFromTo (Contains before) (Contains after) c.args.least) (IsFromTo (Arrives h at) (Departs h at) c.args.least) old new
    (ends_there (Contains before) (Arrives h at) (Contains after) (Departs h at) sources targets c.args.least)
    (ends_back (Contains before) (Arrives h at) (Contains after) (Departs h at) sources targets c.args.least) c.in_ok-add_rows.ensures
