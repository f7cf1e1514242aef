use Rattle.std.proofs.Common.{◌↔◌}
use Rattle.std.specs.Prelude.{Contains}
use Rattle.pj_change.specs.declared.point.Point.{Point}
use Rattle.pj_dead.specs.DeadRows.{AreOfOneSet}
use Rattle.pj_dead.specs.Searches.{GoesOn}
use Rattle.pj_dead.proofs.TouchedRows.{sets_seen, sets_more}
use Rattle.pj_dead.proofs.touched.with_set.Goals as goal

pub returns-then-has-clause-more : goal.returns-then-has-clause-more
returns-then-has-clause-more g c = λ starts are.
    sets_seen (g.V.View.graph c.args.view.now) starts c.args.sets.seen c.args.sets.rows.items are c.args.at (c.has.ensures.0 c.if-has.true)

pub returns-clause-more : goal.returns-clause-more
returns-clause-more g c = λ starts are.
    let h = g.V.View.graph c.args.view.now in
    let set = c.in_ok-set.set in
    let of_set : (v : Point) → Contains set v ↔ AreOfOneSet h c.args.at v = c.in_ok-set.ensures.reached in
    let found : GoesOn (Contains set) c.args.sets.seen c.in_ok-seen.seen = rw (← c.points.ensures) c.in_ok-seen.ensures in
    sets_more h starts c.args.sets.seen c.args.sets.rows.items are c.args.at set c.in_ok-seen.seen c.add_rows_of.new.rows.items of_set c.in_ok-add_rows_of.ensures.rows found
