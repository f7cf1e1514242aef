use Rattle.std.proofs.Common.{◌≡◌, ◌<◌, ◌≤◌, length, sym, arith, subst, get_or}
use Rattle.std.specs.Prelude.{Contains}
use Rattle.std.proofs.lemmas.List.Elements.{Contains-get_or}
use Rattle.pj_change.proofs.Members.{moved}
use Rattle.pj_change.proofs.DeadPaths.{end_dead}
use Rattle.pj_dead.specs.Searches.{IsClosedTo}
use Rattle.pj_dead.proofs.Searching.{reached_first, reached_more, reached_short, closed_first, closed_more, all_reached}
use Rattle.pj_dead.proofs.search.reached.Goals as goal

pub loop-done-init : goal.loop-done-init
loop-done-init g c =
    let h = g.V.View.graph c.args.view.now in
    record {
      so_far = reached_first h c.args.way c.args.from c.requires.dead c.in_ok-found.found (rw c.new.ensures at c.in_ok-found.ensures);
      closed = closed_first h c.args.way c.args.from c.in_ok-found.found;
      known = c.requires.known;
    }

pub with_near-requires-clause-vertex : goal.with_near-requires-clause-vertex
with_near-requires-clause-vertex g c =
    let at = c.index-points-done.result in
    let there : Contains c.points-in-loop-done.result.now at = subst (Contains c.points-in-loop-done.result.now) (sym c.index-points-done.is) (Contains-get_or c.points-in-loop-done.result.now c.loop-done.done at (rw (c.points-in-loop-done.ensures, ← c.points.ensures) c.loop-done-test.true)) in
    (end_dead (c.loop-done.invariant.so_far.reached at (moved at c.points-in-loop-done.ensures there))).vertex

pub loop-done-smaller : goal.loop-done-smaller
loop-done-smaller g c =
    let h = g.V.View.graph c.args.view.now in
    let short = reached_short h c.args.way c.args.from (g.met.V.View.lawful c.args.view.now) c.loop-done.found c.loop-done.invariant.so_far in
    let low : c.loop-done.done < length c.loop-done.found = rw c.points.ensures at c.loop-done-test.true in
    omega (arith, short, low)

pub loop-done-preserved : goal.loop-done-preserved
loop-done-preserved g c =
    let h = g.V.View.graph c.args.view.now in
    let lawful = g.met.V.View.lawful c.args.view.now in
    let list = c.loop-done.found in
    let at = c.index-points-done.result in
    let low : c.loop-done.done < length list = rw c.points.ensures at c.loop-done-test.true in
    let is : at ≡ get_or list c.loop-done.done at = rw c.points-in-loop-done.ensures at c.index-points-done.is in
    let there : Contains list at = subst (Contains list) (sym is) (Contains-get_or list c.loop-done.done at low) in
    record {
      so_far = reached_more h c.args.way c.args.from lawful list c.in_ok-found-2.found at there c.loop-done.invariant.so_far c.in_ok-found-2.ensures.more;
      closed = closed_more h c.args.way c.args.from list c.in_ok-found-2.found c.loop-done.done at low is c.in_ok-found-2.ensures.more c.loop-done.invariant.closed;
      known = c.in_ok-found-2.ensures.known;
    }

pub returns-clause-reached : goal.returns-clause-reached
returns-clause-reached g c =
    let h = g.V.View.graph c.args.view.now in
    let high : length c.loop-done.found ≤ c.loop-done.done = rw c.points.ensures at c.loop-done-test.false in
    let e : c.loop-done.done ≡ length c.loop-done.found = omega (arith, high, c.loop-done.invariant.closed.within) in
    let closed : IsClosedTo h c.args.way c.loop-done.found (length c.loop-done.found) = subst (IsClosedTo h c.args.way c.loop-done.found) e c.loop-done.invariant.closed in
    all_reached h c.args.way c.args.from c.loop-done.found (g.met.V.View.lawful c.args.view.now) c.loop-done.invariant.so_far closed
