use Rattle.std.proofs.Common.{◌↔◌, sym, arith, subst, List, []}
use Rattle.std.specs.Prelude.{Contains}
use Rattle.std.proofs.lemmas.List.Elements.{Contains-get_or}
use Rattle.pj_change.specs.declared.point.Point.{Point}
use Rattle.pj_change.specs.Gathers.{Gathers, IsOfOne}
use Rattle.pj_change.proofs.Gathering.{gathers_none, of_none, of_more, of_all, gathered}
use Rattle.pj_change.proofs.DeadPaths.{end_dead}
use Rattle.pj_dead.specs.declared.near.Way.TheVariants.{Back}
use Rattle.pj_dead.specs.DeadRows.{Enters}
use Rattle.pj_dead.specs.Searches.{Reaches}
use Rattle.pj_dead.proofs.EntryRows.{source_arrives, arrives_source}
use Rattle.pj_dead.proofs.across.far_sources.Goals as goal

pub loop-entry-init : goal.loop-entry-init
loop-entry-init g c =
    let P = Enters (g.V.View.graph c.args.view.now) in
    record { list = subst (λ (l : List Point). Gathers (IsOfOne P []) [] l) (sym c.new-list.ensures.items) (gathers_none (IsOfOne P []) [] (of_none P)); known = c.in_ok-entries.ensures.known }

pub add_sources-requires-clause-vertex : goal.add_sources-requires-clause-vertex
add_sources-requires-clause-vertex g c =
    let entries = c.points-entry-items.result.now in
    let entry = c.entry-item.result in
    let there : Contains entries entry = subst (Contains entries) (sym c.entry-item.is) (Contains-get_or entries c.loop-entry.entry-index entry c.loop-entry-test.true) in
    (end_dead ((c.in_ok-entries.ensures.reached entry).0 (subst (λ (l : List Point). Contains l entry) c.points-entry-items.ensures there))).vertex

pub loop-entry-preserved : goal.loop-entry-preserved
loop-entry-preserved g c =
    let entry = c.entry-item.result in
    record { list = of_more (Enters (g.V.View.graph c.args.view.now)) c.points-entry-items.result.now c.loop-entry.entry-index entry entry c.loop-entry-test.true c.entry-item.is [] c.loop-entry.list.items c.add_sources.new.list.items c.loop-entry.invariant.list c.in_ok-add_sources.ensures.sources; known = c.in_ok-add_sources.ensures.known }

pub returns-clause-sources : goal.returns-clause-sources
returns-clause-sources g c =
    let h = g.V.View.graph c.args.view.now in
    let entries = c.points-entry-items.result.now in
    let all = of_all (Enters h) entries c.loop-entry.entry-index (omega arith) [] c.loop-entry.list.items c.loop-entry.invariant.list in
    let are : (v : Point) → Contains entries v ↔ Reaches h Back c.args.at v = rw c.points-entry-items.ensures c.in_ok-entries.ensures.reached in
    λ p. (λ m. source_arrives h c.args.at entries are p (gathered (IsOfOne (Enters h) entries) c.loop-entry.list.items all p m), λ l. all.all p (arrives_source h c.args.at entries are p l))
