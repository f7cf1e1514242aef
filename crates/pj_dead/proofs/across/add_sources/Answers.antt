use Rattle.std.proofs.Common.{◌≡◌, sym, subst, List}
use Rattle.pj_change.specs.declared.point.Point.{Point}
use Rattle.pj_change.specs.Gathers.{Gathers, IsOfOne}
use Rattle.pj_change.proofs.Gathering.{gathers_alike}
use Rattle.pj_change.proofs.Members.{moved}
use Rattle.pj_dead.specs.DeadRows.{Enters}
use Rattle.pj_dead.specs.Known.{AreNeighbours}
use Rattle.pj_dead.proofs.Knowing.{source_enters, enters_source}
use Rattle.pj_dead.proofs.across.add_sources.Goals as goal

pub add_lasts-requires : goal.add_lasts-requires
add_lasts-requires g c = λ v m.
    let h = g.V.View.graph c.args.view.now in
    let are : AreNeighbours h c.args.at c.in-Some.neighbours.now = c.in_ok-learn.ensures.known.neighbours c.args.at c.in-Some.neighbours.now (sym c.in-Some.ensures) in
    ((are.ins.live v).0 (moved v c.deref.ensures.value m)).1.vertex

pub returns-clause-sources : goal.returns-clause-sources
returns-clause-sources g c =
    let h = g.V.View.graph c.args.view.now in
    let n = c.in-Some.neighbours.now in
    let are : AreNeighbours h c.args.at n = c.in_ok-learn.ensures.known.neighbours c.args.at n (sym c.in-Some.ensures) in
    let P : Point → Point → Type 0 = λ v z. h.last v ≡ z in
    let old = c.args.list.now.items in
    let new = c.add_lasts.new.list.items in
    let all : Gathers (IsOfOne P n.ins.live.items) old new = subst (λ (l : List Point). Gathers (IsOfOne P l) old new) c.deref.ensures.value c.in_ok-add_lasts.ensures in
    gathers_alike (IsOfOne P n.ins.live.items) (Enters h c.args.at) old new
    (source_enters h c.args.at n are (g.met.V.View.lawful c.args.view.now) c.requires.vertex) (enters_source h c.args.at n are (g.met.V.View.lawful c.args.view.now)) all
