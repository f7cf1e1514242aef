use Rattle.std.proofs.Common.{◌∙◌, Some, None, refl, sym, subst}
use Rattle.pj_change.specs.declared.point.Point.{Point}
use Rattle.pj_edges.specs.Rows.{Rows}
use Rattle.pj_edges.specs.OwnRows.{AreRowsOf}
use Rattle.pj_output.specs.Targets.{LeadsTo}
use Rattle.pj_output.proofs.NextPoints.{left_less}
use Rattle.pj_output.proofs.PairWalks.{all_targets, target_among, goes_up, IsWalked, walk_starts, walk_goes, walk_ends}
use Rattle.pj_output.proofs.pairs.add_pairs.Goals as goal

pub loop-found-init : goal.loop-found-init
loop-found-init c = record {
  same = refl;
  walked = walk_starts (LeadsTo c.args.tables.now c.args.pseudo.now c.args.u.now) c.args.live.now c.args.from c.args.pairs.now.items c.next_target-found.result c.next_target-found.ensures.next;
}

pub next_target-found-requires-in-Some-clause-edges : goal.next_target-found-requires-in-Some-clause-edges
next_target-found-requires-in-Some-clause-edges c =
    subst (λ (rows : Rows). AreRowsOf c.args.tables.now rows) (sym (c.loop-found.invariant.same ∙ c.next_target-found.ensures.same)) c.requires.edges

pub loop-found-smaller : goal.loop-found-smaller
loop-found-smaller c =
    let S = c.args.tables.now in
    let rows = c.args.pseudo.now in
    let u = c.args.u.now in
    let p = c.in-Some.target in
    let w : IsWalked (LeadsTo S rows u) c.args.live.now c.args.from c.args.pairs.now.items c.loop-found.pairs.items (Some p) = rw c.in-Some.is at c.loop-found.invariant.walked in
    rw c.in-Some.is (left_less (all_targets S rows u) p c.next_target-found-in-Some.result (target_among S rows u p (w.is p refl))
    (goes_up (LeadsTo S rows u) c.args.live.now c.args.from p c.next_target-found-in-Some.result c.next_target-found-in-Some.ensures.next))

pub loop-found-preserved : goal.loop-found-preserved
loop-found-preserved c =
    let P : Point → Type 0 = LeadsTo c.args.tables.now c.args.pseudo.now c.args.u.now in
    let p = c.in-Some.target in
    let w : IsWalked P c.args.live.now c.args.from c.args.pairs.now.items c.loop-found.pairs.items (Some p) = rw c.in-Some.is at c.loop-found.invariant.walked in
    record {
      same = c.next_target-found-in-Some.ensures.same ∙ c.loop-found.invariant.same;
      walked = walk_goes P c.args.live.now c.args.from c.args.pairs.now.items c.loop-found.pairs.items c.add_pair.new.pairs.items p c.next_target-found-in-Some.result w c.in_ok-add_pair.ensures
          c.next_target-found-in-Some.ensures.next;
    }

pub returns-clause-pairs : goal.returns-clause-pairs
returns-clause-pairs c =
    let P : Point → Type 0 = LeadsTo c.args.tables.now c.args.pseudo.now c.args.u.now in
    let w : IsWalked P c.args.live.now c.args.from c.args.pairs.now.items c.loop-found.pairs.items None = rw c.in_default.is at c.loop-found.invariant.walked in
    walk_ends P c.args.live.now c.args.from c.args.pairs.now.items c.loop-found.pairs.items w
