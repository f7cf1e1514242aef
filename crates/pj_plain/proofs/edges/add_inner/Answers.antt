use Rattle.std.proofs.Common.{◌≡◌, ◌<◌, sym, ◌∙◌, ap, subst, arith}
use Rattle.pj_change.specs.declared.point.Point.{Point}
use Rattle.pj_change.specs.declared.point.Place.TheVariants as placed
use Rattle.pj_change.specs.Positions.{own_point}
use Rattle.pj_change.specs.Vertices.{is_cut}
use Rattle.pj_change.specs.RealEdges.{IsBlock}
use Rattle.pj_change.specs.Gathers.{Gathers}
use Rattle.pj_change.specs.GraphParts.{IsInner}
use Rattle.pj_change.specs.Shared.{records}
use Rattle.pj_change.proofs.GatheredEdges.{inner_none, inner_cut, inner_uncut}
use Rattle.pj_plain.proofs.edges.add_inner.Goals.{then-is_cut+in_ok-add_block, else-is_cut}
use Rattle.pj_plain.proofs.edges.add_inner.Goals as goal

pub loop-at-init : goal.loop-at-init
loop-at-init c = inner_none (records c.args.changes.now) c.args.r.now c.args.first c.args.edges.now.items

pub loop-at-preserved : goal.loop-at-preserved
loop-at-preserved c =
    let S = records c.args.changes.now in
    let r = c.args.r.now in
    let first = c.args.first in
    let at = c.loop-at.at in
    let old = c.args.edges.now.items in
    let middle = c.loop-at.edges.items in
    let told : c.is_cut.result ≡ is_cut S (own_point r at) = c.is_cut.ensures ∙ ap (is_cut S) c.own_point.ensures in
    let after : first < at = omega arith in
    elim c.if-is_cut.branch [
      | then-is_cut+in_ok-add_block w ↦ (
          let new = w.add_block.new.edges.items in
          let block = subst (λ (p : Point). Gathers (IsBlock S r (placed.At p) at) middle new) w.own_point-then-is_cut.ensures w.in_ok-add_block.ensures in
          rw w.edges-is (inner_cut S r first at old middle new after (sym told ∙ w.if-is_cut.true) c.loop-at.invariant block))
      | else-is_cut w ↦ rw w.edges-is (inner_uncut S r first at old middle (sym told ∙ w.if-is_cut.false) c.loop-at.invariant)
    ]

pub returns : goal.returns
returns c =
    let all : c.loop-at.at ≡ c.args.past = omega arith in
    subst (λ n. Gathers (IsInner (records c.args.changes.now) c.args.r.now c.args.first n) c.args.edges.now.items c.loop-at.edges.items) all c.loop-at.invariant
