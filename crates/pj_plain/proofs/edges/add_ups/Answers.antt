use Rattle.std.proofs.Common.{◌≡◌, length, get_or, refl, subst, arith, []}
use Rattle.std.proofs.lemmas.List.Elements.{Contains-get_or}
use Rattle.pj_change.specs.declared.point.Place.{Place}
use Rattle.pj_change.specs.declared.point.Ref.{Ref}
use Rattle.pj_change.specs.declared.point.Ref.TheVariants.{Root}
use Rattle.pj_change.specs.declared.graph.Edge.{Edge}
use Rattle.pj_change.specs.Positions.{resolve}
use Rattle.pj_change.specs.RealEdges.{IsBlock}
use Rattle.pj_change.specs.Gathers.{Gathers, IsOfOne}
use Rattle.pj_change.specs.Shared.{records}
use Rattle.pj_change.proofs.Gathering.{gathers_none, of_none, of_more, of_all}
use Rattle.pj_plain.proofs.edges.add_ups.Goals as goal

pub loop-up-init : goal.loop-up-init
loop-up-init c =
    let P : Ref → Edge → Type 0 = λ up. IsBlock (records c.args.changes.now) c.args.r.now (resolve c.args.r.now up) c.args.first in
    gathers_none (IsOfOne P []) c.args.edges.now.items (of_none P)

pub resolve-requires : goal.resolve-requires
resolve-requires c = c.requires (get_or c.args.ups.now c.loop-up.up-index Root) (Contains-get_or c.args.ups.now c.loop-up.up-index Root c.loop-up-test.true)

pub loop-up-preserved : goal.loop-up-preserved
loop-up-preserved c =
    let r = c.args.r.now in
    let old = c.args.edges.now.items in
    let new = c.add_block.new.edges.items in
    let up = get_or c.args.ups.now c.loop-up.up-index Root in
    let P : Ref → Edge → Type 0 = λ up. IsBlock (records c.args.changes.now) r (resolve r up) c.args.first in
    of_more P c.args.ups.now c.loop-up.up-index up Root c.loop-up-test.true refl old c.loop-up.edges.items new c.loop-up.invariant
    (subst (λ (at : Place). Gathers (IsBlock (records c.args.changes.now) r at c.args.first) c.loop-up.edges.items new) c.resolve.ensures c.in_ok-add_block.ensures)

pub returns : goal.returns
returns c =
    let all : length c.args.ups.now ≡ c.loop-up.up-index = omega arith in
    of_all (λ up. IsBlock (records c.args.changes.now) c.args.r.now (resolve c.args.r.now up) c.args.first) c.args.ups.now c.loop-up.up-index all c.args.edges.now.items c.loop-up.edges.items c.loop-up.invariant
