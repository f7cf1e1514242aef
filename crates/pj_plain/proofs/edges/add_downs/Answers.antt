use Rattle.std.proofs.Common.{◌≡◌, length, get_or, refl, subst, arith, []}
use Rattle.std.proofs.lemmas.List.Elements.{Contains-get_or}
use Rattle.pj_change.specs.declared.point.Point.{Point}
use Rattle.pj_change.specs.declared.point.Place.{Place}
use Rattle.pj_change.specs.declared.point.Place.TheVariants as placed
use Rattle.pj_change.specs.declared.point.Ref.{Ref}
use Rattle.pj_change.specs.declared.point.Ref.TheVariants as ref
use Rattle.pj_change.specs.declared.graph.Edge.{Edge}
use Rattle.pj_change.specs.Positions.{own_point, resolve}
use Rattle.pj_change.specs.RealEdges.{IsOrder}
use Rattle.pj_change.specs.Gathers.{Gathers, IsOfOne}
use Rattle.pj_change.proofs.Gathering.{gathers_none, of_none, of_more, of_all}
use Rattle.pj_plain.proofs.edges.add_downs.Goals as goal

pub loop-down-init : goal.loop-down-init
loop-down-init c =
    let P : Ref → Edge → Type 0 = λ down. IsOrder c.args.r.now (placed.At (own_point c.args.r.now c.args.last)) (resolve c.args.r.now down) in
    gathers_none (IsOfOne P []) c.args.edges.now.items (of_none P)

pub resolve-requires : goal.resolve-requires
resolve-requires c = c.requires (get_or c.args.downs.now c.loop-down.down-index ref.Root) (Contains-get_or c.args.downs.now c.loop-down.down-index ref.Root c.loop-down-test.true)

pub loop-down-preserved : goal.loop-down-preserved
loop-down-preserved c =
    let r = c.args.r.now in
    let old = c.args.edges.now.items in
    let new = c.add_order.new.edges.items in
    let down = get_or c.args.downs.now c.loop-down.down-index ref.Root in
    let P : Ref → Edge → Type 0 = λ down. IsOrder r (placed.At (own_point r c.args.last)) (resolve r down) in
    of_more P c.args.downs.now c.loop-down.down-index down ref.Root c.loop-down-test.true refl old c.loop-down.edges.items new c.loop-down.invariant
    (subst (λ (at : Place). Gathers (IsOrder r (placed.At (own_point r c.args.last)) at) c.loop-down.edges.items new) c.resolve.ensures
    (subst (λ (p : Point). Gathers (IsOrder r (placed.At p) c.resolve.result) c.loop-down.edges.items new) c.own_point.ensures c.in_ok-add_order.ensures))

pub returns : goal.returns
returns c =
    let all : length c.args.downs.now ≡ c.loop-down.down-index = omega arith in
    of_all (λ down. IsOrder c.args.r.now (placed.At (own_point c.args.r.now c.args.last)) (resolve c.args.r.now down)) c.args.downs.now c.loop-down.down-index all c.args.edges.now.items c.loop-down.edges.items c.loop-down.invariant
