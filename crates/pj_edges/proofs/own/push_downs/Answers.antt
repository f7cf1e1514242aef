use Rattle.std.proofs.Common.{◌≡◌, ◌∙◌, ◌++◌, refl, length, get_or, arith}
use Rattle.std.proofs.lemmas.List.Elements.{Contains-get_or}
use Rattle.pj_change.specs.declared.point.Place.TheVariants.{At}
use Rattle.pj_change.specs.declared.point.Ref.TheVariants.{Root}
use Rattle.pj_change.specs.declared.graph.Label.TheVariants.{Order}
use Rattle.pj_change.specs.Positions.{resolve, own_point}
use Rattle.pj_rows.proofs.Gathered.{gathered_more, gathered_all}
use Rattle.pj_edges.specs.OwnRows.{row_to}
use Rattle.pj_edges.proofs.own.push_downs.Goals as goal

pub resolve-requires : goal.resolve-requires
resolve-requires c = c.requires (get_or c.args.downs.now c.loop-down.down-index Root) (Contains-get_or c.args.downs.now c.loop-down.down-index Root c.loop-down-test.true)

pub loop-down-preserved : goal.loop-down-preserved
loop-down-preserved c =
    gathered_more (λ down. row_to c.args.«record».now.name Order (At (own_point c.args.«record».now c.args.last)) (resolve c.args.«record».now down)) c.args.downs.now c.loop-down.down-index (get_or c.args.downs.now c.loop-down.down-index Root) Root c.loop-down-test.true refl
    c.args.rows.now.items c.loop-down.rows.items _ c.loop-down.invariant (c.in_ok-push_row.ensures ∙ (λ j. c.loop-down.rows.items ++ row_to c.args.«record».now.name Order (c.own_place.ensures j) (c.resolve.ensures j)))

pub returns : goal.returns
returns c =
    let all : length c.args.downs.now ≡ c.loop-down.down-index = omega arith in
    gathered_all (λ down. row_to c.args.«record».now.name Order (At (own_point c.args.«record».now c.args.last)) (resolve c.args.«record».now down)) c.args.downs.now c.loop-down.down-index all c.args.rows.now.items c.loop-down.rows.items c.loop-down.invariant
