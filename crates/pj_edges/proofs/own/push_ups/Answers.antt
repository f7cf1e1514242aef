use Rattle.std.proofs.Common.{◌≡◌, ◌∙◌, ◌++◌, refl, length, get_or, arith}
use Rattle.std.proofs.lemmas.List.Elements.{Contains-get_or}
use Rattle.pj_change.specs.declared.point.Place.TheVariants.{At}
use Rattle.pj_change.specs.declared.point.Ref.TheVariants.{Root}
use Rattle.pj_change.specs.declared.graph.Label.TheVariants.{Block}
use Rattle.pj_change.specs.Positions.{resolve, own_point}
use Rattle.pj_rows.proofs.Gathered.{gathered_more, gathered_all}
use Rattle.pj_edges.specs.OwnRows.{row_to}
use Rattle.pj_edges.proofs.own.push_ups.Goals as goal

pub resolve-requires : goal.resolve-requires
resolve-requires c = c.requires (get_or c.args.ups.now c.loop-up.up-index Root) (Contains-get_or c.args.ups.now c.loop-up.up-index Root c.loop-up-test.true)

pub loop-up-preserved : goal.loop-up-preserved
loop-up-preserved c =
    gathered_more (λ up. row_to c.args.«record».now.name Block (resolve c.args.«record».now up) (At (own_point c.args.«record».now c.args.first))) c.args.ups.now c.loop-up.up-index (get_or c.args.ups.now c.loop-up.up-index Root) Root c.loop-up-test.true refl
    c.args.rows.now.items c.loop-up.rows.items _ c.loop-up.invariant (c.in_ok-push_row.ensures ∙ (λ j. c.loop-up.rows.items ++ row_to c.args.«record».now.name Block (c.resolve.ensures j) (c.own_place.ensures j)))

pub returns : goal.returns
returns c =
    let all : length c.args.ups.now ≡ c.loop-up.up-index = omega arith in
    gathered_all (λ up. row_to c.args.«record».now.name Block (resolve c.args.«record».now up) (At (own_point c.args.«record».now c.args.first))) c.args.ups.now c.loop-up.up-index all c.args.rows.now.items c.loop-up.rows.items c.loop-up.invariant
