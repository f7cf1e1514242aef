use Rattle.std.proofs.Common.{◌≡◌, ◌∙◌, ◌++◌, ap, refl, length, get_or, arith}
use Rattle.std.proofs.lemmas.List.Elements.{Contains-get_or}
use Rattle.pj_change.specs.declared.point.Ref.TheVariants.{Root}
use Rattle.pj_change.specs.Positions.{resolve}
use Rattle.pj_change.specs.CutCounts.{point_at}
use Rattle.pj_rows.proofs.Gathered.{gathered_more, gathered_all}
use Rattle.pj_cuts.proofs.points.push_downs.Goals as goal

pub resolve-requires : goal.resolve-requires
resolve-requires c = c.requires (get_or c.args.downs.now c.loop-down.down-index Root) (Contains-get_or c.args.downs.now c.loop-down.down-index Root c.loop-down-test.true)

pub loop-down-preserved : goal.loop-down-preserved
loop-down-preserved c =
    gathered_more (λ down. point_at (resolve c.args.«record».now down)) c.args.downs.now c.loop-down.down-index (get_or c.args.downs.now c.loop-down.down-index Root) Root c.loop-down-test.true refl
    c.args.points.now.items c.loop-down.points.items _ c.loop-down.invariant (c.in_ok-push_at.ensures ∙ ap (λ at. c.loop-down.points.items ++ point_at at) c.resolve.ensures)

pub returns : goal.returns
returns c =
    let all : length c.args.downs.now ≡ c.loop-down.down-index = omega arith in
    gathered_all (λ down. point_at (resolve c.args.«record».now down)) c.args.downs.now c.loop-down.down-index all c.args.points.now.items c.loop-down.points.items c.loop-down.invariant
