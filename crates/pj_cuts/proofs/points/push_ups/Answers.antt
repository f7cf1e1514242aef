use Rattle.std.proofs.Common.{◌≡◌, ◌∙◌, ◌++◌, sym, ap, subst, refl, length, get_or, arith}
use Rattle.std.proofs.lemmas.List.Elements.{Contains-get_or}
use Rattle.pj_change.specs.declared.point.Ref.TheVariants.{Root}
use Rattle.pj_change.specs.Positions.{resolve}
use Rattle.pj_change.specs.CutCounts.{point_after}
use Rattle.pj_rows.proofs.Gathered.{gathered_more, gathered_all}
use Rattle.pj_cuts.specs.CutsOf.{HasPositionAfter}
use Rattle.pj_cuts.proofs.points.push_ups.Goals as goal

pub resolve-requires : goal.resolve-requires
resolve-requires c = c.requires.numbered (get_or c.args.ups.now c.loop-up.up-index Root) (Contains-get_or c.args.ups.now c.loop-up.up-index Root c.loop-up-test.true)

pub push_after-requires : goal.push_after-requires
push_after-requires c =
    subst HasPositionAfter (sym c.resolve.ensures)
    (c.requires.after (get_or c.args.ups.now c.loop-up.up-index Root) (Contains-get_or c.args.ups.now c.loop-up.up-index Root c.loop-up-test.true))

pub loop-up-preserved : goal.loop-up-preserved
loop-up-preserved c =
    gathered_more (λ up. point_after (resolve c.args.«record».now up)) c.args.ups.now c.loop-up.up-index (get_or c.args.ups.now c.loop-up.up-index Root) Root c.loop-up-test.true refl
    c.args.points.now.items c.loop-up.points.items _ c.loop-up.invariant (c.in_ok-push_after.ensures ∙ ap (λ at. c.loop-up.points.items ++ point_after at) c.resolve.ensures)

pub returns : goal.returns
returns c =
    let all : length c.args.ups.now ≡ c.loop-up.up-index = omega arith in
    gathered_all (λ up. point_after (resolve c.args.«record».now up)) c.args.ups.now c.loop-up.up-index all c.args.points.now.items c.loop-up.points.items c.loop-up.invariant
