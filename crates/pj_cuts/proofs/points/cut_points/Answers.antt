use Rattle.std.proofs.Common.{◌≡◌, ◌<◌, [], ap, subst, length, get_or, arith}
use Rattle.pj_change.specs.declared.hunk.Hunk.{Hunk}
use Rattle.pj_change.specs.CutCounts as counted
use Rattle.pj_change.proofs.Members.{member_at}
use Rattle.pj_change.proofs.PositionLemmas.{hunk_read}
use Rattle.pj_rows.proofs.Gathered.{gathered_more, gathered_all}
use Rattle.pj_cuts.proofs.points.cut_points.Goals as goal

pub push_hunk-requires-clause-member : goal.push_hunk-requires-clause-member
push_hunk-requires-clause-member c =
    let r = c.args.«record».now in
    let h = hunk_read r c.items-hunk-items.result.now c.loop-hunk.hunk-index c.hunk-item.result c.items-hunk-items.ensures c.hunk-item.is c.loop-hunk-test.true in
    member_at r.change.hunks c.loop-hunk.hunk-index c.hunk-item.result h.there

pub push_hunk-requires-clause-after : goal.push_hunk-requires-clause-after
push_hunk-requires-clause-after c =
    let r = c.args.«record».now in
    let h = hunk_read r c.items-hunk-items.result.now c.loop-hunk.hunk-index c.hunk-item.result c.items-hunk-items.ensures c.hunk-item.is c.loop-hunk-test.true in
    c.requires c.hunk-item.result (member_at r.change.hunks c.loop-hunk.hunk-index c.hunk-item.result h.there)

pub loop-hunk-preserved : goal.loop-hunk-preserved
loop-hunk-preserved c =
    let r = c.args.«record».now in
    let i = c.loop-hunk.hunk-index in
    let h = c.hunk-item.result in
    gathered_more (counted.cut_points r) r.change.hunks i h h (subst (λ hs. i < length hs) c.items-hunk-items.ensures c.loop-hunk-test.true) (subst (λ hs. h ≡ get_or hs i h) c.items-hunk-items.ensures c.hunk-item.is)
    [] c.loop-hunk.points.items _ c.loop-hunk.invariant c.in_ok-push_hunk.ensures

pub returns : goal.returns
returns c =
    let all : length c.args.«record».now.change.hunks ≡ c.loop-hunk.hunk-index = omega (arith, ap (length {A = Hunk}) c.items-hunk-items.ensures) in
    gathered_all (counted.cut_points c.args.«record».now) c.args.«record».now.change.hunks c.loop-hunk.hunk-index all [] c.loop-hunk.points.items c.loop-hunk.invariant
