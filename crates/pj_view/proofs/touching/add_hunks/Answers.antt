use Rattle.std.proofs.Common.{◌≡◌, ◌<◌, length, get_or, subst}
use Rattle.pj_change.proofs.Members.{member_at}
use Rattle.pj_change.proofs.PositionLemmas.{hunk_read}
use Rattle.pj_view.specs.Added.{IsCovered}
use Rattle.pj_view.proofs.Additions.{entry_stays, none_yet, one_more, all_added}
use Rattle.pj_view.proofs.touching.add_hunks.Goals as goal

pub add_hunk-requires : goal.add_hunk-requires
add_hunk-requires c =
    let h = hunk_read c.args.«record».now c.items-hunk-items.result.now c.loop-hunk.hunk-index c.hunk-item.result c.items-hunk-items.ensures c.hunk-item.is c.loop-hunk-test.true in
    member_at c.args.«record».now.change.hunks c.loop-hunk.hunk-index c.hunk-item.result h.there

pub loop-hunk-init : goal.loop-hunk-init
loop-hunk-init c = none_yet c.args.«record».now.change.hunks (IsCovered c.args.«record».now) c.args.points.now.items

pub loop-hunk-preserved : goal.loop-hunk-preserved
loop-hunk-preserved c =
    let r = c.args.«record».now in
    let i = c.loop-hunk.hunk-index in
    let h = c.hunk-item.result in
    let low = subst (λ hs. i < length hs) c.items-hunk-items.ensures c.loop-hunk-test.true in
    let is = subst (λ hs. h ≡ get_or hs i h) c.items-hunk-items.ensures c.hunk-item.is in
    one_more (entry_stays c.args.view.now) r.change.hunks (IsCovered r) c.args.points.now.items c.loop-hunk.points.items _ i h low is c.loop-hunk.invariant c.in_ok-add_hunk.ensures

pub returns : goal.returns
returns c =
    let r = c.args.«record».now in
    all_added r.change.hunks (IsCovered r) c.args.points.now.items c.loop-hunk.points.items c.loop-hunk.hunk-index (rw c.items-hunk-items.ensures at c.loop-hunk-test.false) c.loop-hunk.invariant
