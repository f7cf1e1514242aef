use Rattle.std.proofs.Common.{◌≡◌, ◌∙◌, ◌<◌, ap, subst, refl, length, get_or, arith}
use Rattle.pj_change.specs.declared.hunk.Hunk.{Hunk}
use Rattle.pj_change.proofs.Members.{member_at}
use Rattle.pj_change.proofs.PositionLemmas.{hunk_read}
use Rattle.pj_cuts.proofs.BlockLengths.{none_gone, block_step, block_all, there_now}
use Rattle.pj_cuts.specs.Counted.{at_offset}
use Rattle.pj_name.specs.Name.{same_name}
use Rattle.pj_cuts.proofs.PointsGiven.{has_bytes}
use Rattle.pj_cuts.proofs.cuts.Cuts.without_blocks.Goals as goal

pub without_block-requires-clause-some : goal.without_block-requires-clause-some
without_block-requires-clause-some g c =
    let r = c.args.«record».now in
    let h = hunk_read r c.items-hunk-items.result.now c.loop-hunk.hunk-index c.hunk-item.result c.items-hunk-items.ensures c.hunk-item.is c.loop-hunk-test.true in
    has_bytes r c.hunk-item.result (member_at r.change.hunks c.loop-hunk.hunk-index c.hunk-item.result h.there)

pub overflow_cast-first : goal.overflow_cast-first
overflow_cast-first g c =
    let h = hunk_read c.args.«record».now c.items-hunk-items.result.now c.loop-hunk.hunk-index c.hunk-item.result c.items-hunk-items.ensures c.hunk-item.is c.loop-hunk-test.true in
    omega (arith, h.small, c.position_count.ensures)

pub overflow_add-first : goal.overflow_add-first
overflow_add-first g c =
    let h = hunk_read c.args.«record».now c.items-hunk-items.result.now c.loop-hunk.hunk-index c.hunk-item.result c.items-hunk-items.ensures c.hunk-item.is c.loop-hunk-test.true in
    omega (arith, h.small, c.position_count.ensures, c.loop-hunk.invariant.place)

pub without_block-requires-clause-there : goal.without_block-requires-clause-there
without_block-requires-clause-there g c =
    let r = c.args.«record».now in
    let i = c.loop-hunk.hunk-index in
    let h = c.hunk-item.result in
    let low = subst (λ hs. i < length hs) c.items-hunk-items.ensures c.loop-hunk-test.true in
    let is = subst (λ hs. h ≡ get_or hs i h) c.items-hunk-items.ensures c.hunk-item.is in
    there_now r.name r.change.hunks i h low is c.loop-hunk.first c.loop-hunk.invariant.place _ _ (c.loop-hunk.invariant.blocks (at_offset r.name c.loop-hunk.first)) (c.requires c.loop-hunk.first)

pub loop-hunk-init : goal.loop-hunk-init
loop-hunk-init g c =
    record {
      place = omega arith;
      blocks = λ p. (none_gone (same_name c.args.«record».now.name p.change) _ p.offset);
      counts = refl;
      cost = omega arith;
    }

pub loop-hunk-preserved : goal.loop-hunk-preserved
loop-hunk-preserved g c =
    let r = c.args.«record».now in
    let i = c.loop-hunk.hunk-index in
    let h = c.hunk-item.result in
    let low = subst (λ hs. i < length hs) c.items-hunk-items.ensures c.loop-hunk-test.true in
    let is = subst (λ hs. h ≡ get_or hs i h) c.items-hunk-items.ensures c.hunk-item.is in
    let at = hunk_read r c.items-hunk-items.result.now i h c.items-hunk-items.ensures c.hunk-item.is c.loop-hunk-test.true in
    record {
      place = omega (arith, c.loop-hunk.invariant.place, c.position_count.ensures, at.next);
      blocks = λ p. omega (arith, c.in_ok-now.ensures.blocks p, c.loop-hunk.invariant.blocks p, block_step r.name r.change.hunks i h low is c.loop-hunk.first c.loop-hunk.invariant.place p);
      counts = c.in_ok-now.ensures.counts ∙ c.loop-hunk.invariant.counts;
      cost = omega (arith, c.in_ok-now.ensures.cost, c.loop-hunk.invariant.cost);
    }

pub returns-clause-blocks : goal.returns-clause-blocks
returns-clause-blocks g c = λ p.
    let all : length c.args.«record».now.change.hunks ≡ c.loop-hunk.hunk-index = omega (arith, ap (length {A = Hunk}) c.items-hunk-items.ensures) in
    omega (arith, c.loop-hunk.invariant.blocks p, block_all (same_name c.args.«record».now.name p.change) c.args.«record».now.change.hunks c.loop-hunk.hunk-index all p.offset)

pub returns-clause-cost : goal.returns-clause-cost
returns-clause-cost g c =
    let all : length c.args.«record».now.change.hunks ≡ c.loop-hunk.hunk-index = omega (arith, ap (length {A = Hunk}) c.items-hunk-items.ensures) in
    omega (arith, c.loop-hunk.invariant.cost, all)
