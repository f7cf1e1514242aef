use Rattle.std.proofs.Common.{◌≡◌, length, ap, arith}
use Rattle.pj_change.specs.declared.hunk.Hunk.{Hunk}
use Rattle.pj_change.proofs.Gathering.{numbers_none, numbers_more, numbers_all}
use Rattle.pj_change.proofs.PositionLemmas.{hunk_read}
use Rattle.pj_output.specs.Blocks.{IsBlockBy}
use Rattle.pj_output.proofs.BlockTexts.{block_added}
use Rattle.pj_output.proofs.blocks.add_blocks.Goals as goal

pub loop-hunk-init : goal.loop-hunk-init
loop-hunk-init c = record { place = omega arith; added = numbers_none (IsBlockBy c.args.owner.now) c.args.blocks.now.items }

pub add_block-requires : goal.add_block-requires
add_block-requires c =
    let h = hunk_read c.args.owner.now c.items-hunk-items.result.now c.loop-hunk.hunk-index c.hunk-item.result c.items-hunk-items.ensures c.hunk-item.is c.loop-hunk-test.true in
    omega (arith, h.small, c.loop-hunk.invariant.place)

pub overflow_cast-first : goal.overflow_cast-first
overflow_cast-first c =
    let h = hunk_read c.args.owner.now c.items-hunk-items.result.now c.loop-hunk.hunk-index c.hunk-item.result c.items-hunk-items.ensures c.hunk-item.is c.loop-hunk-test.true in
    omega (arith, h.small, c.position_count.ensures)

pub overflow_add-first : goal.overflow_add-first
overflow_add-first c =
    let h = hunk_read c.args.owner.now c.items-hunk-items.result.now c.loop-hunk.hunk-index c.hunk-item.result c.items-hunk-items.ensures c.hunk-item.is c.loop-hunk-test.true in
    omega (arith, h.small, c.position_count.ensures, c.loop-hunk.invariant.place)

pub loop-hunk-preserved : goal.loop-hunk-preserved
loop-hunk-preserved c =
    let r = c.args.owner.now in
    let i = c.loop-hunk.hunk-index in
    let hunk = c.hunk-item.result in
    let h = hunk_read r c.items-hunk-items.result.now i hunk c.items-hunk-items.ensures c.hunk-item.is c.loop-hunk-test.true in
    let at = c.loop-hunk.invariant.place in
    let size = c.position_count.ensures in
    let next = h.next in
    record {
      place = omega (arith, at, size, next);
      added = numbers_more (IsBlockBy r) i c.args.blocks.now.items c.loop-hunk.blocks.items c.add_block.new.blocks.items c.loop-hunk.invariant.added
          (block_added r i c.loop-hunk.first hunk h.there at c.loop-hunk.blocks.items c.add_block.new.blocks.items c.in_ok-add_block.ensures);
    }

pub returns : goal.returns
returns c =
    let all : length c.args.owner.now.change.hunks ≡ c.loop-hunk.hunk-index = omega (arith, ap (length {A = Hunk}) c.items-hunk-items.ensures) in
    numbers_all (IsBlockBy c.args.owner.now) c.loop-hunk.hunk-index _ all c.args.blocks.now.items c.loop-hunk.blocks.items c.loop-hunk.invariant.added
