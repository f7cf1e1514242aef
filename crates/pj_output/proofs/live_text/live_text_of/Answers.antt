use Rattle.std.proofs.Common.{[], sym, subst}
use Rattle.std.specs.List.{AllZip}
use Rattle.pj_change.specs.Gathers.{Gathers, IsOfOne}
use Rattle.pj_output.specs.Blocks.{IsBlockOf}
use Rattle.pj_output.specs.declared.blocks.Block.{Block}
use Rattle.pj_output.specs.LiveText.{AreLiveIn}
use Rattle.pj_output.proofs.BlockTexts.{blocks_told, blocks_moved}
use Rattle.pj_output.proofs.LiveTexts.{text_listed}
use Rattle.pj_output.proofs.live_text.live_text_of.Goals as goal

pub live_in_each-requires : goal.live_in_each-requires
live_in_each-requires c =
    let S = c.args.tables.now in
    let of = blocks_moved (IsOfOne IsBlockOf S) c.in_ok-blocks.blocks.items c.sort_blocks.new.blocks.items c.sort_blocks.ensures c.in_ok-blocks.ensures in
    blocks_told S c.deref.result.now (subst (Gathers (IsOfOne IsBlockOf S) []) (sym c.deref.ensures.value) of)

pub returns : goal.returns
returns c =
    let S = c.args.tables.now in
    let blocks = c.deref.result.now in
    let moved = blocks_moved (IsOfOne IsBlockOf S) c.in_ok-blocks.blocks.items c.sort_blocks.new.blocks.items c.sort_blocks.ensures c.in_ok-blocks.ensures in
    let of = subst (Gathers (IsOfOne IsBlockOf S) []) (sym c.deref.ensures.value) moved in
    let each = subst (AllZip (λ (b : Block) part. AreLiveIn S b b.past part.items) blocks) (sym c.deref-2.ensures.value) c.in_ok-parts.ensures in
    text_listed S c.list-list.ensures.lawful blocks of c.deref-2.result.now (λ part. part.items) each c.in_ok-entries.entries.items c.in_ok-entries.ensures
    c.sort_entries.new.entries.items c.keep_once.new.entries.items c.sort_entries.ensures.permutation c.sort_entries.ensures.sorted c.keep_once.ensures
