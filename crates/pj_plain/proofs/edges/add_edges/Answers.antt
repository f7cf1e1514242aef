use Rattle.std.proofs.Common.{◌≡◌, length, ap, arith}
use Rattle.pj_change.specs.declared.hunk.Hunk.{Hunk}
use Rattle.pj_change.specs.Shared.{records}
use Rattle.pj_change.proofs.PositionLemmas.{hunk_read}
use Rattle.pj_change.proofs.GatheredEdges.{said_none, said_more, said_all}
use Rattle.pj_plain.proofs.edges.add_edges.Goals as goal

pub loop-hunk-init : goal.loop-hunk-init
loop-hunk-init c = record { place = omega arith; added = said_none (records c.args.changes.now) c.args.r.now c.args.edges.now.items }

pub loop-hunk-preserved : goal.loop-hunk-preserved
loop-hunk-preserved c =
    let r = c.args.r.now in
    let i = c.loop-hunk.hunk-index in
    let hunk = c.hunk-item.result in
    let h = hunk_read r c.items-hunk-items.result.now i hunk c.items-hunk-items.ensures c.hunk-item.is c.loop-hunk-test.true in
    let at = c.loop-hunk.invariant.place in
    let size = c.position_count.ensures in
    let next = h.next in
    record {
      place = omega (arith, at, size, next);
      added = said_more (records c.args.changes.now) r i c.loop-hunk.first hunk h.there at c.args.edges.now.items c.loop-hunk.edges.items c.add_hunk.new.edges.items c.loop-hunk.invariant.added c.in_ok-add_hunk.ensures;
    }

pub add_hunk-requires-clause-small : goal.add_hunk-requires-clause-small
add_hunk-requires-clause-small c =
    let h = hunk_read c.args.r.now c.items-hunk-items.result.now c.loop-hunk.hunk-index c.hunk-item.result c.items-hunk-items.ensures c.hunk-item.is c.loop-hunk-test.true in
    omega (arith, h.small, c.loop-hunk.invariant.place)

pub overflow_cast-first : goal.overflow_cast-first
overflow_cast-first c =
    let h = hunk_read c.args.r.now c.items-hunk-items.result.now c.loop-hunk.hunk-index c.hunk-item.result c.items-hunk-items.ensures c.hunk-item.is c.loop-hunk-test.true in
    omega (arith, h.small, c.position_count.ensures)

pub overflow_add-first : goal.overflow_add-first
overflow_add-first c =
    let h = hunk_read c.args.r.now c.items-hunk-items.result.now c.loop-hunk.hunk-index c.hunk-item.result c.items-hunk-items.ensures c.hunk-item.is c.loop-hunk-test.true in
    omega (arith, h.small, c.position_count.ensures, c.loop-hunk.invariant.place)

pub returns : goal.returns
returns c =
    let all : length c.args.r.now.change.hunks ≡ c.loop-hunk.hunk-index = omega (arith, ap (length {A = Hunk}) c.items-hunk-items.ensures) in
    said_all (records c.args.changes.now) c.args.r.now c.loop-hunk.hunk-index all c.args.edges.now.items c.loop-hunk.edges.items c.loop-hunk.invariant.added
