use Rattle.std.proofs.Common.{◌≡◌, ◌∙◌, ◌<◌, sym, ap, subst, length, get_or, arith}
use Rattle.std.proofs.lemmas.List.{take_all}
use Rattle.pj_change.specs.declared.hunk.Hunk.{Hunk}
use Rattle.pj_change.proofs.Members.{member_at}
use Rattle.pj_change.proofs.PositionLemmas.{hunk_read}
use Rattle.pj_edges.specs.OwnRows.{rows_from}
use Rattle.pj_edges.proofs.ListedRows.{rows_none, rows_more}
use Rattle.pj_edges.proofs.own.own_rows.Goals as goal

pub push_hunk-requires-clause-member : goal.push_hunk-requires-clause-member
push_hunk-requires-clause-member c =
    let h = hunk_read c.args.«record».now c.items-hunk-items.result.now c.loop-hunk.hunk-index c.hunk-item.result c.items-hunk-items.ensures c.hunk-item.is c.loop-hunk-test.true in
    member_at c.args.«record».now.change.hunks c.loop-hunk.hunk-index c.hunk-item.result h.there

pub push_hunk-requires-clause-low : goal.push_hunk-requires-clause-low
push_hunk-requires-clause-low c =
    let h = hunk_read c.args.«record».now c.items-hunk-items.result.now c.loop-hunk.hunk-index c.hunk-item.result c.items-hunk-items.ensures c.hunk-item.is c.loop-hunk-test.true in
    omega (arith, h.small, c.loop-hunk.invariant.place)

pub overflow_cast-first : goal.overflow_cast-first
overflow_cast-first c =
    let h = hunk_read c.args.«record».now c.items-hunk-items.result.now c.loop-hunk.hunk-index c.hunk-item.result c.items-hunk-items.ensures c.hunk-item.is c.loop-hunk-test.true in
    omega (arith, h.small, c.position_count.ensures)

pub overflow_add-first : goal.overflow_add-first
overflow_add-first c =
    let h = hunk_read c.args.«record».now c.items-hunk-items.result.now c.loop-hunk.hunk-index c.hunk-item.result c.items-hunk-items.ensures c.hunk-item.is c.loop-hunk-test.true in
    omega (arith, h.small, c.position_count.ensures, c.loop-hunk.invariant.place)

pub loop-hunk-init : goal.loop-hunk-init
loop-hunk-init c = record { place = omega arith; rows = c.new-rows.ensures.items ∙ sym (rows_none c.args.«record».now) }

pub loop-hunk-preserved : goal.loop-hunk-preserved
loop-hunk-preserved c =
    let r = c.args.«record».now in
    let i = c.loop-hunk.hunk-index in
    let h = c.hunk-item.result in
    let low = subst (λ hs. i < length hs) c.items-hunk-items.ensures c.loop-hunk-test.true in
    let is = subst (λ hs. h ≡ get_or hs i h) c.items-hunk-items.ensures c.hunk-item.is in
    let at = hunk_read c.args.«record».now c.items-hunk-items.result.now c.loop-hunk.hunk-index c.hunk-item.result c.items-hunk-items.ensures c.hunk-item.is c.loop-hunk-test.true in
    record {
      place = omega (arith, c.loop-hunk.invariant.place, c.position_count.ensures, at.next);
      rows = rows_more r r.change.hunks i h low is c.loop-hunk.first c.loop-hunk.invariant.place c.loop-hunk.rows.items _ c.loop-hunk.invariant.rows c.in_ok-push_hunk.ensures;
    }

pub returns : goal.returns
returns c =
    let r = c.args.«record».now in
    let all : length r.change.hunks ≡ c.loop-hunk.hunk-index = omega (arith, ap (length {A = Hunk}) c.items-hunk-items.ensures) in
    c.loop-hunk.invariant.rows ∙ ap (rows_from r 0) (take_all c.loop-hunk.hunk-index r.change.hunks (omega arith))
