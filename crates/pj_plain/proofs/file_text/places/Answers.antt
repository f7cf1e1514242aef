use Rattle.std.proofs.Common.{◌≡◌, ◌≤◌, ◌+◌, Bool, true, false, length, take, filter, sym, ◌∙◌, subst, arith, length-take}
use Rattle.pj_change.specs.declared.graph.Vertex.{Vertex}
use Rattle.pj_change.specs.Shared.{records}
use Rattle.pj_plain.specs.LiveText.{is_live_in}
use Rattle.pj_plain.proofs.Places.{Placed, one_placed, one_left_out, count_low}
use Rattle.pj_plain.proofs.file_text.places.Goals.{then-is_live_in+in_ok-push, else-is_live_in+in_ok-push-2}
use Rattle.pj_plain.proofs.file_text.places.Goals as goal

pub overflow_add-count : goal.overflow_add-count
overflow_add-count c =
    let vs = c.args.set.now.vertices.now in
    let first = take c.loop-v.v-index vs in
    let low : length (filter (is_live_in (records c.args.set.now.changes.now) c.args.inode) first) ≤ length first = count_low (is_live_in (records c.args.set.now.changes.now) c.args.inode) first in
    omega (arith, low, length-take c.loop-v.v-index vs, c.loop-v.invariant.count_is, c.loop-v-test.true, c.requires)

pub loop-v-preserved : goal.loop-v-preserved
loop-v-preserved c =
    let vs = c.args.set.now.vertices.now in
    let test : Vertex → Bool = is_live_in (records c.args.set.now.changes.now) c.args.inode in
    let i = c.loop-v.v-index in
    let v = c.v-item.result in
    elim c.if-is_live_in.branch [
      | then-is_live_in+in_ok-push w ↦ rw (w.places-is, w.count-is) (
          let passes : test v ≡ true = sym c.is_live_in.ensures ∙ w.if-is_live_in.true in
          let count = c.loop-v.count in
          subst (Placed test vs (i + 1) (count + 1)) (sym w.in_ok-push.ensures.items)
          (one_placed test vs i v c.loop-v-test.true c.v-item.is count c.loop-v.places.items c.loop-v.invariant passes))
      | else-is_live_in+in_ok-push-2 w ↦ rw (w.places-is, w.count-is) (
          let fails : test v ≡ false = sym c.is_live_in.ensures ∙ w.if-is_live_in.false in
          let count = c.loop-v.count in
          subst (Placed test vs (i + 1) count) (sym w.in_ok-push-2.ensures.items)
          (one_left_out test vs i v c.loop-v-test.true c.v-item.is count c.loop-v.places.items c.loop-v.invariant fails))
    ]
