use Rattle.std.proofs.Common.{sym}
use Rattle.pj_tree.proofs.Naming.{no_pairings, naming_dead}
use Rattle.pj_tree.proofs.Flags.{taken, taken_sorted}
use Rattle.pj_tree.proofs.pairings.pairings_of.Goals as goal
use Rattle.pj_tree.proofs.pairings.pairings_of.Goals.{in-Some+in_ok-add, in_default}

pub loop-row-init : goal.loop-row-init
loop-row-init g c = rw c.new-pairings.ensures.items (no_pairings _)

pub loop-row-preserved : goal.loop-row-preserved
loop-row-preserved g c =
    let i = c.loop-row.row-index in
    let row = c.row-item.result in
    let within = c.loop-row-test.true in
    let sorted = taken_sorted c.args.rows.now i row c.requires within (sym c.row-item.is) in
    rw (taken (λ r. r.now) c.args.rows.now i row within (sym c.row-item.is))
    (elim c.match-word_of.branch [
      | in-Some+in_ok-add w ↦ rw w.pairings-is (w.in_ok-add.ensures _ _ c.loop-row.invariant sorted (rw c.name.ensures at w.in-Some.ensures))
      | in_default w ↦ rw w.pairings-is (naming_dead _ _ _ _ c.loop-row.invariant (rw c.name.ensures at w.in_default.ensures))
    ])
