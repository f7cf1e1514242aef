use Rattle.std.proofs.Common.{rules, ◌≡◌, true, false, arith, take, drop, suc, ◌++◌, ◌∷◌, []}
use Rattle.std.specs.Prelude.{◌<◌, length}
use Rattle.std.specs.Arc.{arc_value}
use Rattle.pj_change.specs.Shared.{records}
use Rattle.pj_plain.specs.UprootPass.{goes}
use Rattle.pj_change.proofs.SharedLists.{records_more, records_split}
use Rattle.pj_plain.proofs.UprootPass.{passed_out, passed_in, passed_same}
use Rattle.pj_plain.proofs.uproot.uprooted.Goals as goal
use Rattle.pj_plain.proofs.uproot.uprooted.Goals.{then-goes+in_ok-push, else-goes+in_ok-push_share}

pub loop-record-preserved : goal.loop-record-preserved
loop-record-preserved c =
    let shared = c.args.list.now in
    let i = c.loop-record.record-index in
    let a = c.record-item.result in
    let low : i < length shared = omega arith in
    let more = records_more shared i a low c.record-item.is in
    let split = records_split shared i a low c.record-item.is in
    let list = records shared in
    let before = records (take i shared) in
    let after = records (drop (suc i) shared) in
    let left = records c.loop-record.left.items in
    let gone = c.loop-record.gone.items in
    elim c.if-goes.branch [
      | then-goes+in_ok-push w ↦
          let yes : goes (arc_value a) c.args.name gone ≡ true = search rules in
          let l : records c.if-goes.left.items ≡ left = search rules in
          let g : c.if-goes.gone.items ≡ gone ++ (arc_value a).name ∷ [] = search rules in
          passed_same list c.args.name more l g (passed_out list c.args.name c.requires before (arc_value a) after split left gone c.loop-record.invariant yes)
      | else-goes+in_ok-push_share w ↦
          let no : goes (arc_value a) c.args.name gone ≡ false = search rules in
          let l : records c.if-goes.left.items ≡ left ++ arc_value a ∷ [] = search rules in
          let g : c.if-goes.gone.items ≡ gone = search rules in
          passed_same list c.args.name more l g (passed_in list c.args.name c.requires before (arc_value a) after split left gone c.loop-record.invariant no)
    ]
