use Rattle.std.proofs.Common.{◌+◌, List, length, ap, ◌∙◌, arith}
use Rattle.std.proofs.lemmas.List.{length_push}
use Rattle.pj_serve.proofs.Openings.{keeps_on, script_pushed, script_lacks}
use Rattle.pj_serve.proofs.opening.open_scripts.Goals as goal

pub loop-path-preserved : goal.loop-path-preserved
loop-path-preserved g c =
    let before = c.loop-path.invariant in
    let count = before.count in
    let room = before.room in
    let pushed = c.push_reserved.ensures in
    let same = pushed.capacity in
    record {
      count = ap (λ (l : List _). length l) pushed.items ∙ length_push c.loop-path.opened.items _ ∙ ap (λ n. n + 1) count;
      room = omega arith;
      office = keeps_on _ _ _ _ before.office c.in-Ok.ensures.office;
      each = script_pushed _ _ _ _ _ _ _ _ _ c.path-item.result _ before.office count pushed.items c.loop-path-test.true c.path-item.is c.as_str.ensures.value c.in-Ok.ensures.opened before.each;
    }

pub returns-in-Err-clause-refused : goal.returns-in-Err-clause-refused
returns-in-Err-clause-refused g c =
    let before = c.loop-path.invariant in
    script_lacks _ _ _ _ _ before.office _ _ _ c.path-item.result _ before.count c.loop-path-test.true c.path-item.is c.as_str.ensures.value before.each _ _ c.in-Err.ensures.refused
