-- Each turn of the loop is one share more.
use Rattle.std.proofs.Common.{◌≡◌, ◌+◌, List, length, ◌∙◌, ap, arith}
use Rattle.std.proofs.lemmas.List.{length_push}
use Rattle.pj_serve.specs.Shares.{share}
use Rattle.pj_serve.proofs.ShareLemmas.{shares_next}
use Rattle.pj_serve.proofs.shares.shares.Goals as goal
use Rattle.pj_serve.proofs.shares.shares.Goals.{then-worker-more, else-worker-more}

pub loop-worker-preserved : goal.loop-worker-preserved
loop-worker-preserved c =
    let before = c.loop-worker.invariant in
    let pushed = c.push_reserved.ensures.items in
    let room = before.room in
    let same = c.push_reserved.ensures.capacity in
    let is : c.if-worker-more.push_reserved ≡ share c.args.sessions c.args.workers c.loop-worker.worker =
    elim c.if-worker-more.branch [
      | then-worker-more w ↦ grind (arith, w.if-worker-more, w.push_reserved-is)
      | else-worker-more w ↦ grind (arith, w.if-worker-more, w.push_reserved-is)
    ] in
    record {
      items = shares_next _ _ _ _ _ _ _ c.loop-worker-test.true before.items pushed is;
      count = ap (λ (l : List _). length l) pushed ∙ length_push c.loop-worker.shares.items _ ∙ ap (λ n. n + 1) before.count;
      room = omega arith;
    }
