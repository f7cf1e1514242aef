use Rattle.std.proofs.lemmas.Result.{IfOk-weaker}
use Rattle.pj_change.proofs.SharedRecords.{shared_clones}
use Rattle.pj_plain.proofs.records.share_all.Goals as goal

pub returns : goal.returns
returns c = IfOk-weaker c.from_clones.result _ _ (λ v h. shared_clones c.args.list.now v.items h) c.from_clones.ensures.items
