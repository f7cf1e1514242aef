use Rattle.std.proofs.Common.{sym, subst}
use Rattle.std.proofs.lemmas.Result.{IfOk-weaker}
use Rattle.pj_change.specs.FileText.{IsLiveList}
use Rattle.pj_change.specs.Shared.{records}
use Rattle.pj_plain.proofs.LiveTexts.{live_listed}
use Rattle.pj_plain.proofs.file_text.live_list.Goals as goal

pub returns : goal.returns
returns c =
    let S = records c.args.set.now.changes.now in
    IfOk-weaker c.live_among.result _ _
    (λ live e. subst (IsLiveList S c.args.inode) (sym e) (live_listed S c.args.set.now.vertices.now c.requires.vertices c.args.inode)) c.live_among.ensures
