use Rattle.std.proofs.Common.{◌∙◌, map, sym, ap, subst}
use Rattle.std.proofs.lemmas.Result.{IfOk-weaker}
use Rattle.pj_change.specs.FileText.{IsLiveList}
use Rattle.pj_output.specs.declared.live_text.LiveVertex.{LiveVertex}
use Rattle.pj_output.proofs.LiveTexts.{live_listed}
use Rattle.pj_output.proofs.live_text.live_list.Goals as goal

pub returns : goal.returns
returns c =
    let S = c.args.tables.now in
    IfOk-weaker c.vertices_in.result _ _
    (λ live e. subst (IsLiveList S c.args.inode) (sym (e ∙ ap (map (λ (x : LiveVertex). x.vertex)) c.text_in.ensures)) (live_listed S c.args.entries.now c.requires c.args.inode)) c.vertices_in.ensures
