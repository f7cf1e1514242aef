use Rattle.std.proofs.Common.{◌∙◌, sym, ap}
use Rattle.pj_change.specs.OneText.{all_agree}
use Rattle.pj_change.specs.Runs.{brought_by}
use Rattle.pj_channel.proofs.Texts.{agree_nothing, brings_none}
use Rattle.pj_channel.proofs.one_text.bring_agreeing.Goals as goal

pub returns-in_default-2 : goal.returns-in_default-2
returns-in_default-2 c =
    let brought = brought_by c.args.operation.now in
    sym (ap (all_agree brought) (brings_none c.args.other.now c.in_default.not-Apply-1 c.in_default.not-Pull-1) ∙ agree_nothing brought)
