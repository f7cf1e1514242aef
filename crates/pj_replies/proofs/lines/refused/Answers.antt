use Rattle.pj_replies.proofs.Finding.{first_part, first_apart, second_whole, second_part, second_apart}
use Rattle.pj_replies.proofs.Replied.{refusals}
use Rattle.pj_replies.proofs.lines.refused.Goals as goal

pub returns-in-Whole-reason : goal.returns-in-Whole-reason
returns-in-Whole-reason c =
    second_whole _ _ _ _ _ _ _ (refusals c.args.due) c.args.bytes.now c.in-Whole.place c.in-Whole.at _ c.split_at.ensures.back c.in-Whole.ensures c.in-Whole-reason.refusal c.in-Whole-reason.count c.in-Whole-reason.ensures

pub returns-in-Part-reason : goal.returns-in-Part-reason
returns-in-Part-reason c = second_part _ _ _ _ _ _ _ (refusals c.args.due) c.args.bytes.now c.in-Whole.place c.in-Whole.at _ c.split_at.ensures.back c.in-Whole.ensures c.in-Part-reason.ensures

pub returns-in-Apart-reason : goal.returns-in-Apart-reason
returns-in-Apart-reason c = second_apart _ _ _ _ _ _ _ (refusals c.args.due) c.args.bytes.now c.in-Whole.place c.in-Whole.at _ c.split_at.ensures.back c.in-Whole.ensures c.in-Apart-reason.ensures

pub returns-in-Part : goal.returns-in-Part
returns-in-Part c = first_part _ _ _ _ _ _ _ (refusals c.args.due) c.args.bytes.now c.in-Part.ensures

pub returns-in-Apart : goal.returns-in-Apart
returns-in-Apart c = first_apart _ _ _ _ _ _ _ (refusals c.args.due) c.args.bytes.now c.in-Apart.ensures
