use Rattle.pj_replies.proofs.Finding.{first_part, first_apart, second_whole, second_part, second_apart}
use Rattle.pj_replies.proofs.Replied.{stores}
use Rattle.pj_replies.proofs.lines.stored.Goals as goal

pub returns-in-Whole-stored_now : goal.returns-in-Whole-stored_now
returns-in-Whole-stored_now c =
    second_whole _ _ _ _ _ _ _ (stores c.args.name) c.args.bytes.now c.in-Whole.place c.in-Whole.at _ c.split_at.ensures.back c.in-Whole.ensures c.in-Whole-stored_now.reply c.in-Whole-stored_now.count c.in-Whole-stored_now.ensures

pub returns-in-Part-stored_now : goal.returns-in-Part-stored_now
returns-in-Part-stored_now c = second_part _ _ _ _ _ _ _ (stores c.args.name) c.args.bytes.now c.in-Whole.place c.in-Whole.at _ c.split_at.ensures.back c.in-Whole.ensures c.in-Part-stored_now.ensures

pub returns-in-Apart-stored_now : goal.returns-in-Apart-stored_now
returns-in-Apart-stored_now c = second_apart _ _ _ _ _ _ _ (stores c.args.name) c.args.bytes.now c.in-Whole.place c.in-Whole.at _ c.split_at.ensures.back c.in-Whole.ensures c.in-Apart-stored_now.ensures

pub returns-in-Part : goal.returns-in-Part
returns-in-Part c = first_part _ _ _ _ _ _ _ (stores c.args.name) c.args.bytes.now c.in-Part.ensures

pub returns-in-Apart : goal.returns-in-Apart
returns-in-Apart c = first_apart _ _ _ _ _ _ _ (stores c.args.name) c.args.bytes.now c.in-Apart.ensures
