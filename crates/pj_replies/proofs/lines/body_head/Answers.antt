use Rattle.pj_replies.proofs.Finding.{first_part, first_apart, second_whole, second_part, second_apart}
use Rattle.pj_replies.proofs.Replied.{lengths}
use Rattle.pj_replies.proofs.lines.body_head.Goals as goal

pub returns-in-Whole-number : goal.returns-in-Whole-number
returns-in-Whole-number c =
    second_whole _ _ _ _ _ _ _ lengths c.args.bytes.now c.in-Whole.place c.in-Whole.at _ c.split_at.ensures.back c.in-Whole.ensures c.in-Whole-number.length c.in-Whole-number.count c.in-Whole-number.ensures

pub returns-in-Part-number : goal.returns-in-Part-number
returns-in-Part-number c = second_part _ _ _ _ _ _ _ lengths c.args.bytes.now c.in-Whole.place c.in-Whole.at _ c.split_at.ensures.back c.in-Whole.ensures c.in-Part-number.ensures

pub returns-in-Apart-number : goal.returns-in-Apart-number
returns-in-Apart-number c = second_apart _ _ _ _ _ _ _ lengths c.args.bytes.now c.in-Whole.place c.in-Whole.at _ c.split_at.ensures.back c.in-Whole.ensures c.in-Apart-number.ensures

pub returns-in-Part : goal.returns-in-Part
returns-in-Part c = first_part _ _ _ _ _ _ _ lengths c.args.bytes.now c.in-Part.ensures

pub returns-in-Apart : goal.returns-in-Apart
returns-in-Apart c = first_apart _ _ _ _ _ _ _ lengths c.args.bytes.now c.in-Apart.ensures
