use Rattle.pj_replies.proofs.Finding.{first_part, first_apart, second_whole, second_part, second_apart}
use Rattle.pj_replies.proofs.Replied.{alreadies}
use Rattle.pj_replies.proofs.lines.already.Goals as goal

pub returns-in-Whole-fixed : goal.returns-in-Whole-fixed
returns-in-Whole-fixed c =
    second_whole _ _ _ _ _ _ _ alreadies c.args.bytes.now c.in-Whole.place c.in-Whole.at _ c.split_at.ensures.back c.in-Whole.ensures c.in-Whole-fixed.field-0 c.in-Whole-fixed.count c.in-Whole-fixed.ensures

pub returns-in-Part-fixed : goal.returns-in-Part-fixed
returns-in-Part-fixed c = second_part _ _ _ _ _ _ _ alreadies c.args.bytes.now c.in-Whole.place c.in-Whole.at _ c.split_at.ensures.back c.in-Whole.ensures c.in-Part-fixed.ensures

pub returns-in-Apart-fixed : goal.returns-in-Apart-fixed
returns-in-Apart-fixed c = second_apart _ _ _ _ _ _ _ alreadies c.args.bytes.now c.in-Whole.place c.in-Whole.at _ c.split_at.ensures.back c.in-Whole.ensures c.in-Apart-fixed.ensures

pub returns-in-Part : goal.returns-in-Part
returns-in-Part c = first_part _ _ _ _ _ _ _ alreadies c.args.bytes.now c.in-Part.ensures

pub returns-in-Apart : goal.returns-in-Apart
returns-in-Apart c = first_apart _ _ _ _ _ _ _ alreadies c.args.bytes.now c.in-Apart.ensures
