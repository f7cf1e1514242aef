use Rattle.pj_view.proofs.TextRanges.{end_or_none}
use Rattle.pj_view.proofs.view.SetView.end_of.Goals as goal

pub returns : goal.returns
returns c = end_or_none c.args.self.now c.list-list.ensures.lawful c.cuts.result.now c.cuts.ensures c.args.at c.end_of.result c.end_of.ensures
