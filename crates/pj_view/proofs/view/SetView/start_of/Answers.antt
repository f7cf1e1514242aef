use Rattle.pj_view.proofs.TextRanges.{start_or_none}
use Rattle.pj_view.proofs.view.SetView.start_of.Goals as goal

pub returns : goal.returns
returns c = start_or_none c.args.self.now c.list-list.ensures.lawful c.cuts.result.now c.cuts.ensures c.args.at c.start_of.result c.start_of.ensures
