use Rattle.pj_change.proofs.DistinctRecords.{lawful_distinct}
use Rattle.pj_view.proofs.view.SetView.is_contested.Goals as goal

pub returns : goal.returns
returns c = (let S = c.args.self.now in c.contested.ensures.set S (lawful_distinct S c.list-list.ensures.lawful) c.contests.ensures)
