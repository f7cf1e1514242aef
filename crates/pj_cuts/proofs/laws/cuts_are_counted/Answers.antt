use Rattle.pj_cuts.proofs.SetTables.{counted_where_cut}
use Rattle.pj_cuts.proofs.laws.cuts_are_counted.Goals as goal

pub returns : goal.returns
returns c = counted_where_cut
