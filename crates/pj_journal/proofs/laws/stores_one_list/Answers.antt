-- The entries of two readings are the same, one by one.
use Rattle.pj_journal.proofs.Entries.{stores_one}
use Rattle.pj_journal.proofs.laws.stores_one_list.Goals as goal

pub returns : goal.returns
returns c = stores_one
