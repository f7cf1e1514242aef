-- The gate behind the list is closed, or the new string stands whole behind it.
use Rattle.pj_journal.proofs.Appends.{torn_tail}
use Rattle.pj_journal.proofs.laws.torn_tail_never_returns.Goals as goal

pub returns : goal.returns
returns c = torn_tail
