use Rattle.pj_load.proofs.Numbered.{all_numbered}
use Rattle.pj_load.proofs.journal.journal_of.Goals as goal

pub unreachable-requires : goal.unreachable-requires
unreachable-requires g c = c.in-Err.ensures.not_all (all_numbered _ _ c.requires.row c.requires.count)
