use Rattle.pj_cuts.proofs.SetTables.{free_where_new, blocks_where_held, cuts_where_held}
use Rattle.pj_cuts.proofs.laws.blocks_are_held.Goals as goal

pub returns-clause-free : goal.returns-clause-free
returns-clause-free c = free_where_new

pub returns-clause-held : goal.returns-clause-held
returns-clause-held c = blocks_where_held

pub returns-clause-cuts : goal.returns-clause-cuts
returns-clause-cuts c = cuts_where_held
