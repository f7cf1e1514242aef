use Rattle.pj_cuts.proofs.SetTables.{fits_where_context}
use Rattle.pj_cuts.proofs.laws.contexts_fit.Goals as goal

pub returns : goal.returns
returns c = fits_where_context
