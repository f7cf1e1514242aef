use Rattle.pj_cuts.proofs.SetTables.{fits_where_context}
use Rattle.pj_tables.proofs.application.touched_in.Goals as goal

pub touched_by-requires-clause-fits : goal.touched_by-requires-clause-fits
touched_by-requires-clause-fits c = fits_where_context c.args.tables.now c.args.change.now c.requires.follows
