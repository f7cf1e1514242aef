use Rattle.pj_tables.proofs.tables.Tables.surviving.Goals as goal

pub returns : goal.returns
returns c = c.surviving.ensures.set c.args.self.now c.versions.ensures
