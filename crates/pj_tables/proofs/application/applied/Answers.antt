use Rattle.std.proofs.Common.{sym, subst}
use Rattle.pj_change.specs.declared.change.Record.{Record}
use Rattle.pj_change.specs.Lawful.{Follows}
use Rattle.pj_tables.proofs.application.applied.Goals as goal

pub hits_of-requires : goal.hits_of-requires
hits_of-requires g c = subst (λ (r : Record). Follows c.args.tables r) (sym c.deref-added.ensures) c.requires

pub touched_in-requires-clause-follows : goal.touched_in-requires-clause-follows
touched_in-requires-clause-follows g c = subst (λ (r : Record). Follows c.args.tables r) (sym c.deref-added.ensures) c.requires
