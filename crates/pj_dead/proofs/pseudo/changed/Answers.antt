use Rattle.pj_dead.proofs.Refreshed.{rows_refreshed}
use Rattle.pj_dead.proofs.pseudo.changed.Goals as goal

pub returns : goal.returns
returns g c a b touched whole_a whole_b there back rows gone made =
    rows_refreshed a b whole_a whole_b touched there back c.args.rows c.in_ok-left.left c.in_ok-new.new c.args.gone.now c.args.made.now gone made rows c.in_ok-left.ensures.rows c.in_ok-new.ensures.rows
