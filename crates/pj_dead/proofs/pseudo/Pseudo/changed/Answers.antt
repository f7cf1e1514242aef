use Rattle.pj_dead.proofs.pseudo.Pseudo.changed.Goals as goal

pub returns : goal.returns
returns c a b touched whole_a whole_b there back rows gone made = c.in_ok-rows.ensures a b touched whole_a whole_b there back (rw (← c.self.view_is) at rows) gone made
