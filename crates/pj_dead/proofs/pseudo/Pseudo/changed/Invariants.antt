use Rattle.pj_dead.proofs.pseudo.Pseudo.changed.Given as goal

abbrev pub ghosts-changed : goal.ghosts-changed
ghosts-changed a = record { name = a.blank.name; parts = a.blank.parts }
