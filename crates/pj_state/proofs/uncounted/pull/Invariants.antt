use Rattle.pj_state.proofs.uncounted.pull.Given as goal

abbrev pub ghosts-pull_with : goal.ghosts-pull_with
ghosts-pull_with a = record { name = a.blank.name; parts = a.blank.parts }
