use Rattle.pj_state.proofs.uncounted.uproot.Given as goal

abbrev pub ghosts-uproot_with : goal.ghosts-uproot_with
ghosts-uproot_with a = record { name = a.blank.name; parts = a.blank.parts }
