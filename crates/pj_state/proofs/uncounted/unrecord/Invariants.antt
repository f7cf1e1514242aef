use Rattle.pj_state.proofs.uncounted.unrecord.Given as goal

abbrev pub ghosts-unrecord_with : goal.ghosts-unrecord_with
ghosts-unrecord_with a = record { name = a.blank.name; parts = a.blank.parts }
