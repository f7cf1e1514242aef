use Rattle.pj_plain.proofs.walk.walk_over.Given as goal

abbrev pub ghosts-tree_of : goal.ghosts-tree_of
ghosts-tree_of a = record { name = a.blank.name; parts = a.blank.parts }
