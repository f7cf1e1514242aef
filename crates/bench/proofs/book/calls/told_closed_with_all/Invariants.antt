use Rattle.bench.proofs.book.calls.told_closed_with_all.Given as goal

-- the table that was just made
abbrev pub ghosts-closed_with_all-N-Named : goal.ghosts-closed_with_all-N-Named
ghosts-closed_with_all-N-Named g a = record { table = a.blank }

-- it carries no fact
abbrev pub ghosts-closed_with_all-N-Keeps : goal.ghosts-closed_with_all-N-Keeps
ghosts-closed_with_all-N-Keeps g a = record { keeps = λ _. Unit {0} }
