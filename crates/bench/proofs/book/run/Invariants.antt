use Rattle.bench.proofs.book.run.Given as goal

-- the table that was just made
abbrev pub ghosts-count-N-Named : goal.ghosts-count-N-Named
ghosts-count-N-Named g a = record { table = a.blank }

-- it carries no fact
abbrev pub ghosts-count-N-Keeps : goal.ghosts-count-N-Keeps
ghosts-count-N-Keeps g a = record { keeps = λ _. Unit {0} }
