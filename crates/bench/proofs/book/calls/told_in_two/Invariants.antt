use Rattle.bench.proofs.book.calls.told_in_two.Given as goal

-- the table that was just made
abbrev pub ghosts-in_two-N-Named : goal.ghosts-in_two-N-Named
ghosts-in_two-N-Named g a = record { table = a.blank }

-- it carries no fact
abbrev pub ghosts-in_two-N-Keeps : goal.ghosts-in_two-N-Keeps
ghosts-in_two-N-Keeps g a = record { keeps = λ _. Unit {0} }
