use Rattle.bench.proofs.book.calls.told_count_since.Given as goal

-- the table that was just made
abbrev pub ghosts-count_since-N-Named : goal.ghosts-count_since-N-Named
ghosts-count_since-N-Named g a = record { table = a.blank }

-- it carries no fact
abbrev pub ghosts-count_since-N-Keeps : goal.ghosts-count_since-N-Keeps
ghosts-count_since-N-Keeps g a = record { keeps = λ _. Unit {0} }
