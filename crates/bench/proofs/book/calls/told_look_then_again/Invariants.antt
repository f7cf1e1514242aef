use Rattle.bench.proofs.book.calls.told_look_then_again.Given as goal

-- the table that was just made
abbrev pub ghosts-look_then_again-N-Named : goal.ghosts-look_then_again-N-Named
ghosts-look_then_again-N-Named g a = record { table = a.blank }

-- it carries no fact
abbrev pub ghosts-look_then_again-N-Keeps : goal.ghosts-look_then_again-N-Keeps
ghosts-look_then_again-N-Keeps g a = record { keeps = λ _. Unit {0} }
