use Rattle.test_tables.proofs.contests.play.Given as goal

-- the ledger of the blank that was just made
abbrev pub ghosts-play_counted : goal.ghosts-play_counted
ghosts-play_counted a = record { name = a.blank.name; parts = a.blank.parts }
