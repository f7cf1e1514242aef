use Rattle.test_tables.proofs.operations.play.Given as goal

-- the ledger of the blank that was just made
abbrev pub ghosts-answers : goal.ghosts-answers
ghosts-answers a = record { name = a.blank.name; parts = a.blank.parts }
