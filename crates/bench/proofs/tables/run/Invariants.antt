use Rattle.bench.proofs.tables.run.Given as goal

-- the ledger of the blank that was just made
abbrev pub ghosts-work_on : goal.ghosts-work_on
ghosts-work_on a = record { name = a.blank.name; parts = a.blank.parts }
