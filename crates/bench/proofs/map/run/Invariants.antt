use Rattle.bench.proofs.map.run.Given as goal

-- the ledger of the blank that was just made
abbrev pub ghosts-work_through : goal.ghosts-work_through
ghosts-work_through a = record { name = a.blank.name; parts = a.blank.parts }
