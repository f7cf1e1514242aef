use Rattle.test_plain.proofs.calls.maps.told.Given as goal

-- the ledger of the blank that was just made
abbrev pub ghosts-worked : goal.ghosts-worked
ghosts-worked a = record { name = a.blank.name; parts = a.blank.parts }
