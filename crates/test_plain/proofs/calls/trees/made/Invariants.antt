use Rattle.test_plain.proofs.calls.trees.made.Given as goal

-- the ledger of the blank that was just made
abbrev pub ghosts-changed : goal.ghosts-changed
ghosts-changed a = record { name = a.blank.name; parts = a.blank.parts }
