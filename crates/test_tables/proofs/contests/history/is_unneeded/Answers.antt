use Rattle.test_tables.proofs.contests.history.is_unneeded.Goals as goal

pub returns-in-None : goal.returns-in-None
returns-in-None c = λ t S are. c.in-None.ensures.set S are
