use Rattle.pj_view.proofs.ends.next_source.Goals as goal

pub returns-in-None-clause-next : goal.returns-in-None-clause-next
returns-in-None-clause-next c = rw c.in-None.is c.least_source.ensures.next

pub returns-in-Some-clause-next : goal.returns-in-Some-clause-next
returns-in-Some-clause-next c = rw c.in-Some.is c.source_above.ensures.next
