use Rattle.pj_course.proofs.Later.{zero_follows, later}
use Rattle.pj_course.proofs.laws.changes_follow.Goals as goal

pub returns-clause-zero : goal.returns-clause-zero
returns-clause-zero c = zero_follows

pub returns-clause-later : goal.returns-clause-later
returns-clause-later c = λ number n list x names parts fresh held. later number n list names x fresh held parts
