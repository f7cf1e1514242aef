use Rattle.std.proofs.Common.{arith}
use Rattle.pj_session.proofs.Talks.{session_under}
use Rattle.pj_session.proofs.sessions.session.Goals as goal

pub returns-clause-session : goal.returns-clause-session
returns-clause-session g c =
    session_under _ _ _ _ _ _ _ _ (λ taken took. took) (λ none. none) (λ xs rs did. (did.0, did.2)) c.session_by.ensures.session

pub returns-clause-no_store : goal.returns-clause-no_store
returns-clause-no_store g c e = absurd (omega (arith, c.session_by.ensures.store_cause e))
