use Rattle.std.proofs.Common.{◌∙◌, ◌++◌, sym, ap, subst}
use Rattle.pj_session.specs.Turn.{Wrote}
use Rattle.pj_session.proofs.Spoken.{grew_all, all_spoke}
use Rattle.pj_session.proofs.Talks.{session_under}
use Rattle.pj_session.proofs.sessions.session_by.Goals as goal

pub returns-clause-number : goal.returns-clause-number
returns-clause-number g c = let t = c.talk-end.ensures.talked in (grew_all _ _ _ t.requests t.replies t.did.0).number

pub returns-clause-journal : goal.returns-clause-journal
returns-clause-journal g c = let t = c.talk-end.ensures.talked in (grew_all _ _ _ t.requests t.replies t.did.0).begins

pub returns-clause-session : goal.returns-clause-session
returns-clause-session g c =
    session_under _ _ _ _ _ _ _ _
    (λ taken took h. took h ∙ ap (λ l. taken ++ l) (sym (c.shut.ensures.bytes (c.talk-end.ensures.source_told ∙ h))))
    (λ none h. c.shut.ensures.bytes (c.talk-end.ensures.source_told ∙ h) ∙ none h)
    (λ xs rs did. (
      all_spoke _ _ _ xs rs c.requires.fresh did.0,
      did.1,
      λ h. subst (λ n. Wrote c.talk-end.result (g.D.Sink.meaning.written c.args.sink.now) n rs) (sym (c.shut-2.ensures.bytes (c.talk-end.ensures.sink_told ∙ h))) (did.2 h),
    ))
    c.talk-end.ensures.talked
