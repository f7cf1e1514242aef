use Rattle.std.proofs.Common.{sym, ◌∙◌, ap, ◌++◌, ◌∷◌, []}
use Rattle.pj_gen.specs.Requests.{session_scripts}
use Rattle.pj_gen.proofs.Sessions.{scripts_none, scripts_more}
use Rattle.pj_gen.proofs.making.session_parts.Goals as goal

pub loop-session-init : goal.loop-session-init
loop-session-init c = c.new-parts.ensures.items ∙ sym (scripts_none c.args.number c.args.changes c.args.sessions)

pub loop-session-preserved : goal.loop-session-preserved
loop-session-preserved c =
    c.in_ok-push.ensures.items
    ∙ ap (λ t. t ++ c.of.result ∷ []) c.loop-session.invariant
    ∙ ap (λ b. session_scripts c.args.number c.args.changes c.args.sessions c.loop-session.session ++ b ∷ []) (c.of.ensures ∙ c.in_ok-bytes.ensures)
    ∙ sym (scripts_more c.args.number c.args.changes c.args.sessions c.loop-session.session)
