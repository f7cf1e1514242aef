use Rattle.std.proofs.Common.{◌∙◌, [], ◌∷◌}
use Rattle.pj_session.proofs.Bytes.{gave_more}
use Rattle.pj_session.proofs.reply.write_body.Goals as goal

pub returns-clause-bytes : goal.returns-clause-bytes
returns-clause-bytes g c h = gave_more _ _ _ c.args.body.now (10 ∷ []) c.give_all-2.result (c.in-Ok.ensures.bytes h) (c.give_all-2.ensures.bytes (c.in-Ok.ensures.told ∙ h))
