use Rattle.std.proofs.Common.{inl, refl}
use Rattle.pj_state.proofs.Answering.{looks}
use Rattle.pj_state.proofs.state.State.install.Goals as goal

pub returns-then-is_full : goal.returns-then-is_full
returns-then-is_full c =
    looks c.args.self.now c.refused.ensures.legal c.args.pass c.args.call _ _
    (λ s r. (c.requires s r).answers _ (inl (c.is_full.ensures.full.0 c.if-is_full.true, refl))) c.refused.result c.refused.ensures.reply
