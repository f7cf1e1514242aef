use Rattle.pj_state.proofs.LookUps.{standing_list}
use Rattle.pj_state.proofs.state.State.log.Goals as goal

pub returns-in-Some : goal.returns-in-Some
returns-in-Some c =
    c.log_reply.ensures c.args.self.now c.args.name.now (record {
      at = c.len.ensures.len;
      legal = c.len.ensures.legal;
      state = λ s r. standing_list s c.args.self.now.journal c.args.name.now c.in-Some.standing.now (c.in-Some.ensures.found s r);
    })
