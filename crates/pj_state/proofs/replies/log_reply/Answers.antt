use Rattle.pj_state.proofs.Replying.{log_reads}
use Rattle.pj_state.proofs.replies.log_reply.Goals as goal

pub returns : goal.returns
returns c = λ k name at. log_reads k c.args.place name c.args.channel.now at c.log_bytes.result c.log_bytes.ensures c.given.result c.given.ensures
