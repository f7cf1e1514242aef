use Rattle.pj_state.proofs.Replying.{get_reads}
use Rattle.pj_state.proofs.replies.get_reply.Goals as goal

pub returns : goal.returns
returns c = λ k name at. get_reads k c.args.place name c.args.stored.now at c.copied.result c.copied.ensures c.given.result c.given.ensures
