use Rattle.pj_state.proofs.Replying.{graph_reads}
use Rattle.pj_state.proofs.replies.graph_reply.Goals as goal

pub returns : goal.returns
returns c = λ k name at. graph_reads k c.args.place name c.args.channel.now at c.graph_bytes.result c.graph_bytes.ensures c.given.result c.given.ensures
