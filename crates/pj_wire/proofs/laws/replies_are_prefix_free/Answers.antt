use Rattle.pj_wire.proofs.OneReply.{one_reply, read_back, so_many_read_back}
use Rattle.pj_wire.proofs.laws.replies_are_prefix_free.Goals as goal

pub returns-clause-free : goal.returns-clause-free
returns-clause-free c = one_reply

pub returns-clause-all : goal.returns-clause-all
returns-clause-all c = read_back

pub returns-clause-so_many : goal.returns-clause-so_many
returns-clause-so_many c = so_many_read_back
