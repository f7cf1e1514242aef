use Rattle.pj_serve.proofs.Alone.{alone_as_one_thread}
use Rattle.pj_serve.proofs.laws.alone_as_one_thread.Goals as goal

pub returns : goal.returns
returns c = alone_as_one_thread
