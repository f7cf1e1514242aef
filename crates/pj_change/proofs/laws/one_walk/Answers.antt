use Rattle.pj_change.proofs.OneWalk.{walk_one}
use Rattle.pj_change.proofs.EqualRecords.{have_one_change}
use Rattle.pj_change.proofs.laws.one_walk.Goals as goal

pub returns : goal.returns
returns c = λ S unique s t a b. walk_one S (have_one_change S unique) s t a b
