use Rattle.pj_change.proofs.OnePrint.{print_one}
use Rattle.pj_change.proofs.EqualRecords.{have_one_change}
use Rattle.pj_change.proofs.laws.one_print.Goals as goal

pub returns : goal.returns
returns c = λ S unique a b f g. print_one S (have_one_change S unique) a b f g
