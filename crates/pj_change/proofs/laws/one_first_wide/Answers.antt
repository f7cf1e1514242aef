use Rattle.pj_change.proofs.OnePrint.{first_wide_one}
use Rattle.pj_change.proofs.EqualRecords.{have_one_change}
use Rattle.pj_change.proofs.laws.one_first_wide.Goals as goal

pub returns : goal.returns
returns c = λ S unique limit p q f g. first_wide_one S (have_one_change S unique) limit p q f g
