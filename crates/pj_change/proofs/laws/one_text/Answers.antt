use Rattle.pj_change.proofs.OneText.{text_one}
use Rattle.pj_change.proofs.EqualRecords.{have_one_change}
use Rattle.pj_change.proofs.laws.one_text.Goals as goal

pub returns : goal.returns
returns c = λ S unique inode s t a b. text_one S (have_one_change S unique) inode s t a b
