use Rattle.std.specs.Prelude.{◌++◌}
use Rattle.pj_change.proofs.Without.{union_lawful, union_member}
use Rattle.pj_change.proofs.EqualRecords.{have_one_record}
use Rattle.pj_change.proofs.laws.union_is_lawful.Goals as goal

pub returns-clause-lawful : goal.returns-clause-lawful
returns-clause-lawful c = λ a b unique. union_lawful a b (have_one_record (a ++ b) unique)

pub returns-clause-both : goal.returns-clause-both
returns-clause-both c = λ a b unique r. union_member a b (have_one_record (a ++ b) unique) r
