use Rattle.std.proofs.Common.{◌∙◌, sym}
use Rattle.test_tables.proofs.Alike.{point_decides}
use Rattle.test_tables.proofs.dead.kept.are_one.Goals as goal

pub returns : goal.returns
returns c = λ h. (point_decides c.args.one c.args.other).0 (sym c.eq.ensures ∙ h)
