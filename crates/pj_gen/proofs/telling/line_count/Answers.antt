use Rattle.std.proofs.Common.{◌-◌, arith}
use Rattle.pj_gen.proofs.Counts.{line_length}
use Rattle.pj_gen.proofs.telling.line_count.Goals as goal

pub returns : goal.returns
returns c = λ number. let is = line_length number c.args.line (c.args.changes - 1) c.requires.line in omega arith
