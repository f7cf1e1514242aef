use Rattle.std.proofs.Common.{◌-◌, length, sym, arith}
use Rattle.pj_marks.proofs.Lines.{ends_line_by_last}
use Rattle.pj_print.proofs.in_order.ends_line.Goals as goal

pub returns-in-len1-up : goal.returns-in-len1-up
returns-in-len1-up c = sym (ends_line_by_last c.args.bytes.now (length c.args.bytes.now - 1) (omega (arith, c.in-len1-up.len_at_least)))
