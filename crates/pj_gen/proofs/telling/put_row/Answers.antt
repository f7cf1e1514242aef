use Rattle.std.proofs.Common.{◌∙◌, ap, ◌++◌}
use Rattle.pj_gen.proofs.Counts.{row_of}
use Rattle.pj_gen.proofs.telling.put_row.Goals as goal

pub returns : goal.returns
returns c = λ number.
    c.in_ok-put_channel.ensures
    ∙ ap (λ t. c.args.out.now.items ++ t) (row_of number c.args.changes c.args.line c.line_count.result c.line_name.result c.args.found c.line_name.ensures (c.line_count.ensures number))
