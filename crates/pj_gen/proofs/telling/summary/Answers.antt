use Rattle.pj_gen.proofs.Counts.{summarised}
use Rattle.pj_gen.proofs.telling.summary.Goals as goal

pub returns : goal.returns
returns c = λ number lines_are all_is.
    summarised number c.args.changes c.args.sessions c.args.lines.now c.args.main c.in_ok-summary_bytes.field-0.items c.requires.0 (c.in_ok-summary_bytes.ensures number c.args.main) lines_are all_is
