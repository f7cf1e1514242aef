use Rattle.std.proofs.Common.{◌∙◌, ap, sym, Some}
use Rattle.std.specs.Option.{option_map}
use Rattle.std.specs.Arc.{arc_value}
use Rattle.pj_ranges.specs.Units.{hunk_cmp}
use Rattle.pj_states.proofs.ShownRows.{value_shown}
use Rattle.pj_states.proofs.versions.said_in.Goals as goal

pub returns-in_err-get : goal.returns-in_err-get
returns-in_err-get c = rw c.from_residual.ensures (value_shown hunk_cmp arc_value c.args.by c.args.hunks.now ∙ ap (option_map arc_value) c.in_err-get.ensures)

pub returns : goal.returns
returns c = value_shown hunk_cmp arc_value c.args.by c.args.hunks.now ∙ ap (option_map arc_value) c.in_ok-get.ensures ∙ ap Some (sym c.deref-op.ensures)
