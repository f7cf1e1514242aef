use Rattle.std.proofs.Common.{◌∙◌, ap}
use Rattle.pj_states.specs.Survivals.{version_said}
use Rattle.pj_states.proofs.NextVersions.{no_version, next_changed}
use Rattle.pj_states.proofs.versions.Versions.next_version.Goals as goal

pub returns-in_err-by : goal.returns-in_err-by
returns-in_err-by c = rw c.from_residual.ensures (no_version c.args.self.now c.args.at c.args.after c.in_err-by.ensures)

pub returns : goal.returns
returns c =
    let n = c.in_ok-by.ensures in
    rw (c.version_by.ensures ∙ ap (version_said c.in_ok-by.by) n.one.there) (next_changed c.args.self.now c.args.at c.args.after c.in_ok-by.by n)
