use Rattle.std.proofs.Common.{◌-◌, subst, sym, arith}
use Rattle.pj_ranges.specs.Units.{IsMeasured}
use Rattle.pj_ranges.proofs.RangeOrder.{unit_fits}
use Rattle.pj_states.proofs.versions.range_of.Goals as goal

pub returns-clause-measured : goal.returns-clause-measured
returns-clause-measured c =
    let fits = unit_fits 32 (c.args.end - c.args.start) (omega arith) (omega arith) in
    let low = fits.0 in
    let high = fits.1 in
    subst IsMeasured (sym c.of.ensures) (record { low = omega arith; high = omega arith })
