use Rattle.std.proofs.Common.{refl, ap, arith, ◌<◌, ◌^◌}
use Rattle.std.specs.Ordering.{nat_cmp, ordering_then}
use Rattle.pj_dead.proofs.NextTargets.{under_greatest}
use Rattle.pj_view.proofs.ends.greatest_name.Goals as goal

pub returns : goal.returns
returns c = λ n h.
    let low : 0 < 2 ^ 32 = omega arith in
    under_greatest (record { change = n; offset = 0 }) (record { change = c.of.result; offset = 4294967295 }) c.of.ensures refl low (ap (λ o. ordering_then o (nat_cmp 0 4294967295)) h)
