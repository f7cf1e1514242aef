use Rattle.std.proofs.Common.{◌+◌, arith, ap, length}
use Rattle.std.specs.Prelude.{decimal, sum_by}
use Rattle.std.proofs.lemmas.List.{take_all}
use Rattle.pj_change.proofs.LengthLemmas.{length-owners}
use Rattle.pj_change.proofs.length.owners_length.Goals as goal

pub returns-clause-exact : goal.returns-clause-exact
returns-clause-exact c =
    omega (arith, length-owners c.args.by.now c.requires.some, ap (sum_by (λ k. length (decimal k) + 1)) (take_all c.loop-owner.owner-index c.args.by.now c.loop-owner-test.false), c.loop-owner.invariant.so_far)
