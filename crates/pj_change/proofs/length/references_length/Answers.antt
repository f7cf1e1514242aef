use Rattle.std.proofs.Common.{◌≡◌, ◌<◌, ◌+◌, arith, ap, length}
use Rattle.std.specs.Prelude.{sum_by}
use Rattle.std.proofs.lemmas.Bool.Decides.{nat_tests}
use Rattle.std.proofs.lemmas.List.{take_all}
use Rattle.pj_change.specs.Text.{reference}
use Rattle.pj_change.proofs.LengthLemmas.{length-references, length-no_references}
use Rattle.pj_change.proofs.length.references_length.Goals as goal

pub returns-then-is_empty-clause-exact : goal.returns-then-is_empty-clause-exact
returns-then-is_empty-clause-exact c =
    let none : length c.args.refs.now ≡ 0 = grind (arith, nat_tests) in
    length-no_references c.args.refs.now none

pub returns-clause-exact : goal.returns-clause-exact
returns-clause-exact c =
    let some : 0 < length c.args.refs.now = grind (arith, nat_tests) in
    omega (arith, length-references c.args.refs.now some, ap (sum_by (λ at. length (reference at) + 1)) (take_all c.loop-at.at-index c.args.refs.now c.loop-at-test.false), c.loop-at.invariant.so_far)
