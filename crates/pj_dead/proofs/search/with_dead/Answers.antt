use Rattle.std.proofs.Common.{subst, List}
use Rattle.std.specs.Prelude.{Contains}
use Rattle.pj_change.specs.declared.point.Point.{Point}
use Rattle.pj_dead.specs.declared.near.Way.TheVariants.{Either}
use Rattle.pj_dead.specs.Searches.{GoesOn}
use Rattle.pj_dead.specs.Known.{dead_around}
use Rattle.pj_dead.proofs.Searching.{goes_both}
use Rattle.pj_dead.proofs.search.with_dead.Goals as goal

pub returns-in_ok-all-in-Either : goal.returns-in_ok-all-in-Either
returns-in_ok-all-in-Either c =
    let n = c.args.neighbours.now in
    let found = c.args.found in
    let more = c.in_ok-more-in-Either.more in
    let all = c.in_ok-all-in-Either.all in
    let first : GoesOn (Contains n.outs.dead.items) found more = subst (λ (l : List Point). GoesOn (Contains l) found more) c.deref-in-Either.ensures.value c.in_ok-more-in-Either.ensures in
    let second : GoesOn (Contains n.ins.dead.items) more all = subst (λ (l : List Point). GoesOn (Contains l) more all) c.deref-in-Either-2.ensures.value c.in_ok-all-in-Either.ensures in
    let both : GoesOn (Contains (dead_around Either n)) found all = goes_both n.outs.dead.items n.ins.dead.items found more all first second in
    rw c.in-Either.is both
