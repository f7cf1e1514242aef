use Rattle.std.proofs.Common.{◌≡◌, ◌+◌, arith, ap, ◌∙◌}
use Rattle.pj_rows.specs.Keys.{number_at}
use Rattle.pj_rows.proofs.KeyLemmas.{raised-by_one, counted-with}
use Rattle.pj_rows.proofs.counts.raised.Goals as goal

pub returns-clause-counts : goal.returns-clause-counts
returns-clause-counts g c =
    let h : c.count_at-old.result + 1 ≡ number_at g.K.Ord.cmp c.args.key.now c.args.map + 1 = let e = c.count_at-old.ensures in omega arith in
    λ q. ap (number_at g.K.Ord.cmp q) c.in_ok-now.ensures.same ∙ raised-by_one g.K.Ord.cmp g.met.K.Ord.total c.args.key.now (record { count = c.count_at-old.result + 1 }) c.args.map h q

pub returns-clause-counted : goal.returns-clause-counted
returns-clause-counted g c =
    rw c.in_ok-now.ensures.same (counted-with g.K.Ord.cmp g.met.K.Ord.total c.args.key.now (record { count = c.count_at-old.result + 1 }) c.args.map c.requires.counted (omega arith) (rw c.in_ok-now.ensures.same at c.in_ok-now.ensures.rising))
