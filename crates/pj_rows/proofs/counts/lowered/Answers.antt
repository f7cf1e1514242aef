use Rattle.std.proofs.Common.{◌≡◌, ◌+◌, ◌-◌, ◌<◌, arith}
use Rattle.pj_rows.specs.Keys.{number_at}
use Rattle.pj_rows.proofs.KeyLemmas.{lowered-by_one, lowered-to_none, counted-with, counted-without}
use Rattle.pj_rows.proofs.counts.lowered.Goals as goal

pub returns-then-old-eq1-clause-counts : goal.returns-then-old-eq1-clause-counts
returns-then-old-eq1-clause-counts g c = λ q.
    rw c.in_ok-now.ensures.same (lowered-to_none g.K.Ord.cmp g.met.K.Ord.total c.args.key.now c.args.map c.requires.counted.rising (let e = c.count_at-old.ensures in omega arith) q)

pub returns-then-old-eq1-clause-counted : goal.returns-then-old-eq1-clause-counted
returns-then-old-eq1-clause-counted g c =
    rw c.in_ok-now.ensures.same (counted-without g.K.Ord.cmp g.met.K.Ord.total c.args.key.now c.args.map c.requires.counted (rw c.in_ok-now.ensures.same at c.in_ok-now.ensures.rising))

pub returns-clause-counts : goal.returns-clause-counts
returns-clause-counts g c = λ q.
    let h : (c.count_at-old.result - 1) + 1 ≡ number_at g.K.Ord.cmp c.args.key.now c.args.map = let e = c.count_at-old.ensures in let t = c.requires.there in omega arith in
    rw c.in_ok-now-2.ensures.same (lowered-by_one g.K.Ord.cmp g.met.K.Ord.total c.args.key.now (record { count = c.count_at-old.result - 1 }) c.args.map h q)

pub returns-clause-counted : goal.returns-clause-counted
returns-clause-counted g c =
    let low : 0 < c.count_at-old.result - 1 = let e = c.count_at-old.ensures in let t = c.requires.there in omega arith in
    rw c.in_ok-now-2.ensures.same (counted-with g.K.Ord.cmp g.met.K.Ord.total c.args.key.now (record { count = c.count_at-old.result - 1 }) c.args.map c.requires.counted low (rw c.in_ok-now-2.ensures.same at c.in_ok-now-2.ensures.rising))
