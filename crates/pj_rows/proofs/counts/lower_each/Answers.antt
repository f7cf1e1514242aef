use Rattle.std.proofs.Common.{◌≡◌, ◌≤◌, ◌∙◌, ◌+◌, ap, sym, arith, ◌<◌, length, take}
use Rattle.std.specs.Ordering.{is_eq}
use Rattle.std.proofs.lemmas.List.{take_all}
use Rattle.std.proofs.lemmas.Cmp.{tied_itself}
use Rattle.pj_rows.specs.Keys.{number_at, times}
use Rattle.pj_rows.proofs.KeyLemmas.{times-more, times-some}
use Rattle.pj_rows.proofs.counts.lower_each.Goals as goal

pub lowered-requires-clause-there : goal.lowered-requires-clause-there
lowered-requires-clause-there g c =
    let low : c.loop-key.key-index < length c.args.keys.now = omega arith in
    let k = c.key-item.result in
    let more = times-some g.K.Ord.cmp c.args.keys.now c.loop-key.key-index k low (sym c.key-item.is) (ap is_eq (tied_itself g.met.K.Ord.total k)) in
    let old = c.loop-key.invariant.counts k in
    let fits : times g.K.Ord.cmp k c.args.keys.now ≤ number_at g.K.Ord.cmp k c.args.map = c.requires.there k in
    omega arith

pub loop-key-preserved : goal.loop-key-preserved
loop-key-preserved g c =
    let low : c.loop-key.key-index < length c.args.keys.now = omega arith in
    record {
      counts = λ q.
          let more = times-more g.K.Ord.cmp q c.args.keys.now c.loop-key.key-index c.key-item.result low (sym c.key-item.is) in
          let old = c.loop-key.invariant.counts q in
          let new = c.in_ok-now.ensures.counts q in
          omega arith;
      counted = c.in_ok-now.ensures.counted;
      cost = let e = c.in_ok-now.ensures.cost in let i = c.loop-key.invariant.cost in omega arith;
    }

pub returns-clause-counts : goal.returns-clause-counts
returns-clause-counts g c =
    let whole : take c.loop-key.key-index c.args.keys.now ≡ c.args.keys.now = take_all _ _ (omega arith) in
    λ q. ap (λ ks. number_at g.K.Ord.cmp q c.loop-key.now + times g.K.Ord.cmp q ks) (sym whole) ∙ c.loop-key.invariant.counts q
