use Rattle.std.proofs.Common.{◌≡◌, ◌∙◌, ◌+◌, ap, sym, arith, ◌<◌, length, take}
use Rattle.std.proofs.lemmas.List.{take_all}
use Rattle.pj_rows.specs.Keys.{number_at, times}
use Rattle.pj_rows.proofs.KeyLemmas.{times-more}
use Rattle.pj_rows.proofs.counts.raise_each.Goals as goal

pub loop-key-preserved : goal.loop-key-preserved
loop-key-preserved g c =
    let low : c.loop-key.key-index < length c.args.keys.now = omega arith in
    record {
      counts = λ q.
          let more = times-more g.K.Ord.cmp q c.args.keys.now c.loop-key.key-index c.key-item.result low (sym c.key-item.is) in
          let old = c.loop-key.invariant.counts q in
          let new = c.in_ok-now.ensures.counts q in
          omega arith;
      counted = c.in_ok-now.ensures.counted;
      cost = let e = c.in_ok-now.ensures.cost in let i = c.loop-key.invariant.cost in omega arith;
    }

pub returns-clause-counts : goal.returns-clause-counts
returns-clause-counts g c =
    let whole : take c.loop-key.key-index c.args.keys.now ≡ c.args.keys.now = take_all _ _ (omega arith) in
    λ q. c.loop-key.invariant.counts q ∙ ap (λ ks. number_at g.K.Ord.cmp q c.args.map + times g.K.Ord.cmp q ks) whole
