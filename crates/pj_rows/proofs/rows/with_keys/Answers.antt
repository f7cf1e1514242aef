use Rattle.std.proofs.Common.{◌≡◌, ◌∙◌, ap, sym, arith, ◌<◌, ◌||◌, length, take}
use Rattle.std.proofs.lemmas.List.{take_all}
use Rattle.pj_rows.specs.Keys.{has, is_among}
use Rattle.pj_rows.proofs.KeyLemmas.{has-with, one_more, among-more}
use Rattle.pj_rows.proofs.rows.with_keys.Goals as goal

pub loop-key-preserved : goal.loop-key-preserved
loop-key-preserved g c =
    let low : c.loop-key.key-index < length c.args.keys.now = omega arith in
    record {
      rows = λ q. ap (has g.K.Ord.cmp q) c.in_ok-now.ensures.same
          ∙ one_more _ _ _ _ _ (has-with g.K.Ord.cmp g.met.K.Ord.total q c.key-item.result _ c.loop-key.now) (c.loop-key.invariant.rows q)
          ∙ ap (λ b. b || has g.K.Ord.cmp q c.args.map) (sym (among-more g.K.Ord.cmp q c.args.keys.now c.loop-key.key-index c.key-item.result low (sym c.key-item.is)));
      rising = c.in_ok-now.ensures.rising;
      cost = let e = c.in_ok-now.ensures.cost in let i = c.loop-key.invariant.cost in omega arith;
    }

pub returns-clause-rows : goal.returns-clause-rows
returns-clause-rows g c =
    let whole : take c.loop-key.key-index c.args.keys.now ≡ c.args.keys.now = take_all _ _ (omega arith) in
    λ q. c.loop-key.invariant.rows q ∙ ap (λ ks. is_among g.K.Ord.cmp q ks || has g.K.Ord.cmp q c.args.map) whole
