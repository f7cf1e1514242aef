use Rattle.std.proofs.Common.{inl, inr, arith, bit_or}
use Rattle.pj_bits.proofs.Joins.{joins_more}
use Rattle.pj_bits.proofs.words.or_words.Goals as goal

pub returns-clause-joined : goal.returns-clause-joined
returns-clause-joined c = λ k h. c.loop-k.invariant.done k (omega arith)

pub returns-clause-below : goal.returns-clause-below
returns-clause-below c = λ k h. c.loop-k.invariant.others k (inl h)

pub returns-clause-above : goal.returns-clause-above
returns-clause-above c = λ k h. c.loop-k.invariant.others k (inr (omega arith))

pub loop-k-preserved : goal.loop-k-preserved
loop-k-preserved c = joins_more bit_or c.args.words.now c.loop-k.words c.args.into c.args.from c.args.width c.loop-k.k c.loop-k-test.true (omega arith) c.requires.apart c.loop-k.invariant
