use Rattle.std.proofs.Common.{inl, inr, arith, bit_and}
use Rattle.std.specs.Int.{bit_not, w64}
use Rattle.pj_bits.proofs.Joins.{joins_more}
use Rattle.pj_bits.proofs.words.and_not_words.Goals as goal

pub returns-clause-taken : goal.returns-clause-taken
returns-clause-taken c = λ k h. c.loop-k.invariant.done k (omega arith)

pub returns-clause-below : goal.returns-clause-below
returns-clause-below c = λ k h. c.loop-k.invariant.others k (inl h)

pub returns-clause-above : goal.returns-clause-above
returns-clause-above c = λ k h. c.loop-k.invariant.others k (inr (omega arith))

pub loop-k-preserved : goal.loop-k-preserved
loop-k-preserved c = joins_more (λ a b. bit_and a (bit_not w64 b)) c.args.words.now c.loop-k.words c.args.into c.args.from c.args.width c.loop-k.k c.loop-k-test.true (omega arith) c.requires.apart c.loop-k.invariant
