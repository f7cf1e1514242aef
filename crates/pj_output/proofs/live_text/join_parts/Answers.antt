use Rattle.std.proofs.Common.{◌≡◌, [], ◌++◌, length, arith, rules}
use Rattle.std.specs.Prelude.{Contains}
use Rattle.pj_change.proofs.Gathering.{of_more, of_all}
use Rattle.pj_output.proofs.LiveTexts.{appended}
use Rattle.pj_output.proofs.live_text.join_parts.Goals as goal

pub loop-part-preserved : goal.loop-part-preserved
loop-part-preserved c =
    let part = c.part-item.result in
    let old = c.loop-part.entries.items in
    let added : c.extend_from_slice.new.self.items ≡ old ++ part.items = search rules in
    of_more (λ part. Contains part.items) c.args.parts.now c.loop-part.part-index part part c.loop-part-test.true c.part-item.is [] old c.extend_from_slice.new.self.items c.loop-part.invariant
    (appended part.items old c.extend_from_slice.new.self.items added)

pub returns : goal.returns
returns c =
    let all : length c.args.parts.now ≡ c.loop-part.part-index = omega arith in
    of_all (λ part. Contains part.items) c.args.parts.now c.loop-part.part-index all [] c.loop-part.entries.items c.loop-part.invariant
