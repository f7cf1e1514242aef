use Rattle.std.proofs.Common.{◌≡◌, ◌<◌, Ok, Err, refl, ◌∙◌, ap, arith}
use Rattle.pj_io.specs.Causes.{Rose}
use Rattle.pj_replies.specs.declared.decoder.Reading.TheVariants.{Whole, More, Strange}
use Rattle.pj_sync.specs.declared.stop.Stop.{Stop}
use Rattle.pj_sync.specs.declared.stop.Stop.TheVariants.{ReadFault}
use Rattle.pj_sync.proofs.Receiving.{read_as, told_so, none_yet, whole, odd, ran_out, full, goes_on, stops}
use Rattle.pj_sync.proofs.link.Link.receive.Goals as goal

pub loop-numbered-init : goal.loop-numbered-init
loop-numbered-init g c = record { so_far = none_yet _ _ _ _; told = refl; count = omega arith }

pub returns-in-Ok-Whole-clause-received : goal.returns-in-Ok-Whole-clause-received
returns-in-Ok-Whole-clause-received g c =
    let is = c.in-Ok-Whole.field-0-is in
    let waits = c.loop-numbered.self.replies in
    let reads = read_as c.args.due waits c.next.new.self _ (Whole c.in-Ok-Whole.numbered) is c.in-Ok-Whole.ensures.read in
    whole _ _ _ _ _ _ c.loop-numbered.invariant.so_far c.next.new.self c.in-Ok-Whole.numbered reads

pub returns-in-Ok-Strange-clause-received : goal.returns-in-Ok-Strange-clause-received
returns-in-Ok-Strange-clause-received g c =
    let is = c.in-Ok-Strange.field-0-is in
    let waits = c.loop-numbered.self.replies in
    let reads = read_as c.args.due waits c.next.new.self _ Strange is c.in-Ok-Strange.ensures.read in
    odd _ _ _ _ _ _ c.loop-numbered.invariant.so_far c.next.new.self reads

pub returns-in-Err-clause-received : goal.returns-in-Err-clause-received
returns-in-Err-clause-received g c = ran_out _ _ _ _ _ _ c.loop-numbered.invariant.so_far c.next.new.self

pub returns-then-self-eq0-clause-received : goal.returns-then-self-eq0-clause-received
returns-then-self-eq0-clause-received g c =
    let is = c.in-Ok-More.field-0-is in
    let waits = c.loop-numbered.self.replies in
    let reads = read_as c.args.due waits c.next.new.self _ More is c.in-Ok-More.ensures.read in
    full _ _ _ _ _ _ c.loop-numbered.invariant.so_far c.next.new.self reads c.if-self-eq0.true

pub returns-in-Err-take-clause-received : goal.returns-in-Err-take-clause-received
returns-in-Err-take-clause-received g c =
    let is = c.in-Ok-More.field-0-is in
    let waits = c.loop-numbered.self.replies in
    let reads = read_as c.args.due waits c.next.new.self _ More is c.in-Ok-More.ensures.read in
    let some : 0 < c.loop-numbered.self.room = (let other = c.if-self-eq0.false in omega arith) in
    let stop = c.in-Err-take.stop in
    let taken = told_so _ _ _ _ _ _ (Err stop) c.loop-numbered.invariant.told c.in-Err-take.ensures.taken in
    stops _ _ _ _ _ _ c.loop-numbered.invariant.so_far c.next.new.self reads _ _ some stop taken

pub returns-in-Err-take-clause-cause : goal.returns-in-Err-take-clause-cause
returns-in-Err-take-clause-cause g c e =
    let faults = g.S.Source.meaning.faults in
    let same : c.in-Err-take.stop ≡ ReadFault = cc in
    let rose : Rose (faults c.loop-numbered.source) (faults c.take.new.source) =
    c.in-Err-take.ensures.cause (ap (λ (s : Stop). Err s) same) in
    let before = c.loop-numbered.invariant.count in
    omega (arith, rose, before)

pub loop-numbered-preserved : goal.loop-numbered-preserved
loop-numbered-preserved g c =
    let is = c.in-Ok-More.field-0-is in
    let waits = c.loop-numbered.self.replies in
    let reads = read_as c.args.due waits c.next.new.self _ More is c.in-Ok-More.ensures.read in
    let done = c.in-Ok.field-0 in
    let taken = told_so _ _ _ _ _ _ (Ok done) c.loop-numbered.invariant.told c.in-Ok.ensures.taken in
    record {
      so_far = goes_on _ _ _ _ _ _ c.loop-numbered.invariant.so_far c.next.new.self reads _ _ done taken;
      told = c.in-Ok.ensures.told ∙ c.loop-numbered.invariant.told;
      count = omega (arith, c.in-Ok.ensures.count, c.loop-numbered.invariant.count);
    }

pub loop-numbered-smaller : goal.loop-numbered-smaller
loop-numbered-smaller g c = let t = c.in-Ok.ensures.taken in omega (arith, t.counted, t.feeds.1)
