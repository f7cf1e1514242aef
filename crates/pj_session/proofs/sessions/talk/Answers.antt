use Rattle.std.proofs.Common.{◌≡◌, ℕ, ◌+◌, ◌-◌, ◌<◌, ◌≤◌, List, [], ◌++◌, length, take, drop, true, false, IsTrue, length-append, length-take, length-drop, refl, sym, ◌∙◌, ap, subst, arith}
use Rattle.std.proofs.lemmas.List.{length-replicate}
use Rattle.pj_session.proofs.Bytes.{got_facts}
use Rattle.pj_session.proofs.Talks.{SoFar, starts, few_calls, reads_fault, ends_spent, ends_done, ends_cut, ends_memory, goes_on, turned, turn_at}
use Rattle.pj_session.proofs.sessions.talk.Goals as goal

pub loop-room-init : goal.loop-room-init
loop-room-init g c = record {
  so_far = subst (λ d. SoFar (g.P.Replier.limits c.args.replier.now) (λ s x r t. g.T.Step.does s x r t) (g.P.Replier.view c.args.pass.now) c.args.step.now c.args.limit (IsTrue (g.S.Source.meaning.tells c.args.source.now)) (g.S.Source.meaning.left c.args.source.now) (IsTrue (g.D.Sink.meaning.tells c.args.sink.now)) (g.D.Sink.meaning.written c.args.sink.now) (g.P.Replier.view c.args.pass.now) c.args.step.now c.args.limit (g.S.Source.meaning.left c.args.source.now) d (g.D.Sink.meaning.written c.args.sink.now)) (sym c.new-decoder.ensures) (starts _ _ _ _ _ _ _ _ _ refl);
  ready = c.requires.ready;
  size = length-replicate {A = ℕ} 4096 0;
  source_told = refl;
  sink_told = refl;
  label = λ h. refl;
  source_count = omega arith;
  sink_count = omega arith;
  step_count = omega arith;
}

pub returns-then-idle-clause-talked : goal.returns-then-idle-clause-talked
returns-then-idle-clause-talked g c =
    let told = c.loop-room.invariant.source_told in
    let room : 0 < c.loop-room.room = c.loop-room-test.true in
    let wanted : 0 < length (take c.min-wanted.result c.loop-room.piece) = (let least = c.min-wanted.ensures in let size = c.loop-room.invariant.size in omega (arith, length-take c.min-wanted.result c.loop-room.piece)) in
    let none : c.in-Ok.count ≡ 0 = c.if-count-eq0.true in
    ends_done _ _ _ _ _ _ _ _ _ _ _ _ _ _ _ c.loop-room.invariant.so_far _
    (λ h. (c.in-Ok.ensures.bytes (told ∙ h)).moved ∙ ap (λ n. take n c.take.new.into ++ g.S.Source.meaning.left c.take.new.self) none)
    room
    (λ h. ((c.in-Ok.ensures.bytes (told ∙ h)).end wanted).0 none)
    (c.if-idle.ensures.0 refl)

pub returns-then-count-eq0-clause-talked : goal.returns-then-count-eq0-clause-talked
returns-then-count-eq0-clause-talked g c =
    let told = c.loop-room.invariant.source_told in
    let room : 0 < c.loop-room.room = c.loop-room-test.true in
    let wanted : 0 < length (take c.min-wanted.result c.loop-room.piece) = (let least = c.min-wanted.ensures in let size = c.loop-room.invariant.size in omega (arith, length-take c.min-wanted.result c.loop-room.piece)) in
    let none : c.in-Ok.count ≡ 0 = c.if-count-eq0.true in
    ends_cut _ _ _ _ _ _ _ _ _ _ _ _ _ _ _ c.loop-room.invariant.so_far _
    (λ h. (c.in-Ok.ensures.bytes (told ∙ h)).moved ∙ ap (λ n. take n c.take.new.into ++ g.S.Source.meaning.left c.take.new.self) none)
    room
    (λ h. ((c.in-Ok.ensures.bytes (told ∙ h)).end wanted).0 none)
    (λ e. let h : false ≡ true = c.if-idle.ensures.1 e in cc)

pub returns-in-Err-feed-clause-talked : goal.returns-in-Err-feed-clause-talked
returns-in-Err-feed-clause-talked g c =
    let told = c.loop-room.invariant.source_told in
    let facts = got_facts c.take.new.into (drop c.min-wanted.result c.loop-room.piece) c.loop-room.piece c.in-Ok.count c.min-wanted.result c.loop-room.room c.in-Ok.ensures.bound c.take.auto.into c.min-wanted.ensures in
    let size = facts.1 in
    let room = facts.2 in
    ends_memory _ _ _ _ _ _ _ _ _ _ _ _ _ _ (c.loop-room.room - c.in-Ok.count) _ _ _ (take c.in-Ok.count (c.take.new.into ++ drop c.min-wanted.result c.loop-room.piece)) [] _ _ c.loop-room.invariant.so_far
    (λ h. (c.in-Ok.ensures.bytes (told ∙ h)).moved ∙ ap (λ t. t ++ g.S.Source.meaning.left c.take.new.self) (sym facts.0)) (omega arith) (let few = facts.3 in omega arith) refl refl refl

pub answer_all-requires-clause-calls : goal.answer_all-requires-clause-calls
answer_all-requires-clause-calls g c =
    let facts = got_facts c.take.new.into (drop c.min-wanted.result c.loop-room.piece) c.loop-room.piece c.in-Ok.count c.min-wanted.result c.loop-room.room c.in-Ok.ensures.bound c.take.auto.into c.min-wanted.ensures in
    let fed : length c.feed.new.self ≡ length c.loop-room.decoder + length (take c.in-Ok.count (c.take.new.into ++ drop c.min-wanted.result c.loop-room.piece)) =
    ap (λ (t : List ℕ). length t) c.in-Ok-feed.ensures.ok ∙ length-append c.loop-room.decoder (take c.in-Ok.count (c.take.new.into ++ drop c.min-wanted.result c.loop-room.piece)) in
    let few = few_calls _ _ _ _ _ _ _ _ _ _ _ _ _ _ _ c.loop-room.invariant.so_far in
    let size = facts.1 in
    let within = facts.2 in
    let first = c.requires.no_call in
    omega arith

pub returns-in-Some-clause-talked : goal.returns-in-Some-clause-talked
returns-in-Some-clause-talked g c =
    let told = c.loop-room.invariant.source_told in
    let sink_told = c.loop-room.invariant.sink_told in
    let facts = got_facts c.take.new.into (drop c.min-wanted.result c.loop-room.piece) c.loop-room.piece c.in-Ok.count c.min-wanted.result c.loop-room.room c.in-Ok.ensures.bound c.take.auto.into c.min-wanted.ensures in
    let size = facts.1 in
    let room = facts.2 in
    turned _ _ _ _ _ _ _ _ _ _ _ _ _ _ (c.loop-room.room - c.in-Ok.count) _ _ _ (take c.in-Ok.count (c.take.new.into ++ drop c.min-wanted.result c.loop-room.piece)) _ _ _ c.loop-room.invariant.so_far
    (λ h. (c.in-Ok.ensures.bytes (told ∙ h)).moved ∙ ap (λ t. t ++ g.S.Source.meaning.left c.take.new.self) (sym facts.0)) (omega arith) (let few = facts.3 in omega arith)
    c.in-Some.end (turn_at _ _ _ _ _ _ _ _ _ _ _ _ _ _ c.in-Ok-feed.ensures.ok (λ h. sink_told ∙ h) c.in-Some.ensures.turn)

pub loop-room-preserved : goal.loop-room-preserved
loop-room-preserved g c =
    let told = c.loop-room.invariant.source_told in
    let sink_told = c.loop-room.invariant.sink_told in
    let facts = got_facts c.take.new.into (drop c.min-wanted.result c.loop-room.piece) c.loop-room.piece c.in-Ok.count c.min-wanted.result c.loop-room.room c.in-Ok.ensures.bound c.take.auto.into c.min-wanted.ensures in
    let size = facts.1 in
    let room = facts.2 in
    let done = c.in-None.ensures in
    record {
      so_far = goes_on _ _ _ _ _ _ _ _ _ _ _ _ _ _ (c.loop-room.room - c.in-Ok.count) _ _ _ (take c.in-Ok.count (c.take.new.into ++ drop c.min-wanted.result c.loop-room.piece)) _ _ _ c.loop-room.invariant.so_far
          (λ h. (c.in-Ok.ensures.bytes (told ∙ h)).moved ∙ ap (λ t. t ++ g.S.Source.meaning.left c.take.new.self) (sym facts.0)) (omega arith) (let few = facts.3 in omega arith)
          (turn_at _ _ _ _ _ _ _ _ _ _ _ _ _ _ c.in-Ok-feed.ensures.ok (λ h. sink_told ∙ h) done.turn);
      ready = done.ready (λ e. cc);
      size = (let before = c.loop-room.invariant.size in let least = c.min-wanted.ensures in
          omega (arith, c.take.auto.into, length-append c.take.new.into (drop c.min-wanted.result c.loop-room.piece), length-take c.min-wanted.result c.loop-room.piece, length-drop c.min-wanted.result c.loop-room.piece));
      source_told = c.in-Ok.ensures.told ∙ told;
      sink_told = done.told ∙ sink_told;
      label = λ h. done.label (sink_told ∙ h) ∙ c.loop-room.invariant.label h;
      source_count = omega (arith, c.in-Ok.ensures.cause.never_falls, c.loop-room.invariant.source_count);
      sink_count = omega (arith, done.write_cause.never_falls, c.loop-room.invariant.sink_count);
      step_count = omega (arith, done.store_cause.never_falls, c.loop-room.invariant.step_count);
    }

pub returns-in-Err-clause-talked : goal.returns-in-Err-clause-talked
returns-in-Err-clause-talked g c =
    let told = c.loop-room.invariant.source_told in
    reads_fault _ _ _ _ _ _ _ _ _ _ _ _ _ _ _ c.loop-room.invariant.so_far _ (λ h. sym (c.in-Err.ensures.bytes (told ∙ h)))

pub returns-clause-talked : goal.returns-clause-talked
returns-clause-talked g c =
    let full : c.loop-room.room ≤ 0 = c.loop-room-test.false in
    let none : c.loop-room.room ≡ 0 = omega (arith, full) in
    ends_spent _ _ _ _ _ _ _ _ _ _ _ _ _ _ _ c.loop-room.invariant.so_far none
