-- Each turn of the loop is one session more.
use Rattle.std.proofs.Common.{◌≡◌, ℕ, ◌+◌, ◌<◌, IsTrue, List, [], ◌∷◌, length, drop, get_or, refl, sym, ◌∙◌, ap, arith, add-zero}
use Rattle.std.proofs.lemmas.List.{get_or_default, length_push, get_or-drop, drop-drop, length-set, set-get_or}
use Rattle.std.specs.Fmt.{decimal}
use Rattle.pj_serve.proofs.WorkLemmas.{working_push, working_still}
use Rattle.pj_serve.proofs.working.serve_all.Goals as goal

pub loop-turn-preserved : goal.loop-turn-preserved
loop-turn-preserved g c =
    let before = c.loop-turn.invariant in
    let told = before.door.told in
    let came = rw c.in-Ok-Some.field-0-is at c.in-Ok-Some.ensures.left in
    let bytes = rw c.in-Ok-Some.field-0-is at c.in-Ok-Some.ensures.bytes in
    let given = rw c.in-Ok-Some.field-0-is at c.in-Ok-Some.ensures.given in
    let source = rw c.in-Ok-Some.field-0-is at c.in-Ok-Some.ensures.source in
    let sink = rw c.in-Ok-Some.field-0-is at c.in-Ok-Some.ensures.sink in
    let label = rw c.in-Ok-Some.field-0-is at c.in-Ok-Some.ensures.label in
    let tells = g.V.Door.meaning.tells c.args.door.now in
    let n = c.loop-turn.turn-index in
    let all : List (List ℕ) = g.V.Door.meaning.coming c.args.door.now in
    let served = c.attend-used.ensures in
    let came_all : IsTrue tells → drop n all ≡ g.V.Src.Source.meaning.left c.in-Ok-Some.source ∷ g.V.Door.meaning.coming c.accept.new.self = λ h. sym (before.door.coming h) ∙ bytes (told ∙ h) in
    let counted : g.V.Door.meaning.given c.accept.new.self ≡ g.V.Door.meaning.given c.args.door.now + (n + 1) = (let x = given in let y = before.door.given in omega arith) in
    let inside : c.loop-turn.turn-index < length c.loop-turn.turns = omega (arith, c.loop-turn.auto.turns, c.loop-turn-test.true) in
    let item = get_or c.loop-turn.turns n c.turn-item.result in
    record {
      working = working_push _ _ _ _ _ _ _ _ _ _ _ _ _ _ n item c.attend-used.new.turn _ _ before.working before.at inside (get_or_default c.loop-turn.turns n c.turn-item.result item inside) refl c.push_reserved.ensures.items c.push_reserved-in-loop-turn.ensures.items came
          (record {
            opened = record { source = c.in-Ok-Some.source; sink = c.in-Ok-Some.sink };
            given = record {
              source = record { told = λ h. source.told (told ∙ h); not_shut = source.not_shut; no_fault = source.no_fault };
              bytes_are = λ h. sym (ap (λ l. get_or l 0 []) (came_all h)) ∙ get_or-drop n all 0 [] ∙ ap (λ k. get_or all k []) (add-zero n);
              sink = sink;
              label_is = λ t. label t ∙ ap decimal counted;
            };
            number = served.number;
            kept_pass = served.kept_pass;
            ended_pass = served.ended_pass;
            spoken = served.spoken;
          });
      at = ap (λ (l : List _). length l) c.push_reserved.ensures.items ∙ length_push c.loop-turn.kept.items _ ∙ ap (λ k. k + 1) before.at;
      door = record {
        told = c.in-Ok-Some.ensures.told ∙ told;
        given = counted;
        coming = λ h. sym (ap (λ l. drop 1 l) (came_all h)) ∙ drop-drop 1 n all;
        faults = omega (arith, before.door.faults, c.in-Ok-Some.ensures.cause.never_falls);
      };
      kept_room = (let r = before.kept_room in let k = c.push_reserved.ensures.capacity in omega (arith, length-set c.loop-turn.turns n c.attend-used.new.turn));
      ends_room = (let r = before.ends_room in let k = c.push_reserved-in-loop-turn.ensures.capacity in omega (arith, length-set c.loop-turn.turns n c.attend-used.new.turn));
    }

pub returns-in-Err-Failed-clause-working : goal.returns-in-Err-Failed-clause-working
returns-in-Err-Failed-clause-working g c =
    working_still _ _ _ _ _ _ _ _ _ _ _ _ c.loop-turn.invariant.working c.in-Err-Failed.ensures.left.1 (set-get_or _ _ _)

pub returns-in-Err-Memory-clause-working : goal.returns-in-Err-Memory-clause-working
returns-in-Err-Memory-clause-working g c =
    working_still _ _ _ _ _ _ _ _ _ _ _ _ c.loop-turn.invariant.working c.in-Err-Memory.ensures.left.1 (set-get_or _ _ _)
