-- Each turn takes one seat from the front.
use Rattle.std.proofs.Common.{◌≡◌, ◌+◌, ◌∷◌, List, length, refl, ◌∙◌, ap, arith}
use Rattle.std.proofs.lemmas.List.{length_push}
use Rattle.pj_load.proofs.Parting.{none_left, none_taken, one_before, one_taken, all_taken}
use Rattle.pj_serve.proofs.seating.parted.Goals as goal

pub loop-pass-init : goal.loop-pass-init
loop-pass-init g c =
    let same = c.from_vec-seats.ensures.items in
    let many : length c.from_vec-seats.result.items ≡ length c.args.seats.items = ap (λ (l : List _). length l) same in
    let first : length c.push_reserved.new.self.items ≡ length c.args.passes.items + 1 =
    ap (λ (l : List _). length l) c.push_reserved.ensures.items ∙ length_push c.args.passes.items c.args.zero in
    let no_pass : length c.args.passes.items ≡ 0 = ap (λ (l : List _). length l) c.requires.passes.0 in
    let no_kept : length c.args.kept.items ≡ 0 = ap (λ (l : List _). length l) c.requires.kept.0 in
    let no_end : length c.args.ends.items ≡ 0 = ap (λ (l : List _). length l) c.requires.ends.0 in
    let room = c.requires.passes.1 in
    let kept_room = c.requires.kept.1 in
    let ends_room = c.requires.ends.1 in
    let capacity = c.push_reserved.ensures.capacity in
    record {
      passes = one_before _ c.args.passes.items _ c.args.zero _ _ c.requires.passes.0 c.push_reserved.ensures.items same;
      kept = none_taken _ _ _ _ c.requires.kept.0 same;
      ends = none_taken _ _ _ _ c.requires.ends.0 same;
      passes_room = omega arith;
      kept_room = omega arith;
      ends_room = omega arith;
    }

pub loop-pass-preserved : goal.loop-pass-preserved
loop-pass-preserved g c =
    let before = c.loop-pass.invariant in
    let taken : c.loop-pass.seats.items ≡ c.in-Some.field-0 ∷ c.pop_front.new.self.items = c.in-Some.ensures.items in
    let fewer : length c.loop-pass.seats.items ≡ length c.pop_front.new.self.items + 1 = ap (λ (l : List _). length l) taken ∙ (omega arith) in
    let pass_more : length c.push_reserved-in-Some.new.self.items ≡ length c.loop-pass.passes.items + 1 =
    ap (λ (l : List _). length l) c.push_reserved-in-Some.ensures.items ∙ length_push c.loop-pass.passes.items _ in
    let kept_more : length c.push_reserved-in-Some-2.new.self.items ≡ length c.loop-pass.kept.items + 1 =
    ap (λ (l : List _). length l) c.push_reserved-in-Some-2.ensures.items ∙ length_push c.loop-pass.kept.items _ in
    let end_more : length c.push_reserved-in-Some-3.new.self.items ≡ length c.loop-pass.ends.items + 1 =
    ap (λ (l : List _). length l) c.push_reserved-in-Some-3.ensures.items ∙ length_push c.loop-pass.ends.items _ in
    let passes_room = before.passes_room in
    let kept_room = before.kept_room in
    let ends_room = before.ends_room in
    let passes_same = c.push_reserved-in-Some.ensures.capacity in
    let kept_same = c.push_reserved-in-Some-2.ensures.capacity in
    let ends_same = c.push_reserved-in-Some-3.ensures.capacity in
    record {
      passes = one_taken _ _ _ _ _ _ _ _ before.passes taken refl c.push_reserved-in-Some.ensures.items;
      kept = one_taken _ _ _ _ _ _ _ _ before.kept taken (let number = c.number-number.ensures in let source = c.in-Some.source-is in let sink = c.in-Some.sink-is in let pass = c.in-Some.pass-is in cc) c.push_reserved-in-Some-2.ensures.items;
      ends = one_taken _ _ _ _ _ _ _ _ before.ends taken (let number = c.number-number.ensures in let end = c.in-Some.end-is in let pass = c.in-Some.pass-is in cc) c.push_reserved-in-Some-3.ensures.items;
      passes_room = omega arith;
      kept_room = omega arith;
      ends_room = omega arith;
    }

pub returns-clause-passes : goal.returns-clause-passes
returns-clause-passes g c = all_taken _ _ _ _ c.loop-pass.invariant.passes (let ok = c.loop-pass.seats.ok in let none = c.in_default.ensures.cases.0 in none_left c.loop-pass.seats.items (omega (arith, ok, none)))

pub returns-clause-kept : goal.returns-clause-kept
returns-clause-kept g c = all_taken _ _ _ _ c.loop-pass.invariant.kept (let ok = c.loop-pass.seats.ok in let none = c.in_default.ensures.cases.0 in none_left c.loop-pass.seats.items (omega (arith, ok, none)))

pub returns-clause-ends : goal.returns-clause-ends
returns-clause-ends g c = all_taken _ _ _ _ c.loop-pass.invariant.ends (let ok = c.loop-pass.seats.ok in let none = c.in_default.ensures.cases.0 in none_left c.loop-pass.seats.items (omega (arith, ok, none)))
