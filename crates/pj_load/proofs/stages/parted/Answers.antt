-- Each turn takes one seat from the front.
use Rattle.std.proofs.Common.{◌≡◌, ◌+◌, ◌++◌, ◌∷◌, [], List, length, map, ◌∙◌, ap, arith}
use Rattle.std.proofs.lemmas.List.{length_push}
use Rattle.pj_load.proofs.Parting.{one_taken}
use Rattle.pj_load.proofs.stages.parted.Goals as goal

pub loop-pass-init : goal.loop-pass-init
loop-pass-init g c =
    let same = c.from_vec-seats.ensures.items in
    let many : length c.from_vec-seats.result.items ≡ length c.args.seats.items = ap (λ (l : List _). length l) same in
    let first : length c.push_reserved-2.new.self.items ≡ length c.args.passes.items + 1 =
    ap (λ (l : List _). length l) c.push_reserved-2.ensures.items ∙ length_push c.args.passes.items c.args.zero in
    let second : length c.push_reserved-3.new.self.items ≡ length c.push_reserved-2.new.self.items + 1 =
    ap (λ (l : List _). length l) c.push_reserved-3.ensures.items ∙ length_push c.push_reserved-2.new.self.items _ in
    let one : length c.push_reserved.new.self.items ≡ length c.args.ends.items + 1 =
    ap (λ (l : List _). length l) c.push_reserved.ensures.items ∙ length_push c.args.ends.items _ in
    let no_pass : length c.args.passes.items ≡ 0 = ap (λ (l : List _). length l) c.requires.passes.0 in
    let no_end : length c.args.ends.items ≡ 0 = ap (λ (l : List _). length l) c.requires.ends.0 in
    let room = c.requires.passes.1 in
    let ends_room = c.requires.ends.1 in
    let capacity = c.push_reserved-2.ensures.capacity in
    let capacity' = c.push_reserved-3.ensures.capacity in
    let ends_capacity = c.push_reserved.ensures.capacity in
    record {
      passes = ap (λ l. l ++ map (λ s. s.pass) c.from_vec-seats.result.items) (c.push_reserved-3.ensures.items ∙ ap (λ l. l ++ c.args.prelude.0 ∷ []) (c.push_reserved-2.ensures.items ∙ ap (λ l. l ++ c.args.zero ∷ []) c.requires.passes.0))
          ∙ ap (λ l. c.args.zero ∷ c.args.prelude.0 ∷ map (λ s. s.pass) l) same;
      ends = ap (λ l. l ++ map (λ s. record { pass = s.pass.number; end = s.end }) c.from_vec-seats.result.items) (c.push_reserved.ensures.items ∙ ap (λ l. l ++ record { pass = c.number.result; end = c.args.prelude.1 } ∷ []) c.requires.ends.0)
          ∙ ap (λ n. record { pass = n; end = c.args.prelude.1 } ∷ map (λ s. record { pass = s.pass.number; end = s.end }) c.from_vec-seats.result.items) c.number.ensures
          ∙ ap (λ l. record { pass = c.args.prelude.0.number; end = c.args.prelude.1 } ∷ map (λ s. record { pass = s.pass.number; end = s.end }) l) same;
      passes_room = omega arith;
      ends_room = omega arith;
    }

pub loop-pass-preserved : goal.loop-pass-preserved
loop-pass-preserved g c =
    let before = c.loop-pass.invariant in
    let taken : c.loop-pass.seats.items ≡ c.in-Some.field-0 ∷ c.pop_front.new.self.items = c.in-Some.ensures.items in
    let fewer : length c.loop-pass.seats.items ≡ length c.pop_front.new.self.items + 1 = ap (λ (l : List _). length l) taken ∙ (omega arith) in
    let end_more : length c.push_reserved-in-Some.new.self.items ≡ length c.loop-pass.ends.items + 1 =
    ap (λ (l : List _). length l) c.push_reserved-in-Some.ensures.items ∙ length_push c.loop-pass.ends.items _ in
    let pass_more : length c.push_reserved-in-Some-2.new.self.items ≡ length c.loop-pass.passes.items + 1 =
    ap (λ (l : List _). length l) c.push_reserved-in-Some-2.ensures.items ∙ length_push c.loop-pass.passes.items _ in
    let passes_room = before.passes_room in
    let ends_room = before.ends_room in
    let passes_same = c.push_reserved-in-Some-2.ensures.capacity in
    let ends_same = c.push_reserved-in-Some.ensures.capacity in
    record {
      passes = one_taken _ _ _ _ _ _ _ _ before.passes taken (let pass = c.in-Some.pass-is in cc) c.push_reserved-in-Some-2.ensures.items;
      ends = one_taken _ _ _ _ _ _ _ _ before.ends taken (let number = c.number-in-Some.ensures in let end = c.in-Some.end-is in let pass = c.in-Some.pass-is in cc) c.push_reserved-in-Some.ensures.items;
      passes_room = omega arith;
      ends_room = omega arith;
    }
