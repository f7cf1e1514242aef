-- Nothing was taken from workers yet.
use Rattle.std.proofs.Common.{◌≡◌, List, ◌++◌, length, map, ◌∙◌, ap, arith}
use Rattle.std.proofs.lemmas.List.{length-map}
use Rattle.std.specs.Prelude.{flat_map}
use Rattle.pj_serve.specs.Shifts.{own_ends, shift_of}
use Rattle.pj_serve.proofs.WorkRows.{few_own_ends}
use Rattle.pj_serve.proofs.leaving.parted.Goals as goal

pub loop-door-init : goal.loop-door-init
loop-door-init g c =
    let same = c.from_vec-workers.ensures.items in
    let all = c.args.workers.items in
    let its_ends = c.with_own_ends-ends.ensures.items ∙ ap (λ l. own_ends 1 (map shift_of l)) c.as_slice.ensures.value in
    let few = few_own_ends 1 (map shift_of all) in
    let many : length (map shift_of all) ≡ length all = length-map all shift_of in
    let size : length c.with_own_ends-ends.result.items ≡ length (own_ends 1 (map shift_of all)) = ap (λ (l : List _). length l) its_ends in
    let no_kept : length c.args.left.kept.items ≡ 0 = ap (λ (l : List _). length l) c.requires.kept.0 in
    let no_door : length c.args.left.doors.items ≡ 0 = ap (λ (l : List _). length l) c.requires.doors.0 in
    let passes_room = c.requires.passes in
    let kept_room = c.requires.kept.1 in
    let ends_room = c.requires.ends.1 in
    let doors_room = c.requires.doors.1 in
    let capacity = c.with_own_ends-ends.ensures.capacity in
    let turns_same : length (flat_map (λ w. w.turns.items) c.from_vec-workers.result.items) ≡ length (flat_map (λ w. w.turns.items) all) = ap (λ l. length (flat_map (λ w. w.turns.items) l)) same in
    let kept_same : length (flat_map (λ w. w.kept.items) c.from_vec-workers.result.items) ≡ length (flat_map (λ w. w.kept.items) all) = ap (λ l. length (flat_map (λ w. w.kept.items) l)) same in
    let ends_same : length (flat_map (λ w. w.ends.items) c.from_vec-workers.result.items) ≡ length (flat_map (λ w. w.ends.items) all) = ap (λ l. length (flat_map (λ w. w.ends.items) l)) same in
    let doors_same : length c.from_vec-workers.result.items ≡ length all = ap (λ (l : List _). length l) same in
    record {
      passes = ap (λ l. c.args.left.passes.items ++ map (λ t. t.pass) (flat_map (λ w. w.turns.items) l)) same;
      kept = ap (λ k. k ++ flat_map (λ w. w.kept.items) c.from_vec-workers.result.items) c.requires.kept.0 ∙ ap (λ l. flat_map (λ w. w.kept.items) l) same;
      ends = ap (λ e. e ++ flat_map (λ w. w.ends.items) c.from_vec-workers.result.items) its_ends ∙ ap (λ l. own_ends 1 (map shift_of all) ++ flat_map (λ w. w.ends.items) l) same;
      doors = ap (λ d. d ++ map (λ w. w.door) c.from_vec-workers.result.items) c.requires.doors.0 ∙ ap (λ l. map (λ w. w.door) l) same;
      passes_room = omega (arith, passes_room, turns_same);
      kept_room = omega (arith, kept_room, no_kept, kept_same);
      ends_room = omega (arith, ends_room, ends_same, size, few, many, capacity);
      doors_room = omega (arith, doors_room, no_door, doors_same);
    }
