use Rattle.std.proofs.Common.{◌≡◌, ◌+◌, ◌++◌, [], ◌∷◌, refl, add-one, arith}
use Rattle.std.specs.List.{range_with_len}
use Rattle.pj_bits.proofs.Ones.{range_more}
use Rattle.pj_layout.proofs.order.classes.Goals as goal

pub loop-class-preserved : goal.loop-class-preserved
loop-class-preserved c =
    let place : 0 + c.loop-class.class ≡ c.loop-class.class = omega arith in
    let more : range_with_len 0 (c.loop-class.class + 1) ≡ range_with_len 0 c.loop-class.class ++ (0 + c.loop-class.class) ∷ [] = rw add-one (range_more 0 c.loop-class.class) in
    rw (c.in_ok-push.ensures.items, c.loop-class.invariant, more, place) refl
