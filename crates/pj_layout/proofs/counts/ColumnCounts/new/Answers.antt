use Rattle.std.proofs.Common.{◌≡◌, ◌*◌, suc, length, [], ◌∷◌, ◌++◌, sym, ◌∙◌, ap, arith, List, Bool}
use Rattle.std.proofs.Math.Nat.{pow-suc}
use Rattle.std.proofs.lemmas.List.Elements.{All-push}
use Rattle.pj_layout.proofs.Digits.{clear_push}
use Rattle.pj_layout.proofs.counts.ColumnCounts.new.Goals as goal

pub loop-limit-preserved : goal.loop-limit-preserved
loop-limit-preserved c =
    let inv = c.loop-limit.invariant in
    rw c.in_ok-push.ensures.items (record {
      power = (let long : length (c.loop-limit.digits.items ++ c.in_ok-new.field-0 ∷ []) ≡ suc (length c.loop-limit.digits.items) = grind arith in rw long (ap (λ n. n * 2) inv.power ∙ (let e = pow-suc 2 (length c.loop-limit.digits.items) in sym e)));
      small = omega arith;
      wide = All-push (λ (d : List Bool). length d ≡ c.args.width) c.loop-limit.digits.items c.in_ok-new.field-0 inv.wide c.in_ok-new.ensures.size;
      zero = λ k. clear_push c.loop-limit.digits.items c.in_ok-new.field-0 k (inv.zero k) (c.in_ok-new.ensures.clear k);
    })
