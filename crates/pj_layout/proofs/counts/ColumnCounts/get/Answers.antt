use Rattle.std.proofs.Common.{◌≡◌, ◌-◌, ◌≤◌, Bool, true, false, length, get_or, [], refl, ◌∙◌, ap, arith}
use Rattle.std.proofs.lemmas.List.{get_or_read}
use Rattle.pj_bits.specs.Row.{has}
use Rattle.pj_layout.specs.Counts.{digit}
use Rattle.pj_layout.proofs.Digits.{read_below}
use Rattle.pj_layout.proofs.counts.ColumnCounts.get.Goals as goal

pub overflow_mul-sum : goal.overflow_mul-sum
overflow_mul-sum c = omega (arith, c.requires.fits, read_below c.args.self.now.digits.items c.loop-place.place c.args.column c.loop-place-test.true (omega (arith, c.args.self.now.digits.ok.0)))

byte : (b : Bool) → mir.Val.bool_byte b ≡ digit b
byte true = refl
byte false = refl

pub overflow_add-sum : goal.overflow_add-sum
overflow_add-sum c =
    let inside : c.loop-place.place ≤ length c.args.self.now.digits.items = omega (arith, c.args.self.now.digits.ok.0) in
    let row : c.index.result.now ≡ get_or c.args.self.now.digits.items (c.loop-place.place - 1) [] = get_or_read c.args.self.now.digits.items (c.loop-place.place - 1) c.index.result.now (omega arith) c.index.ensures [] in
    let bit : c.from.result ≡ digit (has (get_or c.args.self.now.digits.items (c.loop-place.place - 1) []) c.args.column) = c.from.ensures ∙ byte c.get.result ∙ ap digit (c.get.ensures ∙ ap (λ r. has r c.args.column) row) in
    omega (arith, c.requires.fits, read_below c.args.self.now.digits.items c.loop-place.place c.args.column c.loop-place-test.true inside)
