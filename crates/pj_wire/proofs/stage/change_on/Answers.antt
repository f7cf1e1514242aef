use Rattle.std.proofs.Common.{refl, sym, ◌∙◌, arith}
use Rattle.pj_name.specs.Name.{is_lower_hex_digit}
use Rattle.pj_wire.specs.Stages.{IsEnd}
use Rattle.pj_wire.proofs.Stages.{word_goes_on}
use Rattle.pj_wire.proofs.stage.change_on.Goals as goal

pub returns-then-read-lt64 : goal.returns-then-read-lt64
returns-then-read-lt64 c = (
  omega arith,
  λ more. word_goes_on is_lower_hex_digit 10 refl IsEnd c.args.byte more _ _ _ _ (sym c.is_hex_digit.ensures ∙ c.if-is_hex_digit.true) (omega arith) (omega arith),
)
