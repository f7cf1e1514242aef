use Rattle.std.proofs.Common.{ℕ, ◌∷◌, Option, refl, sym, subst}
use Rattle.std.proofs.lemmas.Option.{none-some}
use Rattle.pj_wire.specs.declared.stage.Stage.TheVariants as stage
use Rattle.pj_wire.specs.Stages.{IsLengthThen, IsStage, Rest, digits_read}
use Rattle.pj_wire.proofs.Stages.{no_length, length_ends, digit_goes_on, digit_apart}
use Rattle.pj_wire.proofs.stage.length_on.Goals as goal

pub returns-in-Some : goal.returns-in-Some
returns-in-Some c =
    let small = subst (λ (o : Option ℕ). IsStage (stage.Length o)) c.in-Some.is c.requires in
    let same = length_ends c.in-Some.missing c.args.byte c.if-byte-eq10.true small in (
      tt,
      λ more.
          subst (λ (o : Option ℕ). (IsLengthThen (digits_read o) (c.args.byte ∷ more) → Rest (stage.Text c.in-Some.missing) more) × (Rest (stage.Text c.in-Some.missing) more → IsLengthThen (digits_read o) (c.args.byte ∷ more)))
          (sym c.in-Some.is) (same more),
    )

pub returns-in-None : goal.returns-in-None
returns-in-None c = λ more h. absurd (no_length more c.args.byte c.if-byte-eq10.true (subst (λ (o : Option ℕ). IsLengthThen (digits_read o) (c.args.byte ∷ more)) c.in-None.is h))

pub returns-in-Some-with_digit : goal.returns-in-Some-with_digit
returns-in-Some-with_digit c =
    let read = (c.in-Some-with_digit.ensures c.in-Some-with_digit.number).0 refl in
    (read.0, digit_goes_on (digits_read c.args.value) c.in-Some-with_digit.number c.args.byte c.if-byte-eq10.false read.1)

pub returns-in-None-with_digit : goal.returns-in-None-with_digit
returns-in-None-with_digit c = λ more h. absurd (digit_apart (digits_read c.args.value) c.args.byte c.if-byte-eq10.false (λ n is. none-some n ((c.in-None-with_digit.ensures n).1 is)) more h)
