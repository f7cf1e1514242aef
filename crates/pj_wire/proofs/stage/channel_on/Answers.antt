use Rattle.std.proofs.Common.{◌≡◌, ◌∷◌, true, false, sym, ◌∙◌, ap, arith}
use Rattle.pj_machine.specs.ChannelName.{is_channel_byte}
use Rattle.pj_wire.specs.declared.stage.Stage.TheVariants as stage
use Rattle.pj_wire.specs.Stages.{AfterRest, Rest, end_before}
use Rattle.pj_wire.proofs.Stages.{moves_along, word_goes_on, word_ends, word_apart, end_outside}
use Rattle.pj_wire.proofs.stage.channel_on.Goals as goal
use Rattle.pj_wire.proofs.stage.channel_on.Goals.{else-byte-end-via-then-byte-end+else-read-gt0, else-byte-end-via-else-byte-end}

pub returns-then-read-lt64 : goal.returns-then-read-lt64
returns-then-read-lt64 c = (
  omega arith,
  λ more.
      word_goes_on is_channel_byte (end_before c.args.then) (end_outside c.args.then) (AfterRest c.args.then) c.args.byte more _ _ _ _ (sym c.is_channel_byte.ensures ∙ c.if-is_channel_byte.true) (omega arith) (omega arith),
)

pub returns-else-read-lt64 : goal.returns-else-read-lt64
returns-else-read-lt64 c = λ more w.
    absurd (word_apart is_channel_byte (end_before c.args.then) (AfterRest c.args.then) c.args.byte more _ _ (λ is. omega arith)
    (λ same. let both : true ≡ false = sym c.if-is_channel_byte.true ∙ c.is_channel_byte.ensures ∙ ap is_channel_byte same ∙ end_outside c.args.then in cc both) w)

pub returns-then-read-gt0 : goal.returns-then-read-gt0
returns-then-read-gt0 c =
    moves_along (λ more. Rest (stage.Channel c.args.read c.args.then) (c.args.byte ∷ more)) (λ more. AfterRest c.args.then more) c.start.result
    (λ more. word_ends is_channel_byte (end_before c.args.then) (end_outside c.args.then) (AfterRest c.args.then) c.args.byte more _ _ (omega arith) (c.if-byte-end.true ∙ c.end.ensures)) c.start.ensures

pub returns-else-byte-end : goal.returns-else-byte-end
returns-else-byte-end c = λ more w.
    absurd (word_apart is_channel_byte (end_before c.args.then) (AfterRest c.args.then) c.args.byte more _ _
    (λ is. let both : true ≡ false = sym is ∙ sym c.is_channel_byte.ensures ∙ c.if-is_channel_byte.false in cc both)
    (λ same. elim c.else-byte-end.branch [
      | else-byte-end-via-then-byte-end+else-read-gt0 w ↦ omega (arith, w.if-read-gt0.false)
      | else-byte-end-via-else-byte-end w ↦ absurd (w.if-byte-end.false (same ∙ sym c.end.ensures))
    ]) w)
