use Rattle.std.proofs.Common.{refl, sym, ap, ◌∙◌}
use Rattle.std.specs.Option.{is_some}
use Rattle.std.specs.Result.{result_ok}
use Rattle.pj_name.proofs.Names.{decoded, read_back, refused, unread}
use Rattle.pj_name.proofs.name.Name.read.Goals as goal

pub returns-then-not-is_lower_hex-clause-spelled :
    goal.returns-then-not-is_lower_hex-clause-spelled
returns-then-not-is_lower_hex-clause-spelled c =
    unread c.args.text.now _ (λ h. cc (sym c.if-not-is_lower_hex.true ∙ c.is_lower_hex.ensures.1 h.1)) refl

pub returns-in_err-bytes-clause-found : goal.returns-in_err-bytes-clause-found
returns-in_err-bytes-clause-found c =
    let none = ap result_ok (sym c.from_hex.ensures) ∙ sym c.ok.ensures.value ∙ c.in_err-bytes.was in (
      λ some. cc (sym some ∙ ap is_some c.from_residual.ensures),
      λ h. absurd (refused c.args.text.now none h),
    )

pub returns-in_err-bytes-clause-spelled : goal.returns-in_err-bytes-clause-spelled
returns-in_err-bytes-clause-spelled c =
    let none = ap result_ok (sym c.from_hex.ensures) ∙ sym c.ok.ensures.value ∙ c.in_err-bytes.was in
    unread c.args.text.now _ (refused c.args.text.now none) c.from_residual.ensures

pub returns-clause-spelled : goal.returns-clause-spelled
returns-clause-spelled c =
    let some = ap result_ok (sym c.from_hex.ensures) ∙ sym c.ok.ensures.value ∙ c.in_ok-bytes.was in
    read_back c.args.text.now _ (decoded c.args.text.now c.in_ok-bytes.bytes (c.is_lower_hex.ensures.0 c.if-not-is_lower_hex.false) some)
