use Rattle.std.proofs.Common.{◌≡◌, rules, sym, subst, true, Bool}
use Rattle.std.specs.Prelude.{◌↔◌, ◌++◌}
use Rattle.pj_change.specs.Lawful.{IsLawful}
use Rattle.pj_change.specs.Sets.{HaveOneText}
use Rattle.pj_change.specs.OneText.{all_agree}
use Rattle.pj_change.proofs.AgreeingTexts.{lists_agree}
use Rattle.pj_plain.proofs.channel.PlainChannel.agrees_with.Goals as goal

pub returns : goal.returns
returns c =
    let list = c.args.self.now in
    let other = c.args.other.now in
    let e : c.all_agree.result ≡ all_agree list other = search rules in
    let a : IsLawful list = subst IsLawful c.self.view_is c.self.invariant in
    let b : IsLawful other = subst IsLawful c.other.view_is c.other.invariant in
    subst (λ (t : Bool). (t ≡ true) ↔ HaveOneText (list ++ other)) (sym e) (lists_agree list other a b)
