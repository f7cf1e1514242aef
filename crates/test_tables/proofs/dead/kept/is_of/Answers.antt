use Rattle.std.proofs.Common.{◌≡◌, ◌∙◌, sym, ap, true, false}
use Rattle.std.specs.Prelude.{Some, None}
use Rattle.pj_change.specs.Positions.{same_point}
use Rattle.test_tables.proofs.Alike.{point_decides}
use Rattle.test_tables.proofs.dead.kept.is_of.Goals as goal

pub returns-in-None-clause-no : goal.returns-in-None-clause-no
returns-in-None-clause-no c = λ h e. (let k : None ≡ Some c.args.at = sym c.in-None.is ∙ c.first.ensures ∙ e in cc)

pub returns-in-Some-clause-no : goal.returns-in-Some-clause-no
returns-in-Some-clause-no c = λ h e.
    let k : Some c.in-Some.first ≡ Some c.args.at = sym c.in-Some.is ∙ c.first.ensures ∙ e in
    let same : c.in-Some.first ≡ c.args.at = cc in
    let t : same_point c.in-Some.first c.args.at ≡ true = (point_decides c.in-Some.first c.args.at).1 same in
    let f : true ≡ false = sym t ∙ sym c.eq.ensures ∙ h in
    cc

pub returns-in-Some-clause-yes : goal.returns-in-Some-clause-yes
returns-in-Some-clause-yes c = λ h.
    let same = (point_decides c.in-Some.first c.args.at).0 (sym c.eq.ensures ∙ h) in
    sym c.first.ensures ∙ c.in-Some.is ∙ ap Some same
