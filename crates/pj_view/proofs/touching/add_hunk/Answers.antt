use Rattle.std.proofs.Common.{◌≡◌, ◌∙◌, sym, ap, true, false}
use Rattle.std.proofs.lemmas.Result.{IfOk-weaker}
use Rattle.pj_view.specs.Added.{HasEntries, IsCovered}
use Rattle.pj_view.specs.Stretches.{is_in, is_in_some}
use Rattle.pj_view.proofs.Additions.{none_added, fewer_added}
use Rattle.pj_view.proofs.touching.add_hunk.Goals as goal

pub returns-in-Some : goal.returns-in-Some
returns-in-Some c =
    let S = c.args.view.now in
    let r = c.args.«record».now in
    let h = c.args.hunk.now in
    let s = c.in-Some.stretch in
    let old = c.args.points.now.items in
    let new = c.add_stretch.new.points.items in
    IfOk-weaker c.add_stretch.result (λ done. HasEntries S old new (λ p. is_in s p ≡ true)) (λ done. HasEntries S old new (IsCovered r h))
    (λ done a. fewer_added old new (λ p. is_in s p ≡ true) (IsCovered r h) (λ p b. sym (ap (λ found. is_in_some found p) c.in-Some.is) ∙ sym (c.covered.ensures p) ∙ b) a) c.add_stretch.ensures

pub returns-in-None : goal.returns-in-None
returns-in-None c =
    let r = c.args.«record».now in
    let h = c.args.hunk.now in
    none_added c.args.points.now.items (IsCovered r h) (λ p b. (let e : false ≡ true = sym (ap (λ found. is_in_some found p) c.in-None.is) ∙ sym (c.covered.ensures p) ∙ b in cc))
