use Rattle.std.proofs.Common.{◌≡◌, ◌∙◌, sym, ap, Some, None, List}
use Rattle.std.specs.Prelude.{slice_get}
use Rattle.pj_change.specs.declared.change.Record.{Record}
use Rattle.pj_change.specs.Lawful.{record_of}
use Rattle.pj_change.proofs.Members.{member_at}
use Rattle.pj_apply.proofs.Distinct.{record_is, record_none}
use Rattle.pj_view.proofs.TouchedParts.{covered_there, none_there, none_held, none_contested}
use Rattle.pj_view.proofs.touching.covered_at.Goals as goal

pub returns-then-is_contested : goal.returns-then-is_contested
returns-then-is_contested c = λ p b. absurd (none_contested c.args.view.now c.args.at c.is_contested.result c.is_contested.ensures c.if-is_contested.true p b)

pub returns-in_err-owner : goal.returns-in_err-owner
returns-in_err-owner c = λ p b.
    let R = c.args.view.now in
    let at = c.args.at in
    let none : record_of R at.change ≡ None = sym (ap (λ (l : List Record). record_of l at.change) c.list.ensures.same) ∙ c.in_err-owner.ensures in
    absurd (none_held R at (record_none R at.change none) p b)

pub returns-in_err-hunk : goal.returns-in_err-hunk
returns-in_err-hunk c = λ p b.
    let R = c.args.view.now in
    let at = c.args.at in
    let r = c.deref.result.now in
    let found : record_of R at.change ≡ Some r = sym (ap (λ (l : List Record). record_of l at.change) c.list.ensures.same) ∙ c.in_ok-owner.ensures ∙ ap Some (sym c.deref.ensures) in
    let is = record_is R at.change r found in
    absurd (none_there R c.list.ensures.lawful at r is.member is.named c.in_err-hunk.ensures p b)

pub covered-requires : goal.covered-requires
covered-requires c =
    let e : slice_get c.deref-2.result.now.change.hunks c.args.at.hunk ≡ Some c.in_ok-hunk.hunk.now =
    ap (λ (r : Record). slice_get r.change.hunks c.args.at.hunk) (c.deref-2.ensures ∙ sym c.deref.ensures) ∙ c.in_ok-hunk.ensures in
    member_at c.deref-2.result.now.change.hunks c.args.at.hunk c.in_ok-hunk.hunk.now e

pub returns : goal.returns
returns c = λ p b.
    let R = c.args.view.now in
    let at = c.args.at in
    let r = c.deref-2.result.now in
    let h = c.in_ok-hunk.hunk.now in
    let found : record_of R at.change ≡ Some r = sym (ap (λ (l : List Record). record_of l at.change) c.list.ensures.same) ∙ c.in_ok-owner.ensures ∙ ap Some (sym c.deref-2.ensures) in
    let is = record_is R at.change r found in
    let e : slice_get r.change.hunks at.hunk ≡ Some h =
    ap (λ (d : Record). slice_get d.change.hunks at.hunk) (c.deref-2.ensures ∙ sym c.deref.ensures) ∙ c.in_ok-hunk.ensures in
    sym (c.covered.ensures p) ∙ covered_there R c.list.ensures.lawful at r is.member is.named h e p b
