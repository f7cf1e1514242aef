use Rattle.std.proofs.Common.{◌≡◌, ◌∙◌, sym, ap, subst, List, Some, None, true, false}
use Rattle.std.specs.Prelude.{◌↔◌, IsTrue}
use Rattle.pj_change.specs.declared.change.Record.{Record}
use Rattle.pj_change.specs.Children.{IsInode}
use Rattle.pj_change.specs.Lawful.{record_of}
use Rattle.pj_view.proofs.FileInodes.{none_held, file_told}
use Rattle.pj_view.proofs.view.SetView.is_file.Goals as goal

pub returns-in-Some : goal.returns-in-Some
returns-in-Some c =
    let S = c.args.self.now in
    let r = c.deref.result.now in
    let found : record_of S c.args.at.change ≡ Some r = sym (ap (λ (l : List Record). record_of l c.args.at.change) c.list.ensures.same) ∙ c.in-Some.ensures ∙ ap Some (sym c.deref.ensures) in
    subst (λ b. IsTrue b ↔ IsInode S c.args.at false) (sym c.is_file_inode.ensures) (rw c.kind_at.ensures.kind (file_told S c.args.at c.list.ensures.lawful r found))

pub returns-in-None : goal.returns-in-None
returns-in-None c =
    let S = c.args.self.now in
    let none : record_of S c.args.at.change ≡ None = sym (ap (λ (l : List Record). record_of l c.args.at.change) c.list.ensures.same) ∙ c.in-None.ensures in
    (λ no. absurd (let e : false ≡ true = no in cc), λ i. absurd (none_held S c.args.at none i))
