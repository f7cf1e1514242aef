use Rattle.std.proofs.Common.{◌∙◌, sym, ap, List, Option, None}
use Rattle.pj_name.specs.declared.name.Name.{Name}
use Rattle.pj_change.specs.declared.change.Record.{Record}
use Rattle.pj_apply.specs.Links.{first_name, shown_link}
use Rattle.pj_apply.specs.Walks.{remaining}
use Rattle.pj_apply.proofs.LinkLemmas.{link_after, none_after}
use Rattle.pj_apply.proofs.held.Held.next_name.Goals as goal

pub returns-in_err-link-in-Some-clause-name : goal.returns-in_err-link-in-Some-clause-name
returns-in_err-link-in-Some-clause-name c =
    let list = c.args.self.now in
    c.from_residual.ensures
    ∙ sym (ap (λ (at : Option Name). first_name (remaining list at) None) c.in-Some.is
    ∙ ap (λ (rest : List Record). first_name rest None) (none_after None list None c.in-Some.name c.in_err-link-in-Some.ensures))

pub returns-in_ok-link-in-Some-clause-name : goal.returns-in_ok-link-in-Some-clause-name
returns-in_ok-link-in-Some-clause-name c =
    let list = c.args.self.now in
    let l = c.in_ok-link-in-Some.field-0.now in
    link_after None list None c.in-Some.name (shown_link l) c.in_ok-link-in-Some.ensures ∙ sym (ap (λ (at : Option Name). first_name (remaining list at) None) c.in-Some.is)
