use Rattle.std.proofs.Common.{◌∙◌, ap, None}
use Rattle.std.specs.Option.{option_map}
use Rattle.std.specs.Arc.{arc_value}
use Rattle.pj_apply.specs.declared.link.Link.{Link}
use Rattle.pj_apply.proofs.LinkLemmas.{link_record}
use Rattle.pj_apply.proofs.held.Held.get.Goals as goal

pub returns-in_err-link : goal.returns-in_err-link
returns-in_err-link c =
    rw c.from_residual.ensures (link_record None c.args.self.now None c.args.name ∙ ap (option_map (λ (l : Link). arc_value l.change)) c.in_err-link.ensures)

pub returns : goal.returns
returns c = link_record None c.args.self.now None c.args.name ∙ ap (option_map (λ (l : Link). arc_value l.change)) c.in_ok-link.ensures
