use Rattle.std.proofs.Common.{◌∙◌, subst}
use Rattle.pj_states.specs.Named.{AreNamed}
use Rattle.pj_states.proofs.versions.Versions.is_overruled.Goals as goal

pub returns : goal.returns
returns c = λ k said.
    let n = subst (λ rows. AreNamed rows c.self.inside.named) c.self.view_is c.self.invariant.1 in
    c.has.ensures k (n c.args.name k ∙ said)
