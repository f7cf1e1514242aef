use Rattle.std.proofs.Common.{◌≡◌, ◌∙◌, sym, subst, true}
use Rattle.pj_states.specs.Named.{is_named}
use Rattle.pj_states.proofs.NamedRows.{none_named, other_named}
use Rattle.pj_states.proofs.named.Named.has.Goals as goal

pub returns-in-Some : goal.returns-in-Some
returns-in-Some c = λ k there.
    c.eq.ensures ∙ other_named c.self.inside.rows c.len-rising.ensures.rising c.args.name _ c.in-Some.ensures k (subst (λ rows. is_named rows c.args.name k ≡ true) (sym c.self.view_is) there)

pub returns-in-None : goal.returns-in-None
returns-in-None c = λ k there. none_named c.self.inside.rows c.len-rising.ensures.rising c.args.name c.in-None.ensures k (subst (λ rows. is_named rows c.args.name k ≡ true) (sym c.self.view_is) there)
