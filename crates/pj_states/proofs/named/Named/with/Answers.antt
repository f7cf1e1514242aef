use Rattle.std.proofs.Common.{◌∙◌, ap, ◌||◌}
use Rattle.pj_rows.specs.Keys.{is_among}
use Rattle.pj_states.specs.Named.{is_named, named_at, named_cmp}
use Rattle.pj_states.proofs.NamedRows.{among_named}
use Rattle.pj_states.proofs.named.Named.with.Goals as goal

pub returns-clause-rows : goal.returns-clause-rows
returns-clause-rows g c = λ name k.
    rw (← c.self.view_is)
    (c.in_ok-rows.ensures.rows (named_at name k)
    ∙ ap (λ keys. is_among named_cmp (named_at name k) keys || is_named c.self.inside.rows name k) (c.deref.ensures.value ∙ c.in_ok-keys.ensures)
    ∙ ap (λ t. t || is_named c.self.inside.rows name k) (among_named c.args.names.now c.args.by k name))
