use Rattle.std.proofs.Common.{◌∙◌, ap, ◌||◌}
use Rattle.pj_rows.specs.Keys.{has, is_among}
use Rattle.pj_rows.proofs.KeyLemmas.{has-with}
use Rattle.pj_deps.specs.Dependents.{held_cmp, holder_cmp, pair}
use Rattle.pj_deps.proofs.PairKeys.{held_total, found_with}
use Rattle.pj_deps.proofs.SetTables.{deps_with}
use Rattle.pj_deps.proofs.deps.Deps.with.Goals as goal
use Rattle.pj_change.proofs.EqualNames.{name_ties}

pub returns-clause-held : goal.returns-clause-held
returns-clause-held g c = λ name.
    rw (c.in_ok-held.ensures.same, ← c.self.view_is)
    (has-with held_cmp held_total (record { name = name }) (record { name = c.args.record.now.name }) _ c.self.inside.held
    ∙ ap (λ b. b || has held_cmp (record { name = name }) c.self.inside.held) (name_ties c.args.record.now.name name))

pub returns-clause-holders : goal.returns-clause-holders
returns-clause-holders g c = λ need holder.
    rw (← c.self.view_is) (found_with c.args.record.now need holder _ _ (c.in_ok-holders.ensures.rows (pair need holder) ∙ ap (λ ks. is_among holder_cmp (pair need holder) ks || has holder_cmp (pair need holder) c.self.inside.holders) (c.deref.ensures.value ∙ c.in_ok-pairs.ensures)))

pub returns-clause-set : goal.returns-clause-set
returns-clause-set g c = deps_with c.args.record.now c.args.self _ (returns-clause-held g c) (returns-clause-holders g c)
