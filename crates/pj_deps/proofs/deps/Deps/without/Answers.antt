use Rattle.std.proofs.Common.{◌∙◌, ap, ◌&&◌, not}
use Rattle.pj_rows.specs.Keys.{has, is_among}
use Rattle.pj_rows.proofs.KeyLemmas.{has-without}
use Rattle.pj_deps.specs.Dependents.{held_cmp, holder_cmp, pair}
use Rattle.pj_deps.proofs.PairKeys.{held_total, found_without}
use Rattle.pj_deps.proofs.SetTables.{deps_without}
use Rattle.pj_deps.proofs.deps.Deps.without.Goals as goal
use Rattle.pj_change.proofs.EqualNames.{name_ties}

pub returns-clause-held : goal.returns-clause-held
returns-clause-held g c = λ name.
    rw (c.in_ok-held.ensures.same, ← c.self.view_is)
    (has-without held_cmp held_total (record { name = name }) (record { name = c.args.record.now.name }) c.self.inside.held c.self.invariant.held_rise
    ∙ ap (λ b. not b && has held_cmp (record { name = name }) c.self.inside.held) (name_ties c.args.record.now.name name))

pub returns-clause-holders : goal.returns-clause-holders
returns-clause-holders g c = λ need holder.
    rw (← c.self.view_is) (found_without c.args.record.now need holder _ _ (c.in_ok-holders.ensures.rows (pair need holder) ∙ ap (λ ks. not (is_among holder_cmp (pair need holder) ks) && has holder_cmp (pair need holder) c.self.inside.holders) (c.deref.ensures.value ∙ c.in_ok-pairs.ensures)))

pub returns-clause-set : goal.returns-clause-set
returns-clause-set g c = deps_without c.args.record.now c.args.self _ (returns-clause-held g c) (returns-clause-holders g c)
