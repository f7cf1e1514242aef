use Rattle.std.proofs.Common.{◌∙◌, sym, subst, Some}
use Rattle.pj_change.specs.declared.version.Version.TheVariants.{Owner}
use Rattle.pj_states.specs.Index.{AreIndexed}
use Rattle.pj_states.proofs.NextVersions.{owner_first, others_first, next_after_one}
use Rattle.pj_states.proofs.SetVersions.{next_listed}
use Rattle.pj_states.proofs.versions.Versions.surviving.Goals as goal

pub returns-then-survives-clause-table : goal.returns-then-survives-clause-table
returns-then-survives-clause-table c = rw c.in-None.is (owner_first c.args.self.now c.args.at (sym c.survives.ensures ∙ c.if-survives.true))

pub returns-then-survives-clause-set : goal.returns-then-survives-clause-set
returns-then-survives-clause-set c = λ S of.
    let x = subst (λ rows. AreIndexed rows c.self.inside.ranges) c.self.view_is c.self.invariant.0 in
    next_listed S c.args.self.now x.rising of c.args.at c.args.after (Some Owner) (returns-then-survives-clause-table c)

pub returns-else-survives-clause-table : goal.returns-else-survives-clause-table
returns-else-survives-clause-table c =
    rw c.in-None.is (others_first c.args.self.now c.args.at (sym c.survives.ensures ∙ c.if-survives.false) c.next_version.result c.next_version.ensures)

pub returns-else-survives-clause-set : goal.returns-else-survives-clause-set
returns-else-survives-clause-set c = λ S of.
    let x = subst (λ rows. AreIndexed rows c.self.inside.ranges) c.self.view_is c.self.invariant.0 in
    next_listed S c.args.self.now x.rising of c.args.at c.args.after c.next_version.result (returns-else-survives-clause-table c)

pub returns-in-Some-clause-table : goal.returns-in-Some-clause-table
returns-in-Some-clause-table c =
    rw c.in-Some.is (next_after_one c.args.self.now c.args.at c.in-Some.version c.next_version-in-Some.result (rw c.changer.ensures at c.next_version-in-Some.ensures))

pub returns-in-Some-clause-set : goal.returns-in-Some-clause-set
returns-in-Some-clause-set c = λ S of.
    let x = subst (λ rows. AreIndexed rows c.self.inside.ranges) c.self.view_is c.self.invariant.0 in
    next_listed S c.args.self.now x.rising of c.args.at c.args.after c.next_version-in-Some.result (returns-in-Some-clause-table c)
