use Rattle.std.proofs.Common.{◌≡◌, ◌∙◌, sym, ap, subst, ◌++◌, List, arith}
use Rattle.std.specs.Arc.{arc_value}
use Rattle.pj_change.specs.declared.change.Record.{Record}
use Rattle.pj_change.specs.ContestCounts.{pairs_with}
use Rattle.pj_change.specs.Lawful.{IsLawful}
use Rattle.pj_outline.specs.OutlineOf.{IsOutlineOf}
use Rattle.pj_states.specs.OfSets.{AreVersionsOf}
use Rattle.pj_contest.specs.Contests.{AreHits, IsContestsOf}
use Rattle.pj_deps.specs.Dependents.{AreDepsOf}
use Rattle.pj_tree.specs.TreeOf.{IsTreeOf}
use Rattle.pj_dead.specs.Pseudo.{AreRowsOf}
use Rattle.pj_view.specs.SetGraph.{graph_of}
use Rattle.pj_view.specs.Touched.{HasOneMore}
use Rattle.pj_view.proofs.OneMore.{one_more_between}
use Rattle.pj_tables.proofs.StepSums.{steps_within}
use Rattle.pj_unrecord.proofs.Leaving.{leaves}
use Rattle.pj_unrecord.proofs.removal.tables_without.Goals as goal

-- ---- the tables of the list without the change

pub hits_of-requires-clause-list : goal.hits_of-requires-clause-list
hits_of-requires-clause-list g c = c.deref-left.ensures ∙ c.requires.list

pub outline_without-requires-clause-list : goal.outline_without-requires-clause-list
outline_without-requires-clause-list g c = c.deref-left.ensures ∙ c.requires.list

pub versions_without-requires-clause-list : goal.versions_without-requires-clause-list
versions_without-requires-clause-list g c = c.deref-left.ensures ∙ c.requires.list

pub contests_without-requires-clause-list : goal.contests_without-requires-clause-list
contests_without-requires-clause-list g c = c.deref-left.ensures ∙ c.requires.list

pub names_without-requires-clause-list : goal.names_without-requires-clause-list
names_without-requires-clause-list g c = c.deref-left.ensures ∙ c.requires.list

pub deps_without-requires-clause-list : goal.deps_without-requires-clause-list
deps_without-requires-clause-list g c = c.deref-left.ensures ∙ c.requires.list

pub pseudo_without-requires-clause-more : goal.pseudo_without-requires-clause-more
pseudo_without-requires-clause-more g c =
    let S = c.args.tables.now in
    let r = c.args.change.now in
    let l = leaves S r.name r c.list-before.ensures.lawful c.requires.free c.requires.there in
    let rest : arc_value c.args.list ≡ l.before ++ l.after = c.requires.list ∙ l.left in
    subst (λ (o : List Record). HasOneMore o S r) (sym (c.deref-left.ensures ∙ rest))
    (subst (λ (o : List Record). HasOneMore (l.before ++ l.after) o r) (sym l.is) (one_more_between l.before r l.after l.others))

pub pseudo_without-requires-clause-contested : goal.pseudo_without-requires-clause-contested
pseudo_without-requires-clause-contested g c = subst (AreHits c.deref-left.result.now c.args.change.now) (sym c.deref-5.ensures.value) c.in_ok-hits.ensures.all

pub pseudo_without-requires-clause-parts : goal.pseudo_without-requires-clause-parts
pseudo_without-requires-clause-parts g c =
    let S = c.args.tables.now in
    let r = c.args.change.now in
    let l = leaves S r.name r c.list-before.ensures.lawful c.requires.free c.requires.there in
    let rest : arc_value c.args.list ≡ l.before ++ l.after = c.requires.list ∙ l.left in
    record {
      lawful = subst IsLawful (sym (c.deref-left.ensures ∙ rest)) l.still;
      outline_is = subst (IsOutlineOf c.deref-left.result.now) (sym c.deref-2.ensures) c.in_ok-outline.ensures.set;
      versions_are = subst (AreVersionsOf c.deref-left.result.now) (sym c.deref-3.ensures) c.in_ok-versions.ensures.set;
      contests_are = subst (IsContestsOf c.deref-left.result.now) (sym c.deref-4.ensures) c.in_ok-contests.ensures.set;
    }

pub of-requires : goal.of-requires
of-requires g c =
    let S = c.args.tables.now in
    let r = c.args.change.now in
    let l = leaves S r.name r c.list-before.ensures.lawful c.requires.free c.requires.there in
    let rest : arc_value c.args.list ≡ l.before ++ l.after = c.requires.list ∙ l.left in
    record {
      lawful = subst IsLawful (sym rest) l.still;
      outline_is = subst (λ (o : List Record). IsOutlineOf o (arc_value c.in_ok-outline.outline)) c.deref-left.ensures c.in_ok-outline.ensures.set;
      versions_are = subst (λ (o : List Record). AreVersionsOf o (arc_value c.in_ok-versions.versions)) c.deref-left.ensures c.in_ok-versions.ensures.set;
      contests_are = subst (λ (o : List Record). IsContestsOf o (arc_value c.in_ok-contests.contests)) c.deref-left.ensures c.in_ok-contests.ensures.set;
      deps_are = subst (λ (o : List Record). AreDepsOf o (arc_value c.in_ok-deps.deps)) c.deref-left.ensures c.in_ok-deps.ensures.set;
      names_are = subst (λ (o : List Record). IsTreeOf o (arc_value c.in_ok-names.names)) c.deref-left.ensures c.in_ok-names.ensures.set;
      pseudo_are = subst (λ (o : List Record). AreRowsOf (graph_of o) (arc_value c.in_ok-pseudo.pseudo)) c.deref-left.ensures c.in_ok-pseudo.ensures;
    }

-- ---- steps

pub returns-in_err-outline-clause-cost : goal.returns-in_err-outline-clause-cost
returns-in_err-outline-clause-cost g c = omega (arith, c.outline_without.ensures.cost, steps_within c.args.change.now)

pub returns-in_err-versions-clause-cost : goal.returns-in_err-versions-clause-cost
returns-in_err-versions-clause-cost g c = omega (arith, c.outline_without.ensures.cost, c.versions_without.ensures.cost, steps_within c.args.change.now)

pub returns-in_err-contests-clause-cost : goal.returns-in_err-contests-clause-cost
returns-in_err-contests-clause-cost g c =
    let pairs : pairs_with c.deref-left.result.now c.args.change.now ≡ pairs_with (arc_value c.args.list) c.args.change.now = ap (λ (l : List Record). pairs_with l c.args.change.now) c.deref-left.ensures in
    omega (arith, pairs, c.outline_without.ensures.cost, c.versions_without.ensures.cost, c.contests_without.ensures.cost, steps_within c.args.change.now)

pub returns-in_err-names-clause-cost : goal.returns-in_err-names-clause-cost
returns-in_err-names-clause-cost g c =
    let pairs : pairs_with c.deref-left.result.now c.args.change.now ≡ pairs_with (arc_value c.args.list) c.args.change.now = ap (λ (l : List Record). pairs_with l c.args.change.now) c.deref-left.ensures in
    omega (arith, pairs, c.outline_without.ensures.cost, c.versions_without.ensures.cost, c.contests_without.ensures.cost, c.names_without.ensures.cost, steps_within c.args.change.now)

pub returns-in_err-deps-clause-cost : goal.returns-in_err-deps-clause-cost
returns-in_err-deps-clause-cost g c =
    let pairs : pairs_with c.deref-left.result.now c.args.change.now ≡ pairs_with (arc_value c.args.list) c.args.change.now = ap (λ (l : List Record). pairs_with l c.args.change.now) c.deref-left.ensures in
    omega (arith, pairs, c.outline_without.ensures.cost, c.versions_without.ensures.cost, c.contests_without.ensures.cost, c.names_without.ensures.cost, c.deps_without.ensures.cost, steps_within c.args.change.now)

pub returns-in_err-pseudo-clause-cost : goal.returns-in_err-pseudo-clause-cost
returns-in_err-pseudo-clause-cost g c =
    let pairs : pairs_with c.deref-left.result.now c.args.change.now ≡ pairs_with (arc_value c.args.list) c.args.change.now = ap (λ (l : List Record). pairs_with l c.args.change.now) c.deref-left.ensures in
    omega (arith, pairs, c.outline_without.ensures.cost, c.versions_without.ensures.cost, c.contests_without.ensures.cost, c.names_without.ensures.cost, c.deps_without.ensures.cost, steps_within c.args.change.now)

pub returns-clause-cost : goal.returns-clause-cost
returns-clause-cost g c =
    let pairs : pairs_with c.deref-left.result.now c.args.change.now ≡ pairs_with (arc_value c.args.list) c.args.change.now = ap (λ (l : List Record). pairs_with l c.args.change.now) c.deref-left.ensures in
    omega (arith, pairs, c.outline_without.ensures.cost, c.versions_without.ensures.cost, c.contests_without.ensures.cost, c.names_without.ensures.cost, c.deps_without.ensures.cost, steps_within c.args.change.now)
