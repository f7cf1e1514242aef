use Rattle.std.proofs.Common.{◌≡◌, ◌∙◌, sym, ap, subst, [], ◌∷◌, ◌++◌, List, arith}
use Rattle.std.specs.Arc.{arc_value}
use Rattle.pj_change.specs.declared.change.Record.{Record}
use Rattle.pj_change.specs.ContestCounts.{pairs_with}
use Rattle.pj_change.specs.Lawful.{IsLawful, Follows}
use Rattle.pj_change.proofs.LawfulChanges.{lawful_push}
use Rattle.pj_outline.specs.OutlineOf.{IsOutlineOf}
use Rattle.pj_states.specs.OfSets.{AreVersionsOf}
use Rattle.pj_contest.specs.Contests.{IsContestsOf}
use Rattle.pj_deps.specs.Dependents.{AreDepsOf}
use Rattle.pj_tree.specs.TreeOf.{IsTreeOf}
use Rattle.pj_dead.specs.Pseudo.{AreRowsOf}
use Rattle.pj_view.specs.Parts.{AreParts}
use Rattle.pj_view.specs.SetGraph.{graph_of}
use Rattle.pj_view.specs.Touched.{HasOneMore}
use Rattle.pj_view.proofs.OneMore.{one_more_last}
use Rattle.pj_tables.specs.TablesOf.{AreTables}
use Rattle.pj_tables.proofs.StepSums.{steps_within}
use Rattle.pj_tables.proofs.tables.Tables.followed_by.Goals as goal

-- ---- the tables of the list with the change

pub versions_with-requires-clause-follows : goal.versions_with-requires-clause-follows
versions_with-requires-clause-follows g c = subst (λ (l : List Record). Follows l c.args.change.now) (sym (c.deref-before.ensures ∙ c.self.view_is)) c.requires.follows

pub versions_with-requires-clause-table : goal.versions_with-requires-clause-table
versions_with-requires-clause-table g c = subst (λ (l : List Record). AreVersionsOf l (arc_value c.self.inside.versions)) (sym c.deref-before.ensures) c.self.invariant.versions_are

pub pseudo_with-requires : goal.pseudo_with-requires
pseudo_with-requires g c =
    let S = c.args.self in
    let r = c.args.change.now in
    let same : c.deref-before.result.now ≡ S = c.deref-before.ensures ∙ c.self.view_is in
    let lawful : IsLawful S = subst IsLawful c.self.view_is c.self.invariant.lawful in
    let with : c.deref-2.result.now ≡ S ++ r ∷ [] =
    c.deref-2.ensures ∙ c.in_ok-list.ensures.same ∙ ap (λ (l : List Record). l ++ arc_value c.args.held.now ∷ []) c.self.view_is ∙ ap (λ (x : Record). S ++ x ∷ []) c.requires.held in
    subst (λ (l : List Record). AreParts l c.deref-3.result.now c.deref-4.result.now c.deref-5.result.now) (sym with) (record {
      lawful = lawful_push S r lawful c.requires.follows;
      outline_is = subst (IsOutlineOf (S ++ r ∷ [])) (sym c.deref-3.ensures) (subst (λ (l : List Record). IsOutlineOf (l ++ r ∷ []) (arc_value c.in_ok-outline.outline)) same c.in_ok-outline.ensures.set);
      versions_are = subst (AreVersionsOf (S ++ r ∷ [])) (sym c.deref-4.ensures) (subst (λ (l : List Record). AreVersionsOf (l ++ r ∷ []) (arc_value c.in_ok-versions.versions)) same c.in_ok-versions.ensures.set);
      contests_are = subst (IsContestsOf (S ++ r ∷ [])) (sym c.deref-5.ensures) (subst (λ (l : List Record). IsContestsOf (l ++ r ∷ []) (arc_value c.in_ok-contests.contests)) same c.in_ok-contests.ensures.set);
    })

pub of-requires : goal.of-requires
of-requires g c =
    let S = c.args.self in
    let r = c.args.change.now in
    let same : c.deref-before.result.now ≡ S = c.deref-before.ensures ∙ c.self.view_is in
    let lawful : IsLawful S = subst IsLawful c.self.view_is c.self.invariant.lawful in
    let with : c.deref-2.result.now ≡ S ++ r ∷ [] =
    c.deref-2.ensures ∙ c.in_ok-list.ensures.same ∙ ap (λ (l : List Record). l ++ arc_value c.args.held.now ∷ []) c.self.view_is ∙ ap (λ (x : Record). S ++ x ∷ []) c.requires.held in
    let rows : AreRowsOf (graph_of c.deref-2.result.now) (arc_value c.in_ok-pseudo.pseudo) =
    c.in_ok-pseudo.ensures S r lawful (subst (λ (l : List Record). HasOneMore S l r) (sym with) (one_more_last S r c.requires.follows.fresh)) c.requires.touched
    (subst (λ (l : List Record). AreRowsOf (graph_of l) (arc_value c.self.inside.pseudo)) c.self.view_is c.self.invariant.pseudo_are) in
    subst (λ (l : List Record). AreTables l (arc_value c.in_ok-outline.outline) (arc_value c.in_ok-versions.versions) (arc_value c.in_ok-contests.contests) (arc_value c.in_ok-deps.deps) (arc_value c.in_ok-names.names) (arc_value c.in_ok-pseudo.pseudo))
    (sym (sym c.deref-2.ensures ∙ with)) (record {
      lawful = lawful_push S r lawful c.requires.follows;
      outline_is = subst (λ (l : List Record). IsOutlineOf (l ++ r ∷ []) (arc_value c.in_ok-outline.outline)) same c.in_ok-outline.ensures.set;
      versions_are = subst (λ (l : List Record). AreVersionsOf (l ++ r ∷ []) (arc_value c.in_ok-versions.versions)) same c.in_ok-versions.ensures.set;
      contests_are = subst (λ (l : List Record). IsContestsOf (l ++ r ∷ []) (arc_value c.in_ok-contests.contests)) same c.in_ok-contests.ensures.set;
      deps_are = subst (λ (l : List Record). AreDepsOf (l ++ r ∷ []) (arc_value c.in_ok-deps.deps)) same c.in_ok-deps.ensures.set;
      names_are = subst (λ (l : List Record). IsTreeOf (l ++ r ∷ []) (arc_value c.in_ok-names.names)) same c.in_ok-names.ensures.set;
      pseudo_are = subst (λ (l : List Record). AreRowsOf (graph_of l) (arc_value c.in_ok-pseudo.pseudo)) with rows;
    })

-- ---- steps

pub returns-in_err-contests-clause-cost : goal.returns-in_err-contests-clause-cost
returns-in_err-contests-clause-cost g c =
    let pairs : pairs_with c.deref-before.result.now c.args.change.now ≡ pairs_with c.args.self c.args.change.now =
    ap (λ (l : List Record). pairs_with l c.args.change.now) (c.deref-before.ensures ∙ c.self.view_is) in
    omega (arith, pairs, c.contests_with.ensures.cost, steps_within c.args.change.now)

pub returns-in_err-names-clause-cost : goal.returns-in_err-names-clause-cost
returns-in_err-names-clause-cost g c =
    let pairs : pairs_with c.deref-before.result.now c.args.change.now ≡ pairs_with c.args.self c.args.change.now =
    ap (λ (l : List Record). pairs_with l c.args.change.now) (c.deref-before.ensures ∙ c.self.view_is) in
    omega (arith, pairs, c.contests_with.ensures.cost, c.names_with.ensures.cost, steps_within c.args.change.now)

pub returns-in_err-outline-clause-cost : goal.returns-in_err-outline-clause-cost
returns-in_err-outline-clause-cost g c =
    let pairs : pairs_with c.deref-before.result.now c.args.change.now ≡ pairs_with c.args.self c.args.change.now =
    ap (λ (l : List Record). pairs_with l c.args.change.now) (c.deref-before.ensures ∙ c.self.view_is) in
    omega (arith, pairs, c.contests_with.ensures.cost, c.names_with.ensures.cost, c.outline_with.ensures.cost, steps_within c.args.change.now)

pub returns-in_err-versions-clause-cost : goal.returns-in_err-versions-clause-cost
returns-in_err-versions-clause-cost g c =
    let pairs : pairs_with c.deref-before.result.now c.args.change.now ≡ pairs_with c.args.self c.args.change.now =
    ap (λ (l : List Record). pairs_with l c.args.change.now) (c.deref-before.ensures ∙ c.self.view_is) in
    omega (arith, pairs, c.contests_with.ensures.cost, c.names_with.ensures.cost, c.outline_with.ensures.cost, c.versions_with.ensures.cost, steps_within c.args.change.now)

pub returns-in_err-deps-clause-cost : goal.returns-in_err-deps-clause-cost
returns-in_err-deps-clause-cost g c =
    let pairs : pairs_with c.deref-before.result.now c.args.change.now ≡ pairs_with c.args.self c.args.change.now =
    ap (λ (l : List Record). pairs_with l c.args.change.now) (c.deref-before.ensures ∙ c.self.view_is) in
    omega (arith, pairs, c.contests_with.ensures.cost, c.names_with.ensures.cost, c.outline_with.ensures.cost, c.versions_with.ensures.cost, c.deps_with.ensures.cost, steps_within c.args.change.now)

pub returns-in_err-list-clause-cost : goal.returns-in_err-list-clause-cost
returns-in_err-list-clause-cost g c =
    let pairs : pairs_with c.deref-before.result.now c.args.change.now ≡ pairs_with c.args.self c.args.change.now =
    ap (λ (l : List Record). pairs_with l c.args.change.now) (c.deref-before.ensures ∙ c.self.view_is) in
    omega (arith, pairs, c.contests_with.ensures.cost, c.names_with.ensures.cost, c.outline_with.ensures.cost, c.versions_with.ensures.cost, c.deps_with.ensures.cost, c.list_with.ensures.cost, steps_within c.args.change.now)

pub returns-in_err-pseudo-clause-cost : goal.returns-in_err-pseudo-clause-cost
returns-in_err-pseudo-clause-cost g c =
    let pairs : pairs_with c.deref-before.result.now c.args.change.now ≡ pairs_with c.args.self c.args.change.now =
    ap (λ (l : List Record). pairs_with l c.args.change.now) (c.deref-before.ensures ∙ c.self.view_is) in
    omega (arith, pairs, c.contests_with.ensures.cost, c.names_with.ensures.cost, c.outline_with.ensures.cost, c.versions_with.ensures.cost, c.deps_with.ensures.cost, c.list_with.ensures.cost, steps_within c.args.change.now)

pub returns-clause-cost : goal.returns-clause-cost
returns-clause-cost g c =
    let pairs : pairs_with c.deref-before.result.now c.args.change.now ≡ pairs_with c.args.self c.args.change.now =
    ap (λ (l : List Record). pairs_with l c.args.change.now) (c.deref-before.ensures ∙ c.self.view_is) in
    omega (arith, pairs, c.contests_with.ensures.cost, c.names_with.ensures.cost, c.outline_with.ensures.cost, c.versions_with.ensures.cost, c.deps_with.ensures.cost, c.list_with.ensures.cost, steps_within c.args.change.now)
