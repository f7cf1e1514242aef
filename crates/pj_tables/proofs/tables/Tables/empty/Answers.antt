use Rattle.std.proofs.Common.{◌≡◌, ◌∙◌, sym, subst, List, []}
use Rattle.std.specs.Arc.{arc_value}
use Rattle.pj_change.specs.declared.change.Record.{Record}
use Rattle.pj_change.proofs.Members.{not_nil}
use Rattle.pj_outline.specs.OutlineOf.{IsOutlineOf}
use Rattle.pj_states.specs.OfSets.{AreVersionsOf}
use Rattle.pj_contest.specs.Contests.{IsContestsOf}
use Rattle.pj_deps.specs.Dependents.{AreDepsOf}
use Rattle.pj_tree.specs.TreeOf.{IsTreeOf}
use Rattle.pj_dead.specs.Pseudo.{AreRowsOf}
use Rattle.pj_view.specs.SetGraph.{graph_of}
use Rattle.pj_tables.specs.TablesOf.{AreTables}
use Rattle.pj_tables.proofs.tables.Tables.empty.Goals as goal

pub of-requires : goal.of-requires
of-requires c =
    let none : arc_value c.in_ok-list.list ≡ [] = c.in_ok-list.ensures.ok ∙ c.empty.ensures in
    subst (λ (l : List Record). AreTables l (arc_value c.in_ok-outline.outline) (arc_value c.in_ok-versions.versions) (arc_value c.in_ok-contests.contests) (arc_value c.in_ok-deps.deps) (arc_value c.in_ok-names.names) (arc_value c.in_ok-pseudo.pseudo))
    (sym none) (record {
      lawful = λ before r after e. absurd (not_nil before r after e);
      outline_is = subst (IsOutlineOf []) (sym c.in_ok-outline.ensures.ok) c.empty-2.ensures;
      versions_are = subst (AreVersionsOf []) (sym c.in_ok-versions.ensures.ok) c.empty-3.ensures.set;
      contests_are = subst (IsContestsOf []) (sym c.in_ok-contests.ensures.ok) c.empty-4.ensures;
      deps_are = subst (AreDepsOf []) (sym c.in_ok-deps.ensures.ok) c.empty-5.ensures.set;
      names_are = subst (IsTreeOf []) (sym c.in_ok-names.ensures.ok)
          (subst (IsTreeOf []) (λ i. record { rows = sym c.empty-6.ensures.rows i; inodes = sym c.empty-6.ensures.inodes i }) c.no_change_has_no_name.ensures);
      pseudo_are = subst (AreRowsOf (graph_of [])) (sym c.in_ok-pseudo.ensures.ok) (subst (AreRowsOf (graph_of [])) (sym c.empty-7.ensures) c.no_change_has_no_row.ensures);
    })
