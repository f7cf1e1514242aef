use Rattle.std.proofs.Common.{sym, subst, List}
use Rattle.pj_change.specs.declared.change.Record.{Record}
use Rattle.pj_dead.specs.Pseudo.{AreRowsOf}
use Rattle.pj_view.specs.SetGraph.{graph_of}
use Rattle.pj_view.specs.Touched.{HasOneMore}
use Rattle.pj_tables.proofs.application.pseudo_with.Goals as goal

pub returns : goal.returns
returns c S r lawful more touched rows =
    subst (AreRowsOf (graph_of c.args.list.now)) (sym c.in_ok-shared.ensures.ok)
    (subst (λ (l : List Record). AreRowsOf (graph_of l) c.in_ok-pseudo.pseudo) c.of-with.ensures
    (c.in_ok-pseudo.ensures S r lawful (subst (λ (l : List Record). HasOneMore S l r) (sym c.of-with.ensures) more) touched
    (subst (AreRowsOf (graph_of S)) (sym c.in_ok-before.ensures) rows)))
