use Rattle.std.proofs.Common.{sym, subst, List}
use Rattle.pj_change.specs.declared.change.Record.{Record}
use Rattle.pj_contest.specs.Contests.{AreHits}
use Rattle.pj_dead.specs.Pseudo.{AreRowsOf}
use Rattle.pj_view.specs.SetGraph.{graph_of}
use Rattle.pj_view.specs.Touched.{HasOneMore}
use Rattle.pj_unrecord.proofs.removal.pseudo_without.Goals as goal

pub rows_without-requires-clause-more : goal.rows_without-requires-clause-more
rows_without-requires-clause-more c =
    subst (λ (l : List Record). HasOneMore l c.view.result c.args.change.now) (sym c.of-without.ensures)
    (subst (λ (l : List Record). HasOneMore c.args.list.now l c.args.change.now) (sym c.view.ensures) c.requires.more)

pub rows_without-requires-clause-contested : goal.rows_without-requires-clause-contested
rows_without-requires-clause-contested c = subst (λ (l : List Record). AreHits l c.args.change.now c.args.contested.now) (sym c.of-without.ensures) c.requires.contested

pub rows_without-requires-clause-rows : goal.rows_without-requires-clause-rows
rows_without-requires-clause-rows c = subst (λ (l : List Record). AreRowsOf (graph_of l) c.in_ok-before.before) (sym c.view.ensures)
    (subst (AreRowsOf (graph_of c.args.tables.now)) (sym c.in_ok-before.ensures) c.pseudo.ensures.rows)

pub returns : goal.returns
returns c =
    subst (AreRowsOf (graph_of c.args.list.now)) (sym c.in_ok-shared.ensures.ok)
    (subst (λ (l : List Record). AreRowsOf (graph_of l) c.in_ok-pseudo.pseudo) c.of-without.ensures c.in_ok-pseudo.ensures)
