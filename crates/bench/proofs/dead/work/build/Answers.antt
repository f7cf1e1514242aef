use Rattle.std.proofs.Common.{◌∙◌, sym, subst}
use Rattle.pj_dead.specs.Touched.{IsKept}
use Rattle.bench.specs.Boards.{graph_of}
use Rattle.bench.proofs.Kept.{kept_all, kept_none}
use Rattle.bench.proofs.dead.work.build.Goals as goal

pub refresh-requires-clause-there : goal.refresh-requires-clause-there
refresh-requires-clause-there c =
    let b = c.args.board.now in
    let n = c.none-none.result in
    kept_none n.shape n.middle n.last (graph_of b.shape b.middle b.last) c.deref.result.now c.none-none.ensures

pub refresh-requires-clause-back : goal.refresh-requires-clause-back
refresh-requires-clause-back c =
    let b = c.args.board.now in
    let n = c.none-none.result in
    let none = graph_of n.shape n.middle n.last in
    subst (IsKept (graph_of b.shape b.middle b.last) none) (sym (c.deref.ensures.value ∙ c.in_ok-touched.ensures)) (kept_all b.shape b.middle b.last none)
