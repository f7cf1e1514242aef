use Rattle.std.proofs.Common.{sym}
use Rattle.pj_dead.proofs.TouchedRows.{dead_one}
use Rattle.pj_dead.proofs.touched.add_dead.Goals as goal

pub returns-clause-dead : goal.returns-clause-dead
returns-clause-dead g c =
    dead_one (g.V.View.graph c.args.view.now) (g.met.V.View.lawful c.args.view.now) c.args.point c.in-Some.at (sym c.in-Some.ensures) c.in_ok-wanted.wanted c.in_ok-wanted.ensures.is c.args.dead.now.items c.add_if.new.list.items c.in_ok-add_if.ensures
