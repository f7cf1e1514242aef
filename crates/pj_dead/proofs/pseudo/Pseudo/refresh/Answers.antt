use Rattle.pj_dead.proofs.pseudo.Pseudo.refresh.Goals as goal

pub returns : goal.returns
returns g c =
    let before = g.V.View.graph c.args.before.now in
    let after = g.W.View.graph c.args.after.now in
    c.in_ok-rows.ensures before after c.args.touched.now (g.met.V.View.lawful c.args.before.now) (g.met.W.View.lawful c.args.after.now) c.requires.there c.requires.back c.requires.rows
    (rw c.deref.ensures.value c.in_ok-gone.ensures) (rw c.deref-2.ensures.value c.in_ok-made.ensures)
