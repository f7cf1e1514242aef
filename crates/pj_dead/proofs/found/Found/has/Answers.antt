use Rattle.pj_dead.proofs.found.Found.has.Goals as goal

pub returns : goal.returns
returns c =
    let are = c.self.invariant c.args.point in
    rw (c.contains.ensures, ← c.self.view_is) are
