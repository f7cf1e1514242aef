use Rattle.std.proofs.Common.{◌≡◌, ◌∙◌, sym, true}
use Rattle.test_tables.specs.ListedGraphs.{leads}
use Rattle.test_tables.specs.Whole.{edge_there}
use Rattle.test_tables.proofs.dead.kept.has_edge.Goals as goal

pub returns : goal.returns
returns c = λ h.
    let table = c.args.table.now in
    let joined : leads table.arrows.items c.args.from c.args.to ≡ true = rw c.deref.ensures.value at (sym c.leads.ensures ∙ h) in
    edge_there table.shapes.items table.arrows.items table.apart c.args.from c.args.to c.requires.from c.requires.to joined
