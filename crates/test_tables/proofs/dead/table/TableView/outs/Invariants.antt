use Rattle.std.proofs.Common.{◌≡◌, take}
use Rattle.std.specs.List.{filter}
use Rattle.test_tables.specs.ListedGraphs.{leads, firsts}
use Rattle.test_tables.proofs.dead.table.TableView.outs.Given as goal

abbrev pub invariant-loop-shape : goal.invariant-loop-shape
invariant-loop-shape l = l.list.items ≡ filter (λ v. leads l.self.arrows.items l.at v) (firsts (take l.shape-index l.shape-items))
