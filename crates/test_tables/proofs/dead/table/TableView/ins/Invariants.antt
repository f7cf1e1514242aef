use Rattle.std.proofs.Common.{◌≡◌, take}
use Rattle.std.specs.List.{filter}
use Rattle.test_tables.specs.ListedGraphs.{leads, firsts}
use Rattle.test_tables.proofs.dead.table.TableView.ins.Given as goal

abbrev pub invariant-loop-shape : goal.invariant-loop-shape
invariant-loop-shape l = l.list.items ≡ filter (λ u. leads l.self.arrows.items u l.at) (firsts (take l.shape-index l.shape-items))
