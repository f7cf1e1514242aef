use Rattle.std.proofs.Common.{◌≡◌, take}
use Rattle.std.specs.BTreeSet.{contains}
use Rattle.pj_name.specs.Name.{name_cmp}
use Rattle.pj_name.specs.declared.name.Name.{Name}
use Rattle.pj_exchange.specs.Phases.{is_listed}
use Rattle.pj_sync.proofs.names.set_of.Given as goal

abbrev pub invariant-loop-name : goal.invariant-loop-name
invariant-loop-name l = (name : Name) → contains name_cmp l.set name ≡ is_listed (take l.name-index l.names) name
