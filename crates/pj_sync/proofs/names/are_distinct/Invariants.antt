use Rattle.std.proofs.Common.{◌≡◌, ◌≢◌, take}
use Rattle.std.specs.Prelude.{AllPairs}
use Rattle.std.specs.BTreeSet.{contains}
use Rattle.pj_name.specs.Name.{name_cmp}
use Rattle.pj_name.specs.declared.name.Name.{Name}
use Rattle.pj_exchange.specs.Phases.{is_listed}
use Rattle.pj_sync.proofs.names.are_distinct.Given as goal

abbrev pub invariant-loop-name : goal.invariant-loop-name
invariant-loop-name l = record {
  listed : (name : Name) → contains name_cmp l.set name ≡ is_listed (take l.name-index l.names) name;
  apart : AllPairs (λ m n. m ≢ n) (take l.name-index l.names);
}
