use Rattle.std.proofs.Common.{◌≡◌, take}
use Rattle.pj_change.specs.Union.{union}
use Rattle.pj_change.specs.Shared.{records}
use Rattle.pj_plain.proofs.records.union.Given as goal

abbrev pub invariant-loop-record : goal.invariant-loop-record
invariant-loop-record l = records l.both.items ≡ union (records l.list) (records (take l.record-index l.other))
