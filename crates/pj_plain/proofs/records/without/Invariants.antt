use Rattle.std.proofs.Common.{◌≡◌, take}
use Rattle.pj_change.specs.Shared.{records}
use Rattle.pj_change.specs.Unrecord.{without}
use Rattle.pj_plain.proofs.records.without.Given as goal

abbrev pub invariant-loop-record : goal.invariant-loop-record
invariant-loop-record l = records l.left.items ≡ without (records (take l.record-index l.list)) l.name
