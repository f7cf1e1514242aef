use Rattle.std.proofs.Common.{take}
use Rattle.pj_change.specs.Shared.{records}
use Rattle.pj_plain.proofs.UprootPass.{HasPassed}
use Rattle.pj_plain.proofs.uproot.uprooted.Given as goal

abbrev pub invariant-loop-record : goal.invariant-loop-record
invariant-loop-record l = HasPassed (records l.list) l.name (records (take l.record-index l.list)) (records l.left.items) l.gone.items
