use Rattle.std.proofs.Common.{◌≡◌, take}
use Rattle.pj_load.proofs.run.copies.Given as goal

abbrev pub invariant-loop-script : goal.invariant-loop-script
invariant-loop-script l = l.all.items ≡ take l.script-index l.scripts
