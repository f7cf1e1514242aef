use Rattle.std.proofs.Common.{ℕ, List, ◌++◌, take}
use Rattle.std.specs.Prelude.{◌↔◌}
use Rattle.pj_wire.specs.Stages.{Rest, IsStage}
use Rattle.pj_wire.proofs.stage.Stage.read.Given as goal

abbrev pub invariant-loop-place : goal.invariant-loop-place
invariant-loop-place l = IsStage l.stage × ((more : List ℕ) → Rest l.fn.self (take l.place l.bytes ++ more) ↔ Rest l.stage more)
