use Rattle.std.proofs.Common.{[], take}
use Rattle.std.specs.Prelude.{Contains}
use Rattle.pj_change.specs.Gathers.{Gathers, IsOfOne}
use Rattle.pj_output.proofs.live_text.join_parts.Given as goal

-- what is in the first parts is there
abbrev pub invariant-loop-part : goal.invariant-loop-part
invariant-loop-part l = Gathers (IsOfOne (λ part. Contains part.items) (take l.part-index l.parts)) [] l.entries.items
