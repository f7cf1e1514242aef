use Rattle.std.proofs.Common.{◌≡◌, false, take}
use Rattle.std.specs.List.{list_any}
use Rattle.pj_change.specs.Covers.{covers}
use Rattle.pj_context.proofs.range.end_of_cover.Given as goal

abbrev pub invariant-loop-hunk : goal.invariant-loop-hunk
invariant-loop-hunk l = list_any (λ h. covers l.by h l.point) (take l.hunk-index l.hunk-items) ≡ false
