use Rattle.std.proofs.Common.{◌≡◌, ◌++◌, take}
use Rattle.std.specs.List.{flat_map}
use Rattle.pj_change.specs.Text.{hunk_text}
use Rattle.pj_text.proofs.writing.hunks.Given as goal

abbrev pub invariant-loop-one : goal.invariant-loop-one
invariant-loop-one l = l.out.items ≡ l.fn.out.items ++ flat_map (hunk_text) (take l.one-index l.hunks)
