-- What the rules of a change say of the numbers in its hunks.
use Rattle.std.specs.Prelude.{ℕ, ◌<◌, ◌≤◌, length, All}
use Rattle.pj_change.specs.declared.point.Ref.{Ref}
use Rattle.pj_change.specs.declared.hunk.Hunk.{Hunk}
use Rattle.pj_change.specs.declared.hunk.Hunk.TheVariants.{File, Dir, NameOf, Insert, Order, Delete, Revive}
use Rattle.pj_change.specs.Positions.{IsNumbered}
use Rattle.pj_context.specs.Needs.{Reachable}

-- the reference means the change itself or one of its needs
abbrev pub IsReachable : Reachable → Ref → Type 0
IsReachable scope at = IsNumbered (length scope.itself.change.needs) at

-- the references of the hunk mean the change itself or one of so many needs, and its range is not empty
abbrev pub RefersWithin : ℕ → Hunk → Type 0
RefersWithin needs (File parent name exec) = IsNumbered needs parent
RefersWithin needs (Dir parent name) = IsNumbered needs parent
RefersWithin needs (NameOf parent child name exec) = IsNumbered needs parent × IsNumbered needs child
RefersWithin needs (Insert file ups downs bytes) = IsNumbered needs file × All (IsNumbered needs) ups × All (IsNumbered needs) downs
RefersWithin needs (Order file source target) = IsNumbered needs file × IsNumbered needs source × IsNumbered needs target
RefersWithin needs (Delete owner start end by) = (owner ≤ needs) × (start < end) × All (λ k. k ≤ needs) by
RefersWithin needs (Revive owner start end by) = (owner ≤ needs) × (start < end) × All (λ k. k ≤ needs) by
