use Rattle.std.proofs.Common.{◌≡◌, ℕ, ◌+◌, ◌-◌, ◌*◌, ◌^◌, ◌≤◌, length}
use Rattle.pj_layout.specs.Counts.{count}
use Rattle.pj_layout.proofs.Digits.{AreWide}
use Rattle.pj_layout.proofs.counts.ColumnCounts.new.Given as goal

-- the limit is the first count without room
abbrev pub invariant-loop-limit : goal.invariant-loop-limit
invariant-loop-limit l = record {
  power : l.limit ≡ 2 ^ length l.digits.items;
  small : l.limit ≤ 2 * l.most + 1;
  wide : AreWide l.width l.digits.items;
  zero : (c : ℕ) → count l.digits.items c ≡ 0;
}

abbrev pub decreases-loop-limit : goal.decreases-loop-limit
decreases-loop-limit l = l.most + 1 - l.limit
