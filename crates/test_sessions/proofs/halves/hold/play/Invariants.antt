use Rattle.std.proofs.Common.{◌≡◌}
use Rattle.test_sessions.proofs.halves.hold.play.Given as goal

-- the table that was just made
abbrev pub ghosts-hold-N-Named : goal.ghosts-hold-N-Named
ghosts-hold-N-Named g a = record { table = a.blank }

-- and the limits, which each state under the lock has
abbrev pub ghosts-hold-N-Keeps : goal.ghosts-hold-N-Keeps
ghosts-hold-N-Keeps g a = record { keeps = λ locked. locked.limits ≡ a.limits }
