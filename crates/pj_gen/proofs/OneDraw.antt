-- One step of the generator in two.
use Rattle.std.proofs.Common.{◌≡◌, ℕ, ◌+◌, ◌*◌, ◌%◌, ◌^◌}
use Rattle.std.proofs.Math.Nat.{mod-add-mod}
use Rattle.pj_gen.specs.Draws.{drawn}

-- what wraps twice has wrapped once
pub one_draw : (x : ℕ) → ((6364136223846793005 * x) % 2 ^ 64 + 1442695040888963407) % 2 ^ 64 ≡ drawn x
one_draw x = mod-add-mod (6364136223846793005 * x) (2 ^ 64) 1442695040888963407
