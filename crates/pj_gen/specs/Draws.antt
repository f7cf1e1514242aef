-- The numbers that are drawn for the changes.
use Rattle.std.specs.Prelude.{ℕ, zero, suc, ◌+◌, ◌*◌, ◌/◌, ◌%◌, ◌^◌}
use Rattle.pj_gen.specs.declared.draws.Draws.{Draws}

-- the number after a draw
abbrev pub drawn : ℕ → ℕ
drawn x = (6364136223846793005 * x + 1442695040888963407) % 2 ^ 64

-- what a draw of k gives, from the number after it
abbrev pub pick : ℕ → ℕ → ℕ
pick k x = (x / 2 ^ 33) % k

-- the three draws for a change, from the number before them
abbrev pub draws_from : ℕ → Draws
draws_from x = record {
  file = pick 8 (drawn x);
  place = pick 64 (drawn (drawn x));
  kind = pick 4 (drawn (drawn (drawn x)));
}

-- the number after the draws for this many changes
unfoldable pub number_after : ℕ → ℕ → ℕ
number_after number zero = number
number_after number (suc n) = drawn (drawn (drawn (number_after number n)))
