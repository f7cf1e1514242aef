-- Names of channels, and their order.
use Rattle.std.specs.Prelude.{ℕ, ◌<◌, ◌≤◌, Bool, ◌&&◌, ◌||◌, List, length, nat_eq, nat_le}
use Rattle.std.specs.Cmp.{IsTotalOrder, IsEquivalence, IsPartialEquivalence, IsPartialOrder, eq_by_cmp_equiv, partial_equiv_from_equiv, partial_order_from_total}
use Rattle.std.specs.Cmp.Lexicographic.{slice_cmp}
use Rattle.std.specs.List.{AllPass}
use Rattle.std.specs.Ordering.{nat_cmp, as_partial_cmp, eq_by_cmp}
use Rattle.std.specs.declared.cmp.Ordering.{Ordering}
use Rattle.std.proofs.lemmas.Cmp.{nat_list_cmp_total}

-- a letter of a to z or A to Z, a digit, `.`, `-` or `_`
abbrev pub is_channel_byte : ℕ → Bool
is_channel_byte b =
    (nat_le 97 b && nat_le b 122) || (nat_le 65 b && nat_le b 90) || (nat_le 48 b && nat_le b 57) || nat_eq b 46 || nat_eq b 45 || nat_eq b 95

-- 1 to 64 such bytes
pub record IsChannelName (text : List ℕ) : Type 0 where
  pub some : 0 < length text
  pub short : length text ≤ 64
  pub bytes : AllPass is_channel_byte text

-- the first byte that differs decides
abbrev pub channel_cmp : List ℕ → List ℕ → Ordering
channel_cmp = slice_cmp nat_cmp

pub channel_total : IsTotalOrder channel_cmp
channel_total = nat_list_cmp_total

pub channel_equivalence : IsEquivalence (eq_by_cmp channel_cmp)
channel_equivalence = eq_by_cmp_equiv channel_total

pub channel_partial_equivalence : IsPartialEquivalence (eq_by_cmp channel_cmp)
channel_partial_equivalence = partial_equiv_from_equiv channel_equivalence

pub channel_partial_order : IsPartialOrder (eq_by_cmp channel_cmp) (as_partial_cmp channel_cmp)
channel_partial_order = partial_order_from_total channel_total
