-- The name that a text of hex digits spells.
use Rattle.std.specs.Prelude.{refl, ℕ, zero, suc, ◌%◌, List, [], ◌∷◌, map, slice_index, Option, Some, None, if◌then◌else◌}
use Rattle.std.specs.List.{range_with_len}
use Rattle.std.specs.Result.{result_unwrap_or}
use Rattle.std.specs.Str.{bytes_eq}
use Rattle.std.proofs.lemmas.Nat.{mod_below}
use Rattle.std.proofs.Common.{lit<}
use Rattle.hex.specs.Hex.{decode_sized, IsBytes}
use Rattle.pj_name.specs.Name.{hex}
use Rattle.pj_name.specs.declared.name.Name.{Name}

-- each number modulo 256
abbrev pub as_bytes : List ℕ → List ℕ
as_bytes = map (λ b. b % 256)

-- these are bytes
pub IsBytes-as_bytes : (xs : List ℕ) → IsBytes (as_bytes xs)
IsBytes-as_bytes [] i = lit< tt
IsBytes-as_bytes (x ∷ xs) zero = mod_below x 256 (lit< tt)
IsBytes-as_bytes (x ∷ xs) (suc i) = IsBytes-as_bytes xs i

-- thirty-two members, with zeros where the list is shorter
abbrev pub whole : List ℕ → List ℕ
whole xs = map (λ i. slice_index xs i) (range_with_len 0 32)

-- a name of these bytes
unfoldable pub name_from : List ℕ → Name
name_from xs = record { bytes = as_bytes (whole xs); whole = refl; small = IsBytes-as_bytes (whole xs) }

-- the name whose hex digits these are
unfoldable pub read_name : List ℕ → Option Name
read_name digits =
    let name = name_from (result_unwrap_or (decode_sized digits 32) []) in
    if bytes_eq (hex name.bytes) digits then Some name else None
