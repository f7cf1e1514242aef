-- Names of changes: the digest of a text, its spelling, and the order on names.
use Rattle.std.specs.Prelude.{◌≡◌, refl, ℕ, Bool, ◌&&◌, ◌||◌, List, length, nat_le, replicate}
use Rattle.std.specs.declared.cmp.Ordering.{Ordering}
use Rattle.std.specs.Ordering.{is_lt, nat_cmp}
use Rattle.std.specs.Cmp.Lexicographic.{slice_cmp}
use Rattle.std.specs.List.{AllPass}
use Rattle.std.specs.Str.{bytes_eq}
use Rattle.sha2.specs.Sha256.{sha256}
use Rattle.sha2.proofs.Facts256.{length-sha256}
use Rattle.hex.specs.Hex.{encode_lower}
use Rattle.pj_name.specs.Bytes.{IsBytes-sha256, IsBytes-zeros}
use Rattle.pj_name.specs.declared.name.Name.{Name}

-- the name of a text: its SHA-256
unfoldable pub name_of : List ℕ → Name
name_of text = record { bytes = sha256 text; whole = length-sha256 text; small = IsBytes-sha256 text }

-- two lower-case hex digits for each byte, the high four bits first
abbrev pub hex : List ℕ → List ℕ
hex = encode_lower

-- '0' to '9' and 'a' to 'f'
abbrev pub is_lower_hex_digit : ℕ → Bool
is_lower_hex_digit c = (nat_le 48 c && nat_le c 57) || (nat_le 97 c && nat_le c 102)

-- sixty-four lower-case hex digits
abbrev pub IsHex : List ℕ → Type 0
IsHex text = (length text ≡ 64) × AllPass is_lower_hex_digit text

-- the first byte that differs decides
abbrev pub name_cmp : Name → Name → Ordering
name_cmp a b = slice_cmp nat_cmp a.bytes b.bytes

-- the first name is before the second
abbrev pub name_below : Name → Name → Bool
name_below a b = is_lt (name_cmp a b)

-- the names are one
abbrev pub same_name : Name → Name → Bool
same_name a b = bytes_eq a.bytes b.bytes

-- thirty-two zeros, before every other name
abbrev pub no_name : Name
no_name = record { bytes = replicate 32 0; whole = refl; small = IsBytes-zeros 32 }
