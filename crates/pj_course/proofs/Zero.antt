-- What stands at the positions of change 0.
use Rattle.std.proofs.Common.{◌≡◌, ℕ, zero, suc, ◌+◌, ◌*◌, ◌<◌, List, [], ◌∷◌, refl, ◌∙◌, ap, arith, false}
use Rattle.std.specs.Prelude.{Some, slice_get, flat_map, option_and_then}
use Rattle.pj_change.specs.declared.point.Place.TheVariants as placed
use Rattle.pj_change.specs.declared.point.Ref.TheVariants as ref
use Rattle.pj_change.specs.declared.hunk.Hunk.{Hunk}
use Rattle.pj_change.specs.declared.hunk.Hunk.TheVariants.{File, Insert}
use Rattle.pj_change.specs.declared.kind.Kind.TheVariants.{FileInode, Text}
use Rattle.pj_change.specs.declared.change.Record.{Record}
use Rattle.pj_change.specs.Context.{file_at, file_by}
use Rattle.pj_change.specs.Positions.{kind_at, file_of}
use Rattle.pj_change.proofs.PositionLemmas.{kind_at_into}
use Rattle.pj_gen.specs.Changes.{eight, file_hunks, file_name, file_bytes, inode, first_byte}

-- the hunks of change 0
abbrev pub zero_hunks : List Hunk
zero_hunks = flat_map file_hunks eight

-- what holds of each of the eight files
pub each_file : (P : ℕ → Type 0) → P 0 → P 1 → P 2 → P 3 → P 4 → P 5 → P 6 → P 7 → (j : ℕ) → j < 8 → P j
each_file P a b c d e f g h zero low = a
each_file P a b c d e f g h (suc zero) low = b
each_file P a b c d e f g h (suc (suc zero)) low = c
each_file P a b c d e f g h (suc (suc (suc zero))) low = d
each_file P a b c d e f g h (suc (suc (suc (suc zero)))) low = e
each_file P a b c d e f g h (suc (suc (suc (suc (suc zero))))) low = f
each_file P a b c d e f g h (suc (suc (suc (suc (suc (suc zero)))))) low = g
each_file P a b c d e f g h (suc (suc (suc (suc (suc (suc (suc zero))))))) low = h
each_file P a b c d e f g h (suc (suc (suc (suc (suc (suc (suc (suc n)))))))) low = absurd (omega (arith, low))

-- an inode stands behind the name of its file
abbrev IsInodeAt : ℕ → Type 0
IsInodeAt j = kind_at zero_hunks (inode j) ≡ Some (FileInode (2 * j))

-- a byte of a file stands in the block of the file
abbrev IsByteAt : ℕ → Type 0
IsByteAt j = (q : ℕ) → q < 64 → kind_at zero_hunks (first_byte j + q) ≡ Some (Text (2 * j + 1) (first_byte j) (first_byte j + 64))

-- the block of a file
abbrev block : ℕ → Hunk
block j = Insert (ref.At 0 (inode j)) (ref.At 0 (inode j) ∷ []) [] (file_bytes j)

-- it is the hunk behind that of its name
abbrev IsBlockAt : ℕ → Type 0
IsBlockAt j = slice_get zero_hunks (2 * j + 1) ≡ Some (block j)

-- so it is with each file
pub inode_stands : (j : ℕ) → j < 8 → IsInodeAt j
unfolding file_bytes
inode_stands = each_file IsInodeAt
    (kind_at_into zero_hunks 0 (File ref.Root (file_name 0) false) 1 refl (omega arith))
    (kind_at_into zero_hunks 2 (File ref.Root (file_name 1) false) 1 refl (omega arith))
    (kind_at_into zero_hunks 4 (File ref.Root (file_name 2) false) 1 refl (omega arith))
    (kind_at_into zero_hunks 6 (File ref.Root (file_name 3) false) 1 refl (omega arith))
    (kind_at_into zero_hunks 8 (File ref.Root (file_name 4) false) 1 refl (omega arith))
    (kind_at_into zero_hunks 10 (File ref.Root (file_name 5) false) 1 refl (omega arith))
    (kind_at_into zero_hunks 12 (File ref.Root (file_name 6) false) 1 refl (omega arith))
    (kind_at_into zero_hunks 14 (File ref.Root (file_name 7) false) 1 refl (omega arith))

-- so it is with each byte
pub byte_stands : (j : ℕ) → j < 8 → IsByteAt j
unfolding file_bytes
byte_stands = each_file IsByteAt
    (λ q low. kind_at_into zero_hunks 1 (block 0) q refl low)
    (λ q low. kind_at_into zero_hunks 3 (block 1) q refl low)
    (λ q low. kind_at_into zero_hunks 5 (block 2) q refl low)
    (λ q low. kind_at_into zero_hunks 7 (block 3) q refl low)
    (λ q low. kind_at_into zero_hunks 9 (block 4) q refl low)
    (λ q low. kind_at_into zero_hunks 11 (block 5) q refl low)
    (λ q low. kind_at_into zero_hunks 13 (block 6) q refl low)
    (λ q low. kind_at_into zero_hunks 15 (block 7) q refl low)

-- so it is with each block
pub block_stands : (j : ℕ) → j < 8 → IsBlockAt j
block_stands = each_file IsBlockAt refl refl refl refl refl refl refl refl

-- a byte of change 0 is one of its file
pub byte_file : (Z : Record) → Z.change.hunks ≡ zero_hunks → (j : ℕ) → j < 8 → (q : ℕ) → q < 64 →
    file_at Z (first_byte j + q) ≡ Some (placed.At (record { change = Z.name; offset = inode j }))
byte_file Z hunks j low q few =
    ap (file_by Z) (ap (λ hs. kind_at hs (first_byte j + q)) hunks ∙ byte_stands j low q few)
    ∙ ap (λ hs. option_and_then (file_of Z) (slice_get hs (2 * j + 1))) hunks
    ∙ ap (option_and_then (file_of Z)) (block_stands j low)
