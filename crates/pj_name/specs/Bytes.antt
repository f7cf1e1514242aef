-- Lists that are made of bytes: a SHA-256 digest, and zeros.
use Rattle.std.specs.Prelude.{ℕ, zero, suc, ◌/◌, ◌^◌, ◌<◌, List, [], ◌∷◌, ◌++◌, replicate, slice_index}
use Rattle.std.specs.Int.{byte_at, to_be_bytes, w32}
use Rattle.std.proofs.Common.{lit<}
use Rattle.std.proofs.lemmas.Nat.{mod_below}
use Rattle.hex.specs.Hex.{IsBytes}
use Rattle.sha2.specs.Sha256.{digest_bytes, sha256}

-- the empty list
IsBytes-nil : IsBytes []
IsBytes-nil i = lit< tt

-- a byte before bytes
IsBytes-cons : (b : ℕ) (xs : List ℕ) → b < 256 → IsBytes xs → IsBytes (b ∷ xs)
IsBytes-cons b xs small rest zero = small
IsBytes-cons b xs small rest (suc i) = rest i

-- bytes behind bytes
IsBytes-append : (xs ys : List ℕ) → IsBytes xs → IsBytes ys → IsBytes (xs ++ ys)
IsBytes-append [] ys hx hy = hy
IsBytes-append (x ∷ xs) ys hx hy = IsBytes-cons x (xs ++ ys) (hx 0) (IsBytes-append xs ys (λ i. hx (suc i)) hy)

-- a byte of a number
byte_at-small : (i n : ℕ) → byte_at i n < 256
byte_at-small zero n = mod_below n 256 (lit< tt)
byte_at-small (suc i) n = mod_below (n / 256 ^ suc i) 256 (lit< tt)

-- the four bytes of a word
IsBytes-word : (n : ℕ) → IsBytes (to_be_bytes w32 n)
IsBytes-word n =
    IsBytes-cons (byte_at 3 n) (byte_at 2 n ∷ byte_at 1 n ∷ byte_at 0 n ∷ []) (byte_at-small 3 n)
    (IsBytes-cons (byte_at 2 n) (byte_at 1 n ∷ byte_at 0 n ∷ []) (byte_at-small 2 n)
    (IsBytes-cons (byte_at 1 n) (byte_at 0 n ∷ []) (byte_at-small 1 n)
    (IsBytes-cons (byte_at 0 n) [] (byte_at-small 0 n) IsBytes-nil)))

-- the bytes of so many words of a digest
IsBytes-words : (h : List ℕ) (n : ℕ) → IsBytes (digest_bytes h n)
unfolding digest_bytes
IsBytes-words h zero = IsBytes-nil
IsBytes-words h (suc n) = IsBytes-append (digest_bytes h n) (to_be_bytes w32 (slice_index h n)) (IsBytes-words h n) (IsBytes-word (slice_index h n))

-- a digest is made of bytes
pub IsBytes-sha256 : (text : List ℕ) → IsBytes (sha256 text)
unfolding sha256
IsBytes-sha256 text = IsBytes-words _ 8

-- zeros are bytes
pub IsBytes-zeros : (n : ℕ) → IsBytes (replicate n 0)
IsBytes-zeros zero = IsBytes-nil
IsBytes-zeros (suc n) = IsBytes-cons 0 (replicate n 0) (lit< tt) (IsBytes-zeros n)
