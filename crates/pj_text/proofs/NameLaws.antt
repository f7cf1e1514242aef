-- The names of changes: what is read has these hex digits, and the digits of a name are read as the name.
use Rattle.std.proofs.Common.{◌≡◌, ℕ, suc, ◌%◌, List, [], ◌∷◌, ◌++◌, length, Option, Some, None, refl, sym, ap, ◌∙◌, arith}
use Rattle.std.specs.Prelude.{slice_index, ◌↔◌}
use Rattle.std.specs.Result.{result_unwrap_or}
use Rattle.std.proofs.lemmas.List.{ext_get_or}
use Rattle.std.proofs.lemmas.Option.{none-some}
use Rattle.std.proofs.lemmas.List.FromFn.{length-map-range_with_len, get_or-map-range_with_len}
use Rattle.std.proofs.lemmas.Slice.Eq.{bytes_eq-Decides}
use Rattle.std.proofs.Math.Nat.{mod-eq_of_lt}
use Rattle.hex.specs.Hex.{decode_sized, IsBytes}
use Rattle.hex.proofs.HexLemmas.{decode_sized-encode_lower}
use Rattle.pj_name.specs.declared.name.Name.{Name}
use Rattle.pj_name.specs.Name.{hex}
use Rattle.pj_name.proofs.Names.{names_by_bytes, length-hex}
use Rattle.pj_text.specs.Names.{as_bytes, whole, name_from, read_name}
use Rattle.pj_text.specs.Reading.{bytes_at, name_at}
use Rattle.pj_text.proofs.Gets.{Gets, gets_some, gets_then, gets_if, none_from}
use Rattle.pj_text.proofs.FieldLaws.{bytes_spelled, bytes_read}

as_bytes-same : (xs : List ℕ) → IsBytes xs → as_bytes xs ≡ xs
as_bytes-same [] h = refl
as_bytes-same (x ∷ xs) h =
    let first : x % 256 ≡ x = mod-eq_of_lt (h 0) in
    let others = as_bytes-same xs (λ i. h (suc i)) in cc

whole-same : (xs : List ℕ) → length xs ≡ 32 → whole xs ≡ xs
whole-same xs h =
    let len = length-map-range_with_len (slice_index xs) 0 32 in
    ext_get_or 0 (whole xs) xs (len ∙ sym h) (λ i lt. get_or-map-range_with_len (slice_index xs) 0 32 i i 0 (omega (arith, lt, len)) (omega arith))

name_from-bytes : (n : Name) → name_from n.bytes ≡ n
unfolding name_from
name_from-bytes n = names_by_bytes (name_from n.bytes) n (ap as_bytes (whole-same n.bytes n.whole) ∙ as_bytes-same n.bytes n.small)

-- a name that is read has these digits
pub digits_spelled : (digits : List ℕ) → Gets (read_name digits) (λ n. digits ≡ hex n.bytes)
unfolding read_name
digits_spelled digits = gets_if _ _ (λ h. gets_some _ (sym ((bytes_eq-Decides (hex (name_from (result_unwrap_or (decode_sized digits 32) [])).bytes) digits).0 h)))

-- the digits of a name are read as the name
pub digits_read : (n : Name) → read_name (hex n.bytes) ≡ Some n
unfolding read_name
digits_read n =
    let decoded : name_from (result_unwrap_or (decode_sized (hex n.bytes) 32) []) ≡ n = ap (λ r. name_from (result_unwrap_or r [])) (decode_sized-encode_lower n.bytes 32 n.whole n.small) ∙ name_from-bytes n in
    rw (decoded, (bytes_eq-Decides (hex n.bytes) (hex n.bytes)).1 refl) refl

pub name_spelled : (bytes : List ℕ) → Gets (name_at bytes) (λ x. bytes ≡ hex x.0.bytes ++ x.1)
unfolding name_at
name_spelled bytes =
    gets_then _ _ (bytes_spelled 64 bytes) (λ digits d.
    gets_then _ _ (digits_spelled digits.0) (λ name n.
    gets_some _ (d.0 ∙ ap (λ (t : List ℕ). t ++ digits.1) n)))

pub name_read : (n : Name) (rest : List ℕ) → name_at (hex n.bytes ++ rest) ≡ Some (n, rest)
unfolding name_at
name_read n rest =
    let front : bytes_at 64 (hex n.bytes ++ rest) ≡ Some (hex n.bytes, rest) = ap (λ (k : ℕ). bytes_at k (hex n.bytes ++ rest)) (sym (length-hex n)) ∙ bytes_read (hex n.bytes) rest in
    rw (front, digits_read n) refl

-- the name that a text spells, if it spells one
pub name_is_read : (digits : List ℕ) (r : Option Name) → ((name : Name) → (r ≡ Some name) ↔ (digits ≡ hex name.bytes)) → read_name digits ≡ r
name_is_read digits None is = none_from (read_name digits) (λ n e. none-some n ((is n).1 ((digits_spelled digits).gets n e)))
name_is_read digits (Some name) is = ap read_name ((is name).0 refl) ∙ digits_read name
