-- Facts on names: equality, the order, and their hex digits.
use Rattle.std.proofs.Common.{◌≡◌, refl, sym, ap, subst, ◌∙◌, ℕ, zero, suc, true, false, List, [], ◌∷◌, length, Option, Some, None, unwrap_or, Ok, Err, Result, arith}
use Rattle.std.specs.Cmp.Lexicographic.{bytes_decides, slice_cmp}
use Rattle.std.specs.Prelude.{◌↔◌, replicate}
use Rattle.std.specs.Ordering.{is_lt, nat_cmp, ordering_then}
use Rattle.std.specs.declared.cmp.Ordering.TheVariants.{Greater}
use Rattle.std.specs.List.{AllPass}
use Rattle.std.specs.Result.{result_ok, result_unwrap_or}
use Rattle.std.proofs.Props.{props}
use Rattle.hex.proofs.HexLemmas.{decode_sized-encode_lower, decode_sized-ok, length-encode_with}
use Rattle.hex.specs.Hex.{IsBytes, decode_sized, lower_digits}
use Rattle.hex.specs.declared.error.FromHexError.{FromHexError}
use Rattle.pj_name.specs.Name.{IsHex, is_lower_hex_digit, name_below, no_name, same_name, hex}
use Rattle.pj_name.specs.declared.name.Name.{Name}
pub use Rattle.pj_name.specs.Order.{name_cmp-total}
use Rattle.pj_name.proofs.HexDigits.{AllPass-encode_lower, spelled}

whole-prop : (bytes : List ℕ) → IsProp (length bytes ≡ 32)
whole-prop bytes = hlevel props

small-prop : (bytes : List ℕ) → IsProp (IsBytes bytes)
small-prop bytes = hlevel props

-- names with equal bytes are equal
pub names_by_bytes : (a b : Name) → a.bytes ≡ b.bytes → a ≡ b
names_by_bytes a b e =
    let P : List ℕ → Type 0 = λ bytes. (whole : length bytes ≡ 32) (small : IsBytes bytes) → a ≡ record { bytes = bytes; whole = whole; small = small } in
    let same : P a.bytes = λ whole small i. record { bytes = a.bytes; whole = whole-prop a.bytes a.whole whole i; small = small-prop a.bytes a.small small i } in
    subst P e same b.whole b.small

-- names that the test finds to be one are equal, and only those
pub same_name-decides : (a b : Name) → (same_name a b ≡ true → a ≡ b) × (a ≡ b → same_name a b ≡ true)
same_name-decides a b = (
  λ h. names_by_bytes a b ((bytes_decides a.bytes b.bytes).0 h),
  λ e. (bytes_decides a.bytes b.bytes).1 (ap (λ (n : Name). n.bytes) e),
)

below_zeros : (bytes : List ℕ) (n : ℕ) → length bytes ≡ n → is_lt (slice_cmp nat_cmp bytes (replicate n 0)) ≡ false
below_zeros [] zero e = refl
below_zeros [] (suc n) e = absurd (omega arith)
below_zeros (b ∷ bytes) zero e = absurd (omega arith)
below_zeros (zero ∷ bytes) (suc n) e = below_zeros bytes n (omega arith)
below_zeros (suc b ∷ bytes) (suc n) e =
    let above : nat_cmp (suc b) 0 ≡ Greater = grind (arith) in
    ap (λ o. is_lt (ordering_then o (slice_cmp nat_cmp bytes (replicate n 0)))) above

-- no name is before the one of zeros
pub no_name-least : (n : Name) → name_below n no_name ≡ false
no_name-least n = below_zeros n.bytes 32 n.whole

-- ---- hex digits

pub length-hex : (n : Name) → length (hex n.bytes) ≡ 64
length-hex n = let e = length-encode_with lower_digits n.bytes in let w = n.whole in omega (arith, e, w)

-- a name is spelled by 64 lower-case hex digits
pub IsHex-hex : (n : Name) → IsHex (hex n.bytes)
IsHex-hex n = (length-hex n, AllPass-encode_lower n.bytes n.small)

-- and is read from them
pub decode_sized-hex : (n : Name) → decode_sized (hex n.bytes) 32 ≡ Ok n.bytes
decode_sized-hex n = decode_sized-encode_lower n.bytes 32 n.whole n.small

-- two names with the same digits are one
pub hex-injective : (a b : Name) → hex a.bytes ≡ hex b.bytes → a ≡ b
hex-injective a b e =
    let both : Ok a.bytes ≡ Ok b.bytes = sym (decode_sized-hex a) ∙ ap (λ text. decode_sized text 32) e ∙ decode_sized-hex b in
    names_by_bytes a b (ap (λ (r : Result (List ℕ) FromHexError). result_unwrap_or r []) both)

-- 64 lower-case hex digits spell a name
pub name_spelled : (text : List ℕ) → IsHex text → (n : Name) × (text ≡ hex n.bytes)
name_spelled text h =
    let s = spelled text 32 h.0 h.1 in
    (record { bytes = s.bytes; whole = s.count; small = s.small }, s.spelling)

-- ---- reading

-- a text that is no 64 lower-case hex digits is read as no name
pub unread : (text : List ℕ) (read : Option Name) → ¬ (IsHex text) → read ≡ None
    → (name : Name) → (read ≡ Some name) ↔ (text ≡ hex name.bytes)
unread text read other none name = (
  λ some. cc (sym none ∙ some),
  λ e. absurd (other (subst IsHex (sym e) (IsHex-hex name))),
)

ok_some : (r : Result (List ℕ) FromHexError) (bytes : List ℕ) → result_ok r ≡ Some bytes → r ≡ Ok bytes
ok_some (Ok b) bytes e = ap Ok (ap (λ (o : Option (List ℕ)). unwrap_or o []) e)
ok_some (Err d) bytes e = cc e

-- the bytes that a text of lower-case hex digits decodes to are those of its name
pub decoded : (text bytes : List ℕ) → AllPass is_lower_hex_digit text → result_ok (decode_sized text 32) ≡ Some bytes → text ≡ hex bytes
decoded text bytes lower e =
    let s = ok_some (decode_sized text 32) bytes e in
    let n = name_spelled text (decode_sized-ok text 32 bytes s, lower) in
    let both : Ok n.0.bytes ≡ Ok bytes = sym (decode_sized-hex n.0) ∙ ap (λ (t : List ℕ). decode_sized t 32) (sym n.1) ∙ s in
    n.1 ∙ ap hex (ap (λ (r : Result (List ℕ) FromHexError). result_unwrap_or r []) both)

-- and it is read as that name
pub read_back : (text : List ℕ) (n : Name) → text ≡ hex n.bytes
    → (name : Name) → (Some n ≡ Some name) ↔ (text ≡ hex name.bytes)
read_back text n e name = (
  λ some. e ∙ ap (λ (o : Option Name). hex (unwrap_or o n).bytes) some,
  λ other. ap Some (hex-injective n name (sym e ∙ other)),
)

-- a text that does not decode is no name
pub refused : (text : List ℕ) → result_ok (decode_sized text 32) ≡ None → ¬ (IsHex text)
refused text e h =
    let n = name_spelled text h in
    let ok : decode_sized text 32 ≡ Ok n.0.bytes = ap (λ (t : List ℕ). decode_sized t 32) n.1 ∙ decode_sized-hex n.0 in
    cc (sym e ∙ ap result_ok ok)
