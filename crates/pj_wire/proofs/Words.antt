-- Words, which a space or a newline ends.
use Rattle.std.proofs.Common.{◌≡◌, ℕ, ◌+◌, ◌^◌, ◌<◌, ◌≤◌, ◌⊎◌, Bool, true, false, ◌&&◌, List, [], ◌∷◌, ◌++◌, length, drop, get_or, refl, sym, ◌∙◌, ap, inl, inr, arith, append-nil, append_assoc, length-append, decimal}
use Rattle.std.specs.List.{AllPass}
use Rattle.std.proofs.lemmas.List.{append_cancel_left, get_or_at}
use Rattle.std.proofs.lemmas.List.Elements.{All-nil, All-cons}
use Rattle.std.proofs.lemmas.Fmt.{digits_decimal}
use Rattle.std.proofs.lemmas.Str.Parse.{numerals_by_value, tells_by_index}
use Rattle.std.proofs.lemmas.Grind.{get_or_default_zero}
use Rattle.std.specs.Int.{IsInRange}
use Rattle.pj_name.specs.declared.name.Name.{Name}
use Rattle.pj_name.specs.Name.{hex, is_lower_hex_digit}
use Rattle.pj_name.proofs.Names.{IsHex-hex}
use Rattle.pj_scan.specs.Scan.{is_word_byte}
use Rattle.pj_scan.proofs.Fronts.{fronts_are_one}
use Rattle.pj_machine.specs.ChannelName.{is_channel_byte, IsChannelName}
use Rattle.pj_wire.proofs.Fronts.{either_begins}

-- two words at one front, each ended by a byte that is in no word
pub ended_words : (w v a b : List ℕ) (c d : ℕ) → AllPass is_word_byte w → AllPass is_word_byte v → is_word_byte c ≡ false → is_word_byte d ≡ false
    → w ++ c ∷ a ≡ v ++ d ∷ b → (w ≡ v) × (c ≡ d) × (a ≡ b)
ended_words w v a b c d all_w all_v stop_c stop_d e =
    let same = fronts_are_one is_word_byte w v (c ∷ a) (d ∷ b) e all_w stop_c all_v stop_d in
    (same.0, ap (λ (s : List ℕ). get_or s 0 0) same.1, ap (λ (s : List ℕ). drop 1 s) same.1)

-- a word that nothing ends yet begins the one that stands there in the end
pub open_word : (w v more rest : List ℕ) (d : ℕ) → AllPass is_word_byte w → is_word_byte d ≡ false → w ++ more ≡ v ++ d ∷ rest → (r : List ℕ) × (w ++ r ≡ v)
open_word w v more rest d all stop e = elim (either_begins w more v (d ∷ rest) e) [ inl h ↦ h | inr h ↦ longer h.0 h.1 ]
  where
    longer : (r : List ℕ) → w ≡ v ++ r → (r : List ℕ) × (w ++ r ≡ v)
    longer [] is = ([], append-nil w ∙ is ∙ append-nil v)
    longer (c ∷ r) is =
        let behind : c ∷ (r ++ more) ≡ d ∷ rest = append_cancel_left v (c ∷ (r ++ more)) (d ∷ rest) (sym (append_assoc v (c ∷ r) more) ∙ ap (λ (s : List ℕ). s ++ more) (sym is) ∙ e) in
        let same : c ≡ d = ap (λ (s : List ℕ). get_or s 0 0) behind in
        let at : get_or w (length v) 0 ≡ c = ap (λ (s : List ℕ). get_or s (length v) 0) is ∙ get_or_at v c r 0 (length v) refl in
        let count : length w ≡ length v + length (c ∷ r) = ap (λ (s : List ℕ). length s) is ∙ length-append v (c ∷ r) in
        let passes : is_word_byte (get_or w (length v) 0) ≡ true = all (length v) 0 (omega (arith, count)) in
        let both : true ≡ false = sym passes ∙ ap is_word_byte at ∙ ap is_word_byte same ∙ stop in
        cc both

-- a space and a newline are in no word
pub ends_word : (end : ℕ) → (end ≡ 32) ⊎ (end ≡ 10) → is_word_byte end ≡ false
ends_word end (inl e) = ap is_word_byte e
ends_word end (inr e) = ap is_word_byte e

-- ---- what is a word

abbrev pub all_pass : List ℕ → Bool
all_pass [] = true
all_pass (b ∷ bytes) = is_word_byte b && all_pass bytes

-- a word that is written out is found to be one
pub passes : (word : List ℕ) → all_pass word ≡ true → AllPass is_word_byte word
passes [] h = All-nil (λ b. is_word_byte b ≡ true)
passes (b ∷ word) h = let both = and_true (is_word_byte b) (all_pass word) h in All-cons (λ b. is_word_byte b ≡ true) b word both.0 (passes word both.1)
  where
    and_true : (p q : Bool) → (p && q) ≡ true → (p ≡ true) × (q ≡ true)
    and_true true q h = (refl, h)
    and_true false q h = absurd (cc h)

channel_byte : (b : ℕ) → is_channel_byte b ≡ true → is_word_byte b ≡ true
channel_byte b h = grind (arith)

hex_byte : (b : ℕ) → is_lower_hex_digit b ≡ true → is_word_byte b ≡ true
hex_byte b h = grind (arith)

digit_byte : (b : ℕ) → IsInRange 48 57 b → is_word_byte b ≡ true
digit_byte b h = grind (arith)

-- the name of a channel
pub channel_inside : (name : List ℕ) → IsChannelName name → AllPass is_word_byte name
channel_inside name h k d below = channel_byte (get_or name k d) (h.bytes k d below)

-- the name of a change in hex digits
pub hex_inside : (n : Name) → AllPass is_word_byte (hex n.bytes)
hex_inside n k d below = hex_byte (get_or (hex n.bytes) k d) ((IsHex-hex n).1 k d below)

abbrev pub AreDigits : List ℕ → Type 0
AreDigits ds = (i : ℕ) → i < length ds → IsInRange 48 57 (get_or ds i 0)

-- a number in decimal digits
pub number_inside : (n : ℕ) → n < 2 ^ 64 → AllPass is_word_byte (decimal n)
number_inside n small k d below =
    let digits : AreDigits (decimal n) = digits_decimal (numerals_by_value AreDigits tells_by_index) n small in
    let same = get_or_default_zero (decimal n) k d below in
    ap is_word_byte same ∙ digit_byte (get_or (decimal n) k 0) (digits k below)

-- the length of a text is one
pub decimal_inside : (n : ℕ) → n ≤ 16777216 → AllPass is_word_byte (decimal n)
decimal_inside n small = number_inside n (omega (arith, small))
