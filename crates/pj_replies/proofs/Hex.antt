-- The name of a change in hex digits, at the beginning of bytes.
use Rattle.std.proofs.Common.{◌≡◌, ◌≢◌, ℕ, ◌-◌, ◌<◌, ◌≤◌, true, false, List, [], ◌∷◌, ◌++◌, length, take, drop, get_or, min, replicate, refl, sym, ◌∙◌, ap, arith, append_assoc, length-append}
use Rattle.std.specs.List.{AllPass, prefix_len}
use Rattle.std.proofs.lemmas.List.{get_or_append_left, get_or_at, get_or-take, length-take, length-replicate, take_more, take-append-drop}
use Rattle.std.proofs.lemmas.List.Elements.{All-append, All-replicate}
use Rattle.std.proofs.lemmas.List.Sums.{prefix_len-le-length, prefix_len_passes, prefix_len_stops}
use Rattle.pj_name.specs.declared.name.Name.{Name}
use Rattle.pj_name.specs.Name.{hex, IsHex, is_lower_hex_digit}
use Rattle.pj_name.proofs.Names.{IsHex-hex, length-hex, name_spelled}
use Rattle.pj_wire.specs.Spelled.{EndsWithin}
use Rattle.pj_replies.specs.Apart.{IsSpelled, IsApart}

-- no value stands where each has another byte
pub differs_at : {V : Type 0} (f : V → List ℕ) (A : V → Type 0) (bytes : List ℕ) (k : ℕ) → k < length bytes
    → ((v : V) → A v → (k < length (f v)) × (get_or (f v) k 0 ≡ get_or bytes k 0 → ⊥)) → IsApart f A bytes
differs_at f A bytes k within other = record {
  has_none = λ v rest a e.
      let o = other v a in
      o.1 (sym (get_or_append_left (f v) rest 0 k o.0) ∙ ap (λ (t : List ℕ). get_or t k 0) (sym e));
  begins_none = λ v more a e. (other v a).1 (ap (λ (t : List ℕ). get_or t k 0) (sym e) ∙ get_or_append_left bytes more 0 k within);
}

-- the name and the newline behind it
abbrev pub named_line : Name → List ℕ
named_line name = hex name.bytes ++ 10 ∷ []

-- any name
abbrev pub IsName : Name → Type 0
IsName name = Unit {0}

module _ (bytes : List ℕ) (count : ℕ) (is : count ≡ prefix_len is_lower_hex_digit (take 64 bytes)) where
  -- no more digits were counted than a name has, or than there are bytes
  few : count ≤ min 64 (length bytes)
  few = let h = prefix_len-le-length is_lower_hex_digit (take 64 bytes) in omega (arith, h, is, length-take 64 bytes)

  -- nor than there are bytes
  pub within : count ≤ length bytes
  within = let h = few in omega arith

  -- the digits that were counted
  digits : (k d : ℕ) → k < count → is_lower_hex_digit (get_or bytes k d) ≡ true
  digits k d lt =
      let low = few in
      let same : get_or (take 64 bytes) k d ≡ get_or bytes k d = get_or-take 64 bytes k d (omega (arith, lt)) in
      ap is_lower_hex_digit (sym same) ∙ prefix_len_passes is_lower_hex_digit (take 64 bytes) k d (omega (arith, lt, is))

  -- all bytes are digits, and fewer than a name has, or as many
  pub digits_alone : count ≡ length bytes → EndsWithin named_line IsName bytes
  digits_alone all =
      let low = few in
      let long : length (bytes ++ replicate (64 - length bytes) 48) ≡ 64 = omega (arith, length-append bytes (replicate (64 - length bytes) 48), length-replicate {A = ℕ} (64 - length bytes) 48, all) in
      let pass : AllPass is_lower_hex_digit (bytes ++ replicate (64 - length bytes) 48) =
      All-append (λ b. is_lower_hex_digit b ≡ true) bytes (replicate (64 - length bytes) 48) (λ k d lt. digits k d (omega (arith, lt, all))) (All-replicate (λ b. is_lower_hex_digit b ≡ true) (64 - length bytes) 48 refl) in
      let name = name_spelled (bytes ++ replicate (64 - length bytes) 48) (long, pass) in
      record {
        value = name.0;
        allowed = tt;
        missing = replicate (64 - length bytes) 48 ++ 10 ∷ [];
        whole = sym (append_assoc bytes (replicate (64 - length bytes) 48) (10 ∷ [])) ∙ ap (λ (t : List ℕ). t ++ 10 ∷ []) name.1;
        some = omega (arith, length-append {A = ℕ} (replicate (64 - length bytes) 48) (10 ∷ []));
      }

  -- another byte stands behind fewer digits than a name has
  pub cut_short : count < 64 → count ≢ length bytes → IsApart named_line IsName bytes
  cut_short short other =
      let low = within in
      let here : count < length bytes = omega (arith, low, other) in
      let stops : is_lower_hex_digit (get_or (take 64 bytes) (prefix_len is_lower_hex_digit (take 64 bytes)) 0) ≡ false =
      prefix_len_stops is_lower_hex_digit (take 64 bytes) 0 (omega (arith, is, here, short, length-take 64 bytes)) in
      let at : is_lower_hex_digit (get_or bytes count 0) ≡ false =
      ap is_lower_hex_digit (sym (get_or-take 64 bytes count 0 short)) ∙ ap (λ (k : ℕ). is_lower_hex_digit (get_or (take 64 bytes) k 0)) is ∙ stops in
      differs_at named_line IsName bytes count here (λ name _.
      let size = length-hex name in
      let digit : is_lower_hex_digit (get_or (hex name.bytes ++ 10 ∷ []) count 0) ≡ true =
      ap is_lower_hex_digit (get_or_append_left (hex name.bytes) (10 ∷ []) 0 count (omega (arith, size, short))) ∙ (IsHex-hex name).1 count 0 (omega (arith, size, short)) in
      (omega (arith, size, short, length-append (hex name.bytes) (10 ∷ [])), λ e. let both : true ≡ false = sym digit ∙ ap is_lower_hex_digit e ∙ at in cc both))

  -- there are more bytes than the digits of a name
  pub more_than : 64 ≤ count → count ≢ length bytes → 64 < length bytes
  more_than enough other = let low = few in omega (arith, low, enough, other)

  -- no newline stands behind the digits of a name
  pub unended : 64 < length bytes → get_or bytes 64 0 ≢ 10 → IsApart named_line IsName bytes
  unended here other =
      differs_at named_line IsName bytes 64 here (λ name _.
      let size = length-hex name in
      (omega (arith, size, length-append (hex name.bytes) (10 ∷ [])), λ e. other (sym e ∙ get_or_at (hex name.bytes) 10 [] 0 64 size)))

  -- so many digits are those of a name
  pub are_hex : 64 ≤ count → IsHex (take 64 bytes)
  are_hex enough =
      let low = few in
      let size : length (take 64 bytes) ≡ 64 = omega (arith, low, enough, length-take 64 bytes) in
      (size, λ k d lt. ap is_lower_hex_digit (get_or-take 64 bytes k d (omega (arith, lt, size))) ∙ digits k d (omega (arith, lt, size, enough)))

-- the digits of this name, and the newline
pub name_stands : (bytes : List ℕ) (name : Name) → 64 < length bytes → get_or bytes 64 0 ≡ 10 → take 64 bytes ≡ hex name.bytes → IsSpelled named_line IsName bytes name 65
name_stands bytes name here at is = record {
  allowed = tt;
  within = omega (arith, here);
  stands = sym (take-append-drop 65 bytes) ∙ ap (λ (t : List ℕ). t ++ drop 65 bytes) (take_more bytes 64 0 here ∙ ap (λ (b : ℕ). take 64 bytes ++ b ∷ []) at ∙ ap (λ (t : List ℕ). t ++ 10 ∷ []) is);
}
