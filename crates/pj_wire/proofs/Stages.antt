-- How the stage of a request moves with a byte, and with bytes of a text.
use Rattle.std.proofs.Common.{◌≡◌, ◌≢◌, ℕ, ◌+◌, ◌*◌, ◌-◌, ◌/◌, ◌%◌, ◌<◌, ◌≤◌, Bool, true, false, Option, Some, None, List, [], ◌∷◌, ◌++◌, length, take, drop, get_or, decimal, refl, sym, ◌∙◌, ap, subst, inl, inr, arith, append-nil, append_assoc, length-append, length-drop}
use Rattle.std.specs.Prelude.{◌↔◌}
use Rattle.std.specs.List.{AllPass}
use Rattle.std.specs.Int.{IsInRange}
use Rattle.std.proofs.lemmas.Bool.{cases_lt}
use Rattle.std.proofs.lemmas.Fmt.{decimal_digit, decimal_step, decimal_injective, decimal_nonempty, digits_decimal}
use Rattle.std.proofs.lemmas.Option.{none-some}
use Rattle.std.proofs.lemmas.List.{nil_from_length, get_or_at, drop_at, drop_more, drop-append-le, take-append-drop, same_from_push}
use Rattle.std.proofs.lemmas.List.Elements.{All-nil, All-cons, All-tail}
use Rattle.pj_scan.specs.Scan.{is_word_byte}
use Rattle.pj_machine.specs.ChannelName.{is_channel_byte}
use Rattle.pj_wire.specs.declared.stage.After.{After}
use Rattle.pj_wire.specs.declared.stage.After.TheVariants as after
use Rattle.pj_wire.specs.declared.stage.Stage.{Stage}
use Rattle.pj_wire.specs.declared.stage.Stage.TheVariants as stage
use Rattle.pj_wire.specs.Stages.{IsWordThen, IsLengthThen, Rest, Moves, end_before}
use Rattle.pj_wire.proofs.Numbers.{IsLength, own, shorter_number}
use Rattle.pj_wire.proofs.Words.{AreDigits, decimal_inside}

-- what is to come in other words
pub moves_along : (A B : List ℕ → Type 0) (r : Option Stage) → ((more : List ℕ) → A more ↔ B more) → Moves B r → Moves A r
moves_along A B (Some s) same m = (m.0, λ more. (λ a. (m.1 more).0 ((same more).0 a), λ r. (same more).1 ((m.1 more).1 r)))
moves_along A B None same m = λ more a. m more ((same more).0 a)

-- bytes of which some were read, as they go on
pub resumed : (s stage : Stage) (place : ℕ) (bytes : List ℕ) → ((more : List ℕ) → Rest s (take place bytes ++ more) ↔ Rest stage more) → (more : List ℕ)
    → (Rest s (bytes ++ more) → Rest stage (drop place bytes ++ more)) × (Rest stage (drop place bytes ++ more) → Rest s (bytes ++ more))
resumed s stage place bytes known more =
    let whole : take place bytes ++ (drop place bytes ++ more) ≡ bytes ++ more =
    sym (append_assoc (take place bytes) (drop place bytes) more) ∙ ap (λ (t : List ℕ). t ++ more) (take-append-drop place bytes) in
    subst (λ (t : List ℕ). Rest s t ↔ Rest stage (drop place bytes ++ more)) whole (known (drop place bytes ++ more))

-- nothing is to come where a byte of them ends the request
pub stopped : (s stage : Stage) (place : ℕ) (bytes : List ℕ) → place < length bytes → ((more : List ℕ) → Rest s (take place bytes ++ more) ↔ Rest stage more)
    → ((more : List ℕ) → Rest stage (get_or bytes place 0 ∷ more) → more ≡ []) → (more : List ℕ) → Rest s (bytes ++ more) → more ≡ []
stopped s stage place bytes within known ends more r =
    let at : drop place bytes ++ more ≡ get_or bytes place 0 ∷ (drop (place + 1) bytes ++ more) = ap (λ (t : List ℕ). t ++ more) (drop_more bytes place 0 within) in
    let none : length (drop (place + 1) bytes ++ more) ≡ 0 = ap (λ (t : List ℕ). length t) (ends (drop (place + 1) bytes ++ more) (subst (λ (t : List ℕ). Rest stage t) at ((resumed s stage place bytes known more).0 r))) in
    nil_from_length more (omega (arith, none, length-append (drop (place + 1) bytes) more))

first_same : (a b : ℕ) (s t : List ℕ) → a ∷ s ≡ b ∷ t → a ≡ b
first_same a b s t e = ap (λ (l : List ℕ). get_or l 0 0) e

rest_same : (a b : ℕ) (s t : List ℕ) → a ∷ s ≡ b ∷ t → s ≡ t
rest_same a b s t e = ap (λ (l : List ℕ). drop 1 l) e

-- ---- words

module _ (is : ℕ → Bool) (end : ℕ) (stop : is end ≡ false) (Behind : List ℕ → Type 0) (byte : ℕ) (more : List ℕ) where
  -- a byte of the word
  pub word_goes_on : (least most least' most' : ℕ) → is byte ≡ true → least' ≡ least - 1 → most ≡ most' + 1
      → (IsWordThen is least most end Behind (byte ∷ more) → IsWordThen is least' most' end Behind more) × (IsWordThen is least' most' end Behind more → IsWordThen is least most end Behind (byte ∷ more))
  word_goes_on least most least' most' has l m = (
    λ w. without w.word w.rest w.whole w.kind w.enough w.few w.behind,
    λ w. record {
      word = byte ∷ w.word;
      rest = w.rest;
      whole = ap (λ (s : List ℕ). byte ∷ s) w.whole;
      kind = All-cons (λ b. is b ≡ true) byte w.word has w.kind;
      enough = let enough = w.enough in omega (arith, l, enough);
      few = let few = w.few in omega (arith, m, few);
      behind = w.behind;
    },
  )
    where
      without : (word rest : List ℕ) → byte ∷ more ≡ word ++ end ∷ rest → AllPass is word → least ≤ length word → length word ≤ most → Behind rest → IsWordThen is least' most' end Behind more
      without [] rest e all enough few behind = let both : true ≡ false = sym has ∙ ap is (first_same byte end more rest e) ∙ stop in cc both
      without (c ∷ word) rest e all enough few behind = record {
        word = word;
        rest = rest;
        whole = rest_same byte c more (word ++ end ∷ rest) e;
        kind = All-tail (λ b. is b ≡ true) c word all;
        enough = omega (arith, l, enough);
        few = omega (arith, m, few);
        behind = behind;
      }

  -- the byte that ends it
  pub word_ends : (least most : ℕ) → least ≡ 0 → byte ≡ end → (IsWordThen is least most end Behind (byte ∷ more) → Behind more) × (Behind more → IsWordThen is least most end Behind (byte ∷ more))
  word_ends least most none same = (
    λ w. ended w.word w.rest w.whole w.kind w.behind,
    λ h. record {
      word = [];
      rest = more;
      whole = ap (λ (b : ℕ). b ∷ more) same;
      kind = All-nil (λ b. is b ≡ true);
      enough = omega (arith, none);
      few = omega arith;
      behind = h;
    },
  )
    where
      ended : (word rest : List ℕ) → byte ∷ more ≡ word ++ end ∷ rest → AllPass is word → Behind rest → Behind more
      ended [] rest e all behind = subst Behind (sym (rest_same byte end more rest e)) behind
      ended (c ∷ word) rest e all behind =
          let both : true ≡ false = sym (all 0 0 (omega arith)) ∙ ap is (sym (first_same byte c more (word ++ end ∷ rest) e) ∙ same) ∙ stop in
          cc both

-- a byte that is neither
pub word_apart : (is : ℕ → Bool) (end : ℕ) (Behind : List ℕ → Type 0) (byte : ℕ) (more : List ℕ) (least most : ℕ) → (is byte ≡ true → most ≡ 0) → (byte ≡ end → 0 < least)
    → IsWordThen is least most end Behind (byte ∷ more) → ⊥
word_apart is end Behind byte more least most full early w = apart w.word w.rest w.whole w.kind w.enough w.few
  where
    apart : (word rest : List ℕ) → byte ∷ more ≡ word ++ end ∷ rest → AllPass is word → least ≤ length word → length word ≤ most → ⊥
    apart [] rest e all enough few = let some = early (first_same byte end more rest e) in omega (arith, some, enough)
    apart (c ∷ word) rest e all enough few =
        let none = full (ap is (first_same byte c more (word ++ end ∷ rest) e) ∙ all 0 0 (omega arith)) in
        omega (arith, none, few)

-- what ends the name of a channel is not in it
pub end_outside : (then : After) → is_channel_byte (end_before then) ≡ false
end_outside after.End = refl
end_outside after.Channel = refl
end_outside after.Change = refl

-- ---- texts

-- bytes of the text
pub text_goes_on : (missing count : ℕ) (bytes : List ℕ) → length bytes ≡ count → count ≤ missing → (more : List ℕ)
    → (Rest (stage.Text missing) (bytes ++ more) → Rest (stage.Text (missing - count)) more) × (Rest (stage.Text (missing - count)) more → Rest (stage.Text missing) (bytes ++ more))
text_goes_on missing count bytes long within more = (
  λ w.
      let enough = w.enough in
      let few = w.few in
      let place : count ≤ length w.word = omega (arith, within, enough) in
      record {
        word = drop count w.word;
        rest = w.rest;
        whole = sym (drop_at bytes more count long) ∙ ap (λ (s : List ℕ). drop count s) w.whole ∙ drop-append-le count w.word (10 ∷ w.rest) place;
        kind = λ k d below. refl;
        enough = omega (arith, length-drop count w.word, enough);
        few = omega (arith, length-drop count w.word, few);
        behind = w.behind;
      },
  λ w.
      let enough = w.enough in
      let few = w.few in
      record {
        word = bytes ++ w.word;
        rest = w.rest;
        whole = ap (λ (s : List ℕ). bytes ++ s) w.whole ∙ sym (append_assoc bytes w.word (10 ∷ w.rest));
        kind = λ k d below. refl;
        enough = omega (arith, length-append bytes w.word, long, within, enough);
        few = omega (arith, length-append bytes w.word, long, within, few);
        behind = w.behind;
      },
)

-- bytes that are too many for it
pub text_ends : (missing count : ℕ) (bytes : List ℕ) → length bytes ≡ count → missing < count → (more : List ℕ) → Rest (stage.Text missing) (bytes ++ more) → more ≡ []
text_ends missing count bytes long beyond more w =
    let few = w.few in
    let whole : length (bytes ++ more) ≡ length (w.word ++ 10 ∷ w.rest) = ap (λ (s : List ℕ). length s) w.whole in
    let none : length w.rest ≡ 0 = ap (λ (s : List ℕ). length s) w.behind in
    nil_from_length more (omega (arith, whole, length-append bytes more, length-append w.word (10 ∷ w.rest), none, long, beyond, few))

-- ---- lengths

-- the newline behind the digits
newline_ends : (digits more : List ℕ) (byte : ℕ) → byte ≡ 10 → IsLengthThen digits (byte ∷ more)
    → (text : List ℕ) × (digits ≡ decimal (length text)) × (length text ≤ 16777216) × (more ≡ text ++ 10 ∷ [])
newline_ends digits more byte newline h = ends h.more h.number h.whole
  where
    ends : (ds : List ℕ) → digits ++ ds ≡ decimal (length h.text) → byte ∷ more ≡ ds ++ 10 ∷ (h.text ++ 10 ∷ [])
        → (text : List ℕ) × (digits ≡ decimal (length text)) × (length text ≤ 16777216) × (more ≡ text ++ 10 ∷ [])
    ends [] number whole = (h.text, sym (append-nil digits) ∙ number, h.small, rest_same byte 10 more (h.text ++ 10 ∷ []) whole)
    ends (d ∷ ds) number whole =
        let at : get_or (decimal (length h.text)) (length digits) 0 ≡ d = ap (λ (s : List ℕ). get_or s (length digits) 0) (sym number) ∙ get_or_at digits d ds 0 (length digits) refl in
        let count : length (decimal (length h.text)) ≡ length digits + length (d ∷ ds) = ap (λ (s : List ℕ). length s) (sym number) ∙ length-append digits (d ∷ ds) in
        let same : d ≡ 10 = sym (first_same byte d more (ds ++ 10 ∷ (h.text ++ 10 ∷ [])) whole) ∙ newline in
        let passes : is_word_byte (get_or (decimal (length h.text)) (length digits) 0) ≡ true = decimal_inside (length h.text) h.small (length digits) 0 (omega (arith, count)) in
        let both : true ≡ false = sym passes ∙ ap is_word_byte at ∙ ap is_word_byte same in
        absurd (cc both)

-- it is not there before the first digit
pub no_length : (more : List ℕ) (byte : ℕ) → byte ≡ 10 → IsLengthThen [] (byte ∷ more) → ⊥
no_length more byte newline h =
    let read = newline_ends [] more byte newline h in
    let none : 0 ≡ length (decimal (length read.0)) = ap (λ (s : List ℕ). length s) read.1 in
    let small = read.2 in
    let some = decimal_nonempty (length read.0) (omega (arith, small)) in
    omega (arith, some, none)

-- behind the digits and the newline the text is to come
pub length_ends : (n byte : ℕ) → byte ≡ 10 → n ≤ 16777216 → (more : List ℕ)
    → (IsLengthThen (decimal n) (byte ∷ more) → Rest (stage.Text n) more) × (Rest (stage.Text n) more → IsLengthThen (decimal n) (byte ∷ more))
length_ends n byte newline small more = (
  λ h.
      let read = newline_ends (decimal n) more byte newline h in
      let low = read.2 in
      let count : n ≡ length read.0 = decimal_injective n (length read.0) (omega (arith, small)) (omega (arith, low)) read.1 in
      record {
        word = read.0;
        rest = [];
        whole = read.3;
        kind = λ k d below. refl;
        enough = omega (arith, count);
        few = omega (arith, count);
        behind = refl;
      },
  λ w.
      let enough = w.enough in
      let few = w.few in
      let count : n ≡ length w.word = omega (arith, enough, few) in
      record {
        more = [];
        text = w.word;
        number = append-nil (decimal n) ∙ ap decimal count;
        small = omega (arith, count, small);
        whole = ap (λ (b : ℕ). b ∷ more) newline ∙ ap (λ (s : List ℕ). 10 ∷ s) (w.whole ∙ ap (λ (s : List ℕ). w.word ++ 10 ∷ s) w.behind);
      },
)

-- one more digit
pub digit_goes_on : (digits : List ℕ) (n byte : ℕ) → byte ≢ 10 → digits ++ byte ∷ [] ≡ decimal n → (more : List ℕ)
    → (IsLengthThen digits (byte ∷ more) → IsLengthThen (decimal n) more) × (IsLengthThen (decimal n) more → IsLengthThen digits (byte ∷ more))
digit_goes_on digits n byte other is more = (
  λ h. without h.more h.text h.number h.small h.whole,
  λ h. record {
    more = byte ∷ h.more;
    text = h.text;
    number = sym (append_assoc digits (byte ∷ []) h.more) ∙ ap (λ (s : List ℕ). s ++ h.more) is ∙ h.number;
    small = h.small;
    whole = ap (λ (s : List ℕ). byte ∷ s) h.whole;
  },
)
  where
    without : (ds text : List ℕ) → digits ++ ds ≡ decimal (length text) → length text ≤ 16777216 → byte ∷ more ≡ ds ++ 10 ∷ (text ++ 10 ∷ []) → IsLengthThen (decimal n) more
    without [] text number small whole = absurd (other (first_same byte 10 more (text ++ 10 ∷ []) whole))
    without (d ∷ ds) text number small whole = record {
      more = ds;
      text = text;
      number = ap (λ (s : List ℕ). s ++ ds) (sym is) ∙ append_assoc digits (byte ∷ []) ds ∙ ap (λ (b : ℕ). digits ++ b ∷ ds) (first_same byte d more (ds ++ 10 ∷ (text ++ 10 ∷ [])) whole) ∙ number;
      small = small;
      whole = rest_same byte d more (ds ++ 10 ∷ (text ++ 10 ∷ [])) whole;
    }

-- a byte with which the digits write no length
pub digit_apart : (digits : List ℕ) (byte : ℕ) → byte ≢ 10 → ((n : ℕ) → (n ≤ 16777216) × (digits ++ byte ∷ [] ≡ decimal n) → ⊥) → (more : List ℕ) → IsLengthThen digits (byte ∷ more) → ⊥
digit_apart digits byte other none more h = apart h.more h.number h.whole
  where
    apart : (ds : List ℕ) → digits ++ ds ≡ decimal (length h.text) → byte ∷ more ≡ ds ++ 10 ∷ (h.text ++ 10 ∷ []) → ⊥
    apart [] number whole = other (first_same byte 10 more (h.text ++ 10 ∷ []) whole)
    apart (d ∷ ds) number whole =
        let front : (digits ++ byte ∷ []) ++ ds ≡ decimal (length h.text) =
        append_assoc digits (byte ∷ []) ds ∙ ap (λ (b : ℕ). digits ++ b ∷ ds) (first_same byte d more (ds ++ 10 ∷ (h.text ++ 10 ∷ [])) whole) ∙ number in
        let small = h.small in
        let shorter = shorter_number (digits ++ byte ∷ []) ds (length h.text) small (omega (arith, length-append digits (byte ∷ []))) front in
        let less = shorter.1 in
        none shorter.0 (omega (arith, less, small), shorter.2)

-- ---- digits

-- they write this one
pub length_read : (digits : List ℕ) (m : ℕ) → m ≤ 16777216 → digits ≡ decimal m → IsLength digits (Some m)
length_read digits m small is n = (
  λ e. let same : m ≡ n = some_same m n e in (omega (arith, same, small), is ∙ ap decimal same),
  λ h. let low = h.0 in ap Some (decimal_injective m n (omega (arith, small)) (omega (arith, low)) (sym is ∙ h.1)),
)
  where
    some_same : (m n : ℕ) → Some m ≡ Some n → m ≡ n
    some_same m n e = cc

-- they write none
pub no_length_read : (digits : List ℕ) → ((n : ℕ) → n ≤ 16777216 → digits ≡ decimal n → ⊥) → IsLength digits None
no_length_read digits none n = (λ e. absurd (none-some n e), λ h. absurd (none n h.0 h.1))

-- one digit alone
pub first_digit : (byte : ℕ) → 48 ≤ byte → byte ≤ 57 → byte ∷ [] ≡ decimal (byte - 48)
first_digit byte low high = ap (λ (b : ℕ). b ∷ []) (omega (arith, low)) ∙ sym (decimal_digit (byte - 48) (omega (arith, low, high)))

-- one more digit behind others
pub next_digit : (tens byte : ℕ) → 0 < tens → tens ≤ 16777216 → 48 ≤ byte → byte ≤ 57 → decimal tens ++ byte ∷ [] ≡ decimal (tens * 10 + (byte - 48))
next_digit tens byte some small low high =
    let n : ℕ = tens * 10 + (byte - 48) in
    let quotient : n / 10 ≡ tens = omega (arith, low, high) in
    let digit : 48 + n % 10 ≡ byte = omega (arith, low, high) in
    ap (λ (t : ℕ). decimal t ++ byte ∷ []) (sym quotient) ∙ ap (λ (b : ℕ). decimal (n / 10) ++ b ∷ []) (sym digit)
    ∙ sym (decimal_step n (omega (arith, some)) (omega (arith, small, high)))

-- the last byte of a number is a digit
last_byte : (digits : List ℕ) (byte n : ℕ) → n ≤ 16777216 → digits ++ byte ∷ [] ≡ decimal n → IsInRange 48 57 byte
last_byte digits byte n small is =
    let all : AreDigits (decimal n) = digits_decimal own n (omega (arith, small)) in
    let at : get_or (decimal n) (length digits) 0 ≡ byte = ap (λ (s : List ℕ). get_or s (length digits) 0) (sym is) ∙ get_or_at digits byte [] 0 (length digits) refl in
    let count : length (decimal n) ≡ length digits + 1 = ap (λ (s : List ℕ). length s) (sym is) ∙ length-append digits (byte ∷ []) in
    subst (IsInRange 48 57) at (all (length digits) (omega (arith, count)))

-- another byte ends no number
pub no_digit : (digits : List ℕ) (byte n : ℕ) → (48 ≤ byte → byte ≤ 57 → ⊥) → n ≤ 16777216 → digits ++ byte ∷ [] ≡ decimal n → ⊥
no_digit digits byte n other small is = let digit = last_byte digits byte n small is in other (omega (arith, digit)) (omega (arith, digit))

-- two digits or more write the number of those before the last, and the last
pub more_digits : (tens byte n : ℕ) → tens ≤ 16777216 → n ≤ 16777216 → decimal tens ++ byte ∷ [] ≡ decimal n → (0 < tens) × (n ≡ tens * 10 + (byte - 48))
more_digits tens byte n few small is =
    let some = decimal_nonempty tens (omega (arith, few)) in
    let count : length (decimal n) ≡ length (decimal tens) + 1 = ap (λ (s : List ℕ). length s) (sym is) ∙ length-append (decimal tens) (byte ∷ []) in
    let long = large n count some small in
    let both = same_from_push (decimal tens) (decimal (n / 10)) byte (48 + n % 10) (is ∙ decimal_step n long (omega (arith, small))) in
    let quotient = decimal_injective tens (n / 10) (omega (arith, few)) (omega (arith, small)) both.0 in
    let digit = both.1 in
    (omega (arith, quotient, long), omega (arith, quotient, digit))
  where
    large : (n : ℕ) → length (decimal n) ≡ length (decimal tens) + 1 → 0 < length (decimal tens) → n ≤ 16777216 → 10 ≤ n
    large n count some small = elim (cases_lt n 10) [ inl low ↦ absurd (one low) | inr high ↦ high ]
      where
        one : n < 10 → ⊥
        one low = let short : length (decimal n) ≡ 1 = ap (λ (s : List ℕ). length s) (decimal_digit n low) in omega (arith, short, count, some)
