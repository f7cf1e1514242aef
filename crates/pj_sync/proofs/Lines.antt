-- Lines of logs, each a name.
use Rattle.std.proofs.Common.{◌≡◌, ◌==◌, ℕ, Bool, true, false, ◌+◌, ◌-◌, ◌<◌, ◌≤◌, List, [], ◌∷◌, ◌++◌, length, get_or, take, drop, Option, Some, None, refl, sym, ◌∙◌, ap, arith, append_assoc, append-nil, length-append, length-drop, drop-cons}
use Rattle.std.specs.Prelude.{◌↔◌, IfSome}
use Rattle.std.proofs.Math.Seq.{get_or-append_seam, take-append_seam}
use Rattle.std.proofs.lemmas.List.{take-append-drop, take_all}
use Rattle.pj_name.specs.declared.name.Name.{Name}
use Rattle.pj_name.specs.Name.{hex}
use Rattle.pj_name.proofs.Names.{length-hex}
use Rattle.pj_machine.specs.Listings.{log_line, log_text}
use Rattle.pj_scan.proofs.Fronts.{same_fronts}

-- ---- one line

-- the digits, and what stands behind them
behind_digits : (n : Name) (rest : List ℕ) → log_line n ++ rest ≡ hex n.bytes ++ 10 ∷ rest
behind_digits n rest = append_assoc (hex n.bytes) (10 ∷ []) rest

-- a line has 65 bytes
line_length : (n : Name) (rest : List ℕ) → length (log_line n ++ rest) ≡ 65 + length rest
line_length n rest =
    let size : length (log_line n ++ rest) ≡ length (hex n.bytes ++ 10 ∷ rest) = ap (λ (l : List ℕ). length l) (behind_digits n rest) in
    omega (arith, size, length-append (hex n.bytes) (10 ∷ rest), length-hex n)

-- fewer bytes begin with none
pub too_short : (text : List ℕ) → length text < 65 → (n : Name) (rest : List ℕ) → text ≡ log_line n ++ rest → ⊥
too_short text short n rest is =
    let size : length text ≡ length (log_line n ++ rest) = ap (λ (l : List ℕ). length l) is in
    omega (arith, size, line_length n rest)

-- a text that begins with one has as many
pub long_enough : (text : List ℕ) (n : Name) (rest : List ℕ) → text ≡ log_line n ++ rest → 65 ≤ length text
long_enough text n rest is =
    let size : length text ≡ length (log_line n ++ rest) = ap (λ (l : List ℕ). length l) is in
    omega (arith, size, line_length n rest)

-- its last byte is a newline
pub ends_line : (text : List ℕ) (d : ℕ) (n : Name) (rest : List ℕ) → text ≡ log_line n ++ rest → get_or text 64 d ≡ 10
ends_line text d n rest is =
    ap (λ l. get_or l 64 d) (is ∙ behind_digits n rest) ∙ ap (λ k. get_or (hex n.bytes ++ 10 ∷ rest) k d) (sym (length-hex n)) ∙ get_or-append_seam
    (hex n.bytes) 10 rest d

-- its first bytes are the digits
digits_first : (text : List ℕ) (n : Name) (rest : List ℕ) → text ≡ log_line n ++ rest → take 64 text ≡ hex n.bytes
digits_first text n rest is =
    ap (λ l. take 64 l) (is ∙ behind_digits n rest) ∙ ap (λ k. take k (hex n.bytes ++ 10 ∷ rest)) (sym (length-hex n)) ∙ take-append_seam (hex n.bytes)
    (10 ∷ rest)

module _ (text : List ℕ) (r : Option Name) (spelled : (n : Name) → (r ≡ Some n) ↔ (take 64 text ≡ hex n.bytes)) where
  -- what is read is the name of the line
  pub is_line : 65 ≤ length text → (d : ℕ) → get_or text 64 d ≡ 10 → IfSome r (λ n. text ≡ log_line n ++ drop 65 text)
  is_line long d ends = go r refl
    where
      go : (found : Option Name) → r ≡ found → IfSome found (λ n. text ≡ log_line n ++ drop 65 text)
      go None is = tt
      go (Some n) is =
          let digits = (spelled n).0 is in
          let whole : text ≡ take 64 text ++ drop 64 text = sym (take-append-drop 64 text) in
          let cut : drop 64 text ≡ get_or text 64 d ∷ drop 65 text = drop-cons text 64 d (omega arith) in
          whole ∙ ap (λ l. l ++ drop 64 text) digits ∙ ap (λ l. hex n.bytes ++ l) (cut ∙ ap (λ b. b ∷ drop 65 text) ends) ∙ sym (behind_digits n (drop 65 text))

  -- where nothing is read, there is none
  pub no_line : r ≡ None → (n : Name) (rest : List ℕ) → text ≡ log_line n ++ rest → ⊥
  no_line none n rest is = (let k : None ≡ Some n = sym none ∙ (spelled n).1 (digits_first text n rest is) in cc k)

-- ---- all lines

-- one more line
pub one_more : (names : List Name) (n : Name) (rest : List ℕ) → log_text (names ++ n ∷ []) ++ rest ≡ log_text names ++ (log_line n ++ rest)
one_more [] n rest = ap (λ l. l ++ rest) (append-nil (log_line n))
one_more (m ∷ names) n rest =
    append_assoc (log_line m) (log_text (names ++ n ∷ [])) rest ∙ ap (λ l. log_line m ++ l) (one_more names n rest)
    ∙ sym (append_assoc (log_line m) (log_text names) (log_line n ++ rest))

-- a log that begins with lines goes on with a log
pub goes_on : (names all : List Name) (rest : List ℕ) → log_text names ++ rest ≡ log_text all → (more : List Name) × (rest ≡ log_text more)
goes_on [] all rest is = (all, is)
goes_on (n ∷ names) [] rest is = absurd (too_short [] (omega arith) n (log_text names ++ rest) (sym is ∙ append_assoc (log_line n) (log_text names) rest))
goes_on (n ∷ names) (m ∷ all) rest is =
    let whole : hex n.bytes ++ 10 ∷ (log_text names ++ rest) ≡ hex m.bytes ++ 10 ∷ log_text all =
    sym (append_assoc (log_line n) (log_text names) rest ∙ behind_digits n (log_text names ++ rest)) ∙ is ∙ behind_digits m (log_text all) in
    let same = same_fronts (hex n.bytes) (hex m.bytes) (10 ∷ (log_text names ++ rest)) (10 ∷ log_text all) whole (length-hex n ∙ sym (length-hex m)) in
    goes_on names all rest (ap (λ l. drop 1 l) same.1)

-- the same, after the line that is left over first
pub line_passed : (body : List ℕ) (names : List Name) (text : List ℕ) (n : Name) → body ≡ log_text names ++ text → text ≡ log_line n ++ drop 65 text →
    body ≡ log_text (names ++ n ∷ []) ++ take (length text - 65) (drop 65 text)
line_passed body names text n is line =
    let long = long_enough text n (drop 65 text) line in
    let all : take (length text - 65) (drop 65 text) ≡ drop 65 text = take_all (length text - 65) (drop 65 text) (omega (arith, length-drop 65 text)) in
    is ∙ ap (λ l. log_text names ++ l) line ∙ sym (one_more names n (drop 65 text)) ∙ ap (λ l. log_text (names ++ n ∷ []) ++ l) (sym all)

-- bytes that are not found to be none are some
pub some_left : (text : List ℕ) (none : Bool) → none ≡ (length text == 0) → none ≡ false → text ≡ [] → ⊥
some_left text none found is empty =
    let k : true ≡ false = sym (found ∙ ap (λ (l : List ℕ). length l == 0) empty) ∙ is in cc k

-- a name that is none of those that may be is none
pub none_left : (o : Option Name) → ((n : Name) → o ≡ Some n → ⊥) → o ≡ None
none_left None never = refl
none_left (Some n) never = absurd (never n refl)

-- where bytes are left that begin with no line, there is no log
pub no_log : (body : List ℕ) (names : List Name) (rest : List ℕ) → body ≡ log_text names ++ rest → (rest ≡ [] → ⊥) →
    ((n : Name) (more : List ℕ) → rest ≡ log_line n ++ more → ⊥) →
    (all : List Name) → body ≡ log_text all → ⊥
no_log body names rest is some none all log = go (goes_on names all rest (sym is ∙ log))
  where
    go : (more : List Name) × (rest ≡ log_text more) → ⊥
    go ([], e) = some e
    go (n ∷ more, e) = none n (log_text more) e
