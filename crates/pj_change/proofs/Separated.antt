-- Lists of bytes with separators: where the separator is in no part, the whole tells the parts.
use Rattle.std.proofs.Common.{◌≡◌, ℕ, ◌+◌, ◌%◌, ◌^◌, ◌<◌, ◌≤◌, List, [], ◌∷◌, ◌++◌, length, refl, sym, ◌∙◌, ap, arith, true, false, append_assoc}
use Rattle.std.specs.Prelude.{◌&&◌, not, nat_eq, decimal}
use Rattle.std.specs.List.{join_with_byte, AllByRecursion}
use Rattle.std.proofs.lemmas.Bool.{and_parts}
use Rattle.std.proofs.lemmas.Bool.Decides.{nat_tests}
use Rattle.std.proofs.lemmas.List.Folds.{list_all-append}
use Rattle.std.proofs.lemmas.Fmt.{decimal_by_steps, decimal_injective}
use Rattle.pj_change.specs.Rules.{lacks}
use Rattle.pj_change.specs.Text.{line}
use Rattle.pj_change.proofs.Members.{heads, tails}

not_itself : (c : ℕ) (bytes : List ℕ) → lacks c (c ∷ bytes) ≡ true → ⊥
not_itself c bytes e = (let h : not (nat_eq c c) ≡ true = (and_parts _ _ e).0 in grind (arith, nat_tests))

-- a separator that neither part before it has
pub up_to : (c : ℕ) (a b r s : List ℕ) → lacks c a ≡ true → lacks c b ≡ true → a ++ c ∷ r ≡ b ++ c ∷ s → (a ≡ b) × (r ≡ s)
up_to c [] [] r s f g e = (refl, tails c c r s e)
up_to c [] (y ∷ b) r s f g e = absurd (let h = heads c y r (b ++ c ∷ s) e in let k : lacks c (c ∷ b) ≡ true = ap (λ x. lacks c (x ∷ b)) h ∙ g in not_itself c b k)
up_to c (x ∷ a) [] r s f g e = absurd (let h = heads x c (a ++ c ∷ r) s e in let k : lacks c (c ∷ a) ≡ true = ap (λ x. lacks c (x ∷ a)) (sym h) ∙ f in not_itself c a k)
up_to c (x ∷ a) (y ∷ b) r s f g e =
    let h = heads x y (a ++ c ∷ r) (b ++ c ∷ s) e in
    let k = up_to c a b r s (and_parts _ _ f).1 (and_parts _ _ g).1 (tails x y (a ++ c ∷ r) (b ++ c ∷ s) e) in
    ((λ i. h i ∷ k.0 i), k.1)

-- parts of one length
pub of_length : (a b r s : List ℕ) → length a ≡ length b → a ++ r ≡ b ++ s → (a ≡ b) × (r ≡ s)
of_length [] [] r s l e = (refl, e)
of_length [] (y ∷ b) r s l e = absurd (omega arith)
of_length (x ∷ a) [] r s l e = absurd (omega arith)
of_length (x ∷ a) (y ∷ b) r s l e =
    let h = heads x y (a ++ r) (b ++ s) e in
    let k = of_length a b r s (omega arith) (tails x y (a ++ r) (b ++ s) e) in
    ((λ i. h i ∷ k.0 i), k.1)

pub lacks-append : (c : ℕ) (a b : List ℕ) → lacks c a ≡ true → lacks c b ≡ true → lacks c (a ++ b) ≡ true
lacks-append c a b f g = list_all-append (λ x. not (nat_eq x c)) a b ∙ (λ i. f i && g i)

pub lacks-cons : (c d : ℕ) (b : List ℕ) → nat_eq d c ≡ false → lacks c b ≡ true → lacks c (d ∷ b) ≡ true
lacks-cons c d b f g = λ i. not (f i) && g i

-- ---- words

-- each word but the last lacks a space
abbrev pub FrontsLack : List (List ℕ) → Type 0
FrontsLack [] = Unit {0}
FrontsLack (w ∷ []) = Unit {0}
FrontsLack (w ∷ v ∷ ws) = (lacks 32 w ≡ true) × FrontsLack (v ∷ ws)

-- as many words
pub words_one : (ws vs : List (List ℕ)) → length ws ≡ length vs → FrontsLack ws → FrontsLack vs → join_with_byte 32 ws ≡ join_with_byte 32 vs → ws ≡ vs
words_one [] [] l f g e = refl
words_one [] (v ∷ vs) l f g e = absurd (omega arith)
words_one (w ∷ ws) [] l f g e = absurd (omega arith)
words_one (w ∷ []) (v ∷ []) l f g e = λ i. e i ∷ []
words_one (w ∷ []) (v ∷ v' ∷ vs) l f g e = absurd (omega arith)
words_one (w ∷ w' ∷ ws) (v ∷ []) l f g e = absurd (omega arith)
words_one (w ∷ w' ∷ ws) (v ∷ v' ∷ vs) l f g e =
    let k = up_to 32 w v (join_with_byte 32 (w' ∷ ws)) (join_with_byte 32 (v' ∷ vs)) f.0 g.0 e in
    let r = words_one (w' ∷ ws) (v' ∷ vs) (omega arith) f.1 g.1 k.1 in
    λ i. k.0 i ∷ r i

pub lacks-join : (c d : ℕ) (ws : List (List ℕ)) → nat_eq d c ≡ false → AllByRecursion (λ w. lacks c w ≡ true) ws → lacks c (join_with_byte d ws) ≡ true
lacks-join c d [] n f = refl
lacks-join c d (w ∷ []) n f = f.0
lacks-join c d (w ∷ v ∷ ws) n f = lacks-append c w (d ∷ join_with_byte d (v ∷ ws)) f.0 (lacks-cons c d (join_with_byte d (v ∷ ws)) n (lacks-join c d (v ∷ ws) n f.1))

-- a line is told by the newline at its end
pub line_one : (ws vs : List (List ℕ)) (r s : List ℕ) → AllByRecursion (λ w. lacks 10 w ≡ true) ws → AllByRecursion (λ w. lacks 10 w ≡ true) vs →
    line ws ++ r ≡ line vs ++ s → (join_with_byte 32 ws ≡ join_with_byte 32 vs) × (r ≡ s)
line_one ws vs r s f g e =
    let e' : join_with_byte 32 ws ++ 10 ∷ r ≡ join_with_byte 32 vs ++ 10 ∷ s =
    sym (append_assoc (join_with_byte 32 ws) (10 ∷ []) r) ∙ e ∙ append_assoc (join_with_byte 32 vs) (10 ∷ []) s in
    up_to 10 (join_with_byte 32 ws) (join_with_byte 32 vs) r s (lacks-join 10 32 ws refl f) (lacks-join 10 32 vs refl g) e'

-- ---- numbers

pub decimal_lacks : (c n : ℕ) → c < 48 → n < 2 ^ 64 → lacks c (decimal n) ≡ true
decimal_lacks c n small = decimal_by_steps (λ n ds. lacks c ds ≡ true) (λ n l. one n) (λ n ds l f. lacks-append c ds ((48 + n % 10) ∷ []) f (one (n % 10))) n
  where
    one : (d : ℕ) → lacks c ((48 + d) ∷ []) ≡ true
    one d = (let h : nat_eq (48 + d) c ≡ false = grind (arith, nat_tests) in lacks-cons c (48 + d) [] h refl)

-- a digit comes first
pub record BeginsWithDigit (bytes : List ℕ) : Type 0 where
  pub digit : ℕ
  pub rest : List ℕ
  pub is : bytes ≡ digit ∷ rest
  pub high : 48 ≤ digit
  pub low : digit < 58

pub decimal_begins : (n : ℕ) → n < 2 ^ 64 → BeginsWithDigit (decimal n)
decimal_begins n = decimal_by_steps (λ n ds. BeginsWithDigit ds)
    (λ n l. record { digit = 48 + n; rest = []; is = refl; high = omega arith; low = omega arith })
    (λ n ds l f. record { digit = f.digit; rest = f.rest ++ (48 + n % 10) ∷ []; is = ap (λ l. l ++ (48 + n % 10) ∷ []) f.is; high = f.high; low = f.low }) n

-- a number up to a separator that is below the digits
pub up_to_number : (c m n : ℕ) (r s : List ℕ) → c < 48 → m < 2 ^ 32 → n < 2 ^ 32 → decimal m ++ c ∷ r ≡ decimal n ++ c ∷ s → (m ≡ n) × (r ≡ s)
up_to_number c m n r s small l h e =
    let k = up_to c (decimal m) (decimal n) r s (decimal_lacks c m small (omega arith)) (decimal_lacks c n small (omega arith)) e in
    (decimal_injective m n (omega arith) (omega arith) k.0, k.1)

-- ---- lists of words

no_separator : (c : ℕ) (w v r : List ℕ) → lacks c w ≡ true → w ≡ v ++ c ∷ r → ⊥
no_separator c w v r f e =
    let k : lacks c (v ++ c ∷ r) ≡ true = ap (lacks c) (sym e) ∙ f in
    let h = and_parts _ _ (sym (list_all-append (λ x. not (nat_eq x c)) v (c ∷ r)) ∙ k) in
    not_itself c r h.1

-- one or more words without the separator
pub joined_one : (c : ℕ) (ws vs : List (List ℕ)) → AllByRecursion (λ w. lacks c w ≡ true) ws → AllByRecursion (λ w. lacks c w ≡ true) vs →
    1 ≤ length ws → 1 ≤ length vs → join_with_byte c ws ≡ join_with_byte c vs → ws ≡ vs
joined_one c [] vs f g l h e = absurd (omega arith)
joined_one c (w ∷ ws) [] f g l h e = absurd (omega arith)
joined_one c (w ∷ []) (v ∷ []) f g l h e = λ i. e i ∷ []
joined_one c (w ∷ []) (v ∷ v' ∷ vs) f g l h e = absurd (no_separator c w v (join_with_byte c (v' ∷ vs)) f.0 e)
joined_one c (w ∷ w' ∷ ws) (v ∷ []) f g l h e = absurd (no_separator c v w (join_with_byte c (w' ∷ ws)) g.0 (sym e))
joined_one c (w ∷ w' ∷ ws) (v ∷ v' ∷ vs) f g l h e =
    let k = up_to c w v (join_with_byte c (w' ∷ ws)) (join_with_byte c (v' ∷ vs)) f.0 g.0 e in
    let r = joined_one c (w' ∷ ws) (v' ∷ vs) f.1 g.1 (omega arith) (omega arith) k.1 in
    λ i. k.0 i ∷ r i
