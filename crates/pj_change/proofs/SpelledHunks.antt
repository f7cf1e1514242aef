-- The spelling of a hunk tells the hunk, and where it ends.
use Rattle.std.proofs.Common.{◌≡◌, ℕ, ◌^◌, ◌<◌, ◌≤◌, List, [], ◌∷◌, ◌++◌, length, refl, sym, ◌∙◌, ap, arith, true, false, append_assoc}
use Rattle.std.specs.Prelude.{nat_eq, map, codes, decimal, take}
use Rattle.std.specs.List.{join_with_byte, AllByRecursion}
use Rattle.std.specs.Str.{bytes_eq}
use Rattle.std.specs.Cmp.Lexicographic.{bytes_decides}
use Rattle.std.proofs.lemmas.Bool.Decides.{nat_tests}
use Rattle.std.proofs.lemmas.Fmt.{decimal_injective}
use Rattle.pj_change.specs.declared.point.Ref.{Ref}
use Rattle.pj_change.specs.declared.point.Ref.TheVariants.{Root, At}
use Rattle.pj_change.specs.declared.hunk.Hunk.{Hunk}
use Rattle.pj_change.specs.declared.hunk.Hunk.TheVariants.{File, Dir, NameOf, Insert, Order, Delete, Revive}
use Rattle.pj_change.specs.Rules.{lacks}
use Rattle.pj_change.specs.Text.{reference, references, range, owners, word, operands, body}
use Rattle.pj_change.proofs.Members.{heads, tails}
use Rattle.pj_change.proofs.Separated.{up_to, of_length, lacks-append, lacks-cons, lacks-join, FrontsLack, words_one, decimal_lacks, decimal_begins, up_to_number, joined_one}

-- ---- references

abbrev pub IsSmall : Ref → Type 0
IsSmall Root = Unit {0}
IsSmall (At owner offset) = (owner < 2 ^ 32) × (offset < 2 ^ 32)

not_letter : (c d : ℕ) → c < 46 → 46 ≤ d → nat_eq d c ≡ false
not_letter c d l h = grind (arith, nat_tests)

-- the separators as parts of what follows
reference_at : (owner offset : ℕ) → reference (At owner offset) ≡ decimal owner ++ 46 ∷ decimal offset
unfolding reference
reference_at owner offset = append_assoc (decimal owner) (46 ∷ []) (decimal offset)

regroup : (k a b : List ℕ) → k ++ 46 ∷ [] ++ a ++ 45 ∷ [] ++ b ≡ k ++ 46 ∷ (a ++ 45 ∷ b)
regroup k a b = simp append_assoc

range_is : (owner start end : ℕ) → range owner start end ≡ decimal owner ++ 46 ∷ (decimal start ++ 45 ∷ decimal end)
unfolding range
range_is owner start end = regroup (decimal owner) (decimal start) (decimal end)

reference_lacks : (c : ℕ) (a : Ref) → c < 46 → IsSmall a → lacks c (reference a) ≡ true
unfolding reference
reference_lacks c Root l s =
    lacks-cons c 114 (111 ∷ 111 ∷ 116 ∷ []) (not_letter c 114 l (omega arith))
    (lacks-cons c 111 (111 ∷ 116 ∷ []) (not_letter c 111 l (omega arith))
    (lacks-cons c 111 (116 ∷ []) (not_letter c 111 l (omega arith)) (lacks-cons c 116 [] (not_letter c 116 l (omega arith)) refl)))
reference_lacks c (At owner offset) l s =
    ap (lacks c) (reference_at owner offset)
    ∙ lacks-append c (decimal owner) (46 ∷ decimal offset) (decimal_lacks c owner (omega arith) (omega (arith, s.0)))
    (lacks-cons c 46 (decimal offset) (not_letter c 46 l (omega arith)) (decimal_lacks c offset (omega arith) (omega (arith, s.1))))

no_digit : (n : ℕ) (r s : List ℕ) → n < 2 ^ 64 → 114 ∷ r ≡ decimal n ++ s → ⊥
no_digit n r s l e =
    let d = decimal_begins n l in
    let h : 114 ≡ d.digit = heads 114 d.digit r (d.rest ++ s) (e ∙ ap (λ l. l ++ s) d.is) in
    let low = d.low in omega arith

reference_one : (a b : Ref) → IsSmall a → IsSmall b → reference a ≡ reference b → a ≡ b
unfolding reference
reference_one Root Root s t e = refl
reference_one Root (At k o) s t e = absurd (no_digit k (111 ∷ 111 ∷ 116 ∷ []) (46 ∷ decimal o) (omega (arith, t.0)) (e ∙ reference_at k o))
reference_one (At k o) Root s t e = absurd (no_digit k (111 ∷ 111 ∷ 116 ∷ []) (46 ∷ decimal o) (omega (arith, s.0)) (sym e ∙ reference_at k o))
reference_one (At k o) (At l p) s t e =
    let n = up_to_number 46 k l (decimal o) (decimal p) (omega arith) s.0 t.0 (sym (reference_at k o) ∙ e ∙ reference_at l p) in
    let m = decimal_injective o p (omega (arith, s.1)) (omega (arith, t.1)) n.1 in
    λ i. At (n.0 i) (m i)

-- ---- lists of references and of numbers

all_mapped : {X : Type 0} (P : X → Type 0) (f : X → List ℕ) (c : ℕ) → ((x : X) → P x → lacks c (f x) ≡ true) → (xs : List X) → AllByRecursion P xs → AllByRecursion (λ w. lacks c w ≡ true) (map f xs)
all_mapped P f c g [] a = tt
all_mapped P f c g (x ∷ xs) a = (g x a.0, all_mapped P f c g xs a.1)

mapped_one : {X : Type 0} (P : X → Type 0) (f : X → List ℕ) → ((x y : X) → P x → P y → f x ≡ f y → x ≡ y) → (xs ys : List X) → AllByRecursion P xs → AllByRecursion P ys → map f xs ≡ map f ys → xs ≡ ys
mapped_one P f g [] [] a b e = refl
mapped_one P f g [] (y ∷ ys) a b e = absurd (cc)
mapped_one P f g (x ∷ xs) [] a b e = absurd (cc)
mapped_one P f g (x ∷ xs) (y ∷ ys) a b e =
    let h = g x y a.0 b.0 (heads (f x) (f y) (map f xs) (map f ys) e) in
    let r = mapped_one P f g xs ys a.1 b.1 (tails (f x) (f y) (map f xs) (map f ys) e) in
    λ i. h i ∷ r i

-- lists with commas between
listed_one : {X : Type 0} (P : X → Type 0) (f : X → List ℕ) → ((x : X) → P x → lacks 44 (f x) ≡ true) → ((x y : X) → P x → P y → f x ≡ f y → x ≡ y) →
    (x : X) (xs : List X) (y : X) (ys : List X) → AllByRecursion P (x ∷ xs) → AllByRecursion P (y ∷ ys) →
    join_with_byte 44 (map f (x ∷ xs)) ≡ join_with_byte 44 (map f (y ∷ ys)) → x ∷ xs ≡ y ∷ ys
listed_one P f l g x xs y ys a b e =
    mapped_one P f g (x ∷ xs) (y ∷ ys) a b
    (joined_one 44 (map f (x ∷ xs)) (map f (y ∷ ys)) (all_mapped P f 44 l (x ∷ xs) a) (all_mapped P f 44 l (y ∷ ys) b) (omega arith) (omega arith) e)

dash_not : (x : Ref) (xs : List Ref) → AllByRecursion IsSmall (x ∷ xs) → 45 ∷ [] ≡ join_with_byte 44 (map reference (x ∷ xs)) → ⊥
dash_not x xs a e =
    let h : lacks 45 (join_with_byte 44 (map reference (x ∷ xs))) ≡ true =
    lacks-join 45 44 (map reference (x ∷ xs)) refl (all_mapped IsSmall reference 45 (λ r s. reference_lacks 45 r (omega arith) s) (x ∷ xs) a) in
    let k : lacks 45 (45 ∷ []) ≡ true = ap (lacks 45) e ∙ h in
    let f : lacks 45 (45 ∷ []) ≡ false = refl in
    cc

references_one : (rs ss : List Ref) → AllByRecursion IsSmall rs → AllByRecursion IsSmall ss → references rs ≡ references ss → rs ≡ ss
unfolding references
references_one [] [] a b e = refl
references_one [] (s ∷ ss) a b e = absurd (dash_not s ss b e)
references_one (r ∷ rs) [] a b e = absurd (dash_not r rs a (sym e))
references_one (r ∷ rs) (s ∷ ss) a b e = listed_one IsSmall reference (λ r s. reference_lacks 44 r (omega arith) s) reference_one r rs s ss a b e

references_lack : (c : ℕ) (rs : List Ref) → c < 44 → AllByRecursion IsSmall rs → lacks c (references rs) ≡ true
unfolding references
references_lack c [] l a = lacks-cons c 45 [] (grind (arith, nat_tests)) refl
references_lack c (r ∷ rs) l a =
    let n : nat_eq 44 c ≡ false = grind (arith, nat_tests) in
    lacks-join c 44 (map reference (r ∷ rs)) n (all_mapped IsSmall reference c (λ r s. reference_lacks c r (omega arith) s) (r ∷ rs) a)

abbrev pub IsShort : ℕ → Type 0
IsShort n = n < 2 ^ 32

owners_one : (by cs : List ℕ) → 1 ≤ length by → 1 ≤ length cs → AllByRecursion IsShort by → AllByRecursion IsShort cs → owners by ≡ owners cs → by ≡ cs
unfolding owners
owners_one [] cs l h a b e = absurd (omega arith)
owners_one (k ∷ by) [] l h a b e = absurd (omega arith)
owners_one (k ∷ by) (m ∷ cs) l h a b e =
    listed_one IsShort decimal (λ n s. decimal_lacks 44 n (omega arith) (omega arith)) (λ m n s t e. decimal_injective m n (omega arith) (omega arith) e) k by m cs a b e

owners_lack : (c : ℕ) (by : List ℕ) → c < 44 → AllByRecursion IsShort by → lacks c (owners by) ≡ true
unfolding owners
owners_lack c by l a =
    let n : nat_eq 44 c ≡ false = grind (arith, nat_tests) in
    lacks-join c 44 (map decimal by) n (all_mapped IsShort decimal c (λ n s. decimal_lacks c n (omega arith) (omega arith)) by a)

range_lacks : (c owner start end : ℕ) → c < 45 → IsShort owner → IsShort start → IsShort end → lacks c (range owner start end) ≡ true
range_lacks c owner start end l a b d =
    let point : nat_eq 46 c ≡ false = grind (arith, nat_tests) in
    let dash : nat_eq 45 c ≡ false = grind (arith, nat_tests) in
    ap (lacks c) (range_is owner start end)
    ∙ lacks-append c (decimal owner) (46 ∷ (decimal start ++ 45 ∷ decimal end)) (decimal_lacks c owner (omega arith) (omega arith))
    (lacks-cons c 46 (decimal start ++ 45 ∷ decimal end) point
    (lacks-append c (decimal start) (45 ∷ decimal end) (decimal_lacks c start (omega arith) (omega arith))
    (lacks-cons c 45 (decimal end) dash (decimal_lacks c end (omega arith) (omega arith)))))

record SameRange (k a b l c d : ℕ) : Type 0 where
  owner : k ≡ l
  start : a ≡ c
  end : b ≡ d

range_one : (k a b l c d : ℕ) → IsShort k → IsShort a → IsShort b → IsShort l → IsShort c → IsShort d → range k a b ≡ range l c d → SameRange k a b l c d
range_one k a b l c d p q r s t u e =
    let m = up_to_number 46 k l (decimal a ++ 45 ∷ decimal b) (decimal c ++ 45 ∷ decimal d) (omega arith) p s (sym (range_is k a b) ∙ e ∙ range_is l c d) in
    let n = up_to_number 45 a c (decimal b) (decimal d) (omega arith) q t m.1 in
    record { owner = m.0; start = n.0; end = decimal_injective b d (omega arith) (omega arith) n.1 }

-- ---- hunks

-- what the rules say of a hunk's words
abbrev pub IsPlain : Hunk → Type 0
IsPlain (File parent name exec) = IsSmall parent × (lacks 10 name ≡ true)
IsPlain (Dir parent name) = IsSmall parent × (lacks 10 name ≡ true)
IsPlain (NameOf parent child name exec) = IsSmall parent × IsSmall child × (lacks 10 name ≡ true)
IsPlain (Insert file ups downs bytes) = IsSmall file × AllByRecursion IsSmall ups × AllByRecursion IsSmall downs × (length bytes < 2 ^ 64)
IsPlain (Order file source target) = IsSmall file × IsSmall source × IsSmall target
IsPlain (Delete owner start end by) = IsShort owner × IsShort start × IsShort end × AllByRecursion IsShort by × (1 ≤ length by)
IsPlain (Revive owner start end by) = IsShort owner × IsShort start × IsShort end × AllByRecursion IsShort by × (1 ≤ length by)

-- no word of its line has a newline
pub words_lack : (h : Hunk) → IsPlain h → AllByRecursion (λ w. lacks 10 w ≡ true) (word h ∷ operands h)
words_lack (File parent name true) p = (refl, (reference_lacks 10 parent (omega arith) p.0, (p.1, tt)))
words_lack (File parent name false) p = (refl, (reference_lacks 10 parent (omega arith) p.0, (p.1, tt)))
words_lack (Dir parent name) p = (refl, (reference_lacks 10 parent (omega arith) p.0, (p.1, tt)))
words_lack (NameOf parent child name true) p = (refl, (reference_lacks 10 parent (omega arith) p.0, (reference_lacks 10 child (omega arith) p.1, (p.2, tt))))
words_lack (NameOf parent child name false) p = (refl, (reference_lacks 10 parent (omega arith) p.0, (reference_lacks 10 child (omega arith) p.1, (p.2, tt))))
words_lack (Insert file ups downs bytes) p =
    (refl, (reference_lacks 10 file (omega arith) p.0, (refl, (references_lack 10 ups (omega arith) p.1, (refl, (references_lack 10 downs (omega arith) p.2, (decimal_lacks 10 (length bytes) (omega arith) p.3, tt)))))))
words_lack (Order file source target) p = (refl, (reference_lacks 10 file (omega arith) p.0, (reference_lacks 10 source (omega arith) p.1, (reference_lacks 10 target (omega arith) p.2, tt))))
words_lack (Delete owner start end by) p = (refl, (range_lacks 10 owner start end (omega arith) p.0 p.1 p.2, (refl, (owners_lack 10 by (omega arith) p.3, tt))))
words_lack (Revive owner start end by) p = (refl, (range_lacks 10 owner start end (omega arith) p.0 p.1 p.2, (refl, (owners_lack 10 by (omega arith) p.3, tt))))

-- no word but the last has a space
fronts_lack : (h : Hunk) → IsPlain h → FrontsLack (word h ∷ operands h)
fronts_lack (File parent name true) p = (refl, (reference_lacks 32 parent (omega arith) p.0, tt))
fronts_lack (File parent name false) p = (refl, (reference_lacks 32 parent (omega arith) p.0, tt))
fronts_lack (Dir parent name) p = (refl, (reference_lacks 32 parent (omega arith) p.0, tt))
fronts_lack (NameOf parent child name true) p = (refl, (reference_lacks 32 parent (omega arith) p.0, (reference_lacks 32 child (omega arith) p.1, tt)))
fronts_lack (NameOf parent child name false) p = (refl, (reference_lacks 32 parent (omega arith) p.0, (reference_lacks 32 child (omega arith) p.1, tt)))
fronts_lack (Insert file ups downs bytes) p =
    (refl, (reference_lacks 32 file (omega arith) p.0, (refl, (references_lack 32 ups (omega arith) p.1, (refl, (references_lack 32 downs (omega arith) p.2, tt))))))
fronts_lack (Order file source target) p = (refl, (reference_lacks 32 file (omega arith) p.0, (reference_lacks 32 source (omega arith) p.1, tt)))
fronts_lack (Delete owner start end by) p = (refl, (range_lacks 32 owner start end (omega arith) p.0 p.1 p.2, (refl, tt)))
fronts_lack (Revive owner start end by) p = (refl, (range_lacks 32 owner start end (omega arith) p.0 p.1 p.2, (refl, tt)))

-- the same hunk, and the same bytes behind it
abbrev pub SameHunk : Hunk → Hunk → List ℕ → List ℕ → Type 0
SameHunk g h r s = (g ≡ h) × (r ≡ s)

same_words : (g h : Hunk) → IsPlain g → IsPlain h → length (word g ∷ operands g) ≡ length (word h ∷ operands h) →
    join_with_byte 32 (word g ∷ operands g) ≡ join_with_byte 32 (word h ∷ operands h) → word g ∷ operands g ≡ word h ∷ operands h
same_words g h p q l e = words_one (word g ∷ operands g) (word h ∷ operands h) l (fronts_lack g p) (fronts_lack h q) e

-- the first word of a line
word_lacks : (h : Hunk) → lacks 32 (word h) ≡ true
word_lacks (File parent name true) = refl
word_lacks (File parent name false) = refl
word_lacks (NameOf parent child name true) = refl
word_lacks (NameOf parent child name false) = refl
word_lacks h = refl

join_first : (h : Hunk) → join_with_byte 32 (word h ∷ operands h) ≡ word h ++ 32 ∷ join_with_byte 32 (operands h)
join_first (File parent name exec) = refl
join_first h = refl

first_word : (g h : Hunk) → join_with_byte 32 (word g ∷ operands g) ≡ join_with_byte 32 (word h ∷ operands h) → word g ≡ word h
first_word g h e =
    (up_to 32 (word g) (word h) (join_with_byte 32 (operands g)) (join_with_byte 32 (operands h)) (word_lacks g) (word_lacks h) (sym (join_first g) ∙ e ∙ join_first h)).0

pub words_apart : (a b : List ℕ) → a ≡ b → bytes_eq a b ≡ false → ⊥
words_apart a b e f = (let h : bytes_eq a b ≡ true = (bytes_decides a b).1 e in cc)

-- the first two letters of a line, whether or not a name is executable
abbrev pub two_letters : Hunk → List ℕ
two_letters (File parent name exec) = codes "fi"
two_letters (Dir parent name) = codes "di"
two_letters (NameOf parent child name exec) = codes "na"
two_letters (Insert file ups downs bytes) = codes "in"
two_letters (Order file source target) = codes "or"
two_letters (Delete owner start end by) = codes "de"
two_letters (Revive owner start end by) = codes "re"

letters_of : (h : Hunk) → take 2 (word h) ≡ two_letters h
letters_of (File parent name true) = refl
letters_of (File parent name false) = refl
letters_of (NameOf parent child name true) = refl
letters_of (NameOf parent child name false) = refl
letters_of h = refl

first_letters : (g h : Hunk) → join_with_byte 32 (word g ∷ operands g) ≡ join_with_byte 32 (word h ∷ operands h) → two_letters g ≡ two_letters h
first_letters g h e = sym (letters_of g) ∙ ap (take 2) (first_word g h e) ∙ letters_of h

one_body : (bytes bytes' r s : List ℕ) → length bytes ≡ length bytes' → (bytes ++ 10 ∷ []) ++ r ≡ (bytes' ++ 10 ∷ []) ++ s → (bytes ≡ bytes') × (r ≡ s)
one_body bytes bytes' r s l e =
    let e' : bytes ++ 10 ∷ r ≡ bytes' ++ 10 ∷ s = sym (append_assoc bytes (10 ∷ []) r) ∙ e ∙ append_assoc bytes' (10 ∷ []) s in
    let k = of_length bytes bytes' (10 ∷ r) (10 ∷ s) l e' in
    (k.0, tails 10 10 r s k.1)

pub one_hunk : (g h : Hunk) (r s : List ℕ) → IsPlain g → IsPlain h → join_with_byte 32 (word g ∷ operands g) ≡ join_with_byte 32 (word h ∷ operands h) → body g ++ r ≡ body h ++ s → SameHunk g h r s
one_hunk (File parent name true) (File parent' name' true) r s p q e f =
    let w = same_words (File parent name true) (File parent' name' true) p q refl e in
    let a : parent ≡ parent' = reference_one parent parent' p.0 q.0 (cc) in
    let b : name ≡ name' = cc in
    ((λ i. File (a i) (b i) true), f)
one_hunk (File parent name false) (File parent' name' false) r s p q e f =
    let w = same_words (File parent name false) (File parent' name' false) p q refl e in
    let a : parent ≡ parent' = reference_one parent parent' p.0 q.0 (cc) in
    let b : name ≡ name' = cc in
    ((λ i. File (a i) (b i) false), f)
one_hunk (Dir parent name) (Dir parent' name') r s p q e f =
    let w = same_words (Dir parent name) (Dir parent' name') p q refl e in
    let a : parent ≡ parent' = reference_one parent parent' p.0 q.0 (cc) in
    let b : name ≡ name' = cc in
    ((λ i. Dir (a i) (b i)), f)
one_hunk (NameOf parent child name true) (NameOf parent' child' name' true) r s p q e f =
    let w = same_words (NameOf parent child name true) (NameOf parent' child' name' true) p q refl e in
    let a : parent ≡ parent' = reference_one parent parent' p.0 q.0 (cc) in
    let b : child ≡ child' = reference_one child child' p.1 q.1 (cc) in
    let c : name ≡ name' = cc in
    ((λ i. NameOf (a i) (b i) (c i) true), f)
one_hunk (NameOf parent child name false) (NameOf parent' child' name' false) r s p q e f =
    let w = same_words (NameOf parent child name false) (NameOf parent' child' name' false) p q refl e in
    let a : parent ≡ parent' = reference_one parent parent' p.0 q.0 (cc) in
    let b : child ≡ child' = reference_one child child' p.1 q.1 (cc) in
    let c : name ≡ name' = cc in
    ((λ i. NameOf (a i) (b i) (c i) false), f)
one_hunk (Insert file ups downs bytes) (Insert file' ups' downs' bytes') r s p q e f =
    let w = same_words (Insert file ups downs bytes) (Insert file' ups' downs' bytes') p q refl e in
    let a : file ≡ file' = reference_one file file' p.0 q.0 (cc) in
    let b : ups ≡ ups' = references_one ups ups' p.1 q.1 (cc) in
    let c : downs ≡ downs' = references_one downs downs' p.2 q.2 (cc) in
    let l : length bytes ≡ length bytes' = decimal_injective (length bytes) (length bytes') p.3 q.3 (cc) in
    let k = one_body bytes bytes' r s l f in
    ((λ i. Insert (a i) (b i) (c i) (k.0 i)), k.1)
one_hunk (Order file source target) (Order file' source' target') r s p q e f =
    let w = same_words (Order file source target) (Order file' source' target') p q refl e in
    let a : file ≡ file' = reference_one file file' p.0 q.0 (cc) in
    let b : source ≡ source' = reference_one source source' p.1 q.1 (cc) in
    let c : target ≡ target' = reference_one target target' p.2 q.2 (cc) in
    ((λ i. Order (a i) (b i) (c i)), f)
one_hunk (Delete owner start end by) (Delete owner' start' end' by') r s p q e f =
    let w = same_words (Delete owner start end by) (Delete owner' start' end' by') p q refl e in
    let a = range_one owner start end owner' start' end' p.0 p.1 p.2 q.0 q.1 q.2 (cc) in
    let b : by ≡ by' = owners_one by by' p.4 q.4 p.3 q.3 (cc) in
    ((λ i. Delete (a.owner i) (a.start i) (a.end i) (b i)), f)
one_hunk (Revive owner start end by) (Revive owner' start' end' by') r s p q e f =
    let w = same_words (Revive owner start end by) (Revive owner' start' end' by') p q refl e in
    let a = range_one owner start end owner' start' end' p.0 p.1 p.2 q.0 q.1 q.2 (cc) in
    let b : by ≡ by' = owners_one by by' p.4 q.4 p.3 q.3 (cc) in
    ((λ i. Revive (a.owner i) (a.start i) (a.end i) (b i)), f)
one_hunk (File parent name true) (File parent' name' false) r s p q e f = absurd (words_apart (codes "file+x") (codes "file") (first_word (File parent name true) (File parent' name' false) e) refl)
one_hunk (File parent name false) (File parent' name' true) r s p q e f = absurd (words_apart (codes "file") (codes "file+x") (first_word (File parent name false) (File parent' name' true) e) refl)
one_hunk (NameOf parent child name true) (NameOf parent' child' name' false) r s p q e f =
    absurd (words_apart (codes "name+x") (codes "name") (first_word (NameOf parent child name true) (NameOf parent' child' name' false) e) refl)
one_hunk (NameOf parent child name false) (NameOf parent' child' name' true) r s p q e f =
    absurd (words_apart (codes "name") (codes "name+x") (first_word (NameOf parent child name false) (NameOf parent' child' name' true) e) refl)
-- lines of different kinds begin otherwise
one_hunk g h r s p q e f = absurd (words_apart (two_letters g) (two_letters h) (first_letters g h e) refl)
