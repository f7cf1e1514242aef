-- The lengths of the parts of a text.
use Rattle.std.proofs.Common.{◌≡◌, ℕ, zero, suc, ◌+◌, ◌*◌, ◌/◌, ◌^◌, ◌<◌, ◌≤◌, Bool, List, [], ◌∷◌, length, map, refl, ◌∙◌, ap, arith, length-append, pow-suc, inl, inr, ◌⊎◌}
use Rattle.std.specs.Prelude.{decimal, sum_by, flat_map, codes}
use Rattle.std.specs.List.{join_with_byte}
use Rattle.std.proofs.lemmas.Fmt.{decimal_digit, decimal_step}
use Rattle.std.proofs.lemmas.List.Sums.{sum_by-cons}
use Rattle.pj_name.specs.declared.name.Name.{Name}
use Rattle.pj_name.specs.Name.{hex}
use Rattle.pj_name.proofs.Names.{length-hex}
use Rattle.pj_change.specs.declared.point.Ref.{Ref}
use Rattle.pj_change.specs.declared.hunk.Hunk.{Hunk}
use Rattle.pj_change.specs.declared.hunk.Hunk.TheVariants.{File, Dir, NameOf, Insert, Order, Delete, Revive}
use Rattle.pj_change.specs.Text.{reference, references, owners, range, word, operands, body, hunk_text, line, text_of, Parts}

ten_least : (k : ℕ) → 1 ≤ 10 ^ k
ten_least zero = omega arith
ten_least (suc k) = rw pow-suc (omega (arith, ten_least k))

-- a number from 10 ^ k up to ten times as much has k + 1 digits
pub length-decimal : (k n : ℕ) → 10 ^ k ≤ n → n < 10 * 10 ^ k → n < 2 ^ 64 → length (decimal n) ≡ k + 1
length-decimal zero n low high small = ap length (decimal_digit n (omega arith))
length-decimal (suc k) n low high small =
    let low' : 10 ^ k * 10 ≤ n = rw pow-suc at low in
    let high' : n < 10 * (10 ^ k * 10) = rw pow-suc at high in
    let front : length (decimal (n / 10)) ≡ k + 1 = length-decimal k (n / 10) (omega arith) (omega arith) (omega arith) in
    ap length (decimal_step n (omega (arith, ten_least k)) small) ∙ length-append (decimal (n / 10)) _ ∙ omega arith

-- pieces with a comma between each two: one byte less than with a comma behind each
pub length-joined : {X : Type 0} (f : X → List ℕ) (x : X) (xs : List X) → length (join_with_byte 44 (map f (x ∷ xs))) + 1 ≡ sum_by (λ y. length (f y) + 1) (x ∷ xs)
length-joined f x [] = omega arith
length-joined f x (y ∷ xs) =
    omega (arith, length-append (f x) (44 ∷ join_with_byte 44 (map f (y ∷ xs))), length-joined f y xs, sum_by-cons (λ z. length (f z) + 1) x (y ∷ xs))

pub length-references : (refs : List Ref) → 0 < length refs → length (references refs) + 1 ≡ sum_by (λ at. length (reference at) + 1) refs
unfolding references
length-references [] some = absurd (omega arith)
length-references (r ∷ rs) some = length-joined reference r rs

pub length-no_references : (refs : List Ref) → length refs ≡ 0 → 1 ≡ length (references refs)
unfolding references
length-no_references [] none = refl
length-no_references (r ∷ rs) none = absurd (omega arith)

pub length-owners : (by : List ℕ) → 0 < length by → length (owners by) + 1 ≡ sum_by (λ k. length (decimal k) + 1) by
unfolding owners
length-owners [] some = absurd (omega arith)
length-owners (k ∷ ks) some = length-joined decimal k ks

length-spaced : (x : List ℕ) (xs : List (List ℕ)) → length (join_with_byte 32 (x ∷ xs)) ≡ length x + sum_by (λ o. 1 + length o) xs
length-spaced x [] = omega arith
length-spaced x (y ∷ ys) =
    omega (arith, length-append x (32 ∷ join_with_byte 32 (y ∷ ys)), length-spaced y ys, sum_by-cons (λ o. 1 + length o) y ys)

-- the words of the line, a space before each but the first, the newline, and what follows
pub length-hunk_text : (h : Hunk) → length (hunk_text h) ≡ length (word h) + sum_by (λ o. 1 + length o) (operands h) + 1 + length (body h)
unfolding hunk_text
length-hunk_text h = simp length-append (omega (arith, length-spaced (word h) (operands h)))

-- ---- each kind of hunk

pub length-file : (h : Hunk) (parent : Ref) (name : List ℕ) → ((exec : Bool) × (h ≡ File parent name exec)) ⊎ (h ≡ Dir parent name) →
    length (hunk_text h) ≡ length (word h) + 1 + length (reference parent) + 1 + length name + 1
length-file h parent name (inl (exec, e)) = rw e (length-hunk_text (File parent name exec) ∙ omega arith)
length-file h parent name (inr e) = rw e (length-hunk_text (Dir parent name) ∙ omega arith)

pub length-name : (h : Hunk) (parent child : Ref) (name : List ℕ) (exec : Bool) → h ≡ NameOf parent child name exec →
    length (hunk_text h) ≡ length (word h) + 1 + length (reference parent) + 1 + length (reference child) + 1 + length name + 1
length-name h parent child name exec e = rw e (length-hunk_text (NameOf parent child name exec) ∙ omega arith)

pub length-insert : (h : Hunk) (file : Ref) (ups downs : List Ref) (bytes : List ℕ) → h ≡ Insert file ups downs bytes →
    length (hunk_text h) ≡ length (word h) + 1 + length (reference file) + 7 + length (references ups) + 8 + length (references downs) + 1 + length (decimal (length bytes)) + 1 + length bytes + 1
length-insert h file ups downs bytes e =
    rw e (length-hunk_text (Insert file ups downs bytes) ∙ omega (arith, length-append bytes (10 ∷ [])))

pub length-order : (h : Hunk) (file source target : Ref) → h ≡ Order file source target →
    length (hunk_text h) ≡ length (word h) + 1 + length (reference file) + 1 + length (reference source) + 1 + length (reference target) + 1
length-order h file source target e = rw e (length-hunk_text (Order file source target) ∙ omega arith)

pub length-range : (h : Hunk) (owner start end : ℕ) (by : List ℕ) → (h ≡ Delete owner start end by) ⊎ (h ≡ Revive owner start end by) →
    length (hunk_text h) ≡ length (word h) + 1 + length (range owner start end) + 4 + length (owners by) + 1
length-range h owner start end by (inl e) = rw e (length-hunk_text (Delete owner start end by) ∙ omega arith)
length-range h owner start end by (inr e) = rw e (length-hunk_text (Revive owner start end by) ∙ omega arith)

-- ---- the whole text

length-needs : (names : List Name) → length (flat_map (λ n. line (codes "needs" ∷ hex n.bytes ∷ [])) names) ≡ 71 * length names
length-needs [] = refl
length-needs (n ∷ ns) =
    omega (arith, length-append (line (codes "needs" ∷ hex n.bytes ∷ [])) (flat_map (λ m. line (codes "needs" ∷ hex m.bytes ∷ [])) ns), length-append (hex n.bytes) (10 ∷ []), length-hex n, length-needs ns)

length-knows : (names : List Name) → length (flat_map (λ n. line (codes "knows" ∷ hex n.bytes ∷ [])) names) ≡ 71 * length names
length-knows [] = refl
length-knows (n ∷ ns) =
    omega (arith, length-append (line (codes "knows" ∷ hex n.bytes ∷ [])) (flat_map (λ m. line (codes "knows" ∷ hex m.bytes ∷ [])) ns), length-append (hex n.bytes) (10 ∷ []), length-hex n, length-knows ns)

-- the fixed words, what the lines say, and the hunks
pub length-text_of : (p : Parts) → length (text_of p) ≡
    41 + length (decimal p.version) + length p.message + length p.author + length (decimal p.time) + 71 * (length p.needs + length p.knows) + length (flat_map hunk_text p.hunks)
unfolding text_of
length-text_of p = simp length-append (omega (arith, length-needs p.needs, length-knows p.knows))
