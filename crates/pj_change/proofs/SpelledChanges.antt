-- The spelling of a change tells the change.
use Rattle.std.proofs.Common.{◌≡◌, ℕ, ◌^◌, ◌<◌, ◌≤◌, List, [], ◌∷◌, ◌++◌, length, refl, sym, ◌∙◌, ap, arith, true, false, append_assoc, inl, inr}
use Rattle.std.specs.Prelude.{Contains, ◌||◌, nat_eq, codes, decimal, take}
use Rattle.std.specs.List.{AllByRecursion, flat_map, sum_by}
use Rattle.std.specs.Str.{bytes_eq}
use Rattle.std.proofs.lemmas.Bool.{and_parts}
use Rattle.std.proofs.lemmas.Bool.Decides.{nat_tests}
use Rattle.std.proofs.lemmas.List.{length-append}
use Rattle.std.proofs.lemmas.List.Sums.{sum_by-cons}
use Rattle.std.proofs.lemmas.Fmt.{decimal_injective}
use Rattle.pj_name.specs.declared.name.Name.{Name}
use Rattle.pj_name.specs.Name.{hex}
use Rattle.pj_name.proofs.Names.{length-hex, hex-injective}
use Rattle.pj_change.specs.declared.point.Ref.{Ref}
use Rattle.pj_change.specs.declared.point.Ref.TheVariants.{Root, At}
use Rattle.pj_change.specs.declared.hunk.Hunk.{Hunk}
use Rattle.pj_change.specs.declared.hunk.Hunk.TheVariants.{File, Dir, NameOf, Insert, Order, Delete, Revive}
use Rattle.pj_change.specs.declared.change.Change.{Change}
use Rattle.pj_change.specs.Rules.{lacks, position_count, is_line, is_file_name, is_ref, are_refs, is_need, is_range, is_hunk, IsChange}
use Rattle.pj_change.specs.Text.{Parts, line, word, operands, body, hunk_text, text_of}
use Rattle.pj_change.specs.Parts.{parts_of}
use Rattle.pj_change.proofs.Members.{uncons, no_member, heads, tails, from_each, all_member}
use Rattle.pj_change.proofs.Separated.{of_length, words_one, line_one, decimal_lacks}
use Rattle.pj_change.proofs.SpelledHunks.{IsSmall, IsShort, IsPlain, SameHunk, words_lack, one_hunk, two_letters, words_apart}
use Rattle.pj_change.proofs.PlaceLemmas.{few_positions}
use Rattle.pj_change.proofs.ChangeLemmas.{change_ext}
use Rattle.pj_change.proofs.HunkLemmas.{hunk_rule, ref_numbered, ref_offset, range_rules, need_numbered}

-- ---- what the rules say of the words of a hunk

-- the numbers of a reference that a hunk may have are small
pub small_ref : (needs first : ℕ) (a : Ref) → needs ≤ 256 → is_ref needs first a ≡ true → IsSmall a
small_ref needs first Root l e = tt
small_ref needs first (At owner offset) l e = (let n = ref_numbered needs first (At owner offset) e in omega arith, ref_offset needs first owner offset e)

small_refs : (needs first : ℕ) (rs : List Ref) → needs ≤ 256 → are_refs needs first rs ≡ true → AllByRecursion IsSmall rs
unfolding are_refs
small_refs needs first rs l e = from_each IsSmall rs (λ a m. small_ref needs first a l (all_member (is_ref needs first) rs a (and_parts _ _ e).1 m))

-- a file's name is within one line
pub name_line : (name : List ℕ) → is_file_name name ≡ true → lacks 10 name ≡ true
unfolding is_file_name
name_line name e = (and_parts _ _ (and_parts _ _ (and_parts _ _ (and_parts _ _ e).0).0).0).1

record IsPlainRange (owner start end : ℕ) (by : List ℕ) : Type 0 where
  owner_short : IsShort owner
  start_short : IsShort start
  end_short : IsShort end
  by_short : AllByRecursion IsShort by
  by_some : 1 ≤ length by

plain_range : (needs owner start end : ℕ) (by : List ℕ) → needs ≤ 256 → is_range needs owner start end by ≡ true → IsPlainRange owner start end by
plain_range needs owner start end by l e =
    let r = range_rules needs owner start end by e in
    let a = r.owner_upto in
    let b = r.nonempty in
    let c = r.small in
    record {
      owner_short = omega arith;
      start_short = omega arith;
      end_short = omega arith;
      by_short = from_each IsShort by (λ k m. (let n = need_numbered needs k (all_member (is_need needs) by k r.by_needs m) in omega (arith, n.1)));
      by_some = r.some_by;
    }

plain : (needs first : ℕ) (h : Hunk) → needs ≤ 256 → position_count h < 2 ^ 64 → is_hunk needs first h ≡ true → IsPlain h
unfolding is_hunk
plain needs first (File parent name exec) l n e = (let k = and_parts _ _ e in (small_ref needs first parent l k.0, name_line name k.1))
plain needs first (Dir parent name) l n e = (let k = and_parts _ _ e in (small_ref needs first parent l k.0, name_line name k.1))
plain needs first (NameOf parent child name exec) l n e =
    let k = and_parts _ _ e in
    let j = and_parts _ _ k.0 in
    (small_ref needs first parent l j.0, small_ref needs first child l j.1, name_line name k.1)
plain needs first (Insert file ups downs bytes) l n e =
    let k = and_parts _ _ e in
    let j = and_parts _ _ k.0 in
    let i = and_parts _ _ j.0 in
    let h = and_parts _ _ i.0 in
    (small_ref needs first file l h.0, small_refs needs first ups l i.1, small_refs needs first downs l j.1, n)
plain needs first (Order file source target) l n e =
    let k = and_parts _ _ e in
    let j = and_parts _ _ k.0 in
    (small_ref needs first file l j.0, small_ref needs first source l j.1, small_ref needs first target l k.1)
plain needs first (Delete owner start end by) l n e =
    let r = plain_range needs owner start end by l e in (r.owner_short, r.start_short, r.end_short, r.by_short, r.by_some)
plain needs first (Revive owner start end by) l n e =
    let r = plain_range needs owner start end by l e in (r.owner_short, r.start_short, r.end_short, r.by_short, r.by_some)

positions_member : (hs : List Hunk) (h : Hunk) → Contains hs h → position_count h ≤ sum_by position_count hs
positions_member [] h m = absurd (no_member h m)
positions_member (g ∷ hs) h m = elim (uncons g hs h m) [
  | inl e ↦ (let f : position_count g ≡ position_count h = ap position_count e in omega (arith, sum_by-cons position_count g hs, f))
  | inr n ↦ (let f = positions_member hs h n in omega (arith, sum_by-cons position_count g hs, f))
]

plain_hunks : (p : Parts) → IsChange p → AllByRecursion IsPlain p.hunks
plain_hunks p c = from_each IsPlain p.hunks (λ h m. (
    let r = hunk_rule p c h m in
    let few = few_positions p c in
    let here = positions_member p.hunks h m in
    plain (length p.needs) r.0 h c.few_needs (omega arith) r.1))

-- ---- hunks

up_to_hunk : (g h : Hunk) (r s : List ℕ) → IsPlain g → IsPlain h → hunk_text g ++ r ≡ hunk_text h ++ s → SameHunk g h r s
unfolding hunk_text
up_to_hunk g h r s p q e =
    let e' : line (word g ∷ operands g) ++ (body g ++ r) ≡ line (word h ∷ operands h) ++ (body h ++ s) =
    sym (append_assoc (line (word g ∷ operands g)) (body g) r) ∙ e ∙ append_assoc (line (word h ∷ operands h)) (body h) s in
    let k = line_one (word g ∷ operands g) (word h ∷ operands h) (body g ++ r) (body h ++ s) (words_lack g p) (words_lack h q) e' in
    one_hunk g h r s p q k.0 k.1

text_letters : (h : Hunk) (r : List ℕ) → take 2 (hunk_text h ++ r) ≡ two_letters h
unfolding hunk_text
text_letters (File parent name true) r = refl
text_letters (File parent name false) r = refl
text_letters (NameOf parent child name true) r = refl
text_letters (NameOf parent child name false) r = refl
text_letters h r = refl

not_end : (h : Hunk) → bytes_eq (codes "en") (two_letters h) ≡ false
not_end (File parent name exec) = refl
not_end h = refl

ends_here : (h : Hunk) (r rest : List ℕ) → take 2 rest ≡ codes "en" → rest ≡ hunk_text h ++ r ++ rest → ⊥
ends_here h r rest n e =
    let f : rest ≡ hunk_text h ++ (r ++ rest) = e ∙ append_assoc (hunk_text h) r rest in
    words_apart (codes "en") (two_letters h) (sym n ∙ ap (take 2) f ∙ text_letters h (r ++ rest)) (not_end h)

-- the hunks up to the line behind them
hunks_one : (gs hs : List Hunk) (rest : List ℕ) → take 2 rest ≡ codes "en" → AllByRecursion IsPlain gs → AllByRecursion IsPlain hs →
    flat_map hunk_text gs ++ rest ≡ flat_map hunk_text hs ++ rest → gs ≡ hs
hunks_one [] [] rest n a b e = refl
hunks_one [] (h ∷ hs) rest n a b e = absurd (ends_here h (flat_map hunk_text hs) rest n e)
hunks_one (g ∷ gs) [] rest n a b e = absurd (ends_here g (flat_map hunk_text gs) rest n (sym e))
hunks_one (g ∷ gs) (h ∷ hs) rest n a b e =
    let e' : hunk_text g ++ (flat_map hunk_text gs ++ rest) ≡ hunk_text h ++ (flat_map hunk_text hs ++ rest) =
    sym (append_assoc (hunk_text g) (flat_map hunk_text gs) rest) ∙ e ∙ append_assoc (hunk_text h) (flat_map hunk_text hs) rest in
    let k = up_to_hunk g h (flat_map hunk_text gs ++ rest) (flat_map hunk_text hs ++ rest) a.0 b.0 e' in
    let r = hunks_one gs hs rest n a.1 b.1 k.1 in
    λ i. k.0 i ∷ r i

-- ---- names

-- a line of a name, behind this word
abbrev name_line_of : List ℕ → Name → List ℕ
name_line_of first n = line (first ∷ hex n.bytes ∷ [])

name_one : (first : List ℕ) (m n : Name) (r s : List ℕ) → name_line_of first m ++ r ≡ name_line_of first n ++ s → (m ≡ n) × (r ≡ s)
name_one first m n r s e =
    let k = of_length (name_line_of first m) (name_line_of first n) r s (same_length first m n) e in
    let h = of_length (first ++ 32 ∷ hex m.bytes) (first ++ 32 ∷ hex n.bytes) (10 ∷ []) (10 ∷ []) (same_words_length first m n) k.0 in
    let g = of_length first first (32 ∷ hex m.bytes) (32 ∷ hex n.bytes) refl h.0 in
    (hex-injective m n (tails 32 32 (hex m.bytes) (hex n.bytes) g.1), k.1)
  where
    same_words_length : (first : List ℕ) (m n : Name) → length (first ++ 32 ∷ hex m.bytes) ≡ length (first ++ 32 ∷ hex n.bytes)
    same_words_length first m n = omega (arith, length-append first (32 ∷ hex m.bytes), length-append first (32 ∷ hex n.bytes), length-hex m, length-hex n)

    same_length : (first : List ℕ) (m n : Name) → length (name_line_of first m) ≡ length (name_line_of first n)
    same_length first m n =
        omega (arith, length-append (first ++ 32 ∷ hex m.bytes) (10 ∷ []), length-append (first ++ 32 ∷ hex n.bytes) (10 ∷ []), same_words_length first m n)

begins_here : (first letters : List ℕ) → ((n : Name) (r : List ℕ) → take 2 (name_line_of first n ++ r) ≡ letters) → (n : Name) (more r s : List ℕ) →
    bytes_eq (take 2 r) letters ≡ false → r ≡ name_line_of first n ++ more ++ s → ⊥
begins_here first letters begin n more r s f e =
    let k : r ≡ name_line_of first n ++ (more ++ s) = e ∙ append_assoc (name_line_of first n) more s in
    words_apart (take 2 r) letters (ap (take 2) k ∙ begin n (more ++ s)) f

-- names up to what does not begin with the two letters of their lines
names_one : (first letters : List ℕ) → ((n : Name) (r : List ℕ) → take 2 (name_line_of first n ++ r) ≡ letters) → (ms ns : List Name) (r s : List ℕ) →
    bytes_eq (take 2 r) letters ≡ false → bytes_eq (take 2 s) letters ≡ false →
    flat_map (name_line_of first) ms ++ r ≡ flat_map (name_line_of first) ns ++ s → (ms ≡ ns) × (r ≡ s)
names_one first letters begin [] [] r s f g e = (refl, e)
names_one first letters begin [] (n ∷ ns) r s f g e =
    absurd (begins_here first letters begin n (flat_map (name_line_of first) ns) r s f e)
names_one first letters begin (m ∷ ms) [] r s f g e =
    absurd (begins_here first letters begin m (flat_map (name_line_of first) ms) s r g (sym e))
names_one first letters begin (m ∷ ms) (n ∷ ns) r s f g e =
    let e' : name_line_of first m ++ (flat_map (name_line_of first) ms ++ r) ≡ name_line_of first n ++ (flat_map (name_line_of first) ns ++ s) =
    sym (append_assoc (name_line_of first m) (flat_map (name_line_of first) ms) r) ∙ e ∙ append_assoc (name_line_of first n) (flat_map (name_line_of first) ns) s in
    let k = name_one first m n (flat_map (name_line_of first) ms ++ r) (flat_map (name_line_of first) ns ++ s) e' in
    let rest = names_one first letters begin ms ns r s f g k.1 in
    ((λ i. k.0 i ∷ rest.0 i), rest.1)

-- ---- the whole text

-- the lines at the end, in parts
abbrev rest_of : List Name → List Hunk → List ℕ
rest_of knows hunks = flat_map (name_line_of (codes "knows")) knows ++ (flat_map hunk_text hunks ++ line (codes "end" ∷ []))

-- the first two letters of a hunk, or of the end
hunks_letters : (hs : List Hunk) (letters : List ℕ) → ((h : Hunk) → bytes_eq (two_letters h) letters ≡ false) → bytes_eq (codes "en") letters ≡ false →
    bytes_eq (take 2 (flat_map hunk_text hs ++ line (codes "end" ∷ []))) letters ≡ false
hunks_letters [] letters f g = g
hunks_letters (h ∷ hs) letters f g =
    ap (λ l. bytes_eq (take 2 l) letters) (append_assoc (hunk_text h) (flat_map hunk_text hs) (line (codes "end" ∷ [])))
    ∙ ap (λ l. bytes_eq l letters) (text_letters h (flat_map hunk_text hs ++ line (codes "end" ∷ [])))
    ∙ f h

not_knows : (h : Hunk) → bytes_eq (two_letters h) (codes "kn") ≡ false
not_knows (File parent name exec) = refl
not_knows h = refl

not_needs : (h : Hunk) → bytes_eq (two_letters h) (codes "ne") ≡ false
not_needs (File parent name exec) = refl
not_needs h = refl

rest_letters : (knows : List Name) (hunks : List Hunk) → bytes_eq (take 2 (rest_of knows hunks)) (codes "ne") ≡ false
rest_letters [] hunks = hunks_letters hunks (codes "ne") not_needs refl
rest_letters (n ∷ knows) hunks = refl

regroup : (a b c d n k h e : List ℕ) → a ++ b ++ c ++ d ++ n ++ k ++ h ++ e ≡ a ++ (b ++ (c ++ (d ++ (n ++ (k ++ (h ++ e))))))
regroup a b c d n k h e = simp append_assoc

text_is : (p : Parts) → text_of p ≡
    line (codes "pijul" ∷ codes "change" ∷ decimal p.version ∷ [])
    ++ (line (codes "message" ∷ p.message ∷ [])
    ++ (line (codes "author" ∷ p.author ∷ [])
    ++ (line (codes "time" ∷ decimal p.time ∷ []) ++ (flat_map (name_line_of (codes "needs")) p.needs ++ rest_of p.knows p.hunks))))
unfolding text_of
text_is p =
    regroup (line (codes "pijul" ∷ codes "change" ∷ decimal p.version ∷ [])) (line (codes "message" ∷ p.message ∷ [])) (line (codes "author" ∷ p.author ∷ []))
    (line (codes "time" ∷ decimal p.time ∷ [])) (flat_map (name_line_of (codes "needs")) p.needs) (flat_map (name_line_of (codes "knows")) p.knows)
    (flat_map hunk_text p.hunks) (line (codes "end" ∷ []))

-- a header line of a word and a value
header_one : (first v w r s : List ℕ) → lacks 32 first ≡ true → lacks 10 first ≡ true → lacks 10 v ≡ true → lacks 10 w ≡ true →
    line (first ∷ v ∷ []) ++ r ≡ line (first ∷ w ∷ []) ++ s → (v ≡ w) × (r ≡ s)
header_one first v w r s space newline f g e =
    let k = line_one (first ∷ v ∷ []) (first ∷ w ∷ []) r s (newline, (f, tt)) (newline, (g, tt)) e in
    let h : first ∷ v ∷ [] ≡ first ∷ w ∷ [] = words_one (first ∷ v ∷ []) (first ∷ w ∷ []) refl (space, tt) (space, tt) k.0 in
    (heads v w [] [] (tails first first (v ∷ []) (w ∷ []) h), k.1)

version_one : (v w : ℕ) (r s : List ℕ) → v < 2 ^ 32 → w < 2 ^ 32 →
    line (codes "pijul" ∷ codes "change" ∷ decimal v ∷ []) ++ r ≡ line (codes "pijul" ∷ codes "change" ∷ decimal w ∷ []) ++ s → (v ≡ w) × (r ≡ s)
version_one v w r s l m e =
    let a : lacks 10 (decimal v) ≡ true = decimal_lacks 10 v (omega arith) (omega arith) in
    let b : lacks 10 (decimal w) ≡ true = decimal_lacks 10 w (omega arith) (omega arith) in
    let k = line_one (codes "pijul" ∷ codes "change" ∷ decimal v ∷ []) (codes "pijul" ∷ codes "change" ∷ decimal w ∷ []) r s (refl, (refl, (a, tt))) (refl, (refl, (b, tt))) e in
    let h = words_one (codes "pijul" ∷ codes "change" ∷ decimal v ∷ []) (codes "pijul" ∷ codes "change" ∷ decimal w ∷ []) refl (refl, (refl, tt)) (refl, (refl, tt)) k.0 in
    let d : decimal v ≡ decimal w = heads (decimal v) (decimal w) [] [] (tails (codes "change") (codes "change") (decimal v ∷ []) (decimal w ∷ [])
    (tails (codes "pijul") (codes "pijul") (codes "change" ∷ decimal v ∷ []) (codes "change" ∷ decimal w ∷ []) h)) in
    (decimal_injective v w (omega arith) (omega arith) d, k.1)

small_version : (v : ℕ) → (nat_eq v 1 || nat_eq v 2) ≡ true → v < 2 ^ 32
small_version v e = grind (arith, nat_tests)

-- so is a message or an author
pub lacks_newline : (bytes : List ℕ) → is_line bytes ≡ true → lacks 10 bytes ≡ true
unfolding is_line
lacks_newline bytes e = (and_parts _ _ e).1

-- parts with one text are the same
pub one_reading : (p q : Parts) → IsChange p → IsChange q → text_of p ≡ text_of q → p ≡ q
one_reading p q c d e =
    let e0 = sym (text_is p) ∙ e ∙ text_is q in
    let v = version_one p.version q.version _ _ (small_version p.version c.version) (small_version q.version d.version) e0 in
    let m = header_one (codes "message") p.message q.message _ _ refl refl (lacks_newline p.message c.message) (lacks_newline q.message d.message) v.1 in
    let a = header_one (codes "author") p.author q.author _ _ refl refl (lacks_newline p.author c.author) (lacks_newline q.author d.author) m.1 in
    let ptime = c.time in
    let qtime = d.time in
    let t = header_one (codes "time") (decimal p.time) (decimal q.time) _ _ refl refl (decimal_lacks 10 p.time (omega arith) (omega arith)) (decimal_lacks 10 q.time (omega arith) (omega arith)) a.1 in
    let time : p.time ≡ q.time = decimal_injective p.time q.time (omega arith) (omega arith) t.0 in
    let n = names_one (codes "needs") (codes "ne") (λ n r. refl) p.needs q.needs (rest_of p.knows p.hunks) (rest_of q.knows q.hunks) (rest_letters p.knows p.hunks) (rest_letters q.knows q.hunks) t.1 in
    let k = names_one (codes "knows") (codes "kn") (λ n r. refl) p.knows q.knows (flat_map hunk_text p.hunks ++ line (codes "end" ∷ [])) (flat_map hunk_text q.hunks ++ line (codes "end" ∷ []))
    (hunks_letters p.hunks (codes "kn") not_knows refl) (hunks_letters q.hunks (codes "kn") not_knows refl) n.1 in
    let h = hunks_one p.hunks q.hunks (line (codes "end" ∷ [])) refl (plain_hunks p c) (plain_hunks q d) k.1 in
    λ i. record { version = v.0 i; message = m.0 i; author = a.0 i; time = time i; needs = n.0 i; knows = k.0 i; hunks = h i }

-- changes with one text are the same
pub one_change : (c d : Change) → text_of (parts_of c) ≡ text_of (parts_of d) → c ≡ d
one_change c d e = change_ext c d (one_reading (parts_of c) (parts_of d) c.keeps d.keeps e)
