-- Whole texts: the parts that are read spell the text, and the parts of a change are read from their spelling.
use Rattle.std.proofs.Common.{◌≡◌, ℕ, ◌^◌, ◌<◌, ◌≤◌, true, false, not, ◌||◌, eqb, List, [], ◌∷◌, ◌++◌, length, Some, refl, sym, ap, ◌∙◌, append_assoc, arith, inl, inr}
use Rattle.std.specs.Prelude.{codes, decimal}
use Rattle.std.specs.List.{flat_map, AllByRecursion}
use Rattle.std.proofs.lemmas.Bool.{eqb-true, or_cases, lt-ltb}
use Rattle.std.proofs.lemmas.List.{nil_from_length}
use Rattle.pj_name.specs.declared.name.Name.{Name}
use Rattle.pj_name.specs.Name.{hex}
use Rattle.pj_change.specs.declared.hunk.Hunk.{Hunk}
use Rattle.pj_change.specs.declared.hunk.Hunk.TheVariants.{File, Dir, NameOf, Insert, Order, Delete, Revive}
use Rattle.pj_change.specs.Text.{Parts, hunk_text, text_of}
use Rattle.pj_change.specs.Rules.{lacks, IsChange}
use Rattle.pj_text.specs.Reading.{begins, hunk_at, text_line_at, number_line_at, name_line_at, names_at, version_at, end_at, parts_at}
use Rattle.pj_text.proofs.Gets.{Gets, gets_some, gets_then, gets_if, gets_weaker, append-cons, append-empty}
use Rattle.pj_text.proofs.FieldLaws.{begins_with, token_spelled, token_read, line_spelled, line_read, number_spelled, number_read}
use Rattle.pj_text.proofs.NameLaws.{name_spelled, name_read}
use Rattle.pj_text.proofs.ListLaws.{IsSpelled, Rereads, many_spelled, many_read}
use Rattle.pj_text.proofs.SpelledHunks.{hunk_spelled}
use Rattle.pj_text.proofs.ReadHunks.{IsReadable, hunk_read}
use Rattle.pj_text.proofs.Readable.{hunks_readable}
use Rattle.pj_change.proofs.SpelledChanges.{lacks_newline}

-- ---- lines

text_line_spelled : (label bytes : List ℕ) → Gets (text_line_at label bytes) (λ x. bytes ≡ label ++ (x.0 ++ 10 ∷ x.1))
unfolding text_line_at
text_line_spelled label bytes =
    gets_then _ _ (token_spelled label bytes) (λ front f.
    gets_weaker _ (line_spelled front.1) (λ x h. f ∙ ap (λ (t : List ℕ). label ++ t) h))

text_line_read : (label text rest : List ℕ) → lacks 10 text ≡ true → text_line_at label (label ++ (text ++ 10 ∷ rest)) ≡ Some (text, rest)
unfolding text_line_at
text_line_read label text rest h = rw (token_read label (text ++ 10 ∷ rest)) (line_read text rest h)

number_line_spelled : (label bytes : List ℕ) → Gets (number_line_at label bytes) (λ x. bytes ≡ label ++ (decimal x.0 ++ 10 ∷ x.1))
unfolding number_line_at
number_line_spelled label bytes =
    gets_then _ _ (token_spelled label bytes) (λ front f.
    gets_then _ _ (number_spelled front.1) (λ number n.
    gets_then _ _ (token_spelled (codes "\n") number.1) (λ newline l.
    gets_some (number.0, newline.1) (f ∙ ap (λ (t : List ℕ). label ++ t) (n.stands ∙ ap (λ (t : List ℕ). decimal number.0 ++ t) l)))))

number_line_read : (label : List ℕ) (n : ℕ) (rest : List ℕ) → n < 2 ^ 32 → number_line_at label (label ++ (decimal n ++ 10 ∷ rest)) ≡ Some (n, rest)
unfolding number_line_at
number_line_read label n rest small = rw (token_read label (decimal n ++ 10 ∷ rest), number_read n (10 ∷ rest) small refl, token_read (codes "\n") rest) refl

-- a name with its label
abbrev name_line : List ℕ → Name → List ℕ
name_line label n = label ++ (hex n.bytes ++ 10 ∷ [])

name_line_spelled : (label : List ℕ) → IsSpelled (name_line label) (name_line_at label)
unfolding name_line_at
name_line_spelled label bytes =
    gets_then _ _ (token_spelled label bytes) (λ front f.
    gets_then _ _ (name_spelled front.1) (λ name n.
    gets_then _ _ (token_spelled (codes "\n") name.1) (λ newline l.
    gets_some (name.0, newline.1) (rw (f, n, l) (simp (append_assoc, append-cons, append-empty))))))

name_line_read : (label : List ℕ) (n : Name) (rest : List ℕ) → name_line_at label (name_line label n ++ rest) ≡ Some (n, rest)
unfolding name_line_at
name_line_read label n rest =
    let regrouped : name_line label n ++ rest ≡ label ++ (hex n.bytes ++ (10 ∷ rest)) = simp (append_assoc, append-cons, append-empty) in
    ap (name_line_at label) regrouped ∙ rw (token_read label (hex n.bytes ++ (10 ∷ rest)), name_read n (10 ∷ rest), token_read (codes "\n") rest) refl

-- ---- lists of lines

begins_itself : (label : List ℕ) (n : Name) (rest : List ℕ) → begins label (name_line label n ++ rest) ≡ true
begins_itself label n rest = ap (begins label) (append_assoc label (hex n.bytes ++ 10 ∷ []) rest) ∙ begins_with label ((hex n.bytes ++ 10 ∷ []) ++ rest)

names_again : (label : List ℕ) → Rereads (name_line label) (begins label) (name_line_at label) (λ n. Unit {0}) (λ t. Unit {0})
names_again label = record {
  asked = λ n rest fits. begins_itself label n rest;
  read = λ n rest fits f. name_line_read label n rest;
  follows = λ n rest fits. tt;
}

all_fit : (ns : List Name) → AllByRecursion (λ n. Unit {0}) ns
all_fit [] = tt
all_fit (n ∷ ns) = (tt, all_fit ns)

names_read : (label : List ℕ) (most : ℕ) (ns : List Name) (rest : List ℕ) → length ns ≤ most → begins label rest ≡ false → names_at label most (flat_map (name_line label) ns ++ rest) ≡ Some (ns, rest)
names_read label most ns rest few none = many_read (name_line label) (begins label) (name_line_at label) (λ n. Unit {0}) (λ t. Unit {0}) (names_again label) most ns rest few (all_fit ns) tt none

-- no hunk begins as a line of names or as the end
pub record IsOther (text : List ℕ) : Type 0 where
  pub no_need : begins (codes "needs ") text ≡ false
  pub no_known : begins (codes "knows ") text ≡ false
  pub no_end : begins (codes "end") text ≡ false

hunk_other : (h : Hunk) (rest : List ℕ) → IsOther (hunk_text h ++ rest)
unfolding hunk_text
hunk_other (File parent name false) rest = record { no_need = refl; no_known = refl; no_end = refl }
hunk_other (File parent name true) rest = record { no_need = refl; no_known = refl; no_end = refl }
hunk_other (Dir parent name) rest = record { no_need = refl; no_known = refl; no_end = refl }
hunk_other (NameOf parent child name false) rest = record { no_need = refl; no_known = refl; no_end = refl }
hunk_other (NameOf parent child name true) rest = record { no_need = refl; no_known = refl; no_end = refl }
hunk_other (Insert file ups downs block) rest = record { no_need = refl; no_known = refl; no_end = refl }
hunk_other (Order file source target) rest = record { no_need = refl; no_known = refl; no_end = refl }
hunk_other (Delete owner start end by) rest = record { no_need = refl; no_known = refl; no_end = refl }
hunk_other (Revive owner start end by) rest = record { no_need = refl; no_known = refl; no_end = refl }

hunks_again : Rereads hunk_text (λ bytes. not (begins (codes "end") bytes)) hunk_at IsReadable (λ t. Unit {0})
hunks_again = record {
  asked = λ h rest fits. ap not (hunk_other h rest).no_end;
  read = λ h rest fits f. hunk_read h rest fits;
  follows = λ h rest fits. tt;
}

-- the line `end`
abbrev last : List ℕ
last = codes "end\n"

hunks_need : (hs : List Hunk) → begins (codes "needs ") (flat_map hunk_text hs ++ last) ≡ false
hunks_need [] = refl
hunks_need (h ∷ hs) = ap (begins (codes "needs ")) (append_assoc (hunk_text h) (flat_map hunk_text hs) last) ∙ (hunk_other h (flat_map hunk_text hs ++ last)).no_need

hunks_known : (hs : List Hunk) → begins (codes "knows ") (flat_map hunk_text hs ++ last) ≡ false
hunks_known [] = refl
hunks_known (h ∷ hs) = ap (begins (codes "knows ")) (append_assoc (hunk_text h) (flat_map hunk_text hs) last) ∙ (hunk_other h (flat_map hunk_text hs ++ last)).no_known

knows_need : (ns : List Name) (hs : List Hunk) → begins (codes "needs ") (flat_map (name_line (codes "knows ")) ns ++ (flat_map hunk_text hs ++ last)) ≡ false
knows_need [] hs = hunks_need hs
knows_need (n ∷ ns) hs = refl

-- ---- the whole

version_spelled : (bytes : List ℕ) → Gets (version_at bytes) (λ x. bytes ≡ codes "pijul change " ++ (decimal x.0 ++ 10 ∷ x.1))
unfolding version_at
version_spelled bytes =
    gets_then _ _ (number_line_spelled (codes "pijul change ") bytes) (λ version v.
    gets_if _ _ (λ h. gets_some version v))

end_spelled : (bytes : List ℕ) → Gets (end_at bytes) (λ x. bytes ≡ last)
unfolding end_at
end_spelled bytes =
    gets_then _ _ (token_spelled last bytes) (λ end e.
    gets_if _ _ (λ h. gets_some end (e ∙ ap (λ (t : List ℕ). last ++ t) (nil_from_length end.1 (eqb-true (length end.1) 0 h)))))

end_read : end_at last ≡ Some (tt, [])
unfolding end_at
end_read = rw (token_read last []) refl

-- four lines of a label and a text, and what follows them
regroup : (label₁ text₁ label₂ text₂ label₃ text₃ label₄ text₄ needs knows hunks end : List ℕ)
    → (label₁ ++ (text₁ ++ 10 ∷ [])) ++ (label₂ ++ (text₂ ++ 10 ∷ [])) ++ (label₃ ++ (text₃ ++ 10 ∷ [])) ++ (label₄ ++ (text₄ ++ 10 ∷ [])) ++ needs ++ knows ++ hunks ++ end
    ≡ label₁ ++ (text₁ ++ 10 ∷ (label₂ ++ (text₂ ++ 10 ∷ (label₃ ++ (text₃ ++ 10 ∷ (label₄ ++ (text₄ ++ 10 ∷ (needs ++ (knows ++ (hunks ++ end))))))))))
regroup label₁ text₁ label₂ text₂ label₃ text₃ label₄ text₄ needs knows hunks end = simp (append_assoc, append-cons, append-empty)

-- a text from its front
from_front : (p : Parts) → text_of p
    ≡ codes "pijul change " ++ (decimal p.version ++ 10 ∷ (codes "message " ++ (p.message ++ 10 ∷ (codes "author " ++ (p.author ++ 10 ∷ (codes "time " ++ (decimal p.time ++ 10
    ∷ (flat_map (name_line (codes "needs ")) p.needs ++ (flat_map (name_line (codes "knows ")) p.knows ++ (flat_map hunk_text p.hunks ++ last))))))))))
unfolding text_of
from_front p =
    regroup (codes "pijul change ") (decimal p.version) (codes "message ") p.message (codes "author ") p.author (codes "time ") (decimal p.time) (flat_map (name_line (codes "needs ")) p.needs) (flat_map (name_line (codes "knows ")) p.knows) (flat_map hunk_text p.hunks) last

-- what is read spells the text
pub reading_spells : (bytes : List ℕ) → Gets (parts_at bytes) (λ p. bytes ≡ text_of p)
unfolding parts_at
reading_spells bytes =
    gets_then _ _ (version_spelled bytes) (λ version v.
    gets_then _ _ (text_line_spelled (codes "message ") version.1) (λ message m.
    gets_then _ _ (text_line_spelled (codes "author ") message.1) (λ author a.
    gets_then _ _ (number_line_spelled (codes "time ") author.1) (λ time t.
    gets_then _ _ (many_spelled (name_line (codes "needs ")) _ _ (name_line_spelled (codes "needs ")) 256 time.1) (λ needs n.
    gets_then _ _ (many_spelled (name_line (codes "knows ")) _ _ (name_line_spelled (codes "knows ")) 1024 needs.1) (λ knows k.
    gets_then _ _ (many_spelled hunk_text _ _ hunk_spelled 4096 knows.1) (λ hunks h.
    gets_then _ _ (end_spelled hunks.1) (λ end e.
    gets_some (record { version = version.0; message = message.0; author = author.0; time = time.0; needs = needs.0; knows = knows.0; hunks = hunks.0 })
    (rw (v, m, a, t, n, k, h, e) (sym (from_front (record { version = version.0; message = message.0; author = author.0; time = time.0; needs = needs.0; knows = knows.0; hunks = hunks.0 }))))))))))))

version_small : (version : ℕ) → (eqb version 1 || eqb version 2) ≡ true → version < 256
version_small version h =
    elim (or_cases (eqb version 1) (eqb version 2) h) [ inl e ↦ omega (arith, eqb-true version 1 e) | inr e ↦ omega (arith, eqb-true version 2 e) ]

version_read : (version : ℕ) (rest : List ℕ) → version < 256 → version_at (codes "pijul change " ++ (decimal version ++ 10 ∷ rest)) ≡ Some (version, rest)
unfolding version_at
version_read version rest small = rw (number_line_read (codes "pijul change ") version rest (omega (arith, small)), lt-ltb version 256 small) refl

-- what is spelled is read
pub spelling_reads : (p : Parts) → IsChange p → parts_at (text_of p) ≡ Some p
unfolding parts_at
spelling_reads p rules =
    let t6 : List ℕ = flat_map hunk_text p.hunks ++ last in
    let t5 : List ℕ = flat_map (name_line (codes "knows ")) p.knows ++ t6 in
    let t4 : List ℕ = flat_map (name_line (codes "needs ")) p.needs ++ t5 in
    let t3 : List ℕ = codes "time " ++ (decimal p.time ++ 10 ∷ t4) in
    let t2 : List ℕ = codes "author " ++ (p.author ++ 10 ∷ t3) in
    let t1 : List ℕ = codes "message " ++ (p.message ++ 10 ∷ t2) in
    ap parts_at (from_front p)
    ∙ rw (
      version_read p.version t1 (version_small p.version rules.version),
      text_line_read (codes "message ") p.message t2 (lacks_newline p.message rules.message),
      text_line_read (codes "author ") p.author t3 (lacks_newline p.author rules.author),
      number_line_read (codes "time ") p.time t4 rules.time,
      names_read (codes "needs ") 256 p.needs t5 rules.few_needs (knows_need p.knows p.hunks),
      names_read (codes "knows ") 1024 p.knows t6 rules.few_knows (hunks_known p.hunks),
      many_read hunk_text (λ bytes. not (begins (codes "end") bytes)) hunk_at IsReadable (λ t. Unit {0}) hunks_again 4096 p.hunks last rules.few_hunks (hunks_readable p rules) tt refl,
      end_read,
    ) refl
