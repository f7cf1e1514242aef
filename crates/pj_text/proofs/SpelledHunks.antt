-- Hunks: what is read is spelled so.
use Rattle.std.proofs.Common.{◌≡◌, ℕ, Bool, true, false, cond, eqb, List, [], ◌∷◌, ◌++◌, length, drop, Option, refl, ap, ◌∙◌, append_assoc, inl, inr}
use Rattle.std.specs.Prelude.{codes, decimal, ◌||◌}
use Rattle.std.specs.Str.{bytes_eq}
use Rattle.std.proofs.lemmas.Bool.{cases_Bool}
use Rattle.std.proofs.lemmas.List.{append-nil}
use Rattle.std.proofs.lemmas.Slice.Eq.{bytes_eq-Decides}
use Rattle.pj_change.specs.declared.hunk.Hunk.{Hunk}
use Rattle.pj_change.specs.declared.hunk.Hunk.TheVariants.{File, Dir, NameOf, Insert, Order, Delete, Revive}
use Rattle.pj_change.specs.Text.{reference, range, owners, hunk_text}
use Rattle.pj_text.specs.Reading.{word_of, word_at, number_at, operand_at, label_at, file_at, dir_at, name_of_at, block_at, insert_at, order_at, range_at, owners_at, delete_at, revive_at, operands_at, hunk_at}
use Rattle.pj_text.proofs.Gets.{Gets, gets_some, gets_none, gets_then, gets_either, gets_weaker, append-cons}
use Rattle.pj_text.proofs.FieldLaws.{token_spelled, bytes_spelled, line_spelled, number_spelled, reference_spelled}
use Rattle.pj_text.proofs.ListLaws.{IsSpelled, references_spelled, joined_spelled}

operand_spelled : (bytes : List ℕ) → Gets (operand_at bytes) (λ x. bytes ≡ 32 ∷ (reference x.0 ++ x.1))
unfolding operand_at
operand_spelled bytes =
    gets_then _ _ (token_spelled (codes " ") bytes) (λ space s.
    gets_weaker _ (reference_spelled space.1) (λ x h. s ∙ ap (λ (t : List ℕ). 32 ∷ t) h))

label_spelled : (bytes : List ℕ) → Gets (label_at bytes) (λ x. bytes ≡ 32 ∷ (x.0 ++ 10 ∷ x.1))
unfolding label_at
label_spelled bytes =
    gets_then _ _ (token_spelled (codes " ") bytes) (λ space s.
    gets_weaker _ (line_spelled space.1) (λ x h. s ∙ ap (λ (t : List ℕ). 32 ∷ t) h))

-- what a reading of the bytes after a word gives is a hunk, spelled with this word
abbrev Spells : List ℕ → List ℕ → Option (Hunk × List ℕ) → Type 0
Spells first bytes o = Gets o (λ x. first ++ bytes ≡ hunk_text x.0 ++ x.1)

file_spelled : (exec : Bool) (bytes : List ℕ) → Spells (cond exec (codes "file+x") (codes "file")) bytes (file_at exec bytes)
unfolding file_at hunk_text
file_spelled exec bytes =
    gets_then _ _ (operand_spelled bytes) (λ parent p.
    gets_then _ _ (label_spelled parent.1) (λ name n.
    gets_some (File parent.0 name.0 exec, name.1) (rw (p, n) (simp (append_assoc, append-nil, append-cons)))))

dir_spelled : (bytes : List ℕ) → Spells (codes "dir") bytes (dir_at bytes)
unfolding dir_at hunk_text
dir_spelled bytes =
    gets_then _ _ (operand_spelled bytes) (λ parent p.
    gets_then _ _ (label_spelled parent.1) (λ name n.
    gets_some (Dir parent.0 name.0, name.1) (rw (p, n) (simp (append_assoc, append-nil, append-cons)))))

name_of_spelled : (exec : Bool) (bytes : List ℕ) → Spells (cond exec (codes "name+x") (codes "name")) bytes (name_of_at exec bytes)
unfolding name_of_at hunk_text
name_of_spelled exec bytes =
    gets_then _ _ (operand_spelled bytes) (λ parent p.
    gets_then _ _ (operand_spelled parent.1) (λ child c.
    gets_then _ _ (label_spelled child.1) (λ name n.
    gets_some (NameOf parent.0 child.0 name.0 exec, name.1) (rw (p, c, n) (simp (append_assoc, append-nil, append-cons))))))

block_spelled : (bytes : List ℕ) → Gets (block_at bytes) (λ x. bytes ≡ decimal (length x.0) ++ (10 ∷ (x.0 ++ 10 ∷ x.1)))
unfolding block_at
block_spelled bytes =
    gets_then _ _ (number_spelled bytes) (λ count c.
    gets_then _ _ (token_spelled (codes "\n") count.1) (λ newline n.
    gets_then _ _ (bytes_spelled count.0 newline.1) (λ block b.
    gets_then _ _ (token_spelled (codes "\n") block.1) (λ last l.
    gets_some (block.0, last.1) (rw b.1 (c.stands ∙ ap (λ (t : List ℕ). decimal count.0 ++ t) (n ∙ ap (λ (t : List ℕ). 10 ∷ t) (b.0 ∙ ap (λ (t : List ℕ). block.0 ++ t) l))))))))

insert_spelled : (bytes : List ℕ) → Spells (codes "insert") bytes (insert_at bytes)
unfolding insert_at hunk_text
insert_spelled bytes =
    gets_then _ _ (operand_spelled bytes) (λ file f.
    gets_then _ _ (token_spelled (codes " after ") file.1) (λ after a.
    gets_then _ _ (references_spelled after.1) (λ ups u.
    gets_then _ _ (token_spelled (codes " before ") ups.1) (λ before b.
    gets_then _ _ (references_spelled before.1) (λ downs d.
    gets_then _ _ (token_spelled (codes " ") downs.1) (λ space s.
    gets_then _ _ (block_spelled space.1) (λ block k.
    gets_some (Insert file.0 ups.0 downs.0 block.0, block.1) (rw (f, a, u, b, d, s, k) (simp (append_assoc, append-cons))))))))))

order_spelled : (bytes : List ℕ) → Spells (codes "order") bytes (order_at bytes)
unfolding order_at hunk_text
order_spelled bytes =
    gets_then _ _ (operand_spelled bytes) (λ file f.
    gets_then _ _ (operand_spelled file.1) (λ source s.
    gets_then _ _ (operand_spelled source.1) (λ target t.
    gets_then _ _ (token_spelled (codes "\n") target.1) (λ newline n.
    gets_some (Order file.0 source.0 target.0, newline.1) (rw (f, s, t, n) (simp (append_assoc, append-nil, append-cons)))))))

range_spelled : (bytes : List ℕ) → Gets (range_at bytes) (λ x. bytes ≡ range x.0.owner x.0.start x.0.end ++ x.1)
unfolding range_at range
range_spelled bytes =
    gets_then _ _ (number_spelled bytes) (λ owner o.
    gets_then _ _ (token_spelled (codes ".") owner.1) (λ point p.
    gets_then _ _ (number_spelled point.1) (λ start s.
    gets_then _ _ (token_spelled (codes "-") start.1) (λ dash d.
    gets_then _ _ (number_spelled dash.1) (λ last l.
    gets_some (record { owner = owner.0; start = start.0; end = last.0 }, last.1) (rw (o.stands, p, s.stands, d, l.stands) (simp append_assoc)))))))

owners_spelled : (bytes : List ℕ) → Gets (owners_at bytes) (λ x. bytes ≡ codes " by " ++ (owners x.0 ++ 10 ∷ x.1))
unfolding owners_at owners
owners_spelled bytes =
    gets_then _ _ (token_spelled (codes " by ") bytes) (λ first f.
    gets_then _ _ (joined_spelled decimal number_at (λ t. gets_weaker _ (number_spelled t) (λ x h. h.stands)) first.1) (λ by b.
    gets_then _ _ (token_spelled (codes "\n") by.1) (λ newline n.
    gets_some (by.0, newline.1) (rw (f, b.0, n) refl))))

delete_spelled : (bytes : List ℕ) → Spells (codes "delete") bytes (delete_at bytes)
unfolding delete_at hunk_text
delete_spelled bytes =
    gets_then _ _ (token_spelled (codes " ") bytes) (λ space s.
    gets_then _ _ (range_spelled space.1) (λ r h.
    gets_then _ _ (owners_spelled r.1) (λ by b.
    gets_some (Delete r.0.owner r.0.start r.0.end by.0, by.1) (rw (s, h, b) (simp (append_assoc, append-nil, append-cons))))))

revive_spelled : (bytes : List ℕ) → Spells (codes "revive") bytes (revive_at bytes)
unfolding revive_at hunk_text
revive_spelled bytes =
    gets_then _ _ (token_spelled (codes " ") bytes) (λ space s.
    gets_then _ _ (range_spelled space.1) (λ r h.
    gets_then _ _ (owners_spelled r.1) (λ by b.
    gets_some (Revive r.0.owner r.0.start r.0.end by.0, by.1) (rw (s, h, b) (simp (append_assoc, append-nil, append-cons))))))

-- the word that was tested for
tested : (first : List ℕ) (bytes : List ℕ) (found : List ℕ) (o : Option (Hunk × List ℕ)) → Spells first bytes o → bytes_eq found first ≡ true → Spells found bytes o
tested first bytes found o spelled h =
    gets_weaker o spelled (λ x k. ap (λ (t : List ℕ). t ++ bytes) ((bytes_eq-Decides found first).0 h) ∙ k)

operands_spelled : (found bytes : List ℕ) → Spells found bytes (operands_at found bytes)
unfolding operands_at
operands_spelled found bytes =
    gets_either _ _ _ (tested (codes "file") bytes found (file_at false bytes) (file_spelled false bytes))
    (gets_either _ _ _ (tested (codes "file+x") bytes found (file_at true bytes) (file_spelled true bytes))
    (gets_either _ _ _ (tested (codes "dir") bytes found (dir_at bytes) (dir_spelled bytes))
    (gets_either _ _ _ (tested (codes "name") bytes found (name_of_at false bytes) (name_of_spelled false bytes))
    (gets_either _ _ _ (tested (codes "name+x") bytes found (name_of_at true bytes) (name_of_spelled true bytes))
    (gets_either _ _ _ (tested (codes "insert") bytes found (insert_at bytes) (insert_spelled bytes))
    (gets_either _ _ _ (tested (codes "order") bytes found (order_at bytes) (order_spelled bytes))
    (gets_either _ _ _ (tested (codes "delete") bytes found (delete_at bytes) (delete_spelled bytes))
    (gets_either _ _ _ (tested (codes "revive") bytes found (revive_at bytes) (revive_spelled bytes)) gets_none))))))))

word_front : (bytes : List ℕ) → bytes ≡ word_of bytes ++ drop (length (word_of bytes)) bytes
unfolding word_of
word_front [] = refl
word_front (b ∷ bytes) =
    elim (cases_Bool (eqb b 32 || eqb b 10)) [ inl t ↦ rw t refl | inr f ↦ rw f (ap (λ (u : List ℕ). b ∷ u) (word_front bytes)) ]

word_spelled : (bytes : List ℕ) → Gets (word_at bytes) (λ x. bytes ≡ x.0 ++ x.1)
unfolding word_at
word_spelled bytes = gets_either _ _ _ (λ h. gets_none) (gets_some (word_of bytes, drop (length (word_of bytes)) bytes) (word_front bytes))

pub hunk_spelled : IsSpelled hunk_text hunk_at
unfolding hunk_at
hunk_spelled bytes =
    gets_then _ _ (word_spelled bytes) (λ found f.
    gets_weaker _ (operands_spelled found.0 found.1) (λ x h. f ∙ h))
