-- A text from its pieces.
use Rattle.std.proofs.Common.{◌≡◌, refl, sym, ap, ◌∙◌, ℕ, List, [], ◌∷◌, ◌++◌, append_assoc}
use Rattle.std.specs.Prelude.{codes}
use Rattle.std.proofs.lemmas.List.{append-nil}
use Rattle.std.specs.List.{flat_map}
use Rattle.std.proofs.lemmas.Grind.{flat_map-append}
use Rattle.pj_name.specs.declared.name.Name.{Name}
use Rattle.pj_change.specs.declared.hunk.Hunk.{Hunk}
use Rattle.pj_change.specs.Text.{hunk_text, line, text_of}
use Rattle.pj_gen.specs.Changes.{eight, file_hunks, load_change, zero_text}
use Rattle.pj_gen.specs.Pieces.{head_lines, need_lines, end_line}

-- a text is its head, its needs, its hunks and its last line
pub pieces : (i : ℕ) (needs : List Name) (hunks : List Hunk) →
    ((head_lines i ++ need_lines needs) ++ flat_map hunk_text hunks) ++ end_line ≡ text_of (load_change i needs hunks)
unfolding text_of
pieces i needs hunks = ap (λ t. (t ++ flat_map hunk_text hunks) ++ end_line) (sym (append-nil (head_lines i ++ need_lines needs)))

-- the same of one hunk
pub one_hunk : (i : ℕ) (needs : List Name) (h : Hunk) →
    ((head_lines i ++ need_lines needs) ++ hunk_text h) ++ end_line ≡ text_of (load_change i needs (h ∷ []))
one_hunk i needs h =
    ap (λ t. ((head_lines i ++ need_lines needs) ++ t) ++ end_line) (sym (append-nil (hunk_text h))) ∙ pieces i needs (h ∷ [])

-- a list of lists of members, one by one
pub flat_map_flat_map : {X Y A : Type 0} (f : Y → List A) (g : X → List Y) (xs : List X) →
    flat_map f (flat_map g xs) ≡ flat_map (λ x. flat_map f (g x)) xs
flat_map_flat_map f g [] = refl
flat_map_flat_map f g (x ∷ xs) = flat_map-append f (g x) (flat_map g xs) ∙ ap (λ t. flat_map f (g x) ++ t) (flat_map_flat_map f g xs)

-- the text of change 0
pub zero_pieces :
    ((head_lines 0 ++ need_lines []) ++ flat_map (λ j. flat_map hunk_text (file_hunks j)) eight) ++ end_line ≡ zero_text
unfolding zero_text
zero_pieces =
    ap (λ t. ((head_lines 0 ++ need_lines []) ++ t) ++ end_line) (sym (flat_map_flat_map hunk_text file_hunks eight))
    ∙ pieces 0 [] (flat_map file_hunks eight)

-- ---- bytes that were appended one after the other

pub four : (o a b c d : List ℕ) → (((o ++ a) ++ b) ++ c) ++ d ≡ o ++ (((a ++ b) ++ c) ++ d)
four o a b c d = simp append_assoc

-- the line of an insertion, and its bytes
insert_pieces : (o file up down count bytes : List ℕ) →
    ((((((((o ++ codes "insert ") ++ file) ++ codes " after ") ++ up) ++ codes " before ") ++ down) ++ codes " ") ++ line (count ∷ [])) ++ line (bytes ∷ [])
    ≡ o ++ (line (codes "insert" ∷ file ∷ codes "after" ∷ up ∷ codes "before" ∷ down ∷ count ∷ []) ++ (bytes ++ 10 ∷ []))
insert_pieces o file up down count bytes = simp append_assoc

pub inserted : (o file up down count bytes a b c d e f g h i : List ℕ) →
    a ≡ o ++ codes "insert " → b ≡ a ++ file → c ≡ b ++ codes " after " → d ≡ c ++ up → e ≡ d ++ codes " before " → f ≡ e ++ down
    → g ≡ f ++ codes " " → h ≡ g ++ line (count ∷ []) → i ≡ h ++ line (bytes ∷ [])
    → i ≡ o ++ (line (codes "insert" ∷ file ∷ codes "after" ∷ up ∷ codes "before" ∷ down ∷ count ∷ []) ++ (bytes ++ 10 ∷ []))
inserted o file up down count bytes a b c d e f g h i ea eb ec ed ee ef eg eh ei =
    rw (ei, eh, eg, ef, ee, ed, ec, eb, ea) (insert_pieces o file up down count bytes)
