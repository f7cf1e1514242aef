-- Hunks: what is spelled is read.
use Rattle.std.proofs.Common.{◌≡◌, ℕ, ◌^◌, ◌<◌, ◌≤◌, Bool, true, false, List, [], ◌∷◌, ◌++◌, length, Some, refl, ap, ◌∙◌, append_assoc}
use Rattle.std.specs.Prelude.{codes, decimal, map}
use Rattle.std.specs.List.{join_with_byte, AllByRecursion}
use Rattle.std.proofs.lemmas.List.{append-nil}
use Rattle.pj_change.specs.declared.point.Ref.{Ref}
use Rattle.pj_change.specs.declared.hunk.Hunk.{Hunk}
use Rattle.pj_change.specs.declared.hunk.Hunk.TheVariants.{File, Dir, NameOf, Insert, Order, Delete, Revive}
use Rattle.pj_change.specs.Text.{reference, references, range, owners, hunk_text}
use Rattle.pj_change.specs.Rules.{lacks}
use Rattle.pj_text.specs.Reading.{word_of, word_at, number_at, operand_at, label_at, file_at, dir_at, name_of_at, block_at, insert_at, order_at, range_at, owners_at, delete_at, revive_at, operands_at, hunk_at}
use Rattle.pj_text.proofs.Gets.{append-cons}
use Rattle.pj_text.proofs.FieldLaws.{stops, IsSmall, token_read, bytes_read, line_read, number_read, reference_read}
use Rattle.pj_text.proofs.ListLaws.{references_read, joined_read}

-- at most 64 references of small numbers
pub record AreSmall (rs : List Ref) : Type 0 where
  pub few : length rs ≤ 64
  pub small : AllByRecursion IsSmall rs

-- 1 to 64 numbers below 2^32
abbrev pub AreNumbers : List ℕ → Type 0
AreNumbers [] = ⊥
AreNumbers (k ∷ ks) = (length ks ≤ 63) × (k < 2 ^ 32) × AllByRecursion (λ n. n < 2 ^ 32) ks

-- what a hunk has to keep so that its spelling is read
abbrev pub IsReadable : Hunk → Type 0
IsReadable (File parent name exec) = IsSmall parent × (lacks 10 name ≡ true)
IsReadable (Dir parent name) = IsSmall parent × (lacks 10 name ≡ true)
IsReadable (NameOf parent child name exec) = IsSmall parent × IsSmall child × (lacks 10 name ≡ true)
IsReadable (Insert file ups downs bytes) = IsSmall file × AreSmall ups × AreSmall downs × (length bytes < 2 ^ 32)
IsReadable (Order file source target) = IsSmall file × IsSmall source × IsSmall target
IsReadable (Delete owner start end by) = (owner < 2 ^ 32) × (start < 2 ^ 32) × (end < 2 ^ 32) × AreNumbers by
IsReadable (Revive owner start end by) = (owner < 2 ^ 32) × (start < 2 ^ 32) × (end < 2 ^ 32) × AreNumbers by

operand_read : (at : Ref) (rest : List ℕ) → IsSmall at → stops rest ≡ true → operand_at (32 ∷ (reference at ++ rest)) ≡ Some (at, rest)
unfolding operand_at
operand_read at rest small s = rw (token_read (codes " ") (reference at ++ rest)) (reference_read at rest small s)

label_read : (name rest : List ℕ) → lacks 10 name ≡ true → label_at (32 ∷ (name ++ 10 ∷ rest)) ≡ Some (name, rest)
unfolding label_at
label_read name rest h = rw (token_read (codes " ") (name ++ 10 ∷ rest)) (line_read name rest h)

file_read : (exec : Bool) (parent : Ref) (name rest : List ℕ) → IsSmall parent → lacks 10 name ≡ true → file_at exec (32 ∷ (reference parent ++ (32 ∷ (name ++ 10 ∷ rest)))) ≡ Some (File parent name exec, rest)
unfolding file_at
file_read exec parent name rest small h = rw (operand_read parent (32 ∷ (name ++ 10 ∷ rest)) small refl, label_read name rest h) refl

dir_read : (parent : Ref) (name rest : List ℕ) → IsSmall parent → lacks 10 name ≡ true → dir_at (32 ∷ (reference parent ++ (32 ∷ (name ++ 10 ∷ rest)))) ≡ Some (Dir parent name, rest)
unfolding dir_at
dir_read parent name rest small h = rw (operand_read parent (32 ∷ (name ++ 10 ∷ rest)) small refl, label_read name rest h) refl

name_of_read : (exec : Bool) (parent child : Ref) (name rest : List ℕ) → IsSmall parent → IsSmall child → lacks 10 name ≡ true
    → name_of_at exec (32 ∷ (reference parent ++ (32 ∷ (reference child ++ (32 ∷ (name ++ 10 ∷ rest)))))) ≡ Some (NameOf parent child name exec, rest)
unfolding name_of_at
name_of_read exec parent child name rest small small' h =
    rw (operand_read parent (32 ∷ (reference child ++ (32 ∷ (name ++ 10 ∷ rest)))) small refl, operand_read child (32 ∷ (name ++ 10 ∷ rest)) small' refl, label_read name rest h) refl

block_read : (block rest : List ℕ) → length block < 2 ^ 32 → block_at (decimal (length block) ++ (10 ∷ (block ++ 10 ∷ rest))) ≡ Some (block, rest)
unfolding block_at
block_read block rest small =
    rw (number_read (length block) (10 ∷ (block ++ 10 ∷ rest)) small refl, token_read (codes "\n") (block ++ 10 ∷ rest), bytes_read block (10 ∷ rest), token_read (codes "\n") rest) refl

insert_read : (file : Ref) (ups downs : List Ref) (block rest : List ℕ) → IsSmall file → AreSmall ups → AreSmall downs → length block < 2 ^ 32
    → insert_at (32 ∷ (reference file ++ (codes " after " ++ (references ups ++ (codes " before " ++ (references downs ++ (32 ∷ (decimal (length block) ++ (10 ∷ (block ++ 10 ∷ rest)))))))))) ≡ Some (Insert file ups downs block, rest)
unfolding insert_at
insert_read file ups downs block rest small up down short =
    let t5 : List ℕ = decimal (length block) ++ (10 ∷ (block ++ 10 ∷ rest)) in
    let t4 : List ℕ = references downs ++ (32 ∷ t5) in
    let t3 : List ℕ = codes " before " ++ t4 in
    let t2 : List ℕ = references ups ++ t3 in
    rw (
      operand_read file (codes " after " ++ t2) small refl,
      token_read (codes " after ") t2,
      references_read ups t3 up.few up.small refl refl,
      token_read (codes " before ") t4,
      references_read downs (32 ∷ t5) down.few down.small refl refl,
      token_read (codes " ") t5,
      block_read block rest short,
    ) refl

order_read : (file source target : Ref) (rest : List ℕ) → IsSmall file → IsSmall source → IsSmall target
    → order_at (32 ∷ (reference file ++ (32 ∷ (reference source ++ (32 ∷ (reference target ++ 10 ∷ rest)))))) ≡ Some (Order file source target, rest)
unfolding order_at
order_read file source target rest f s t =
    rw (
      operand_read file (32 ∷ (reference source ++ (32 ∷ (reference target ++ 10 ∷ rest)))) f refl,
      operand_read source (32 ∷ (reference target ++ 10 ∷ rest)) s refl,
      operand_read target (10 ∷ rest) t refl,
      token_read (codes "\n") rest,
    ) refl

range_read : (owner start end : ℕ) (rest : List ℕ) → owner < 2 ^ 32 → start < 2 ^ 32 → end < 2 ^ 32 → stops rest ≡ true → range_at (range owner start end ++ rest) ≡ Some (record { owner = owner; start = start; end = end }, rest)
unfolding range_at range
range_read owner start end rest o s e stop =
    let t2 : List ℕ = 45 ∷ (decimal end ++ rest) in
    let t1 : List ℕ = 46 ∷ (decimal start ++ t2) in
    let regrouped : (decimal owner ++ codes "." ++ decimal start ++ codes "-" ++ decimal end) ++ rest ≡ decimal owner ++ t1 = simp append_assoc in
    ap range_at regrouped
    ∙ rw (number_read owner t1 o refl, token_read (codes ".") (decimal start ++ t2), number_read start t2 s refl, token_read (codes "-") (decimal end ++ rest), number_read end rest e stop) refl

owners_read : (by rest : List ℕ) → AreNumbers by → owners_at (codes " by " ++ (owners by ++ 10 ∷ rest)) ≡ Some (by, rest)
unfolding owners_at owners
owners_read [] rest h = absurd h
owners_read (k ∷ ks) rest h =
    rw (
      token_read (codes " by ") (join_with_byte 44 (map decimal (k ∷ ks)) ++ 10 ∷ rest),
      joined_read decimal number_at (λ n. n < 2 ^ 32) number_read k ks (10 ∷ rest) h.0 h.1 h.2 refl refl,
      token_read (codes "\n") rest,
    ) refl

delete_read : (owner start end : ℕ) (by rest : List ℕ) → owner < 2 ^ 32 → start < 2 ^ 32 → end < 2 ^ 32 → AreNumbers by
    → delete_at (32 ∷ (range owner start end ++ (codes " by " ++ (owners by ++ 10 ∷ rest)))) ≡ Some (Delete owner start end by, rest)
unfolding delete_at
delete_read owner start end by rest o s e h =
    let t1 : List ℕ = codes " by " ++ (owners by ++ 10 ∷ rest) in
    rw (token_read (codes " ") (range owner start end ++ t1), range_read owner start end t1 o s e refl, owners_read by rest h) refl

revive_read : (owner start end : ℕ) (by rest : List ℕ) → owner < 2 ^ 32 → start < 2 ^ 32 → end < 2 ^ 32 → AreNumbers by
    → revive_at (32 ∷ (range owner start end ++ (codes " by " ++ (owners by ++ 10 ∷ rest)))) ≡ Some (Revive owner start end by, rest)
unfolding revive_at
revive_read owner start end by rest o s e h =
    let t1 : List ℕ = codes " by " ++ (owners by ++ 10 ∷ rest) in
    rw (token_read (codes " ") (range owner start end ++ t1), range_read owner start end t1 o s e refl, owners_read by rest h) refl

pub hunk_read : (h : Hunk) (rest : List ℕ) → IsReadable h → hunk_at (hunk_text h ++ rest) ≡ Some (h, rest)
unfolding hunk_at word_at word_of operands_at hunk_text
hunk_read (File parent name false) rest small =
    let regrouped : hunk_text (File parent name false) ++ rest ≡ codes "file" ++ (32 ∷ (reference parent ++ (32 ∷ (name ++ 10 ∷ rest)))) = simp (append_assoc, append-nil, append-cons) in
    ap hunk_at regrouped ∙ file_read false parent name rest small.0 small.1
hunk_read (File parent name true) rest small =
    let regrouped : hunk_text (File parent name true) ++ rest ≡ codes "file+x" ++ (32 ∷ (reference parent ++ (32 ∷ (name ++ 10 ∷ rest)))) = simp (append_assoc, append-nil, append-cons) in
    ap hunk_at regrouped ∙ file_read true parent name rest small.0 small.1
hunk_read (Dir parent name) rest small =
    let regrouped : hunk_text (Dir parent name) ++ rest ≡ codes "dir" ++ (32 ∷ (reference parent ++ (32 ∷ (name ++ 10 ∷ rest)))) = simp (append_assoc, append-nil, append-cons) in
    ap hunk_at regrouped ∙ dir_read parent name rest small.0 small.1
hunk_read (NameOf parent child name false) rest small =
    let regrouped : hunk_text (NameOf parent child name false) ++ rest ≡ codes "name" ++ (32 ∷ (reference parent ++ (32 ∷ (reference child ++ (32 ∷ (name ++ 10 ∷ rest)))))) = simp (append_assoc, append-nil, append-cons) in
    ap hunk_at regrouped ∙ name_of_read false parent child name rest small.0 small.1 small.2
hunk_read (NameOf parent child name true) rest small =
    let regrouped : hunk_text (NameOf parent child name true) ++ rest ≡ codes "name+x" ++ (32 ∷ (reference parent ++ (32 ∷ (reference child ++ (32 ∷ (name ++ 10 ∷ rest)))))) = simp (append_assoc, append-nil, append-cons) in
    ap hunk_at regrouped ∙ name_of_read true parent child name rest small.0 small.1 small.2
hunk_read (Insert file ups downs block) rest small =
    let regrouped : hunk_text (Insert file ups downs block) ++ rest ≡ codes "insert" ++ (32 ∷ (reference file ++ (codes " after " ++ (references ups ++ (codes " before " ++ (references downs ++ (32 ∷ (decimal (length block) ++ (10 ∷ (block ++ 10 ∷ rest)))))))))) = simp (append_assoc, append-cons) in
    ap hunk_at regrouped ∙ insert_read file ups downs block rest small.0 small.1 small.2 small.3
hunk_read (Order file source target) rest small =
    let regrouped : hunk_text (Order file source target) ++ rest ≡ codes "order" ++ (32 ∷ (reference file ++ (32 ∷ (reference source ++ (32 ∷ (reference target ++ 10 ∷ rest)))))) = simp (append_assoc, append-nil, append-cons) in
    ap hunk_at regrouped ∙ order_read file source target rest small.0 small.1 small.2
hunk_read (Delete owner start end by) rest small =
    let regrouped : hunk_text (Delete owner start end by) ++ rest ≡ codes "delete" ++ (32 ∷ (range owner start end ++ (codes " by " ++ (owners by ++ 10 ∷ rest)))) = simp (append_assoc, append-nil, append-cons) in
    ap hunk_at regrouped ∙ delete_read owner start end by rest small.0 small.1 small.2 small.3
hunk_read (Revive owner start end by) rest small =
    let regrouped : hunk_text (Revive owner start end by) ++ rest ≡ codes "revive" ++ (32 ∷ (range owner start end ++ (codes " by " ++ (owners by ++ 10 ∷ rest)))) = simp (append_assoc, append-nil, append-cons) in
    ap hunk_at regrouped ∙ revive_read owner start end by rest small.0 small.1 small.2 small.3
