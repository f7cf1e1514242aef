-- The test of one text per name.
use Rattle.std.proofs.Common.{◌≡◌, List, [], ◌∷◌, ◌++◌, refl, sym, ap, inl, inr, Bool, true, false, not}
use Rattle.std.specs.Prelude.{Contains, ◌⊎◌, ◌↔◌, ◌||◌}
use Rattle.std.specs.List.{list_all}
use Rattle.std.specs.Str.{bytes_eq}
use Rattle.std.specs.Cmp.Lexicographic.{bytes_decides}
use Rattle.pj_name.specs.Name.{same_name}
use Rattle.pj_change.specs.declared.change.Record.{Record}
use Rattle.pj_change.specs.Lawful.{IsLawful}
use Rattle.pj_change.specs.Sets.{HaveOneText}
use Rattle.pj_change.proofs.EqualNames.{same_name_is, is_same_name}
use Rattle.pj_change.proofs.LawfulLists.{append_cases, first_part, second_part, one_record}
use Rattle.pj_change.proofs.Members.{uncons, first_member, later_member, no_member, all_member, all_from}
use Rattle.pj_change.specs.declared.operation.Operation.{Operation}
use Rattle.pj_change.specs.OneText.{agree, all_agree}
use Rattle.pj_change.specs.Runs.{brought_by, brought}

-- ---- two records

agreed : (r s : Record) → agree r s ≡ true → r.name ≡ s.name → r.text ≡ s.text
agreed r s e n = (bytes_decides r.text s.text).0 (same (same_name r.name s.name) (is_same_name r.name s.name n) e)
  where
    same : (b : Bool) → b ≡ true → (not b || bytes_eq r.text s.text) ≡ true → bytes_eq r.text s.text ≡ true
    same true h k = k
    same false h k = absurd (cc)

agrees : (r s : Record) → (r.name ≡ s.name → r.text ≡ s.text) → agree r s ≡ true
agrees r s f = go (same_name r.name s.name) refl
  where
    go : (b : Bool) → same_name r.name s.name ≡ b → agree r s ≡ true
    go true h = (let t = (bytes_decides r.text s.text).1 (f (same_name_is r.name s.name h)) in rw h t)
    go false h = rw h refl

-- ---- two lists

pub agree_at : (a b : List Record) → all_agree a b ≡ true → (r s : Record) → Contains a r → Contains b s → r.name ≡ s.name → r.text ≡ s.text
agree_at a b e r s m n = agreed r s (all_member (agree r) b s (all_member (λ t. list_all (agree t) b) a r e m) n)

pub agree_from : (a b : List Record) → ((r s : Record) → Contains a r → Contains b s → r.name ≡ s.name → r.text ≡ s.text) → all_agree a b ≡ true
agree_from a b f = all_from (λ r. list_all (agree r) b) a (λ r m. all_from (agree r) b (λ s n. agrees r s (f r s m n)))

-- lawful lists that agree have one text per name, and only those
pub lists_agree : (a b : List Record) → IsLawful a → IsLawful b → (all_agree a b ≡ true) ↔ HaveOneText (a ++ b)
lists_agree a b p q = (there, λ unique. agree_from a b (λ r s m n. unique r s (first_part a b r m) (second_part a b s n)))
  where
    text : {r s : Record} → r ≡ s → r.text ≡ s.text
    text e = ap (λ (r : Record). r.text) e

    cases : all_agree a b ≡ true → (r s : Record) → Contains a r ⊎ Contains b r → Contains a s ⊎ Contains b s → r.name ≡ s.name → r.text ≡ s.text
    cases h r s m n e = elim m [
      | inl j ↦ elim n [ inl k ↦ text (one_record a p r s j k e) | inr k ↦ agree_at a b h r s j k e ]
      | inr j ↦ elim n [ inl k ↦ sym (agree_at a b h s r k j (sym e)) | inr k ↦ text (one_record b q r s j k e) ]
    ]

    there : all_agree a b ≡ true → HaveOneText (a ++ b)
    there h r s m n e = cases h r s (append_cases a b r m) (append_cases a b s n) e

-- ---- what operations bring

pub record IsBrought (operations : List (Operation (List Record))) (r : Record) : Type 0 where
  pub operation : Operation (List Record)
  pub member : Contains operations operation
  pub brings : Contains (brought_by operation) r

brought_later : (o : Operation (List Record)) (operations : List (Operation (List Record))) (r : Record) → IsBrought operations r → IsBrought (o ∷ operations) r
brought_later o operations r h = record { operation = h.operation; member = later_member o operations h.operation h.member; brings = h.brings }

is_brought : (operations : List (Operation (List Record))) (r : Record) → Contains (brought operations) r → IsBrought operations r
is_brought [] r m = absurd (no_member r m)
is_brought (o ∷ operations) r m = elim (append_cases (brought_by o) (brought operations) r m) [
  | inl k ↦ record { operation = o; member = first_member o operations; brings = k }
  | inr k ↦ brought_later o operations r (is_brought operations r k)
]

brought_from : (operations : List (Operation (List Record))) (o : Operation (List Record)) (r : Record) → Contains operations o → Contains (brought_by o) r → Contains (brought operations) r
brought_from [] o r m k = absurd (no_member o m)
brought_from (p ∷ operations) o r m k = elim (uncons p operations o m) [
  | inl e ↦ first_part (brought_by p) (brought operations) r (same_list e)
  | inr n ↦ second_part (brought_by p) (brought operations) r (brought_from operations o r n k)
]
  where
    same_list : p ≡ o → Contains (brought_by p) r
    same_list e = let P : Operation (List Record) → Type 0 = λ z. Contains (brought_by z) r in coe 1 0 (i. P (e i)) k

pub operations_agree : (operations : List (Operation (List Record))) →
    (list_all (λ o. list_all (λ p. all_agree (brought_by o) (brought_by p)) operations) operations ≡ true) ↔ HaveOneText (brought operations)
operations_agree operations = (there, back)
  where
    there : list_all (λ o. list_all (λ p. all_agree (brought_by o) (brought_by p)) operations) operations ≡ true → HaveOneText (brought operations)
    there h r s m n e =
        let a = is_brought operations r m in
        let b = is_brought operations s n in
        let row = all_member (λ o. list_all (λ p. all_agree (brought_by o) (brought_by p)) operations) operations a.operation h a.member in
        agree_at (brought_by a.operation) (brought_by b.operation)
        (all_member (λ p. all_agree (brought_by a.operation) (brought_by p)) operations b.operation row b.member) r s a.brings b.brings e

    back : HaveOneText (brought operations) → list_all (λ o. list_all (λ p. all_agree (brought_by o) (brought_by p)) operations) operations ≡ true
    back unique =
        all_from (λ o. list_all (λ p. all_agree (brought_by o) (brought_by p)) operations) operations (λ o m.
        all_from (λ p. all_agree (brought_by o) (brought_by p)) operations (λ p n.
        agree_from (brought_by o) (brought_by p) (λ r s j k. unique r s (brought_from operations o r m j) (brought_from operations p s n k))))
