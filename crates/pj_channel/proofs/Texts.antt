-- Which changes agree on the text of a name.
use Rattle.std.proofs.Common.{◌≡◌, ◌∙◌, refl, sym, ap, inl, inr, true, false, List, [], ◌∷◌, ◌++◌, append_assoc, append-nil, Some, None}
use Rattle.std.specs.Prelude.{Bool, Contains}
use Rattle.std.specs.Str.{bytes_eq}
use Rattle.std.specs.Cmp.Lexicographic.{bytes_decides}
use Rattle.std.specs.declared.alloc.Global.{Global}
use Rattle.std.specs.declared.sync.Arc.{Arc}
use Rattle.pj_change.specs.declared.change.Record.{Record}
use Rattle.pj_change.specs.declared.operation.Operation.{Operation}
use Rattle.pj_change.specs.declared.operation.Operation.TheVariants.{Apply, Pull, Unrecord, Uproot}
use Rattle.pj_change.specs.Lawful.{IsLawful, record_of}
use Rattle.pj_change.specs.OneText.{all_agree}
use Rattle.pj_change.specs.Runs.{brought_by}
use Rattle.pj_change.proofs.AgreeingTexts.{agree_at, agree_from}
use Rattle.pj_change.proofs.LawfulLists.{append_cases, one_record, not_record}
use Rattle.pj_change.proofs.Members.{uncons, first_member, no_member, middle_member, same_member, moved}
use Rattle.pj_apply.proofs.Distinct.{record_is, record_none}

-- tests that come to the same are equal
same_test : (x y : Bool) → (x ≡ true → y ≡ true) → (y ≡ true → x ≡ true) → x ≡ y
same_test true true there back = refl
same_test true false there back = sym (there refl)
same_test false true there back = back refl
same_test false false there back = refl

only : (c s : Record) → Contains (c ∷ []) s → c ≡ s
only c s m = elim (uncons c [] s m) [ inl e ↦ e | inr n ↦ absurd (no_member s n) ]

-- ---- one change

module _ (list : List Record) (c : Record) where
  -- one whose name is in a lawful list agrees where the texts are one
  pub agrees_found : IsLawful list → (own : Record) → record_of list c.name ≡ Some own → bytes_eq own.text c.text ≡ all_agree list (c ∷ [])
  agrees_found lawful own found = same_test (bytes_eq own.text c.text) (all_agree list (c ∷ [])) there back
    where
      there : bytes_eq own.text c.text ≡ true → all_agree list (c ∷ []) ≡ true
      there e =
          let i = record_is list c.name own found in
          agree_from list (c ∷ []) (λ r s m n same.
          let last = only c s n in
          let first = one_record list lawful r own m i.member (same ∙ ap (λ (q : Record). q.name) (sym last) ∙ sym i.named) in
          ap (λ (q : Record). q.text) first ∙ (bytes_decides own.text c.text).0 e ∙ ap (λ (q : Record). q.text) last)

      back : all_agree list (c ∷ []) ≡ true → bytes_eq own.text c.text ≡ true
      back e = (let i = record_is list c.name own found in (bytes_decides own.text c.text).1 (agree_at list (c ∷ []) e own c i.member (first_member c []) i.named))

  -- and else it agrees
  pub agrees_absent : record_of list c.name ≡ None → all_agree list (c ∷ []) ≡ true
  agrees_absent none =
      agree_from list (c ∷ []) (λ r s m n same.
      absurd (not_record list c.name (record_none list c.name none) r (record { member = m; named = same ∙ ap (λ (q : Record). q.name) (sym (only c s n)) })))

-- ---- one list after the other

pub agree_nothing : (list : List Record) → all_agree list [] ≡ true
agree_nothing list = agree_from list [] (λ r s m n same. absurd (no_member s n))

module _ (list before : List Record) (c : Record) where
  pub agree_more : all_agree list before ≡ true → all_agree list (c ∷ []) ≡ true → all_agree list (before ++ c ∷ []) ≡ true
  agree_more e f = agree_from list (before ++ c ∷ []) (λ r s m n same. elim (append_cases before (c ∷ []) s n) [
    | inl k ↦ agree_at list before e r s m k same
    | inr k ↦ agree_at list (c ∷ []) f r s m k same
  ])

  pub agree_fails : all_agree list (c ∷ []) ≡ false → (after whole : List Record) → before ++ c ∷ after ≡ whole → all_agree list whole ≡ false
  agree_fails apart after whole is = go (all_agree list whole) refl
    where
      go : (b : Bool) → all_agree list whole ≡ b → all_agree list whole ≡ false
      go true e = absurd (
          let yes = agree_from list (c ∷ []) (λ r s m n same. agree_at list whole e r s m (moved s is (same_member (before ++ c ∷ after) (only c s n) (middle_member before after c))) same) in
          cc)
      go false e = e

-- the changes of the other list up to the rest of it agree
pub record HaveAgreed (list other rest : List Record) : Type 0 where
  pub before : List Record
  pub is : before ++ rest ≡ other
  pub agree : all_agree list before ≡ true

pub agreed_none : (list other : List Record) → HaveAgreed list other other
agreed_none list other = record { before = []; is = refl; agree = agree_nothing list }

module _ (list other : List Record) (c : Record) (rest : List Record) (a : HaveAgreed list other (c ∷ rest)) where
  pub agreed_more : all_agree list (c ∷ []) ≡ true → HaveAgreed list other rest
  agreed_more e = record { before = a.before ++ c ∷ []; is = append_assoc a.before (c ∷ []) rest ∙ a.is; agree = agree_more list a.before c a.agree e }

  pub agreed_fails : all_agree list (c ∷ []) ≡ false → all_agree list other ≡ false
  agreed_fails apart = agree_fails list a.before c apart rest other a.is

pub agreed_all : (list other : List Record) → HaveAgreed list other [] → all_agree list other ≡ true
agreed_all list other a = ap (all_agree list) (sym (sym (append-nil a.before) ∙ a.is)) ∙ a.agree

-- what an operation that neither applies nor pulls brings
pub brings_none : (o : Operation (List Record)) → ((a : Arc Record Global) → o ≡ Apply a → ⊥) → ((l : List Record) → o ≡ Pull l → ⊥) → brought_by o ≡ []
brings_none (Apply a) f g = absurd (f a refl)
brings_none (Pull l) f g = absurd (g l refl)
brings_none (Unrecord name) f g = refl
brings_none (Uproot name) f g = refl
