-- The table of a set with a change, and without it.
use Rattle.std.proofs.Common.{◌≡◌, ◌∙◌, sym, ap, subst, refl, Bool, true, false, not, ◌&&◌, ◌||◌, List, [], ◌∷◌, ◌++◌, inl, inr}
use Rattle.std.specs.Prelude.{Contains, IsTrue, ◌⊎◌, ◌↔◌}
use Rattle.std.proofs.lemmas.List.Folds.{list_any-append}
use Rattle.pj_name.specs.declared.name.Name.{Name}
use Rattle.pj_name.specs.Name.{same_name}
use Rattle.pj_change.specs.declared.change.Record.{Record}
use Rattle.pj_change.specs.Lawful.{is_held}
use Rattle.pj_change.specs.Unrecord.{IsHolder}
use Rattle.pj_change.proofs.EqualNames.{same_name_is, is_same_name}
use Rattle.pj_change.proofs.Members.{no_member, any_member, middle_member, before_member, after_member}
use Rattle.pj_change.proofs.LawfulLists.{middle_cases, append_cases, first_part, second_part}
use Rattle.pj_deps.specs.Dependents.{Dependents, has_change, has_pair, Brings, AreDepsOf}

-- ---- the changes that are held

module _ (before after : List Record) (c : Record) (name : Name) where
  held_middle : is_held (before ++ c ∷ after) name ≡ (is_held before name || (same_name c.name name || is_held after name))
  held_middle = list_any-append (λ r. same_name r.name name) before (c ∷ after)

  held_ends : is_held (before ++ after) name ≡ (is_held before name || is_held after name)
  held_ends = list_any-append (λ r. same_name r.name name) before after

put_last : (a b : Bool) → (a || b) ≡ (b || (a || false))
put_last true true = refl
put_last true false = refl
put_last false true = refl
put_last false false = refl

-- ---- the pairs

own_holder : (S : List Record) (c : Record) (need holder : Name) → Contains S c → Brings c need holder → IsHolder S need holder
own_holder S c need holder m b = record { needing = c; member = m; needs = b.needs; named = b.named }

other_holder : (S T : List Record) (need holder : Name) (h : IsHolder S need holder) → Contains T h.needing → IsHolder T need holder
other_holder S T need holder h m = record { needing = h.needing; member = m; needs = h.needs; named = h.named }

brought : (c r : Record) (need holder : Name) → c ≡ r → Contains r.change.needs need → r.name ≡ holder → Brings c need holder
brought c r need holder same needs named = subst (λ (x : Record). Brings x need holder) (sym same) (record { named = named; needs = needs })

-- ---- with a change

pub deps_with : (c : Record) (old now : Dependents) →
    ((name : Name) → has_change now name ≡ (same_name c.name name || has_change old name)) →
    ((need holder : Name) → IsTrue (has_pair now need holder) ↔ (Brings c need holder ⊎ IsTrue (has_pair old need holder))) →
    (S : List Record) → AreDepsOf S old → AreDepsOf (S ++ c ∷ []) now
deps_with c old now held pairs S d = record {
  held = λ name. held name ∙ ap (λ b. same_name c.name name || b) (d.held name) ∙ put_last (same_name c.name name) (is_held S name) ∙ sym (held_middle S [] c name);
  holders = λ need holder. (there need holder, back need holder);
}
  where
    there : (need holder : Name) → IsTrue (has_pair now need holder) → IsHolder (S ++ c ∷ []) need holder
    there need holder h = elim ((pairs need holder).0 h) [
      | inl b ↦ own_holder (S ++ c ∷ []) c need holder (middle_member S [] c) b
      | inr o ↦ (let k = (d.holders need holder).0 o in other_holder S (S ++ c ∷ []) need holder k (before_member S [] c k.needing k.member))
    ]

    back : (need holder : Name) → IsHolder (S ++ c ∷ []) need holder → IsTrue (has_pair now need holder)
    back need holder h = elim (middle_cases S c [] h.needing h.member) [
      | inl m ↦ (pairs need holder).1 (inr ((d.holders need holder).1 (other_holder (S ++ c ∷ []) S need holder h m)))
      | inr k ↦ elim k [
        | inl same ↦ (pairs need holder).1 (inl (brought c h.needing need holder same h.needs h.named))
        | inr none ↦ absurd (no_member h.needing none)
      ]
    ]

-- ---- without a change

taken_out : (a b c d : Bool) → d ≡ (not a && (b || (a || c))) → (a ≡ true → (b || c) ≡ false) → d ≡ (b || c)
taken_out true b c d e gone = e ∙ sym (gone refl)
taken_out false b c d e gone = e

pub deps_without : (c : Record) (old now : Dependents) →
    ((name : Name) → has_change now name ≡ (not (same_name c.name name) && has_change old name)) →
    ((need holder : Name) → IsTrue (has_pair now need holder) ↔ ((Brings c need holder → ⊥) × IsTrue (has_pair old need holder))) →
    (before after : List Record) → is_held (before ++ after) c.name ≡ false → AreDepsOf (before ++ c ∷ after) old → AreDepsOf (before ++ after) now
deps_without c old now held pairs before after fresh d = record {
  held = λ name.
      taken_out (same_name c.name name) (is_held before name) (is_held after name) (has_change now name)
      (held name ∙ ap (λ b. not (same_name c.name name) && b) (d.held name ∙ held_middle before after c name))
      (λ e. sym (held_ends before after c name) ∙ ap (is_held (before ++ after)) (sym (same_name_is c.name name e)) ∙ fresh)
      ∙ sym (held_ends before after c name);
  holders = λ need holder. (there need holder, back need holder);
}
  where
    there : (need holder : Name) → IsTrue (has_pair now need holder) → IsHolder (before ++ after) need holder
    there need holder h =
        let k = (pairs need holder).0 h in
        let old_holder = (d.holders need holder).0 k.1 in
        elim (middle_cases before c after old_holder.needing old_holder.member) [
          | inl m ↦ other_holder (before ++ c ∷ after) (before ++ after) need holder old_holder (first_part before after old_holder.needing m)
          | inr l ↦ elim l [
            | inl same ↦ absurd (k.0 (brought c old_holder.needing need holder same old_holder.needs old_holder.named))
            | inr m ↦ other_holder (before ++ c ∷ after) (before ++ after) need holder old_holder (second_part before after old_holder.needing m)
          ]
        ]

    not_brought : (need holder : Name) → IsHolder (before ++ after) need holder → Brings c need holder → ⊥
    not_brought need holder h b =
        let same : same_name h.needing.name c.name ≡ true = is_same_name h.needing.name c.name (h.named ∙ sym b.named) in
        let there : is_held (before ++ after) c.name ≡ true = any_member (λ r. same_name r.name c.name) (before ++ after) h.needing h.member same in
        let f : true ≡ false = sym there ∙ fresh in
        cc

    back : (need holder : Name) → IsHolder (before ++ after) need holder → IsTrue (has_pair now need holder)
    back need holder h =
        let wider : Contains (before ++ c ∷ after) h.needing = elim (append_cases before after h.needing h.member) [
          | inl m ↦ before_member before after c h.needing m
          | inr m ↦ after_member before after c h.needing m
        ] in
        (pairs need holder).1 (not_brought need holder h, (d.holders need holder).1 (other_holder (before ++ after) (before ++ c ∷ after) need holder h wider))
