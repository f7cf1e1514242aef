-- The keys of both maps, and what is found after a change is put in or taken out.
use Rattle.std.proofs.Common.{◌≡◌, ◌∙◌, sym, ap, subst, refl, Bool, true, false, not, ◌&&◌, ◌||◌, map, inl, inr}
use Rattle.std.specs.Prelude.{Contains, ◌⊎◌, ◌↔◌}
use Rattle.std.specs.Cmp.{IsTotalOrder, Equal-is}
use Rattle.std.specs.Ordering.{is_eq, ordering_then}
use Rattle.std.specs.declared.cmp.Ordering.{Ordering}
use Rattle.std.specs.declared.cmp.Ordering.TheVariants.{Less, Equal, Greater}
use Rattle.std.proofs.lemmas.Cmp.{on_total, then_total, tied_itself}
use Rattle.pj_name.specs.declared.name.Name.{Name}
use Rattle.pj_name.specs.Name.{name_cmp}
use Rattle.pj_name.proofs.Names.{name_cmp-total}
use Rattle.pj_change.specs.declared.change.Record.{Record}
use Rattle.pj_change.proofs.EqualNames.{name_tied}
use Rattle.pj_change.proofs.Members.{passes, any_member}
use Rattle.pj_change.proofs.PickedMembers.{image, mapped}
use Rattle.pj_rows.specs.Keys.{is_among}
use Rattle.pj_deps.specs.declared.keys.HeldName.{HeldName}
use Rattle.pj_deps.specs.declared.keys.HeldBy.{HeldBy}
use Rattle.pj_deps.specs.Dependents.{held_cmp, holder_cmp, pair, Brings}

pub held_total : IsTotalOrder held_cmp
held_total = on_total (λ (k : HeldName). k.name) name_cmp-total

pub holder_total : IsTotalOrder holder_cmp
holder_total = then_total (on_total (λ (k : HeldBy). k.need) name_cmp-total) (on_total (λ (k : HeldBy). k.holder) name_cmp-total)

-- pairs of one need are ordered by the change
pub of_one_need : (need m n : Name) → holder_cmp (pair need m) (pair need n) ≡ name_cmp m n
of_one_need need m n = ap (λ o. ordering_then o (name_cmp m n)) (tied_itself name_cmp-total need)

-- pairs that the order does not tell apart are one
holder_tied : (k l : HeldBy) → holder_cmp k l ≡ Equal → (k.need ≡ l.need) × (k.holder ≡ l.holder)
holder_tied k l e = by (name_cmp k.need l.need) refl
  where
    by : (o : Ordering) → name_cmp k.need l.need ≡ o → (k.need ≡ l.need) × (k.holder ≡ l.holder)
    by Less h = absurd (let f : holder_cmp k l ≡ Less = ap (λ o. ordering_then o (name_cmp k.holder l.holder)) h in cc)
    by Greater h = absurd (let f : holder_cmp k l ≡ Greater = ap (λ o. ordering_then o (name_cmp k.holder l.holder)) h in cc)
    by Equal h = (name_tied _ _ h, name_tied _ _ (sym (ap (λ o. ordering_then o (name_cmp k.holder l.holder)) h) ∙ e))

-- ---- the pairs of a change

module _ (c : Record) where
  abbrev pub own_pair : Name → HeldBy
  own_pair need = pair need c.name

  pub among_brings : (need holder : Name) → is_among holder_cmp (pair need holder) (map own_pair c.change.needs) ≡ true → Brings c need holder
  among_brings need holder h =
      let found = passes (λ k. is_eq (holder_cmp (pair need holder) k)) (map own_pair c.change.needs) h in
      let from = image own_pair c.change.needs found.it found.member in
      let ties : holder_cmp (pair need holder) (own_pair from.it) ≡ Equal = ap (holder_cmp (pair need holder)) from.is ∙ (Equal-is _).0 found.is in
      let same = holder_tied (pair need holder) (own_pair from.it) ties in
      record { named = sym same.1; needs = subst (Contains c.change.needs) (sym same.0) from.member }

  pub brings_among : (need holder : Name) → Brings c need holder → is_among holder_cmp (pair need holder) (map own_pair c.change.needs) ≡ true
  brings_among need holder b =
      any_member (λ k. is_eq (holder_cmp (pair need holder) k)) (map own_pair c.change.needs) (own_pair need) (mapped own_pair c.change.needs need b.needs)
      (ap (λ n. is_eq (holder_cmp (pair need n) (pair need c.name))) (sym b.named) ∙ ap is_eq (tied_itself holder_total (pair need c.name)))

  -- a pair is found where the change brings it, or it was there
  pub found_with : (need holder : Name) (now old : Bool) → now ≡ (is_among holder_cmp (pair need holder) (map own_pair c.change.needs) || old) →
      (now ≡ true) ↔ (Brings c need holder ⊎ (old ≡ true))
  found_with need holder now old e = by (is_among holder_cmp (pair need holder) (map own_pair c.change.needs)) refl
    where
      by : (b : Bool) → is_among holder_cmp (pair need holder) (map own_pair c.change.needs) ≡ b → (now ≡ true) ↔ (Brings c need holder ⊎ (old ≡ true))
      by true h = (λ k. inl (among_brings need holder h), λ k. e ∙ ap (λ b. b || old) h)
      by false h =
          let same : now ≡ old = e ∙ ap (λ b. b || old) h in (
            λ k. inr (sym same ∙ k),
            λ k. elim k [
              | inl b ↦ absurd (let t = brings_among need holder b in let f : true ≡ false = sym t ∙ h in cc)
              | inr o ↦ same ∙ o
            ],
          )

  -- a pair is found where the change does not bring it, and it was there
  pub found_without : (need holder : Name) (now old : Bool) → now ≡ (not (is_among holder_cmp (pair need holder) (map own_pair c.change.needs)) && old) →
      (now ≡ true) ↔ ((Brings c need holder → ⊥) × (old ≡ true))
  found_without need holder now old e = by (is_among holder_cmp (pair need holder) (map own_pair c.change.needs)) refl
    where
      by : (b : Bool) → is_among holder_cmp (pair need holder) (map own_pair c.change.needs) ≡ b → (now ≡ true) ↔ ((Brings c need holder → ⊥) × (old ≡ true))
      by true h =
          let gone : now ≡ false = e ∙ ap (λ b. not b && old) h in
          (λ k. absurd (let f : true ≡ false = sym k ∙ gone in cc), λ k. absurd (k.0 (among_brings need holder h)))
      by false h =
          let same : now ≡ old = e ∙ ap (λ b. not b && old) h in
          (λ k. (λ b. (let t = brings_among need holder b in let f : true ≡ false = sym t ∙ h in cc), sym same ∙ k), λ k. same ∙ k.1)

-- ---- tests of names
