-- A set with a change and its inverse: who needs whom, and what the inverse touches.
use Rattle.std.proofs.Common.{◌≡◌, ℕ, List, [], ◌∷◌, refl, sym, ◌∙◌, ap, inl, inr, Bool, true, false}
use Rattle.std.specs.Prelude.{Contains, ◌⊎◌}
use Rattle.std.specs.List.{list_any}
use Rattle.std.specs.Cmp.{both_ways}
use Rattle.std.proofs.lemmas.Bool.{and_parts}
use Rattle.pj_name.specs.declared.name.Name.{Name}
use Rattle.pj_change.specs.declared.point.Point.{Point}
use Rattle.pj_change.specs.declared.hunk.Hunk.{Hunk}
use Rattle.pj_change.specs.declared.hunk.Hunk.TheVariants.{Delete, Revive}
use Rattle.pj_change.specs.declared.change.Record.{Record}
use Rattle.pj_change.specs.Positions.{numbered}
use Rattle.pj_change.specs.Covers.{is_within, covers, touches}
use Rattle.pj_change.specs.Lawful.{is_held, IsLawfulSet}
use Rattle.pj_change.proofs.Members.{uncons, same_member, moved, all_member, any_member, passes, splits, before_member, later_member}
use Rattle.pj_change.proofs.EqualNames.{same_name_is}
use Rattle.pj_change.proofs.EqualRecords.{have_one_record}
use Rattle.pj_change.proofs.LawfulLists.{IsRecord, held, not_record}
use Rattle.pj_change.proofs.NeedNumbers.{delete_owner, numbered_need}
use Rattle.pj_inverse.specs.Undone.{IsUndoing}
use Rattle.pj_inverse.proofs.InverseHunks.{IsOwnDeletion, IsRevival, inverse_hunk}

-- ---- needs in a lawful set

-- what a change of a lawful set needs is another change of it, which is there
pub needs_held : (S : List Record) → IsLawfulSet S → (d : Record) → Contains S d → (n : Name) → Contains d.change.needs n → (r : Record) × IsRecord S n r
needs_held S set d m n need =
    let s = splits set.list d (set.same.back d m) in
    let follows = set.lawful s.before d s.after s.is in
    let h = held s.before n (all_member (is_held s.before) d.change.needs n follows.needs need) in
    (h.0, record { member = set.same.there h.0 (moved h.0 (sym s.is) (before_member s.before s.after d h.0 h.1.member)); named = h.1.named })

-- no change of a lawful set needs itself
pub not_needed_by_itself : (S : List Record) → IsLawfulSet S → (d : Record) → Contains S d → Contains d.change.needs d.name → ⊥
not_needed_by_itself S set d m need =
    let s = splits set.list d (set.same.back d m) in
    let follows = set.lawful s.before d s.after s.is in
    let h : is_held s.before d.name ≡ true = all_member (is_held s.before) d.change.needs d.name follows.needs need in
    let f = follows.fresh in
    cc

-- ---- tests of a set

module _ (S : List Record) (c v : Record) (u : IsUndoing S c v) where
  -- a change of S of the name of c is c
  pub it_is : (r : Record) → Contains S r → r.name ≡ c.name → r ≡ c
  it_is r m e = have_one_record (v ∷ S) u.one_text r c (later_member v S r m) (later_member v S c u.member) e

  -- no change of S has the name of v
  pub not_new : (r : Record) → Contains S r → r.name ≡ v.name → ⊥
  not_new r m e = not_record S v.name u.fresh r (record { member = m; named = e })

  -- a need of a change of S is not v
  pub new_not_needed : (d : Record) → Contains S d → Contains d.change.needs v.name → ⊥
  new_not_needed d m need = (let h = needs_held S u.lawful d m v.name need in not_new h.0 h.1.member h.1.named)

  -- what c deletes of is another change
  pub of_another : (owner start end : ℕ) (by : List ℕ) → Contains c.change.hunks (Delete owner start end by) → numbered c owner ≡ c.name → ⊥
  of_another owner start end by m e =
      not_needed_by_itself S u.lawful c u.member (same_member c.change.needs e (numbered_need c owner (delete_owner c owner start end by m)))

  -- ---- what v touches

  -- a point of another change that a hunk of v covers is one that c deletes
  covered : (p : Point) → (p.change ≡ c.name → ⊥) → (g : Hunk) → IsOwnDeletion c v g ⊎ IsRevival c v g → covers v g p ≡ true → touches c p ≡ true
  covered p other g (inl d) e =
      let at : covers v (Delete d.number d.start d.end (d.number ∷ [])) p ≡ true = ap (λ h. covers v h p) (sym d.is) ∙ e in
      let name = same_name_is (numbered v d.number) p.change (and_parts _ _ (and_parts _ _ at).0).0 in
      absurd (other (sym name ∙ d.named))
  covered p other g (inr r) e =
      let at : covers v (Revive r.number r.start r.end (r.itself ∷ [])) p ≡ true = ap (λ h. covers v h p) (sym r.is) ∙ e in
      let there : covers c (Delete r.owner r.start r.end (r.owner ∷ [])) p ≡ true = ap (λ n. is_within n r.start r.end p) (sym r.named) ∙ at in
      any_member (λ h. covers c h p) c.change.hunks (Delete r.owner r.start r.end (r.owner ∷ [])) r.deletes_it there

  -- v touches no point of another change that c does not touch
  pub new_covers_none : (p : Point) → (p.change ≡ c.name → ⊥) → touches c p ≡ false → (g : Hunk) → Contains v.change.hunks g → covers v g p ≡ false
  new_covers_none p other none g m = go (covers v g p) refl
    where
      go : (b : Bool) → covers v g p ≡ b → covers v g p ≡ false
      go true e = (let t = covered p other g (inverse_hunk c v u.inverse g m) e in absurd (cc))
      go false e = e

  -- ---- a test of S with v, and of S without c

  module _ (T : List Record) (there : (r : Record) → Contains T r → Contains S r × (r.name ≡ c.name → ⊥)) (back : (r : Record) → Contains S r × (r.name ≡ c.name → ⊥) → Contains T r) where
    -- they answer alike where v and c do not pass
    pub any_without : (q : Record → Bool) → q v ≡ false → q c ≡ false → list_any q (v ∷ S) ≡ list_any q T
    any_without q no_v no_c = both_ways (list_any q (v ∷ S)) (list_any q T) (λ e. down (passes q (v ∷ S) e).it (passes q (v ∷ S) e).member (passes q (v ∷ S) e).is)
        (λ e. up (passes q T e).it (passes q T e).member (passes q T e).is)
      where
        other : (r : Record) → Contains S r → q r ≡ true → r.name ≡ c.name → ⊥
        other r m e same = (let k : q r ≡ false = ap q (it_is r m same) ∙ no_c in cc)

        down : (r : Record) → Contains (v ∷ S) r → q r ≡ true → list_any q T ≡ true
        down r m e = elim (uncons v S r m) [
          | inl same ↦ absurd (let k : q r ≡ false = ap q (sym same) ∙ no_v in cc)
          | inr n ↦ any_member q T r (back r (n, other r n e)) e
        ]

        up : (r : Record) → Contains T r → q r ≡ true → list_any q (v ∷ S) ≡ true
        up r m e = any_member q (v ∷ S) r (later_member v S r (there r m).0) e
