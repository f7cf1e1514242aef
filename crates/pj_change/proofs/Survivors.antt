-- In a lawful set each point has a surviving version.
use Rattle.std.proofs.Common.{◌≡◌, List, [], ◌∷◌, ◌++◌, refl, sym, ◌∙◌, ap, subst, inl, inr, Bool, true, false, append_assoc}
use Rattle.std.specs.Prelude.{Contains, ◌⊎◌, not, ◌&&◌, ◌||◌}
use Rattle.std.specs.List.{list_any}
use Rattle.pj_name.specs.declared.name.Name.{Name}
use Rattle.pj_name.specs.Name.{same_name}
use Rattle.pj_change.specs.declared.point.Point.{Point}
use Rattle.pj_change.specs.declared.change.Record.{Record}
use Rattle.pj_change.specs.Positions.{numbered}
use Rattle.pj_change.specs.Covers.{covers, by_of, touches}
use Rattle.pj_change.specs.Lawful.{is_held, IsLawful, IsLawfulSet}
use Rattle.pj_change.specs.Versions.{has_version, overrules, survives}
use Rattle.pj_change.proofs.Members.{same_member, moved, any_member, passes, none_member, all_member, splits, before_member, middle_member}
use Rattle.pj_change.proofs.EqualNames.{same_name_is, name_itself}
use Rattle.pj_change.proofs.SameSets.{survives-same, has_version-same}
use Rattle.pj_change.proofs.NeedNumbers.{by_number, numbered_need}
use Rattle.std.proofs.lemmas.Bool.{and_parts, or_right, and_from}
use Rattle.pj_change.proofs.LawfulLists.{middle_cases, fewer_held}

-- a version that survives
pub record Survivor (S : List Record) (p : Point) : Type 0 where
  pub name : Name
  pub version : has_version S name p ≡ true
  pub is : survives S name p ≡ true

-- the last change of a list that touches the point
pub record LastTouch (list : List Record) (p : Point) : Type 0 where
  pub before : List Record
  pub it : Record
  pub after : List Record
  pub is : list ≡ before ++ it ∷ after
  pub touches_it : touches it p ≡ true
  pub none_after : list_any (λ d. touches d p) after ≡ false

-- a change touches the point last, or none does
pub last_touch : (list : List Record) (p : Point) → (list_any (λ d. touches d p) list ≡ false) ⊎ LastTouch list p
last_touch [] p = inl refl
last_touch (r ∷ list) p = elim (last_touch list p) [
  | inl n ↦ here n (touches r p) refl
  | inr l ↦ inr (record { before = r ∷ l.before; it = l.it; after = l.after; is = ap (λ k. r ∷ k) l.is; touches_it = l.touches_it; none_after = l.none_after })
]
  where
    here : list_any (λ d. touches d p) list ≡ false → (b : Bool) → touches r p ≡ b → (list_any (λ d. touches d p) (r ∷ list) ≡ false) ⊎ LastTouch (r ∷ list) p
    here n true h = inr (record { before = []; it = r; after = list; is = refl; touches_it = h; none_after = n })
    here n false h = inl (rw h n)

-- what overrules a version touches the point, and needs the change of the version
pub record Overrules (list : List Record) (name : Name) (p : Point) : Type 0 where
  pub it : Record
  pub member : Contains list it
  pub touches_it : touches it p ≡ true
  pub needs : Contains it.change.needs name

-- a version that does not survive is overruled
pub overruled : (list : List Record) (name : Name) (p : Point) → list_any (λ d. list_any (overrules d name p) d.change.hunks) list ≡ true → Overrules list name p
overruled list name p e =
    let d = passes (λ d. list_any (overrules d name p) d.change.hunks) list e in
    let h = passes (overrules d.it name p) d.it.change.hunks d.is in
    let c : covers d.it h.it p ≡ true = (and_parts _ _ h.is).0 in
    let k = passes (λ k. same_name (numbered d.it k) name) (by_of h.it) (and_parts _ _ h.is).1 in
    let n = numbered_need d.it k.it (by_number d.it h.it h.member k.it k.member) in
    record {
      it = d.it;
      member = d.member;
      touches_it = any_member (λ h. covers d.it h p) d.it.change.hunks h.it h.member c;
      needs = same_member d.it.change.needs (same_name_is (numbered d.it k.it) name k.is) n;
    }

-- what nothing overrules survives
pub not_overruled : (list : List Record) (name : Name) (p : Point) → (Overrules list name p → ⊥) → survives list name p ≡ true
not_overruled list name p f = go (list_any (λ d. list_any (overrules d name p) d.change.hunks) list) refl
  where
    go : (b : Bool) → list_any (λ d. list_any (overrules d name p) d.change.hunks) list ≡ b → survives list name p ≡ true
    go true h = absurd (f (overruled list name p h))
    go false h = ap not h

-- a name is not held and not missing at once
pub held_and_fresh : (list : List Record) (name : Name) → is_held list name ≡ true → is_held list name ≡ false → ⊥
held_and_fresh list name e f = cc

module _ (list : List Record) (lawful : IsLawful list) (p : Point) where
  -- where no change touches the point, nothing overrules its owner
  pub owner_survives : list_any (λ d. touches d p) list ≡ false → Survivor list p
  owner_survives n = record {
    name = p.change;
    version = ap (λ b. b || list_any (λ d. same_name d.name p.change && touches d p) list) (name_itself p.change);
    is = not_overruled list p.change p (λ o. (let e : touches o.it p ≡ false = none_member (λ d. touches d p) list o.it n o.member in let f = o.touches_it in cc));
  }

  module _ (l : LastTouch list p) where
    by_earlier : (o : Overrules list l.it.name p) → Contains l.before o.it → ⊥
    by_earlier o m =
        let s = splits l.before o.it m in
        let whole : list ≡ s.before ++ o.it ∷ (s.after ++ l.it ∷ l.after) = l.is ∙ ap (λ k. k ++ l.it ∷ l.after) s.is ∙ append_assoc s.before (o.it ∷ s.after) (l.it ∷ l.after) in
        let f = lawful s.before o.it (s.after ++ l.it ∷ l.after) whole in
        let held = all_member (is_held s.before) o.it.change.needs l.it.name f.needs o.needs in
        let fresh = fewer_held s.before l.before l.it.name (λ r n. moved r (sym s.is) (before_member s.before s.after o.it r n)) (lawful l.before l.it l.after l.is).fresh in
        held_and_fresh s.before l.it.name held fresh

    by_itself : (o : Overrules list l.it.name p) → l.it ≡ o.it → ⊥
    by_itself o e =
        let f = lawful l.before l.it l.after l.is in
        let needs : Contains l.it.change.needs l.it.name = subst (λ (r : Record). Contains r.change.needs l.it.name) (sym e) o.needs in
        held_and_fresh l.before l.it.name (all_member (is_held l.before) l.it.change.needs l.it.name f.needs needs) f.fresh

    by_later : (o : Overrules list l.it.name p) → Contains l.after o.it → ⊥
    by_later o m = (let e : touches o.it p ≡ false = none_member (λ d. touches d p) l.after o.it l.none_after m in let f = o.touches_it in cc)

    -- nothing overrules the last change that touches the point
    pub last_survives : Survivor list p
    last_survives = record {
      name = l.it.name;
      version = or_right (same_name l.it.name p.change) (list_any (λ d. same_name d.name l.it.name && touches d p) list)
          (any_member (λ d. same_name d.name l.it.name && touches d p) list l.it (moved l.it (sym l.is) (middle_member l.before l.after l.it))
          (and_from (same_name l.it.name l.it.name) (touches l.it p) (name_itself l.it.name) l.touches_it));
      is = not_overruled list l.it.name p (λ o. elim (middle_cases l.before l.it l.after o.it (moved o.it l.is o.member)) [
        | inl b ↦ by_earlier o b
        | inr t ↦ elim t [ inl e ↦ by_itself o e | inr a ↦ by_later o a ]
      ]);
    }

  -- in a lawful list each point has a version that survives
  pub list_survivor : Survivor list p
  list_survivor = elim (last_touch list p) [ inl n ↦ owner_survives n | inr l ↦ last_survives l ]

-- in a lawful set each point has a version that survives
pub survivor : (S : List Record) → IsLawfulSet S → (p : Point) → Survivor S p
survivor S set p =
    let s = list_survivor set.list set.lawful p in
    record { name = s.name; version = sym (has_version-same set.list S set.same s.name p) ∙ s.version; is = sym (survives-same set.list S set.same s.name p) ∙ s.is }
