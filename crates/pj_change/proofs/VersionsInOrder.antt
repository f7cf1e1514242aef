-- The surviving versions of a point: at most one list, the same for each list of a set, never none in a lawful set, and how statuses are read from them.
use Rattle.std.proofs.Common.{◌≡◌, ℕ, Bool, true, false, List, refl, sym, ◌∙◌, ap, subst, inl, inr}
use Rattle.std.specs.Prelude.{Contains, ◌⊎◌, ◌↔◌, ◌&&◌, ◌||◌, Some, slice_get}
use Rattle.std.specs.List.{list_any}
use Rattle.std.specs.Cmp.{IsTotalOrder}
use Rattle.std.specs.Cmp.Lexicographic.{options_total}
use Rattle.std.proofs.lemmas.Cmp.{on_total}
use Rattle.std.proofs.lemmas.Bool.{and_parts, and_from, or_right}
use Rattle.std.proofs.lemmas.Option.{slice_get-get_or, same_Some}
use Rattle.pj_name.specs.declared.name.Name.{Name}
use Rattle.pj_name.proofs.Names.{name_cmp-total}
use Rattle.pj_change.specs.declared.point.Point.{Point}
use Rattle.pj_change.specs.declared.hunk.Hunk.{Hunk}
use Rattle.pj_change.specs.declared.hunk.Hunk.TheVariants.{File, Dir, NameOf, Insert, Order, Delete, Revive}
use Rattle.pj_change.specs.declared.version.Version.{Version}
use Rattle.pj_change.specs.declared.version.Version.TheVariants.{Owner, Deleted, Revived}
use Rattle.pj_change.specs.declared.change.Record.{Record}
use Rattle.pj_change.specs.Sets.{HaveSameMembers, HaveOneText}
use Rattle.pj_change.specs.Covers.{covers, is_delete, is_revive, revives}
use Rattle.pj_change.specs.Versions.{survives, deletion_survives, life_survives}
use Rattle.pj_change.specs.Contested.{is_hunk_contested}
use Rattle.pj_change.specs.Status.{is_contested}
use Rattle.pj_change.specs.SurvivingVersions.{SurvivesBy, IsSurvivor, changer, version_cmp, AreSurvivors}
use Rattle.pj_change.proofs.Members.{any_member, passes, member_at}
use Rattle.pj_change.proofs.EqualRecords.{have_one_record}
use Rattle.pj_change.proofs.Listings.{one_list, same_listing}
use Rattle.pj_change.proofs.OneCover.{one_cover}
use Rattle.pj_change.proofs.SameSets.{survives-same, back_again}

-- ---- the list

pub version_total : IsTotalOrder version_cmp
version_total = on_total changer (options_total name_cmp-total)

-- a point has at most one list of surviving versions
pub one_survivors : (S : List Record) (p : Point) (us vs : List Version) → AreSurvivors S p us → AreSurvivors S p vs → us ≡ vs
one_survivors S p us vs a b = one_list version_cmp version_total (IsSurvivor S p) (IsSurvivor S p) (λ v h. h) (λ v h. h) us vs a b

module _ (S T : List Record) (same : HaveSameMembers S T) (p : Point) where
  survives_by-same : (is_kind : Hunk → Bool) (change : Name) (number : ℕ) → SurvivesBy S p is_kind change number → SurvivesBy T p is_kind change number
  survives_by-same is_kind change number s = record {
    by = s.by;
    member = same.there s.by s.member;
    name = s.name;
    hunk = s.hunk;
    there = s.there;
    kind = s.kind;
    covered = s.covered;
    survives_it = sym (survives-same S T same change p) ∙ s.survives_it;
  }

  -- what survives in one list of a set survives in the other
  pub is_survivor-same : (v : Version) → IsSurvivor S p v → IsSurvivor T p v
  is_survivor-same Owner h = sym (survives-same S T same p.change p) ∙ h
  is_survivor-same (Deleted change hunk) h = survives_by-same is_delete change hunk h
  is_survivor-same (Revived change hunk) h = survives_by-same is_revive change hunk h

-- the surviving versions are those of each list of the set
pub survivors-same : (S T : List Record) → HaveSameMembers S T → (p : Point) (vs : List Version) → AreSurvivors S p vs → AreSurvivors T p vs
survivors-same S T same p vs a =
    same_listing version_cmp (IsSurvivor S p) (IsSurvivor T p) (is_survivor-same S T same p) (is_survivor-same T S (back_again S T same) p) vs a

-- ---- one version of each change

module _ (S : List Record) (unique : HaveOneText S) (p : Point) where
  one_by : (is_one is_other : Hunk → Bool) (c d : Name) (k l : ℕ) → c ≡ d → (s : SurvivesBy S p is_one c k) (t : SurvivesBy S p is_other d l) → (k ≡ l) × (s.hunk ≡ t.hunk)
  one_by is_one is_other c d k l e s t =
      let same : s.by ≡ t.by = have_one_record S unique s.by t.by s.member t.member (s.name ∙ e ∙ sym t.name) in
      let there : slice_get s.by.change.hunks l ≡ Some t.hunk = subst (λ (r : Record). slice_get r.change.hunks l ≡ Some t.hunk) (sym same) t.there in
      let covered : covers s.by t.hunk p ≡ true = subst (λ (r : Record). covers r t.hunk p ≡ true) (sym same) t.covered in
      let number : k ≡ l = one_cover s.by p k l s.hunk t.hunk s.there there s.covered covered in
      (number, same_Some s.hunk t.hunk (sym s.there ∙ ap (slice_get s.by.change.hunks) number ∙ there))

  not_of_both : (h : Hunk) → is_delete h ≡ true → is_revive h ≡ true → ⊥
  not_of_both (Delete owner start end by) a b = absurd (cc)
  not_of_both (File parent name exec) a b = absurd (cc)
  not_of_both (Dir parent name) a b = absurd (cc)
  not_of_both (NameOf parent child name exec) a b = absurd (cc)
  not_of_both (Insert file ups downs bytes) a b = absurd (cc)
  not_of_both (Order file source target) a b = absurd (cc)
  not_of_both (Revive owner start end by) a b = absurd (cc)

  of_one : (c d : Name) → Some c ≡ Some d → c ≡ d
  of_one c d e = same_Some c d e

  -- a change has at most one version of a point
  pub one_version : (u v : Version) → IsSurvivor S p u → IsSurvivor S p v → changer u ≡ changer v → u ≡ v
  one_version Owner Owner a b e = refl
  one_version Owner (Deleted d l) a b e = absurd (cc)
  one_version Owner (Revived d l) a b e = absurd (cc)
  one_version (Deleted c k) Owner a b e = absurd (cc)
  one_version (Revived c k) Owner a b e = absurd (cc)
  one_version (Deleted c k) (Deleted d l) a b e = (let n = of_one c d e in let f = one_by is_delete is_delete c d k l n a b in λ i. Deleted (n i) (f.0 i))
  one_version (Revived c k) (Revived d l) a b e = (let n = of_one c d e in let f = one_by is_revive is_revive c d k l n a b in λ i. Revived (n i) (f.0 i))
  one_version (Deleted c k) (Revived d l) a b e = (let f = one_by is_delete is_revive c d k l (of_one c d e) a b in absurd (not_of_both b.hunk (subst (λ h. is_delete h ≡ true) f.1 a.kind) b.kind))
  one_version (Revived c k) (Deleted d l) a b e = (let f = one_by is_revive is_delete c d k l (of_one c d e) a b in absurd (not_of_both a.hunk (subst (λ h. is_delete h ≡ true) (sym f.1) b.kind) a.kind))

-- ---- what is read from them

module _ (S : List Record) (p : Point) where
  -- a version of a kind of hunk survives
  abbrev HasOne : (Hunk → Bool) → Type 0
  HasOne is_kind = (change : Name) × (number : ℕ) × SurvivesBy S p is_kind change number

  found_by : (is_kind : Hunk → Bool) (d : Record) → Contains S d → (h : Hunk) → Contains d.change.hunks h → is_kind h ≡ true → covers d h p ≡ true → survives S d.name p ≡ true → HasOne is_kind
  found_by is_kind d m h (k, low, is) kind covered s =
      (d.name, k, record { by = d; member = m; name = refl; hunk = h; there = slice_get-get_or d.change.hunks k h low ∙ ap Some is; kind = kind; covered = covered; survives_it = s })

  found_one : (is_kind : Hunk → Bool) → list_any (λ d. list_any (λ h. is_kind h && covers d h p) d.change.hunks && survives S d.name p) S ≡ true → HasOne is_kind
  found_one is_kind e =
      let d = passes (λ d. list_any (λ h. is_kind h && covers d h p) d.change.hunks && survives S d.name p) S e in
      let both = and_parts _ _ d.is in
      let h = passes (λ h. is_kind h && covers d.it h p) d.it.change.hunks both.0 in
      let parts = and_parts (is_kind h.it) (covers d.it h.it p) h.is in
      found_by is_kind d.it d.member h.it h.member parts.0 parts.1 both.1

  one_found : (is_kind : Hunk → Bool) → HasOne is_kind → list_any (λ d. list_any (λ h. is_kind h && covers d h p) d.change.hunks && survives S d.name p) S ≡ true
  one_found is_kind (change, number, s) =
      any_member (λ d. list_any (λ h. is_kind h && covers d h p) d.change.hunks && survives S d.name p) S s.by s.member
      (and_from _ _ (any_member (λ h. is_kind h && covers s.by h p) s.by.change.hunks s.hunk (member_at s.by.change.hunks number s.hunk s.there) (and_from _ _ s.kind s.covered))
      (ap (λ n. survives S n p) s.name ∙ s.survives_it))

  -- a deleted version survives
  pub deleted_survivor : (deletion_survives S p ≡ true) ↔ ((change : Name) × (hunk : ℕ) × IsSurvivor S p (Deleted change hunk))
  deleted_survivor = (found_one is_delete, one_found is_delete)

  -- a version that is alive survives
  pub living_survivor : (life_survives S p ≡ true) ↔ (IsSurvivor S p Owner ⊎ ((change : Name) × (hunk : ℕ) × IsSurvivor S p (Revived change hunk)))
  living_survivor = (there (survives S p.change p) refl, back)
    where
      there : (b : Bool) → survives S p.change p ≡ b → life_survives S p ≡ true → IsSurvivor S p Owner ⊎ HasOne is_revive
      there true e h = inl e
      there false e h = inr (found_one is_revive (let k : (false || list_any (λ d. revives d p && survives S d.name p) S) ≡ true = subst (λ b. (b || list_any (λ d. revives d p && survives S d.name p) S) ≡ true) e h in k))

      back : IsSurvivor S p Owner ⊎ HasOne is_revive → life_survives S p ≡ true
      back (inl h) = ap (λ b. b || list_any (λ d. revives d p && survives S d.name p) S) h
      back (inr h) = or_right (survives S p.change p) _ (one_found is_revive h)

module _ (S : List Record) (p : Point) where
  contested_deletes : (d : Record) (h : Hunk) → is_hunk_contested S d h ≡ true → is_delete h ≡ true
  contested_deletes d (Delete owner start end by) e = refl
  contested_deletes d (File parent name exec) e = absurd (cc)
  contested_deletes d (Dir parent name) e = absurd (cc)
  contested_deletes d (NameOf parent child name exec) e = absurd (cc)
  contested_deletes d (Insert file ups downs bytes) e = absurd (cc)
  contested_deletes d (Order file source target) e = absurd (cc)
  contested_deletes d (Revive owner start end by) e = absurd (cc)

  -- a deleted version survives whose hunk is contested
  pub contested_survivor : (is_contested S p ≡ true) ↔ ((change : Name) × (hunk : ℕ) × (s : IsSurvivor S p (Deleted change hunk)) × (is_hunk_contested S s.by s.hunk ≡ true))
  contested_survivor = (there, back)
    where
      there : is_contested S p ≡ true → (change : Name) × (hunk : ℕ) × (s : IsSurvivor S p (Deleted change hunk)) × (is_hunk_contested S s.by s.hunk ≡ true)
      there e =
          let d = passes (λ d. survives S d.name p && list_any (λ h. covers d h p && is_hunk_contested S d h) d.change.hunks) S e in
          let both = and_parts _ _ d.is in
          let h = passes (λ h. covers d.it h p && is_hunk_contested S d.it h) d.it.change.hunks both.1 in
          let parts = and_parts (covers d.it h.it p) (is_hunk_contested S d.it h.it) h.is in
          let k = h.member.0 in
          let at : slice_get d.it.change.hunks k ≡ Some h.it = slice_get-get_or d.it.change.hunks k h.it h.member.1 ∙ ap Some h.member.2 in
          (d.it.name, k, record { by = d.it; member = d.member; name = refl; hunk = h.it; there = at; kind = contested_deletes d.it h.it parts.1; covered = parts.0; survives_it = both.0 }, parts.1)

      back : (change : Name) × (hunk : ℕ) × (s : IsSurvivor S p (Deleted change hunk)) × (is_hunk_contested S s.by s.hunk ≡ true) → is_contested S p ≡ true
      back (change, hunk, s, e) =
          any_member (λ d. survives S d.name p && list_any (λ h. covers d h p && is_hunk_contested S d h) d.change.hunks) S s.by s.member
          (and_from _ _ (ap (λ n. survives S n p) s.name ∙ s.survives_it)
          (any_member (λ h. covers s.by h p && is_hunk_contested S s.by h) s.by.change.hunks s.hunk (member_at s.by.change.hunks hunk s.hunk s.there) (and_from _ _ s.covered e)))
