-- The bytes and names of a change, where it stands with its inverse: each is dead.
use Rattle.std.proofs.Common.{◌≡◌, ℕ, suc, zero, ◌+◌, ◌<◌, ◌≤◌, List, [], ◌∷◌, take, length, refl, sym, ◌∙◌, ap, subst, inl, inr, Bool, true, false, arith}
use Rattle.std.specs.Prelude.{Contains, ◌⊎◌, not, ◌&&◌, slice_get, Option, Some, None, sum_by, option_and_then}
use Rattle.std.specs.Option.{option_map}
use Rattle.std.specs.List.{list_any}
use Rattle.std.proofs.lemmas.Bool.{and_parts, and_from, or_left, le-leb, lt-ltb}
use Rattle.std.proofs.lemmas.Option.{slice_get_read, same_Some}
use Rattle.pj_name.specs.declared.name.Name.{Name}
use Rattle.pj_name.specs.Name.{same_name}
use Rattle.pj_change.specs.declared.point.Point.{Point}
use Rattle.pj_change.specs.declared.hunk.Hunk.{Hunk}
use Rattle.pj_change.specs.declared.hunk.Hunk.TheVariants.{File, Dir, NameOf, Insert, Order, Delete, Revive}
use Rattle.pj_change.specs.declared.kind.Kind.{Kind}
use Rattle.pj_change.specs.declared.kind.Kind.TheVariants.{NameAt, FileInode, DirInode, Text}
use Rattle.pj_change.specs.declared.kind.Deleted.TheVariants as deleted
use Rattle.pj_change.specs.declared.graph.Status.TheVariants.{Dead}
use Rattle.pj_change.specs.declared.change.Record.{Record}
use Rattle.pj_change.specs.Rules.{position_count}
use Rattle.pj_change.specs.Positions.{numbered, place, kind_at, kind_in, child_of}
use Rattle.pj_change.specs.Parts.{knows}
use Rattle.pj_change.specs.Covers.{covers, is_delete, is_revive, deletes, revives}
use Rattle.pj_change.specs.Versions.{overrules, survives, deletion_survives, life_survives}
use Rattle.pj_change.specs.Contested.{contests, opposes, deleted_by, deleted_at, is_range_contested, is_hunk_contested, are_strangers}
use Rattle.pj_change.specs.Status.{is_contested, status_of}
use Rattle.pj_change.specs.Inverse.{DeletesOwn, Undoes, IsInverseNeed}
use Rattle.pj_change.specs.Inverse.IsInverseNeed.{itself, deleted}
use Rattle.pj_change.proofs.Members.{uncons, same_member, any_member, none_passes, first_member}
use Rattle.pj_change.proofs.EqualNames.{same_name_is, is_same_name, name_itself}
use Rattle.pj_change.proofs.NeedNumbers.{delete_owner, numbered_need}
use Rattle.pj_change.proofs.OneCover.{one_cover}
use Rattle.pj_change.proofs.Survivors.{not_overruled}
use Rattle.pj_change.proofs.PositionLemmas.{kind_at_first}
use Rattle.pj_inverse.specs.Undone.{IsUndoing, IsOther, IsOwnPoint, IsUndisturbed}
use Rattle.pj_inverse.proofs.InverseHunks.{IsOwnDeletion, IsRevival, inverse_hunk, none_revived, number_means, undone_at}
use Rattle.pj_inverse.proofs.StandingHunks.{stands}
use Rattle.pj_inverse.proofs.Undoing.{it_is, not_new, new_not_needed, of_another}
use Rattle.pj_inverse.proofs.OtherPoints.{covers_none, and_false, false_and, revives_none, new_opposes_none}

-- ---- statuses

pub dead : (S : List Record) (p : Point) → deletion_survives S p ≡ true → life_survives S p ≡ false → is_contested S p ≡ false → status_of S p ≡ Dead
unfolding status_of
dead S p d l k = rw (d, l, k) refl

-- ---- the hunk that deletes a byte or a name

-- a byte or a name
abbrev pub IsByteOrName : Kind → Type 0
IsByteOrName (Text hunk first past) = Unit {0}
IsByteOrName (NameAt hunk) = Unit {0}
IsByteOrName (FileInode hunk) = ⊥
IsByteOrName (DirInode hunk) = ⊥

-- v deletes these positions of c, and no other change contests that
pub record IsDeletedRange (S : List Record) (c v : Record) (offset : ℕ) : Type 0 where
  pub number : ℕ
  pub start : ℕ
  pub end : ℕ
  pub member : Contains v.change.hunks (Delete number start end (number ∷ []))
  pub named : numbered v number ≡ c.name
  pub low : start ≤ offset
  pub high : offset < end
  pub free : (i : Record) → IsOther S c i → (h : Hunk) → Contains i.change.hunks h → contests i c.name start end (deleted_at c start) h ≡ false

range_of : (S : List Record) (c v : Record) (start end offset : ℕ) (g : Hunk) → Contains v.change.hunks g → DeletesOwn c v.change.needs start end g → start ≤ offset → offset < end →
    ((i : Record) → IsOther S c i → (h : Hunk) → Contains i.change.hunks h → contests i c.name start end (deleted_at c start) h ≡ false) → IsDeletedRange S c v offset
range_of S c v start end offset g m u low high free = record {
  number = u.0;
  start = start;
  end = end;
  member = same_member v.change.hunks u.2 m;
  named = number_means v c.name u.0 u.1;
  low = low;
  high = high;
  free = free;
}

module _ (S : List Record) (c v : Record) (free : IsUndisturbed S c) (number : ℕ) where
  -- what a deletion of a name deletes
  name_free : (h : Hunk) → slice_get c.change.hunks number ≡ Some h → 0 < position_count h → kind_in number (place c.change.hunks number) h 0 ≡ NameAt number →
      (end : ℕ) (i : Record) → IsOther S c i → (k : Hunk) → Contains i.change.hunks k →
      contests i c.name (place c.change.hunks number) end (deleted_at c (place c.change.hunks number)) k ≡ false
  name_free h there some is end i other k m =
      let start = place c.change.hunks number in
      let at : kind_at c.change.hunks start ≡ Some (NameAt number) = kind_at_first c.change.hunks number h there some ∙ ap Some is in
      let what : deleted_at c start ≡ option_map deleted.NameOf (child_of c start h) =
      ap (deleted_by c start) at ∙ ap (λ o. option_map deleted.NameOf (option_and_then (child_of c start) o)) there in
      ap (λ w. contests i c.name start end w k) what ∙ by_child (child_of c start h) refl
    where
      by_child : (o : Option _) → child_of c (place c.change.hunks number) h ≡ o → contests i c.name (place c.change.hunks number) end (option_map deleted.NameOf (child_of c (place c.change.hunks number) h)) k ≡ false
      by_child None e = ap (λ w. contests i c.name (place c.change.hunks number) end (option_map deleted.NameOf w) k) e
      by_child (Some child) e =
          ap (λ w. contests i c.name (place c.change.hunks number) end (option_map deleted.NameOf w) k) e ∙ free.no_bases i other k m child (inr (number, h, there, e))

  text_free : (file : _) (ups downs : _) (bytes : List ℕ) → slice_get c.change.hunks number ≡ Some (Insert file ups downs bytes) → 0 < length bytes →
      (i : Record) → IsOther S c i → (k : Hunk) → Contains i.change.hunks k →
      contests i c.name (place c.change.hunks number) (place c.change.hunks number + length bytes) (deleted_at c (place c.change.hunks number)) k ≡ false
  text_free file ups downs bytes there some i other k m =
      let start = place c.change.hunks number in
      let what : deleted_at c start ≡ Some deleted.Text = ap (deleted_by c start) (kind_at_first c.change.hunks number (Insert file ups downs bytes) there some) in
      ap (λ w. contests i c.name start (start + length bytes) w k) what ∙ free.no_ups i other k m number file ups downs bytes there

  -- the deletion of the hunk in which the byte or name stands
  range_by : (h : Hunk) → slice_get c.change.hunks number ≡ Some h → (within : ℕ) → within < position_count h → IsByteOrName (kind_in number (place c.change.hunks number) h within) →
      (g : Hunk) → Contains v.change.hunks g → Undoes c v.change.needs (place c.change.hunks number) h g → IsDeletedRange S c v (place c.change.hunks number + within)
  range_by (File parent name exec) there zero low is g m u =
      range_of S c v (place c.change.hunks number) (place c.change.hunks number + 1) (place c.change.hunks number + 0) g m u (omega arith) (omega arith)
      (name_free (File parent name exec) there (omega arith) refl (place c.change.hunks number + 1))
  range_by (File parent name exec) there (suc within) low is g m u = absurd is
  range_by (Dir parent name) there zero low is g m u =
      range_of S c v (place c.change.hunks number) (place c.change.hunks number + 1) (place c.change.hunks number + 0) g m u (omega arith) (omega arith)
      (name_free (Dir parent name) there (omega arith) refl (place c.change.hunks number + 1))
  range_by (Dir parent name) there (suc within) low is g m u = absurd is
  range_by (NameOf parent child name exec) there within low is g m u =
      range_of S c v (place c.change.hunks number) (place c.change.hunks number + 1) (place c.change.hunks number + within) g m u (omega arith) (omega (arith, low))
      (name_free (NameOf parent child name exec) there (omega arith) refl (place c.change.hunks number + 1))
  range_by (Insert file ups downs bytes) there within low is g m u =
      range_of S c v (place c.change.hunks number) (place c.change.hunks number + length bytes) (place c.change.hunks number + within) g m u (omega arith) (omega (arith, low))
      (text_free file ups downs bytes there (omega (arith, low)))
  range_by (Order file source target) there within low is g m u = absurd u
  range_by (Delete owner start end by) there within low is g m u = absurd (omega (arith, low))
  range_by (Revive owner start end by) there within low is g m u = absurd u

-- each byte or name of c is in a range that v deletes
pub deleted_range : (S : List Record) (c v : Record) → IsUndoing S c v → IsUndisturbed S c → (offset : ℕ) (kind : Kind) → kind_at c.change.hunks offset ≡ Some kind → IsByteOrName kind →
    IsDeletedRange S c v offset
deleted_range S c v u free offset kind e is =
    let s = stands c.change.hunks offset kind e in
    let undone = undone_at c v u.inverse s.number s.hunk s.there in
    let number_is : 0 + s.number ≡ s.number = omega arith in
    let first_is : 0 + sum_by position_count (take s.number c.change.hunks) ≡ place c.change.hunks s.number = omega arith in
    let kind_is : kind_in s.number (place c.change.hunks s.number) s.hunk s.within ≡ kind =
    subst (λ n. kind_in n (place c.change.hunks s.number) s.hunk s.within ≡ kind) number_is (subst (λ n. kind_in (0 + s.number) n s.hunk s.within ≡ kind) first_is s.kind_is) in
    let range = range_by S c v free s.number s.hunk s.there s.within s.low (subst (λ (k : Kind). IsByteOrName k) (sym kind_is) is) undone.hunk undone.member undone.undoes in
    subst (IsDeletedRange S c v) (sym s.at_is) range

module _ (S : List Record) (c v : Record) (u : IsUndoing S c v) (free : IsUndisturbed S c) (p : Point) (point : IsOwnPoint c p) (range : IsDeletedRange S c v p.offset) where
  own : p.change ≡ c.name
  own = point.owner

  abbrev deletion : Hunk
  deletion = Delete range.number range.start range.end (range.number ∷ [])

  covering : covers v deletion p ≡ true
  covering =
      and_from _ _ (and_from _ _ (is_same_name (numbered v range.number) p.change (range.named ∙ sym own)) (le-leb range.start p.offset range.low)) (lt-ltb p.offset range.end range.high)

  -- ---- who touches it

  c_none : (h : Hunk) → Contains c.change.hunks h → covers c h p ≡ false
  c_none (Delete owner start end by) m = go (covers c (Delete owner start end by) p) refl
    where
      go : (b : Bool) → covers c (Delete owner start end by) p ≡ b → covers c (Delete owner start end by) p ≡ false
      go true e = absurd (of_another S c v u owner start end by m (same_name_is (numbered c owner) p.change (and_parts _ _ (and_parts _ _ e).0).0 ∙ own))
      go false e = e
  c_none (Revive owner start end by) m = absurd (none_revived c v u.inverse owner start end by m)
  c_none (File parent name exec) m = refl
  c_none (Dir parent name) m = refl
  c_none (NameOf parent child name exec) m = refl
  c_none (Insert file ups downs bytes) m = refl
  c_none (Order file source target) m = refl

  others_none : (d : Record) → IsOther S c d → (h : Hunk) → Contains d.change.hunks h → covers d h p ≡ false
  others_none d other = covers_none d p (free.untouched d other p (inl point))

  -- no change of S touches it
  set_none : (d : Record) → Contains S d → (h : Hunk) → Contains d.change.hunks h → covers d h p ≡ false
  set_none d m = go (same_name d.name c.name) refl
    where
      go : (b : Bool) → same_name d.name c.name ≡ b → (h : Hunk) → Contains d.change.hunks h → covers d h p ≡ false
      go true e = subst (λ (r : Record). (h : Hunk) → Contains r.change.hunks h → covers r h p ≡ false) (sym (it_is S c v u d m (same_name_is d.name c.name e))) c_none
      go false e = others_none d (record { member = m; other = λ same. (let k : same_name d.name c.name ≡ true = is_same_name d.name c.name same in cc) })

  -- v revives no position of c
  new_revives_none : revives v p ≡ false
  new_revives_none = none_passes (λ g. is_revive g && covers v g p) v.change.hunks (λ g m. one g (inverse_hunk c v u.inverse g m))
    where
      one : (g : Hunk) → IsOwnDeletion c v g ⊎ IsRevival c v g → (is_revive g && covers v g p) ≡ false
      one g (inl d) = ap (λ h. is_revive h && covers v h p) d.is
      one g (inr r) = and_false (is_revive g) (covers v g p) (go (covers v g p) refl)
        where
          go : (b : Bool) → covers v g p ≡ b → covers v g p ≡ false
          go true e =
              let at : covers v (Revive r.number r.start r.end (r.itself ∷ [])) p ≡ true = ap (λ h. covers v h p) (sym r.is) ∙ e in
              let name = same_name_is (numbered v r.number) p.change (and_parts _ _ (and_parts _ _ at).0).0 in
              absurd (of_another S c v u r.owner r.start r.end (r.owner ∷ []) r.deletes_it (sym r.named ∙ name ∙ own))
          go false e = e

  -- ---- the versions

  -- v does not need itself
  new_needs : Contains v.change.needs v.name → ⊥
  new_needs need = by_need v.name (u.inverse.needs.only v.name need) refl
    where
      by_need : (n : Name) → IsInverseNeed c c.change.hunks n → n ≡ v.name → ⊥
      by_need n itself e = not_new S c v u c u.member e
      by_need n (deleted {owner} {start} {end} {by} m) e =
          new_not_needed S c v u c u.member (same_member c.change.needs e (numbered_need c owner (delete_owner c owner start end by m)))

  new_survives : survives (v ∷ S) v.name p ≡ true
  new_survives = not_overruled (v ∷ S) v.name p (λ o. elim (uncons v S o.it o.member) [
    | inl e ↦ new_needs (subst (λ (r : Record). Contains r.change.needs v.name) (sym e) o.needs)
    | inr n ↦ new_not_needed S c v u o.it n o.needs
  ])

  deleted_version : deletion_survives (v ∷ S) p ≡ true
  deleted_version =
      any_member (λ d. deletes d p && survives (v ∷ S) d.name p) (v ∷ S) v (first_member v S)
      (and_from (deletes v p) (survives (v ∷ S) v.name p) (any_member (λ h. is_delete h && covers v h p) v.change.hunks deletion range.member covering) new_survives)

  owner_gone : survives (v ∷ S) p.change p ≡ false
  owner_gone =
      let by_it : list_any (λ k. same_name (numbered v k) p.change) (range.number ∷ []) ≡ true =
      any_member (λ k. same_name (numbered v k) p.change) (range.number ∷ []) range.number (first_member range.number []) (is_same_name (numbered v range.number) p.change (range.named ∙ sym own)) in
      ap not (any_member (λ d. list_any (overrules d p.change p) d.change.hunks) (v ∷ S) v (first_member v S) (any_member (overrules v p.change p) v.change.hunks deletion range.member (and_from _ _ covering by_it)))

  no_life : life_survives (v ∷ S) p ≡ false
  no_life =
      let none : list_any (λ d. revives d p && survives (v ∷ S) d.name p) (v ∷ S) ≡ false = none_passes (λ d. revives d p && survives (v ∷ S) d.name p) (v ∷ S) (λ d m. elim (uncons v S d m) [
        | inl e ↦ false_and (revives d p) (survives (v ∷ S) d.name p) (ap (λ (r : Record). revives r p) (sym e) ∙ new_revives_none)
        | inr n ↦ false_and (revives d p) (survives (v ∷ S) d.name p) (revives_none d p (set_none d n))
      ]) in
      rw (owner_gone, none) refl

  -- ---- contests

  -- c is no stranger to v, which needs it
  c_known : are_strangers c v ≡ false
  c_known =
      let needed : Contains v.change.needs c.name = u.inverse.needs.all c.name itself in
      let listed : list_any (λ m. same_name m c.name) v.change.needs ≡ true = any_member (λ m. same_name m c.name) v.change.needs c.name needed (name_itself c.name) in
      let known : knows v c.name ≡ true = or_left (list_any (λ m. same_name m c.name) v.change.needs) (list_any (λ m. same_name m c.name) v.change.knows) listed in
      and_false (not (same_name c.name v.name) && not (knows c v.name)) (not (knows v c.name)) (ap not known)

  opposed_by_none : (i : Record) → Contains S i → opposes i v c.name range.start range.end (deleted_at c range.start) ≡ false
  unfolding opposes
  opposed_by_none i m = go (same_name i.name c.name) refl
    where
      go : (b : Bool) → same_name i.name c.name ≡ b → opposes i v c.name range.start range.end (deleted_at c range.start) ≡ false
      go true e = ap (λ (r : Record). opposes r v c.name range.start range.end (deleted_at c range.start)) (it_is S c v u i m (same_name_is i.name c.name e))
          ∙ false_and (are_strangers c v) (list_any (contests c c.name range.start range.end (deleted_at c range.start)) c.change.hunks) c_known
      go false e = and_false (are_strangers i v) (list_any (contests i c.name range.start range.end (deleted_at c range.start)) i.change.hunks)
          (none_passes (contests i c.name range.start range.end (deleted_at c range.start)) i.change.hunks
          (range.free i (record { member = m; other = λ same. (let k : same_name i.name c.name ≡ true = is_same_name i.name c.name same in cc) })))

  range_none : is_range_contested (v ∷ S) v c range.start range.end ≡ false
  range_none = none_passes (λ i. opposes i v c.name range.start range.end (deleted_at c range.start)) (v ∷ S) (λ i m. elim (uncons v S i m) [
    | inl e ↦ ap (λ (r : Record). opposes r v c.name range.start range.end (deleted_at c range.start)) (sym e) ∙ new_opposes_none S c v u v c.name range.start range.end (deleted_at c range.start)
    | inr n ↦ opposed_by_none i n
  ])

  deletion_none : is_hunk_contested (v ∷ S) v deletion ≡ false
  deletion_none = none_passes (λ o. same_name o.name (numbered v range.number) && is_range_contested (v ∷ S) v o range.start range.end) (v ∷ S) (λ o m. go o m (same_name o.name (numbered v range.number)) refl)
    where
      named : (o : Record) → Contains (v ∷ S) o → o.name ≡ c.name → o ≡ c
      named o m e = elim (uncons v S o m) [
        | inl same ↦ absurd (not_new S c v u c u.member (sym e ∙ ap (λ (r : Record). r.name) (sym same)))
        | inr n ↦ it_is S c v u o n e
      ]

      go : (o : Record) → Contains (v ∷ S) o → (b : Bool) → same_name o.name (numbered v range.number) ≡ b → (same_name o.name (numbered v range.number) && is_range_contested (v ∷ S) v o range.start range.end) ≡ false
      go o m true e = and_false (same_name o.name (numbered v range.number)) (is_range_contested (v ∷ S) v o range.start range.end)
          (ap (λ (r : Record). is_range_contested (v ∷ S) v r range.start range.end) (named o m (same_name_is o.name (numbered v range.number) e ∙ range.named)) ∙ range_none)
      go o m false e = false_and (same_name o.name (numbered v range.number)) (is_range_contested (v ∷ S) v o range.start range.end) e

  -- a hunk of v that covers the point is this one
  one_deletion : (g : Hunk) → Contains v.change.hunks g → covers v g p ≡ true → g ≡ deletion
  one_deletion g m e =
      let gs = v.change.hunks in
      let at = slice_get_read gs _ m.0 g refl m.1 (sym m.2) in
      let there = slice_get_read gs _ range.member.0 deletion refl range.member.1 (sym range.member.2) in
      let same : m.0 ≡ range.member.0 = one_cover v p m.0 range.member.0 g deletion at there e covering in
      same_Some g deletion (sym at ∙ ap (slice_get gs) same ∙ there)

  no_contest : is_contested (v ∷ S) p ≡ false
  no_contest = none_passes (λ d. survives (v ∷ S) d.name p && list_any (λ h. covers d h p && is_hunk_contested (v ∷ S) d h) d.change.hunks) (v ∷ S) (λ d m. and_false (survives (v ∷ S) d.name p) _ (elim (uncons v S d m) [
    | inl e ↦ ap (λ (r : Record). list_any (λ h. covers r h p && is_hunk_contested (v ∷ S) r h) r.change.hunks) (sym e) ∙ by_new
    | inr n ↦ none_passes (λ h. covers d h p && is_hunk_contested (v ∷ S) d h) d.change.hunks (λ h k. false_and (covers d h p) (is_hunk_contested (v ∷ S) d h) (set_none d n h k))
  ]))
    where
      one : (g : Hunk) → Contains v.change.hunks g → (b : Bool) → covers v g p ≡ b → (covers v g p && is_hunk_contested (v ∷ S) v g) ≡ false
      one g k true e = and_false (covers v g p) (is_hunk_contested (v ∷ S) v g) (ap (is_hunk_contested (v ∷ S) v) (one_deletion g k e) ∙ deletion_none)
      one g k false e = false_and (covers v g p) (is_hunk_contested (v ∷ S) v g) e

      by_new : list_any (λ h. covers v h p && is_hunk_contested (v ∷ S) v h) v.change.hunks ≡ false
      by_new = none_passes (λ h. covers v h p && is_hunk_contested (v ∷ S) v h) v.change.hunks (λ g k. one g k (covers v g p) refl)

  pub is_dead : status_of (v ∷ S) p ≡ Dead
  is_dead = dead (v ∷ S) p deleted_version no_life no_contest

-- each byte and each name of c is dead
pub own_are_dead : (S : List Record) (c v : Record) → IsUndoing S c v → IsUndisturbed S c → (p : Point) → p.change ≡ c.name → (hunk first past : ℕ) →
    (kind_at c.change.hunks p.offset ≡ Some (Text hunk first past)) ⊎ (kind_at c.change.hunks p.offset ≡ Some (NameAt hunk)) → status_of (v ∷ S) p ≡ Dead
own_are_dead S c v u free p own hunk first past (inl e) = is_dead S c v u free p (record { owner = own; kind = Text hunk first past; there = e }) (deleted_range S c v u free p.offset (Text hunk first past) e tt)
own_are_dead S c v u free p own hunk first past (inr e) = is_dead S c v u free p (record { owner = own; kind = NameAt hunk; there = e }) (deleted_range S c v u free p.offset (NameAt hunk) e tt)
