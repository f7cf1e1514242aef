-- The points of other changes, where a change stands with its inverse: each has the status that it has without the change.
use Rattle.std.proofs.Common.{◌≡◌, ℕ, List, [], ◌∷◌, refl, sym, ◌∙◌, ap, inl, inr, Bool, true, false}
use Rattle.std.specs.Prelude.{Contains, ◌⊎◌, not, ◌&&◌, ◌||◌, if◌then◌else◌}
use Rattle.std.specs.List.{list_any}
use Rattle.std.proofs.lemmas.Bool.{and_parts, and_from}
use Rattle.pj_name.specs.declared.name.Name.{Name}
use Rattle.pj_name.specs.Name.{same_name}
use Rattle.pj_change.specs.declared.point.Point.{Point}
use Rattle.pj_change.specs.declared.hunk.Hunk.{Hunk}
use Rattle.pj_change.specs.declared.hunk.Hunk.TheVariants.{File, Dir, NameOf, Insert, Order, Delete, Revive}
use Rattle.pj_change.specs.declared.kind.Deleted.{Deleted}
use Rattle.pj_change.specs.declared.kind.Deleted.TheVariants as deleted
use Rattle.std.specs.Prelude.{Option, Some, None}
use Rattle.pj_change.specs.declared.graph.Status.TheVariants.{Alive, Dead, Zombie}
use Rattle.pj_change.specs.declared.change.Record.{Record}
use Rattle.pj_change.specs.Positions.{numbered}
use Rattle.pj_change.specs.Covers.{is_within, covers, is_delete, is_revive, by_of, deletes, revives, touches}
use Rattle.pj_change.specs.Versions.{overrules, survives, deletion_survives, life_survives}
use Rattle.pj_change.specs.Contested.{contests, opposes, deleted_at, is_range_contested, is_hunk_contested, are_strangers}
use Rattle.pj_change.specs.Status.{is_contested, status_of}
use Rattle.pj_change.proofs.Members.{uncons, same_member, any_member, passes, none_passes, none_member, any_alike, first_member}
use Rattle.pj_change.proofs.EqualNames.{same_name_is, is_same_name}
use Rattle.pj_change.proofs.NeedNumbers.{delete_owner, numbered_need}
use Rattle.pj_inverse.specs.Undone.{IsUndoing, IsOther, IsUndisturbed, IsWithout}
use Rattle.pj_inverse.proofs.InverseHunks.{IsOwnDeletion, IsRevival, inverse_hunk, none_revived, revived}
use Rattle.pj_inverse.proofs.Undoing.{new_not_needed, new_covers_none, any_without}

-- ---- statuses

-- the status is a function of three tests
pub same_status : (S T : List Record) (p : Point) → deletion_survives S p ≡ deletion_survives T p → life_survives S p ≡ life_survives T p → is_contested S p ≡ is_contested T p →
    status_of S p ≡ status_of T p
unfolding status_of
same_status S T p d l k = λ i. if not (d i) then Alive else (if l i || k i then Zombie else Dead)

pub alive : (S : List Record) (p : Point) → deletion_survives S p ≡ false → status_of S p ≡ Alive
unfolding status_of
alive S p e = rw e refl

-- ---- changes that touch a point or not

pub covers_none : (d : Record) (p : Point) → touches d p ≡ false → (h : Hunk) → Contains d.change.hunks h → covers d h p ≡ false
covers_none d p none h m = none_member (λ g. covers d g p) d.change.hunks h none m

pub and_false : (a b : Bool) → b ≡ false → (a && b) ≡ false
and_false true b e = e
and_false false b e = refl

pub false_and : (a b : Bool) → a ≡ false → (a && b) ≡ false
false_and true b e = absurd (cc)
false_and false b e = refl

pub deletes_none : (d : Record) (p : Point) → ((h : Hunk) → Contains d.change.hunks h → covers d h p ≡ false) → deletes d p ≡ false
deletes_none d p f = none_passes (λ h. is_delete h && covers d h p) d.change.hunks (λ h m. and_false (is_delete h) (covers d h p) (f h m))

pub revives_none : (d : Record) (p : Point) → ((h : Hunk) → Contains d.change.hunks h → covers d h p ≡ false) → revives d p ≡ false
revives_none d p f = none_passes (λ h. is_revive h && covers d h p) d.change.hunks (λ h m. and_false (is_revive h) (covers d h p) (f h m))

pub overrules_none : (d : Record) (name : Name) (p : Point) → ((h : Hunk) → Contains d.change.hunks h → covers d h p ≡ false) → list_any (overrules d name p) d.change.hunks ≡ false
overrules_none d name p f = none_passes (overrules d name p) d.change.hunks (λ h m. false_and (covers d h p) (list_any (λ k. same_name (numbered d k) name) (by_of h)) (f h m))

-- ---- contests

-- no hunk of an inverse contests a deletion
delete_contests_none : (i : Record) (name : Name) (start end : ℕ) (what : Option Deleted) (k a b : ℕ) (by : List ℕ) → contests i name start end what (Delete k a b by) ≡ false
delete_contests_none i name start end (Some deleted.Text) k a b by = refl
delete_contests_none i name start end (Some (deleted.NameOf child)) k a b by = refl
delete_contests_none i name start end None k a b by = refl

revive_contests_none : (i : Record) (name : Name) (start end : ℕ) (what : Option Deleted) (k a b : ℕ) (by : List ℕ) → contests i name start end what (Revive k a b by) ≡ false
revive_contests_none i name start end (Some deleted.Text) k a b by = refl
revive_contests_none i name start end (Some (deleted.NameOf child)) k a b by = refl
revive_contests_none i name start end None k a b by = refl

module _ (S : List Record) (c v : Record) (u : IsUndoing S c v) where
  one_contests_none : (name : Name) (start end : ℕ) (what : Option Deleted) (g : Hunk) → IsOwnDeletion c v g ⊎ IsRevival c v g → contests v name start end what g ≡ false
  one_contests_none name start end what g (inl d) = ap (contests v name start end what) d.is ∙ delete_contests_none v name start end what d.number d.start d.end (d.number ∷ [])
  one_contests_none name start end what g (inr r) = ap (contests v name start end what) r.is ∙ revive_contests_none v name start end what r.number r.start r.end (r.itself ∷ [])

  pub new_opposes_none : (d : Record) (name : Name) (start end : ℕ) (what : Option Deleted) → opposes v d name start end what ≡ false
  unfolding opposes
  new_opposes_none d name start end what =
      and_false (are_strangers v d) (list_any (contests v name start end what) v.change.hunks)
      (none_passes (contests v name start end what) v.change.hunks (λ g m. one_contests_none name start end what g (inverse_hunk c v u.inverse g m)))

module _ (S : List Record) (c v : Record) (u : IsUndoing S c v) (free : IsUndisturbed S c) (T : List Record) (is : IsWithout S c T) where
  without : (q : Record → Bool) → q v ≡ false → q c ≡ false → list_any q (v ∷ S) ≡ list_any q T
  without = any_without S c v u T (λ r. (is r).0) (λ r. (is r).1)

  other_of : (d : Record) → Contains T d → IsOther S c d
  other_of d m = record { member = ((is d).0 m).0; other = ((is d).0 m).1 }

  module _ (p : Point) (elsewhere : p.change ≡ c.name → ⊥) where
    -- ---- a point that c does not touch

    module _ (none : touches c p ≡ false) where
      c_none : (h : Hunk) → Contains c.change.hunks h → covers c h p ≡ false
      c_none = covers_none c p none

      v_none : (g : Hunk) → Contains v.change.hunks g → covers v g p ≡ false
      v_none = new_covers_none S c v u p elsewhere none

      survives_alike : (name : Name) → survives (v ∷ S) name p ≡ survives T name p
      survives_alike name = ap not (without (λ d. list_any (overrules d name p) d.change.hunks) (overrules_none v name p v_none) (overrules_none c name p c_none))

      deletion_alike : deletion_survives (v ∷ S) p ≡ deletion_survives T p
      deletion_alike =
          without (λ d. deletes d p && survives (v ∷ S) d.name p) (false_and (deletes v p) (survives (v ∷ S) v.name p) (deletes_none v p v_none)) (false_and (deletes c p) (survives (v ∷ S) c.name p) (deletes_none c p c_none))
          ∙ any_alike (λ d. deletes d p && survives (v ∷ S) d.name p) (λ d. deletes d p && survives T d.name p) T (λ d m. ap (λ b. deletes d p && b) (survives_alike d.name))

      life_alike : life_survives (v ∷ S) p ≡ life_survives T p
      life_alike =
          let revived_alike : list_any (λ d. revives d p && survives (v ∷ S) d.name p) (v ∷ S) ≡ list_any (λ d. revives d p && survives T d.name p) T =
          without (λ d. revives d p && survives (v ∷ S) d.name p) (false_and (revives v p) (survives (v ∷ S) v.name p) (revives_none v p v_none)) (false_and (revives c p) (survives (v ∷ S) c.name p) (revives_none c p c_none))
          ∙ any_alike (λ d. revives d p && survives (v ∷ S) d.name p) (λ d. revives d p && survives T d.name p) T (λ d m. ap (λ b. revives d p && b) (survives_alike d.name)) in
          λ i. survives_alike p.change i || revived_alike i

      range_alike : (d : Record) → IsOther S c d → (owner start end : ℕ) (by : List ℕ) → Contains d.change.hunks (Delete owner start end by) →
          (o : Record) → Contains S o → o.name ≡ numbered d owner → is_range_contested (v ∷ S) d o start end ≡ is_range_contested T d o start end
      range_alike d other owner start end by m o n named =
          without (λ i. opposes i d o.name start end (deleted_at o start)) (new_opposes_none S c v u d o.name start end (deleted_at o start)) (free.no_contests d other owner start end by m o n named)

      -- the hunk of another change that covers the point is contested in both or in none
      delete_alike : (d : Record) → IsOther S c d → (owner start end : ℕ) (by : List ℕ) → Contains d.change.hunks (Delete owner start end by) → covers d (Delete owner start end by) p ≡ true →
          is_hunk_contested (v ∷ S) d (Delete owner start end by) ≡ is_hunk_contested T d (Delete owner start end by)
      delete_alike d other owner start end by m at =
          without (λ o. same_name o.name (numbered d owner) && is_range_contested (v ∷ S) d o start end)
          (false_and (same_name v.name (numbered d owner)) (is_range_contested (v ∷ S) d v start end) (not_named v (λ e. new_not_needed S c v u d other.member (same_member d.change.needs (sym e) needed))))
          (false_and (same_name c.name (numbered d owner)) (is_range_contested (v ∷ S) d c start end) (not_named c (λ e. elsewhere (sym owned ∙ sym e))))
          ∙ any_alike (λ o. same_name o.name (numbered d owner) && is_range_contested (v ∷ S) d o start end) (λ o. same_name o.name (numbered d owner) && is_range_contested T d o start end) T (λ o n. alike o n (same_name o.name (numbered d owner)) refl)
        where
          owned : numbered d owner ≡ p.change
          owned = same_name_is (numbered d owner) p.change (and_parts _ _ (and_parts _ _ at).0).0

          needed : Contains d.change.needs (numbered d owner)
          needed = numbered_need d owner (delete_owner d owner start end by m)

          not_named : (r : Record) → (r.name ≡ numbered d owner → ⊥) → same_name r.name (numbered d owner) ≡ false
          not_named r f = go (same_name r.name (numbered d owner)) refl
            where
              go : (b : Bool) → same_name r.name (numbered d owner) ≡ b → same_name r.name (numbered d owner) ≡ false
              go true e = absurd (f (same_name_is r.name (numbered d owner) e))
              go false e = e

          alike : (o : Record) → Contains T o → (b : Bool) → same_name o.name (numbered d owner) ≡ b →
              (same_name o.name (numbered d owner) && is_range_contested (v ∷ S) d o start end) ≡ (same_name o.name (numbered d owner) && is_range_contested T d o start end)
          alike o n true e = ap (λ b. same_name o.name (numbered d owner) && b) (range_alike d other owner start end by m o ((is o).0 n).0 (same_name_is o.name (numbered d owner) e))
          alike o n false e = false_and (same_name o.name (numbered d owner)) (is_range_contested (v ∷ S) d o start end) e ∙ sym (false_and (same_name o.name (numbered d owner)) (is_range_contested T d o start end) e)

      hunk_alike : (d : Record) → IsOther S c d → (h : Hunk) → Contains d.change.hunks h → covers d h p ≡ true → is_hunk_contested (v ∷ S) d h ≡ is_hunk_contested T d h
      hunk_alike d other (Delete owner start end by) m at = delete_alike d other owner start end by m at
      hunk_alike d other (File parent name exec) m at = refl
      hunk_alike d other (Dir parent name) m at = refl
      hunk_alike d other (NameOf parent child name exec) m at = refl
      hunk_alike d other (Insert file ups downs bytes) m at = refl
      hunk_alike d other (Order file source target) m at = refl
      hunk_alike d other (Revive owner start end by) m at = refl

      covered_alike : (d : Record) → IsOther S c d → (h : Hunk) → Contains d.change.hunks h → (b : Bool) → covers d h p ≡ b →
          (covers d h p && is_hunk_contested (v ∷ S) d h) ≡ (covers d h p && is_hunk_contested T d h)
      covered_alike d other h m true at = ap (λ b. covers d h p && b) (hunk_alike d other h m at)
      covered_alike d other h m false at = false_and (covers d h p) (is_hunk_contested (v ∷ S) d h) at ∙ sym (false_and (covers d h p) (is_hunk_contested T d h) at)

      contested_none : (d : Record) → ((h : Hunk) → Contains d.change.hunks h → covers d h p ≡ false) →
          (survives (v ∷ S) d.name p && list_any (λ h. covers d h p && is_hunk_contested (v ∷ S) d h) d.change.hunks) ≡ false
      contested_none d f = and_false (survives (v ∷ S) d.name p) _
          (none_passes (λ h. covers d h p && is_hunk_contested (v ∷ S) d h) d.change.hunks (λ h m. false_and (covers d h p) (is_hunk_contested (v ∷ S) d h) (f h m)))

      contested_alike : is_contested (v ∷ S) p ≡ is_contested T p
      contested_alike =
          without (λ d. survives (v ∷ S) d.name p && list_any (λ h. covers d h p && is_hunk_contested (v ∷ S) d h) d.change.hunks) (contested_none v v_none) (contested_none c c_none)
          ∙ any_alike (λ d. survives (v ∷ S) d.name p && list_any (λ h. covers d h p && is_hunk_contested (v ∷ S) d h) d.change.hunks)
          (λ d. survives T d.name p && list_any (λ h. covers d h p && is_hunk_contested T d h) d.change.hunks) T
          (λ d m. λ i. survives_alike d.name i && any_alike (λ h. covers d h p && is_hunk_contested (v ∷ S) d h) (λ h. covers d h p && is_hunk_contested T d h) d.change.hunks (λ h n. covered_alike d (other_of d m) h n (covers d h p) refl) i)

      untouched_alike : status_of (v ∷ S) p ≡ status_of T p
      untouched_alike = same_status (v ∷ S) T p deletion_alike life_alike contested_alike

    -- ---- a point that c touches

    module _ (some : touches c p ≡ true) where
      -- c deletes it
      deleting : (h : Hunk) → Contains c.change.hunks h → covers c h p ≡ true → (is_delete h && covers c h p) ≡ true
      deleting (Delete owner start end by) m e = e
      deleting (Revive owner start end by) m e = absurd (none_revived c v u.inverse owner start end by m)
      deleting (File parent name exec) m e = e
      deleting (Dir parent name) m e = e
      deleting (NameOf parent child name exec) m e = e
      deleting (Insert file ups downs bytes) m e = e
      deleting (Order file source target) m e = e

      deleted_by_it : deletes c p ≡ true
      deleted_by_it = (let h = passes (λ h. covers c h p) c.change.hunks some in any_member (λ h. is_delete h && covers c h p) c.change.hunks h.it h.member (deleting h.it h.member h.is))

      -- no other change of S touches it
      others_none : (d : Record) → IsOther S c d → (h : Hunk) → Contains d.change.hunks h → covers d h p ≡ false
      others_none d other = covers_none d p (free.untouched d other p (inr deleted_by_it))

      -- v overrules the version of c
      overruled_by_new : (h : Hunk) → Contains c.change.hunks h → covers c h p ≡ true → list_any (overrules v c.name p) v.change.hunks ≡ true
      overruled_by_new (Delete owner start end by) m e =
          let r = revived c v u.inverse owner start end by m in
          let at : covers v (Revive r.number start end (r.itself ∷ [])) p ≡ true = ap (λ n. is_within n start end p) r.named ∙ e in
          let by_it : list_any (λ k. same_name (numbered v k) c.name) (r.itself ∷ []) ≡ true = any_member (λ k. same_name (numbered v k) c.name) (r.itself ∷ []) r.itself (first_member r.itself []) (is_same_name (numbered v r.itself) c.name r.by) in
          any_member (overrules v c.name p) v.change.hunks (Revive r.number start end (r.itself ∷ [])) r.member (and_from _ _ at by_it)
      overruled_by_new (Revive owner start end by) m e = absurd (none_revived c v u.inverse owner start end by m)
      overruled_by_new (File parent name exec) m e = absurd (cc)
      overruled_by_new (Dir parent name) m e = absurd (cc)
      overruled_by_new (NameOf parent child name exec) m e = absurd (cc)
      overruled_by_new (Insert file ups downs bytes) m e = absurd (cc)
      overruled_by_new (Order file source target) m e = absurd (cc)

      own_gone : survives (v ∷ S) c.name p ≡ false
      own_gone =
          let h = passes (λ h. covers c h p) c.change.hunks some in
          ap not (any_member (λ d. list_any (overrules d c.name p) d.change.hunks) (v ∷ S) v (first_member v S) (overruled_by_new h.it h.member h.is))

      -- v only revives it
      new_deletes : (g : Hunk) → IsOwnDeletion c v g ⊎ IsRevival c v g → (is_delete g && covers v g p) ≡ false
      new_deletes g (inr r) = ap (λ h. is_delete h && covers v h p) r.is
      new_deletes g (inl d) = and_false (is_delete g) (covers v g p) (go (covers v g p) refl)
        where
          go : (b : Bool) → covers v g p ≡ b → covers v g p ≡ false
          go true e =
              let at : covers v (Delete d.number d.start d.end (d.number ∷ [])) p ≡ true = ap (λ h. covers v h p) (sym d.is) ∙ e in
              let name = same_name_is (numbered v d.number) p.change (and_parts _ _ (and_parts _ _ at).0).0 in
              absurd (elsewhere (sym name ∙ d.named))
          go false e = e

      none_deleted : deletion_survives (v ∷ S) p ≡ false
      none_deleted = none_passes (λ d. deletes d p && survives (v ∷ S) d.name p) (v ∷ S) (λ d m. elim (uncons v S d m) [
        | inl e ↦ false_and (deletes d p) (survives (v ∷ S) d.name p) (ap (λ (r : Record). deletes r p) (sym e) ∙ none_passes (λ g. is_delete g && covers v g p) v.change.hunks (λ g n. new_deletes g (inverse_hunk c v u.inverse g n)))
        | inr n ↦ by_name d n (same_name d.name c.name) refl
      ])
        where
          by_name : (d : Record) → Contains S d → (b : Bool) → same_name d.name c.name ≡ b → (deletes d p && survives (v ∷ S) d.name p) ≡ false
          by_name d n true e = and_false (deletes d p) (survives (v ∷ S) d.name p) (ap (λ k. survives (v ∷ S) k p) (same_name_is d.name c.name e) ∙ own_gone)
          by_name d n false e = false_and (deletes d p) (survives (v ∷ S) d.name p) (deletes_none d p (others_none d (record { member = n; other = λ same. (let k : same_name d.name c.name ≡ true = is_same_name d.name c.name same in cc) })))

      none_deleted_without : deletion_survives T p ≡ false
      none_deleted_without = none_passes (λ d. deletes d p && survives T d.name p) T (λ d m. false_and (deletes d p) (survives T d.name p) (deletes_none d p (others_none d (other_of d m))))

      touched_alike : status_of (v ∷ S) p ≡ status_of T p
      touched_alike = alive (v ∷ S) p none_deleted ∙ sym (alive T p none_deleted_without)

    by_touch : (b : Bool) → touches c p ≡ b → status_of (v ∷ S) p ≡ status_of T p
    by_touch true e = touched_alike e
    by_touch false e = untouched_alike e

    -- each point of another change has the status that it has without c
    pub others_as_without : status_of (v ∷ S) p ≡ status_of T p
    others_as_without = by_touch (touches c p) refl
