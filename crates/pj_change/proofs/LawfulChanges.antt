-- Lawful lists with one change more, and without one that may leave.
use Rattle.std.proofs.Common.{◌≡◌, List, [], ◌∷◌, ◌++◌, refl, sym, ◌∙◌, ap, subst, inl, inr, append_assoc, append-nil, true, false, Bool}
use Rattle.std.specs.Prelude.{Contains, ◌⊎◌}
use Rattle.pj_name.specs.declared.name.Name.{Name}
use Rattle.pj_name.specs.Name.{same_name}
use Rattle.pj_change.specs.declared.change.Record.{Record}
use Rattle.pj_change.specs.Lawful.{is_held, Follows, IsLawful}
use Rattle.pj_change.proofs.Members.{heads, tails, not_nil, splits, Splits, middle_member, before_member, moved, same_member, all_member, uncons, no_member}
use Rattle.pj_change.proofs.LawfulLists.{place_in, append_cases, held, held_member, not_held, not_record, IsRecord, without_lawful}
use Rattle.pj_change.proofs.EqualNames.{is_same_name}
use Rattle.pj_change.specs.Unrecord.{IsHolder, MayLeave, without}

-- ---- one more

alone : {X : Type 0} (c : X) (front : List X) (x : X) (after : List X) → c ∷ [] ≡ front ++ x ∷ after → (c ≡ x) × (front ≡ [])
alone c [] x after e = (heads c x [] after e, refl)
alone c (y ∷ front) x after e = absurd (not_nil front x after (tails c y [] (front ++ x ∷ after) e))

pub lawful_push : (list : List Record) (c : Record) → IsLawful list → Follows list c → IsLawful (list ++ c ∷ [])
lawful_push list c lawful follows before x after e = elim (place_in list (c ∷ []) before x after e) [
  | inl i ↦ lawful before x i.rest i.first
  | inr i ↦ last i.front (alone c i.front x after i.then) i.first
]
  where
    last : (front : List Record) → (c ≡ x) × (front ≡ []) → before ≡ list ++ front → Follows before x
    last front a b =
        let is : before ≡ list = b ∙ ap (λ l. list ++ l) a.1 ∙ append-nil list in
        subst (λ l. Follows l x) (sym is) (subst (Follows list) a.0 follows)

-- ---- one less

module _ (name : Name) where
  other_kept : (r : Record) (list : List Record) → same_name r.name name ≡ false → without (r ∷ list) name ≡ r ∷ without list name
  other_kept r list e = rw e refl

  one_dropped : (r : Record) (list : List Record) → same_name r.name name ≡ true → without (r ∷ list) name ≡ without list name
  one_dropped r list e = rw e refl

  not_same : (r : Record) (list : List Record) → is_held (r ∷ list) name ≡ false → (same_name r.name name ≡ false) × (is_held list name ≡ false)
  not_same r list e = go (same_name r.name name) refl
    where
      go : (b : Bool) → same_name r.name name ≡ b → (same_name r.name name ≡ false) × (is_held list name ≡ false)
      go true h = absurd (let k : is_held (r ∷ list) name ≡ true = rw h refl in cc)
      go false h = (h, (let k : is_held (r ∷ list) name ≡ is_held list name = rw h refl in sym k ∙ e))

  -- a list that has no change of this name
  pub without_absent : (list : List Record) → is_held list name ≡ false → without list name ≡ list
  without_absent [] e = refl
  without_absent (r ∷ list) e = (let n = not_same r list e in other_kept r list n.0 ∙ ap (λ l. r ∷ l) (without_absent list n.1))

  -- a list that has one
  pub without_place : (before : List Record) (c : Record) (after : List Record) → c.name ≡ name → is_held before name ≡ false → is_held after name ≡ false →
      without (before ++ c ∷ after) name ≡ before ++ after
  without_place [] c after is b a = one_dropped c after (is_same_name c.name name is) ∙ without_absent after a
  without_place (r ∷ before) c after is b a =
      let n = not_same r before b in
      other_kept r (before ++ c ∷ after) n.0 ∙ ap (λ l. r ∷ l) (without_place before c after is n.1 a)

-- in a lawful list no change after another has its name
pub none_later : (before : List Record) (c : Record) (after : List Record) → IsLawful (before ++ c ∷ after) → is_held after c.name ≡ false
none_later before c after lawful = not_held after c.name (λ r h. again r h (splits after r h.member))
  where
    again : (r : Record) → IsRecord after c.name r → Splits after r → ⊥
    again r h s =
        let whole : before ++ c ∷ after ≡ (before ++ c ∷ s.before) ++ r ∷ s.after = ap (λ l. before ++ c ∷ l) s.is ∙ sym (append_assoc before (c ∷ s.before) (r ∷ s.after)) in
        let f = lawful (before ++ c ∷ s.before) r s.after whole in
        not_record (before ++ c ∷ s.before) r.name f.fresh c (record { member = middle_member before s.before c; named = sym h.named })

-- where the change of a name stands in a lawful list
pub record Stands (list : List Record) (name : Name) : Type 0 where
  pub before : List Record
  pub change : Record
  pub after : List Record
  pub is : list ≡ before ++ change ∷ after
  pub named : change.name ≡ name
  pub left : without list name ≡ before ++ after

pub stands : (list : List Record) (name : Name) → IsLawful list → is_held list name ≡ true → Stands list name
stands list name lawful there = at (held list name there).0 (held list name there).1 (splits list (held list name there).0 (held list name there).1.member)
  where
    at : (c : Record) → IsRecord list name c → Splits list c → Stands list name
    at c h s =
        let f = lawful s.before c s.after s.is in
        let early : is_held s.before name ≡ false = subst (λ n. is_held s.before n ≡ false) h.named f.fresh in
        let late : is_held s.after name ≡ false = subst (λ n. is_held s.after n ≡ false) h.named (none_later s.before c s.after (subst IsLawful s.is lawful)) in
        record {
          before = s.before;
          change = c;
          after = s.after;
          is = s.is;
          named = h.named;
          left = ap (λ l. without l name) s.is ∙ without_place name s.before c s.after h.named early late;
        }

-- a lawful list without a change that may leave is lawful
pub unrecorded_lawful : (list : List Record) (name : Name) → IsLawful list → MayLeave list name → IsLawful (without list name)
unrecorded_lawful list name lawful may =
    let s = stands list name lawful may.0 in
    let whole : IsLawful (s.before ++ s.change ∷ s.after) = subst IsLawful s.is lawful in
    subst IsLawful (sym s.left) (without_lawful s.before s.change s.after whole (λ r m n. may.1 r.name (record {
      needing = r;
      member = moved r (sym s.is) m;
      needs = same_member r.change.needs s.named n;
      named = refl;
    })))

pub without_middle : (before : List Record) (c : Record) (after : List Record) → IsLawful (before ++ c ∷ after) → without (before ++ c ∷ after) c.name ≡ before ++ after
without_middle before c after lawful = without_place c.name before c after refl (lawful before c after refl).fresh (none_later before c after lawful)

-- ---- a change that was just applied

pub without_last : (list : List Record) (c : Record) → is_held list c.name ≡ false → without (list ++ c ∷ []) c.name ≡ list
without_last list c fresh = without_place c.name list c [] refl fresh refl ∙ append-nil list

-- it may leave
pub applied_may_leave : (list : List Record) (c : Record) → IsLawful list → Follows list c → MayLeave (list ++ c ∷ []) c.name
applied_may_leave list c lawful follows =
    (held_member (list ++ c ∷ []) c.name c (record { member = middle_member list [] c; named = refl }), λ holder h. free h (append_cases list (c ∷ []) h.needing h.member))
  where
    not_there : is_held list c.name ≡ true → ⊥
    not_there e = (let f = follows.fresh in cc)

    -- a change of the list needs only what the list holds
    earlier : (r : Record) → Splits list r → Contains r.change.needs c.name → ⊥
    earlier r s n =
        let f = lawful s.before r s.after s.is in
        let h = held s.before c.name (all_member (is_held s.before) r.change.needs c.name f.needs n) in
        not_there (held_member list c.name h.0 (record { member = moved h.0 (sym s.is) (before_member s.before s.after r h.0 h.1.member); named = h.1.named }))

    free : {holder : Name} (h : IsHolder (list ++ c ∷ []) c.name holder) → Contains list h.needing ⊎ Contains (c ∷ []) h.needing → ⊥
    free h m = elim m [
      | inl k ↦ earlier h.needing (splits list h.needing k) h.needs
      | inr k ↦ elim (uncons c [] h.needing k) [
        | inl e ↦ not_there (all_member (is_held list) c.change.needs c.name follows.needs (subst (λ (r : Record). Contains r.change.needs c.name) (sym e) h.needs))
        | inr n ↦ no_member h.needing n
      ]
    ]
