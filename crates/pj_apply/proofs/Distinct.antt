-- Lists of changes with distinct names: their parts, their records by name, and what stands after a name.
use Rattle.std.proofs.Common.{◌≡◌, suc, ◌<◌, List, [], ◌∷◌, ◌++◌, length, take, drop, get_or, refl, sym, ◌∙◌, ap, subst, inl, inr, Bool, true, false, Option, Some, None, drop-cons, arith}
use Rattle.std.specs.Prelude.{Any, Contains, IsSome, ◌⊎◌}
use Rattle.std.proofs.lemmas.List.{take-append-drop, get_or-take, length-take-le, get_or_default}
use Rattle.pj_name.specs.declared.name.Name.{Name}
use Rattle.pj_name.specs.Name.{same_name}
use Rattle.pj_change.specs.declared.change.Record.{Record}
use Rattle.pj_change.specs.Sets.{HaveDistinctNames}
use Rattle.pj_change.specs.Lawful.{is_held, record_of}
use Rattle.pj_change.proofs.Members.{first_member, later_member, before_member, after_member, middle_member, uncons, no_member}
use Rattle.pj_change.proofs.LawfulLists.{not_held, not_record, append_cases, first_part, fewer_held, IsRecord}
use Rattle.pj_change.proofs.EqualNames.{same_name_is, is_same_name, name_itself}
use Rattle.pj_apply.specs.Links.{AreDistinct}
use Rattle.pj_apply.specs.Walks.{after_name, remaining}

-- ---- what is held

-- a name that a list does not hold is not that of its first change, and the others do not hold it
pub held_none : (r : Record) (list : List Record) (name : Name) → is_held (r ∷ list) name ≡ false → (same_name r.name name ≡ false) × (is_held list name ≡ false)
held_none r list name e = go (same_name r.name name) refl
  where
    go : (b : Bool) → same_name r.name name ≡ b → (same_name r.name name ≡ false) × (is_held list name ≡ false)
    go true h = absurd (let k : is_held (r ∷ list) name ≡ true = rw h refl in cc)
    go false h = (h, (let k : is_held (r ∷ list) name ≡ is_held list name = rw h refl in sym k ∙ e))

pub held_later : (r : Record) (list : List Record) (name : Name) → is_held list name ≡ true → is_held (r ∷ list) name ≡ true
held_later r list name e = go (same_name r.name name) refl
  where
    go : (b : Bool) → same_name r.name name ≡ b → is_held (r ∷ list) name ≡ true
    go true h = rw h refl
    go false h = rw h e

-- ---- parts

module _ (y : Record) (ys : List Record) where
  pub distinct_front : (xs : List Record) → AreDistinct (xs ++ y ∷ ys) → is_held xs y.name ≡ false
  distinct_front [] d = refl
  distinct_front (x ∷ xs) d = not_held (x ∷ xs) y.name (λ r h. other (distinct_front xs d.1) r h (uncons x xs r h.member))
    where
      other : is_held xs y.name ≡ false → (r : Record) → IsRecord (x ∷ xs) y.name r → (x ≡ r) ⊎ Contains xs r → ⊥
      other rest r h s = elim s [
        | inl same ↦ not_record (xs ++ y ∷ ys) x.name d.0 y (record { member = middle_member xs ys y; named = sym h.named ∙ ap (λ (q : Record). q.name) (sym same) })
        | inr later ↦ not_record xs y.name rest r (record { member = later; named = h.named })
      ]

  pub distinct_back : (xs : List Record) → AreDistinct (xs ++ y ∷ ys) → is_held ys y.name ≡ false
  distinct_back [] d = d.0
  distinct_back (x ∷ xs) d = distinct_back xs d.1

  pub distinct_without : (xs : List Record) → AreDistinct (xs ++ y ∷ ys) → AreDistinct (xs ++ ys)
  distinct_without [] d = d.1
  distinct_without (x ∷ xs) d = (fewer_held (xs ++ ys) (xs ++ y ∷ ys) x.name (λ r m. within r (append_cases xs ys r m)) d.0, distinct_without xs d.1)
    where
      within : (r : Record) → Contains xs r ⊎ Contains ys r → Contains (xs ++ y ∷ ys) r
      within r s = elim s [ inl m ↦ before_member xs ys y r m | inr m ↦ after_member xs ys y r m ]

pub distinct_first : (xs ys : List Record) → AreDistinct (xs ++ ys) → AreDistinct xs
distinct_first [] ys d = tt
distinct_first (x ∷ xs) ys d = (fewer_held xs (xs ++ ys) x.name (λ r m. first_part xs ys r m) d.0, distinct_first xs ys d.1)

pub distinct_push : (list : List Record) (c : Record) → AreDistinct list → is_held list c.name ≡ false → AreDistinct (list ++ c ∷ [])
distinct_push [] c d fresh = (refl, tt)
distinct_push (x ∷ list) c d fresh = (not_held (list ++ c ∷ []) x.name (λ r h. other r h (append_cases list (c ∷ []) r h.member)), distinct_push list c d.1 apart.1)
  where
    apart : (same_name x.name c.name ≡ false) × (is_held list c.name ≡ false)
    apart = held_none x list c.name fresh

    last : (r : Record) → r.name ≡ x.name → (c ≡ r) ⊎ Contains [] r → ⊥
    last r named s = elim s [
      | inl same ↦ (let k = is_same_name x.name c.name (sym named ∙ ap (λ (q : Record). q.name) (sym same)) in let l = apart.0 in cc)
      | inr m ↦ no_member r m
    ]

    other : (r : Record) → IsRecord (list ++ c ∷ []) x.name r → Contains list r ⊎ Contains (c ∷ []) r → ⊥
    other r h s = elim s [
      | inl m ↦ not_record list x.name d.0 r (record { member = m; named = h.named })
      | inr m ↦ last r h.named (uncons c [] r m)
    ]

pub distinct_names : (list : List Record) → AreDistinct list → HaveDistinctNames list
distinct_names list distinct i j d less low e =
    let whole : list ≡ take j list ++ get_or list j d ∷ drop (suc j) list =
    sym (take-append-drop j list) ∙ ap (λ l. take j list ++ l) (drop-cons list j d low) in
    let before : i < length (take j list) = omega (arith, length-take-le j list (omega arith)) in
    let member : Contains (take j list) (get_or list i d) = (i, before, get_or-take j list i (get_or list i d) less ∙ get_or_default list i (get_or list i d) d (omega arith)) in
    not_record (take j list) (get_or list j d).name (distinct_front (get_or list j d) (drop (suc j) list) (take j list) (subst AreDistinct whole distinct)) (get_or list i d) (record { member = member; named = e })

-- ---- the record of a name

pub same_some : {X : Type 0} (x y : X) → Some x ≡ Some y → x ≡ y
same_some x y e = cc

pub no_some : {X : Type 0} (x : X) → Some x ≡ None → ⊥
no_some x e = cc

pub none_is_not : {X : Type 0} (o : Option X) → o ≡ None → IsSome o → ⊥
none_is_not None e s = absurd (cc)
none_is_not (Some x) e s = absurd (cc)

-- it is there, with that name
pub record_is : (list : List Record) (name : Name) (r : Record) → record_of list name ≡ Some r → IsRecord list name r
record_is [] name r e = absurd (cc)
record_is (x ∷ list) name r e = go (record_is list name r) (same_name x.name name) refl
  where
    this : x ≡ r → same_name x.name name ≡ true → IsRecord (x ∷ list) name r
    this is h = record { member = subst (Contains (x ∷ list)) is (first_member x list); named = ap (λ (q : Record). q.name) (sym is) ∙ same_name_is x.name name h }

    go : (record_of list name ≡ Some r → IsRecord list name r) → (b : Bool) → same_name x.name name ≡ b → IsRecord (x ∷ list) name r
    go rest true h = this (same_some x r (rw h at e)) h
    go rest false h =
        let k : record_of list name ≡ Some r = rw h at e in
        record { member = later_member x list r (rest k).member; named = (rest k).named }

-- where there is none, no change has the name
pub record_none : (list : List Record) (name : Name) → record_of list name ≡ None → is_held list name ≡ false
record_none [] name e = refl
record_none (x ∷ list) name e = go (record_none list name) (same_name x.name name) refl
  where
    go : (record_of list name ≡ None → is_held list name ≡ false) → (b : Bool) → same_name x.name name ≡ b → is_held (x ∷ list) name ≡ false
    go rest true h = absurd (let k = rw h at e in cc)
    go rest false h = rw h (rest (rw h at e))

-- ---- a change in the middle

module _ (y : Record) (ys : List Record) where
  pub record_middle : (xs : List Record) → is_held xs y.name ≡ false → record_of (xs ++ y ∷ ys) y.name ≡ Some y
  record_middle [] e = rw (name_itself y.name) refl
  record_middle (x ∷ xs) e = let n = held_none x xs y.name e in rw n.0 (record_middle xs n.1)

  pub after_middle : (xs : List Record) → is_held xs y.name ≡ false → after_name (xs ++ y ∷ ys) y.name ≡ ys
  after_middle [] e = rw (name_itself y.name) refl
  after_middle (x ∷ xs) e = let n = held_none x xs y.name e in rw n.0 (after_middle xs n.1)

-- ---- what a walk has not yet given

-- it ends the list
pub record Ends (list rest : List Record) : Type 0 where
  pub front : List Record
  pub is : list ≡ front ++ rest

pub after_ends : (list : List Record) (name : Name) → Ends list (after_name list name)
after_ends [] name = record { front = []; is = refl }
after_ends (r ∷ list) name = go (after_ends list name) (same_name r.name name) refl
  where
    go : Ends list (after_name list name) → (b : Bool) → same_name r.name name ≡ b → Ends (r ∷ list) (after_name (r ∷ list) name)
    go rest true h = rw h (record { front = r ∷ []; is = refl })
    go rest false h = rw h (record { front = r ∷ rest.front; is = ap (λ l. r ∷ l) rest.is })

pub remaining_ends : (list : List Record) (at : Option Name) → Ends list (remaining list at)
remaining_ends list None = record { front = []; is = refl }
remaining_ends list (Some name) = after_ends list name

-- ---- where a name stands

-- a change has the name where its record is found
pub any_found : (list : List Record) (name : Name) (r : Record) → record_of list name ≡ Some r → Any (λ (c : Record). c.name ≡ name) list
any_found list name r e = let i = record_is list name r e in (i.member.0, r, i.member.1, i.member.2, i.named)

pub none_found : (list : List Record) (name : Name) → record_of list name ≡ None → Any (λ (c : Record). c.name ≡ name) list → ⊥
none_found list name e (i, r, low, is, named) = not_record list name (record_none list name e) r (record { member = (i, low, is); named = named })
