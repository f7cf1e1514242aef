-- Lawful lists: their parts, and the lists without some of their changes.
use Rattle.std.proofs.Common.{◌≡◌, List, [], ◌∷◌, ◌++◌, refl, sym, ◌∙◌, ap, subst, inl, inr, Bool, true, false, append_assoc}
use Rattle.std.specs.Prelude.{Contains, ◌⊎◌, Option, Some}
use Rattle.std.specs.List.{list_all, filter_map, cons_option}
use Rattle.pj_name.specs.declared.name.Name.{Name}
use Rattle.pj_name.specs.Name.{same_name}
use Rattle.pj_change.specs.declared.change.Record.{Record}
use Rattle.pj_change.specs.Context.{holds}
use Rattle.pj_change.specs.Lawful.{is_held, record_of, needs_of, Follows, IsLawful, IsInOrder, IsLawfulSet}
use Rattle.pj_change.proofs.Members.{uncons, first_member, later_member, no_member, same_member, moved, any_member, passes, none_passes, all_member, all_from, Splits, splits, before_member, middle_member, after_member}
use Rattle.pj_change.proofs.EqualNames.{same_name_is, is_same_name}

-- ---- lists in two parts

-- where a place of the whole stands: in the first part, or in the second
pub record InFirst {X : Type 0} (xs ys before : List X) (c : X) (after : List X) : Type 0 where
  pub rest : List X
  pub first : xs ≡ before ++ c ∷ rest
  pub then : after ≡ rest ++ ys

pub record InSecond {X : Type 0} (xs ys before : List X) (c : X) (after : List X) : Type 0 where
  pub front : List X
  pub first : before ≡ xs ++ front
  pub then : ys ≡ front ++ c ∷ after

pub place_in : {X : Type 0} (xs ys before : List X) (c : X) (after : List X) → xs ++ ys ≡ before ++ c ∷ after → InFirst xs ys before c after ⊎ InSecond xs ys before c after
place_in [] ys before c after e = inr (record { front = before; first = refl; then = e })
place_in (x ∷ xs) ys [] c after e =
    let h : x ≡ c = cc in
    let k : xs ++ ys ≡ after = cc in
    inl (record { rest = xs; first = ap (λ z. z ∷ xs) h; then = sym k })
place_in {X} (x ∷ xs) ys (b ∷ before) c after e =
    let h : x ≡ b = cc in
    let k : xs ++ ys ≡ before ++ c ∷ after = cc in
    elim (place_in xs ys before c after k) [
      | inl i ↦ inl (record { rest = i.rest; first = λ n. h n ∷ i.first n; then = i.then })
      | inr i ↦ inr (record { front = i.front; first = λ n. sym h n ∷ i.first n; then = i.then })
    ]

pub middle_cases : {X : Type 0} (before : List X) (c : X) (after : List X) (x : X) → Contains (before ++ c ∷ after) x → Contains before x ⊎ ((c ≡ x) ⊎ Contains after x)
middle_cases [] c after x m = inr (uncons c after x m)
middle_cases (b ∷ before) c after x m = elim (uncons b (before ++ c ∷ after) x m) [
  | inl e ↦ inl (same_member (b ∷ before) e (first_member b before))
  | inr n ↦ elim (middle_cases before c after x n) [ inl k ↦ inl (later_member b before x k) | inr k ↦ inr k ]
]

pub append_cases : {X : Type 0} (xs ys : List X) (x : X) → Contains (xs ++ ys) x → Contains xs x ⊎ Contains ys x
append_cases [] ys x m = inr m
append_cases (y ∷ xs) ys x m = elim (uncons y (xs ++ ys) x m) [
  | inl e ↦ inl (same_member (y ∷ xs) e (first_member y xs))
  | inr n ↦ elim (append_cases xs ys x n) [ inl k ↦ inl (later_member y xs x k) | inr k ↦ inr k ]
]

pub first_part : {X : Type 0} (xs ys : List X) (x : X) → Contains xs x → Contains (xs ++ ys) x
first_part [] ys x m = absurd (no_member x m)
first_part (y ∷ xs) ys x m = elim (uncons y xs x m) [
  | inl e ↦ same_member (y ∷ (xs ++ ys)) e (first_member y (xs ++ ys))
  | inr n ↦ later_member y (xs ++ ys) x (first_part xs ys x n)
]

pub second_part : {X : Type 0} (xs ys : List X) (x : X) → Contains ys x → Contains (xs ++ ys) x
second_part [] ys x m = m
second_part (y ∷ xs) ys x m = later_member y (xs ++ ys) x (second_part xs ys x m)

-- ---- what is held

-- a record of this name
pub record IsRecord (list : List Record) (name : Name) (r : Record) : Type 0 where
  pub member : Contains list r
  pub named : r.name ≡ name

pub held_member : (list : List Record) (name : Name) (r : Record) → IsRecord list name r → is_held list name ≡ true
held_member list name r h = any_member (λ r. same_name r.name name) list r h.member (is_same_name r.name name h.named)

pub held : (list : List Record) (name : Name) → is_held list name ≡ true → (r : Record) × IsRecord list name r
held list name e = (let p = passes (λ r. same_name r.name name) list e in (p.it, record { member = p.member; named = same_name_is p.it.name name p.is }))

-- none of this name is held
pub not_held : (list : List Record) (name : Name) → ((r : Record) → IsRecord list name r → ⊥) → is_held list name ≡ false
not_held list name f = none_passes (λ r. same_name r.name name) list (λ r m. go r m (same_name r.name name) refl)
  where
    go : (r : Record) → Contains list r → (b : Bool) → same_name r.name name ≡ b → same_name r.name name ≡ false
    go r m true h = absurd (f r (record { member = m; named = same_name_is r.name name h }))
    go r m false h = h

pub not_record : (list : List Record) (name : Name) → is_held list name ≡ false → (r : Record) → IsRecord list name r → ⊥
not_record list name e r h = (let k = held_member list name r h in cc)

-- fewer are held in fewer
pub fewer_held : (list more : List Record) (name : Name) → ((r : Record) → Contains list r → Contains more r) → is_held more name ≡ false → is_held list name ≡ false
fewer_held list more name within e = not_held list name (λ r h. not_record more name e r (record { member = within r h.member; named = h.named }))

-- ---- the record of a name

pub record IsFound (list : List Record) (name : Name) : Type 0 where
  pub it : Record
  pub is : record_of list name ≡ Some it
  pub record_is : IsRecord list name it

pub found : (list : List Record) (name : Name) → is_held list name ≡ true → IsFound list name
found [] name e = absurd (cc)
found (r ∷ list) name e = go (found list name) (same_name r.name name) refl
  where
    on : same_name r.name name ≡ false → IsFound list name → IsFound (r ∷ list) name
    on h f = record { it = f.it; is = (let k : record_of (r ∷ list) name ≡ record_of list name = rw h refl in k ∙ f.is); record_is = record { member = later_member r list f.it f.record_is.member; named = f.record_is.named } }

    more : same_name r.name name ≡ false → is_held list name ≡ true
    more h = rw h at e

    go : (is_held list name ≡ true → IsFound list name) → (b : Bool) → same_name r.name name ≡ b → IsFound (r ∷ list) name
    go rest true h = record { it = r; is = rw h refl; record_is = record { member = first_member r list; named = same_name_is r.name name h } }
    go rest false h = on h (rest (more h))

-- two lists whose records of equal names are equal have the same record of a name that both hold
record_same : (list list' : List Record) → ((r s : Record) → Contains list r → Contains list' s → r.name ≡ s.name → r ≡ s) →
    (name : Name) → is_held list name ≡ true → is_held list' name ≡ true → record_of list name ≡ record_of list' name
record_same list list' unique name e f =
    let a = found list name e in
    let b = found list' name f in
    let s = unique a.it b.it a.record_is.member b.record_is.member (a.record_is.named ∙ sym b.record_is.named) in
    a.is ∙ ap Some s ∙ sym b.is

filter_map_same : {X Y : Type 0} (f g : X → Option Y) (xs : List X) → ((x : X) → Contains xs x → f x ≡ g x) → filter_map f xs ≡ filter_map g xs
filter_map_same f g [] e = refl
filter_map_same f g (x ∷ xs) e = λ i. cons_option (e x (first_member x xs) i) (filter_map_same f g xs (λ y m. e y (later_member x xs y m)) i)

-- a change that follows one list follows another one which holds its needs and not the change itself
pub follows_there : (list list' : List Record) → ((r s : Record) → Contains list r → Contains list' s → r.name ≡ s.name → r ≡ s) →
    (c : Record) → Follows list c → is_held list' c.name ≡ false → list_all (is_held list') c.change.needs ≡ true → Follows list' c
follows_there list list' unique c f fresh needs =
    let e : needs_of list c ≡ needs_of list' c = filter_map_same (record_of list) (record_of list') c.change.needs (λ n m.
    record_same list list' unique n (all_member (is_held list) c.change.needs n f.needs m) (all_member (is_held list') c.change.needs n needs m)) in
    record { fresh = fresh; needs = needs; context = subst (λ rs. list_all (holds c rs) c.change.hunks ≡ true) e f.context }

-- ---- lawful lists

-- in a lawful list two records of one name are one
pub one_record : (list : List Record) → IsLawful list → (r s : Record) → Contains list r → Contains list s → r.name ≡ s.name → r ≡ s
one_record list lawful r s m n e =
    let k = splits list r m in
    let f = lawful k.before r k.after k.is in
    elim (middle_cases k.before r k.after s (moved s k.is n)) [
      | inl b ↦ absurd (not_record k.before r.name f.fresh s (record { member = b; named = sym e }))
      | inr t ↦ elim t [ inl same ↦ same | inr a ↦ absurd (later k.before k.after k.is (splits k.after s a)) ]
    ]
  where
    later : (before after : List Record) → list ≡ before ++ r ∷ after → Splits after s → ⊥
    later before after is a =
        let whole : list ≡ (before ++ r ∷ a.before) ++ s ∷ a.after = is ∙ ap (λ l. before ++ r ∷ l) a.is ∙ sym (append_assoc before (r ∷ a.before) (s ∷ a.after)) in
        let f = lawful (before ++ r ∷ a.before) s a.after whole in
        not_record (before ++ r ∷ a.before) s.name f.fresh r (record { member = middle_member before a.before r; named = e })

-- a list in order of changes of a lawful set is lawful
pub part_lawful : (whole list : List Record) → IsLawfulSet whole → ((r : Record) → Contains list r → Contains whole r) → IsInOrder list → IsLawful list
part_lawful whole list set within order before c after is =
    let there = λ (r : Record) (m : Contains list r). set.same.back r (within r m) in
    let in_list : Contains list c = moved c (sym is) (middle_member before after c) in
    let k = splits set.list c (there c in_list) in
    let o = order before c after is in
    follows_there k.before before
    (λ r s m n e. one_record set.list set.lawful r s
    (moved r (sym k.is) (before_member k.before k.after c r m)) (there s (moved s (sym is) (before_member before after c s n))) e)
    c (set.lawful k.before c k.after k.is) o.0 o.1

pub set_of : (list : List Record) → IsLawful list → IsLawfulSet list
set_of list lawful = record { list = list; same = record { there = λ r m. m; back = λ r m. m }; lawful = lawful }

-- ---- without one change

module _ (before : List Record) (c : Record) (after : List Record) (lawful : IsLawful (before ++ c ∷ after))
    (needed : (r : Record) → Contains (before ++ c ∷ after) r → Contains r.change.needs c.name → ⊥) where
  without_member : (r : Record) → Contains (before ++ after) r → Contains (before ++ c ∷ after) r
  without_member r m = elim (append_cases before after r m) [ inl b ↦ before_member before after c r b | inr a ↦ after_member before after c r a ]

  without_in_order : IsInOrder (before ++ after)
  without_in_order b x a is = elim (place_in before after b x a is) [
    | inl i ↦ in_first i
    | inr i ↦ in_second i
  ]
    where
      in_first : InFirst before after b x a → (is_held b x.name ≡ false) × (list_all (is_held b) x.change.needs ≡ true)
      in_first i =
          let whole : before ++ c ∷ after ≡ b ++ x ∷ (i.rest ++ c ∷ after) = ap (λ l. l ++ c ∷ after) i.first ∙ append_assoc b (x ∷ i.rest) (c ∷ after) in
          let f = lawful b x (i.rest ++ c ∷ after) whole in
          (f.fresh, f.needs)

      in_second : InSecond before after b x a → (is_held b x.name ≡ false) × (list_all (is_held b) x.change.needs ≡ true)
      in_second i =
          let whole : before ++ c ∷ after ≡ (before ++ c ∷ i.front) ++ x ∷ a = ap (λ l. before ++ c ∷ l) i.then ∙ sym (append_assoc before (c ∷ i.front) (x ∷ a)) in
          let f = lawful (before ++ c ∷ i.front) x a whole in
          let member : Contains (before ++ c ∷ after) x = moved x (sym whole) (middle_member (before ++ c ∷ i.front) a x) in
          let fresh : is_held b x.name ≡ false = fewer_held b (before ++ c ∷ i.front) x.name (λ r m. wider i r (moved r i.first m)) f.fresh in
          (fresh, all_from (is_held b) x.change.needs (λ n m. narrow i x member n m (held (before ++ c ∷ i.front) n (all_member (is_held (before ++ c ∷ i.front)) x.change.needs n f.needs m))))
        where
          wider : (i : InSecond before after b x a) → (r : Record) → Contains (before ++ i.front) r → Contains (before ++ c ∷ i.front) r
          wider i r m = elim (append_cases before i.front r m) [ inl k ↦ before_member before i.front c r k | inr k ↦ after_member before i.front c r k ]

          narrow : (i : InSecond before after b x a) → (x : Record) → Contains (before ++ c ∷ after) x → (n : Name) → Contains x.change.needs n →
              (r : Record) × IsRecord (before ++ c ∷ i.front) n r → is_held b n ≡ true
          narrow i x member n m h = elim (middle_cases before c i.front h.0 h.1.member) [
            | inl k ↦ held_member b n h.0 (record { member = moved h.0 (sym i.first) (first_part before i.front h.0 k); named = h.1.named })
            | inr t ↦ elim t [
              | inl e ↦ absurd (needed x member (same_member x.change.needs (sym (ap (λ (r : Record). r.name) e ∙ h.1.named)) m))
              | inr k ↦ held_member b n h.0 (record { member = moved h.0 (sym i.first) (second_part before i.front h.0 k); named = h.1.named })
            ]
          ]

  -- a lawful list without a change that no member needs is lawful
  pub without_lawful : IsLawful (before ++ after)
  without_lawful = part_lawful (before ++ c ∷ after) (before ++ after) (set_of (before ++ c ∷ after) lawful) without_member without_in_order
