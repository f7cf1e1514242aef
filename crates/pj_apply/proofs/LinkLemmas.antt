-- The links of a list: of its parts, of one change, and with another neighbour.
use Rattle.std.proofs.Common.{◌≡◌, List, [], ◌∷◌, ◌++◌, refl, sym, ◌∙◌, ap, subst, Bool, true, false, cond, Option, Some, None}
use Rattle.std.specs.Option.{option_map}
use Rattle.std.specs.Arc.{arc_value}
use Rattle.pj_name.specs.declared.name.Name.{Name}
use Rattle.pj_name.specs.Name.{same_name}
use Rattle.pj_change.specs.declared.change.Record.{Record}
use Rattle.pj_change.specs.Lawful.{is_held, record_of}
use Rattle.pj_change.proofs.EqualNames.{same_name_is, name_itself}
use Rattle.pj_pmap.specs.Pairs.{or_else}
use Rattle.pj_apply.specs.declared.link.Link.{Link}
use Rattle.pj_apply.specs.Links.{link, link_of, first_name, last_name, is_at, set_at, set_before, set_after, AreDistinct}
use Rattle.pj_apply.specs.Walks.{after_name}
use Rattle.pj_apply.proofs.Distinct.{held_none, held_later, same_some}

-- ---- one list

-- the change of the link is the record of the name
pub link_record : (before : Option Name) (list : List Record) (after : Option Name) (name : Name) → record_of list name ≡ option_map (λ (l : Link). arc_value l.change) (link_of before list after name)
link_record before [] after name = refl
link_record before (r ∷ list) after name = go (link_record (Some r.name) list after name) (same_name r.name name) refl
  where
    go : record_of list name ≡ option_map (λ (l : Link). arc_value l.change) (link_of (Some r.name) list after name) → (b : Bool) → same_name r.name name ≡ b →
        record_of (r ∷ list) name ≡ option_map (λ (l : Link). arc_value l.change) (link_of before (r ∷ list) after name)
    go rest true h = rw h refl
    go rest false h = rw h rest

-- a name that is not held has no link
pub no_link : (before : Option Name) (list : List Record) (after : Option Name) (name : Name) → is_held list name ≡ false → link_of before list after name ≡ None
no_link before [] after name e = refl
no_link before (r ∷ list) after name e = let n = held_none r list name e in rw n.0 (no_link (Some r.name) list after name n.1)

-- what stands after the change of a link
pub link_after : (before : Option Name) (list : List Record) (after : Option Name) (name : Name) (l : Link) → link_of before list after name ≡ Some l → l.after ≡ first_name (after_name list name) after
link_after before [] after name l e = absurd (cc)
link_after before (r ∷ list) after name l e = go (link_after (Some r.name) list after name l) (same_name r.name name) refl
  where
    go : (link_of (Some r.name) list after name ≡ Some l → l.after ≡ first_name (after_name list name) after) → (b : Bool) → same_name r.name name ≡ b → l.after ≡ first_name (after_name (r ∷ list) name) after
    go rest true h =
        let is : link r before (first_name list after) ≡ l = same_some (link r before (first_name list after)) l (rw h at e) in
        rw h (ap (λ (m : Link). m.after) (sym is))
    go rest false h = rw h (rest (rw h at e))

-- where a name has no link, nothing stands after it
pub none_after : (before : Option Name) (list : List Record) (after : Option Name) (name : Name) → link_of before list after name ≡ None → after_name list name ≡ []
none_after before [] after name e = refl
none_after before (r ∷ list) after name e = go (none_after (Some r.name) list after name) (same_name r.name name) refl
  where
    go : (link_of (Some r.name) list after name ≡ None → after_name list name ≡ []) → (b : Bool) → same_name r.name name ≡ b → after_name (r ∷ list) name ≡ []
    go rest true h = absurd (let k = rw h at e in cc)
    go rest false h = rw h (rest (rw h at e))

-- ---- two parts

pub link_append : (before : Option Name) (xs ys : List Record) (after : Option Name) (name : Name) →
    link_of before (xs ++ ys) after name ≡ or_else (link_of before xs (first_name ys after) name) (link_of (last_name before xs) ys after name)
link_append before [] ys after name = refl
link_append before (x ∷ xs) ys after name = go (link_append (Some x.name) xs ys after name) (first_append xs) (same_name x.name name) refl
  where
    first_append : (xs : List Record) → first_name (xs ++ ys) after ≡ first_name xs (first_name ys after)
    first_append [] = refl
    first_append (z ∷ zs) = refl

    go : link_of (Some x.name) (xs ++ ys) after name ≡ or_else (link_of (Some x.name) xs (first_name ys after) name) (link_of (last_name (Some x.name) xs) ys after name) →
        first_name (xs ++ ys) after ≡ first_name xs (first_name ys after) → (b : Bool) → same_name x.name name ≡ b →
        link_of before ((x ∷ xs) ++ ys) after name ≡ or_else (link_of before (x ∷ xs) (first_name ys after) name) (link_of (last_name before (x ∷ xs)) ys after name)
    go rest first true h = rw h (ap (λ (a : Option Name). Some (link x before a)) first)
    go rest first false h = rw h rest

pub last_append : (before : Option Name) (xs ys : List Record) → last_name before (xs ++ ys) ≡ last_name (last_name before xs) ys
last_append before [] ys = refl
last_append before (x ∷ xs) ys = last_append (Some x.name) xs ys

-- the link of a change in the middle
pub link_middle : (xs : List Record) (y : Record) (ys : List Record) → is_held xs y.name ≡ false →
    link_of None (xs ++ y ∷ ys) None y.name ≡ Some (link y (last_name None xs) (first_name ys None))
link_middle xs y ys e =
    link_append None xs (y ∷ ys) None y.name
    ∙ ap (λ (l : Option Link). or_else l (link_of (last_name None xs) (y ∷ ys) None y.name)) (no_link None xs (Some y.name) y.name e)
    ∙ rw (name_itself y.name) refl

-- ---- the first and the last name

-- the last name is held
pub last_held : (list : List Record) (name : Name) → is_at (last_name None list) name ≡ true → is_held list name ≡ true
last_held [] name e = absurd (cc)
last_held (r ∷ []) name e = rw e refl
last_held (r ∷ s ∷ list) name e = held_later r (s ∷ list) name (last_held (s ∷ list) name e)

pub first_held : (list : List Record) (name : Name) → is_at (first_name list None) name ≡ true → is_held list name ≡ true
first_held [] name e = absurd (cc)
first_held (r ∷ list) name e = rw e refl

-- ---- another neighbour

nothing_set : (b : Bool) (set : Link → Link) → cond b (option_map set None) None ≡ None
nothing_set true set = refl
nothing_set false set = refl

-- another name after the list changes the last link alone
pub after_last : (before : Option Name) (list : List Record) (old new : Option Name) (name : Name) → AreDistinct list →
    link_of before list new name ≡ set_at (last_name None list) (set_after new) name (link_of before list old name)
after_last before [] old new name d = refl
after_last before (r ∷ []) old new name d = go (same_name r.name name) refl
  where
    go : (b : Bool) → same_name r.name name ≡ b → link_of before (r ∷ []) new name ≡ set_at (Some r.name) (set_after new) name (link_of before (r ∷ []) old name)
    go true h = rw h refl
    go false h = rw h refl
after_last before (r ∷ s ∷ list) old new name d = go (after_last (Some r.name) (s ∷ list) old new name d.1) (same_name r.name name) refl (is_at (last_name None (s ∷ list)) name) refl
  where
    go : link_of (Some r.name) (s ∷ list) new name ≡ set_at (last_name None (s ∷ list)) (set_after new) name (link_of (Some r.name) (s ∷ list) old name) →
        (b : Bool) → same_name r.name name ≡ b → (l : Bool) → is_at (last_name None (s ∷ list)) name ≡ l →
        link_of before (r ∷ s ∷ list) new name ≡ set_at (last_name None (r ∷ s ∷ list)) (set_after new) name (link_of before (r ∷ s ∷ list) old name)
    go rest true h true l = absurd (let k : is_held (s ∷ list) r.name ≡ true = subst (λ (n : Name). is_held (s ∷ list) n ≡ true) (sym (same_name_is r.name name h)) (last_held (s ∷ list) name l) in let f = d.0 in cc)
    go rest true h false l = rw (h, l) refl
    go rest false h b l = rw h rest

-- another name before the list changes the first link alone
pub before_first : (list : List Record) (old new after : Option Name) (name : Name) →
    link_of new list after name ≡ set_at (first_name list None) (set_before new) name (link_of old list after name)
before_first [] old new after name = refl
before_first (r ∷ list) old new after name = go (same_name r.name name) refl
  where
    go : (b : Bool) → same_name r.name name ≡ b → link_of new (r ∷ list) after name ≡ set_at (Some r.name) (set_before new) name (link_of old (r ∷ list) after name)
    go true h = rw h refl
    go false h = rw h refl

-- setting finds no more than there is
pub set_none : (at : Option Name) (set : Link → Link) (name : Name) → set_at at set name None ≡ None
set_none at set name = nothing_set (is_at at name) set

-- elsewhere nothing is set
pub set_elsewhere : (at : Option Name) (set : Link → Link) (name : Name) (o : Option Link) → is_at at name ≡ false → set_at at set name o ≡ o
set_elsewhere at set name o e = rw e refl
