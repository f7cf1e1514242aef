-- What the links keep: the list that they give back, and how they keep it with one change more or one less.
use Rattle.std.proofs.Common.{◌≡◌, ℕ, ◌+◌, List, [], ◌∷◌, ◌++◌, length, refl, sym, ◌∙◌, ap, subst, Bool, true, false, cond, Option, Some, None, append_assoc, append-nil, length-append, arith}
use Rattle.std.specs.Option.{option_map}
use Rattle.std.specs.Prelude.{Contains, MatchOption, Result, Ok, Err, IfOk}
use Rattle.std.specs.Ordering.{is_eq}
use Rattle.std.specs.Cmp.{IsTotalOrder, on_total}
use Rattle.std.specs.Arc.{arc_value}
use Rattle.pj_name.specs.declared.name.Name.{Name}
use Rattle.pj_name.specs.Name.{same_name}
use Rattle.pj_name.proofs.Names.{name_cmp-total}
use Rattle.pj_change.specs.declared.change.Record.{Record}
use Rattle.pj_change.specs.Lawful.{is_held, record_of}
use Rattle.pj_change.specs.Unrecord.{without}
use Rattle.pj_change.proofs.Members.{splits, Splits}
use Rattle.pj_change.proofs.LawfulLists.{held, IsRecord, second_part, not_record}
use Rattle.pj_change.proofs.LawfulChanges.{without_place}
use Rattle.pj_change.proofs.EqualNames.{same_name_is, name_ties}
use Rattle.pj_pmap.specs.Pairs.{value_at, with_pair, without_key, or_else, IsRising}
use Rattle.pj_pmap.proofs.Lookups.{value_with, value_without}
use Rattle.pj_pmap.proofs.Counts.{length_with_new, length_with_old, length_without}
use Rattle.pj_apply.specs.declared.link.HeldName.{HeldName}
use Rattle.pj_apply.specs.declared.link.Link.{Link}
use Rattle.pj_apply.specs.Links.{key, key_cmp, link, link_of, first_name, last_name, is_at, set_at, set_before, set_after, step, listed, moved_end, AreDistinct, IsKept, IsSet}
use Rattle.pj_apply.specs.Walks.{after_name, remaining}
use Rattle.pj_apply.proofs.Distinct.{same_some, no_some, record_none, distinct_front, distinct_back, distinct_first, distinct_without, distinct_push, record_middle, after_middle, remaining_ends, Ends}
use Rattle.pj_apply.proofs.LinkLemmas.{link_record, link_append, link_middle, last_append, no_link, last_held, first_held, after_last, before_first, set_none, set_elsewhere}

-- ---- keys

pub key_total : IsTotalOrder key_cmp
key_total = on_total (λ (k : HeldName). k.name) name_cmp-total

-- ---- the list that the links give back

module _ (list : List Record) (pairs : List (HeldName × Link)) (first last : Option Name) (kept : IsKept list pairs first last) where
  pub listed_part : (xs ys : List Record) → list ≡ xs ++ ys → listed pairs (length ys) (first_name ys None) ≡ ys
  listed_part xs [] e = refl
  listed_part xs (y ∷ ys) e =
      let fresh : is_held xs y.name ≡ false = distinct_front y ys xs (subst AreDistinct e kept.distinct) in
      let there : value_at key_cmp (key y.name) pairs ≡ Some (link y (last_name None xs) (first_name ys None)) =
      kept.links y.name ∙ ap (λ (l : List Record). link_of None l None y.name) e ∙ link_middle xs y ys fresh in
      let rest : listed pairs (length ys) (first_name ys None) ≡ ys = listed_part (xs ++ y ∷ []) ys (e ∙ sym (append_assoc xs (y ∷ []) ys)) in
      ap (λ (o : Option Link). step o (listed pairs (length ys))) there ∙ ap (λ (l : List Record). y ∷ l) rest

  pub listed_is : listed pairs (length pairs) first ≡ list
  listed_is = ap (λ (n : ℕ). listed pairs n first) kept.count ∙ ap (listed pairs (length list)) kept.first_is ∙ listed_part [] list refl

  -- so they keep it
  pub kept_listed : IsKept (listed pairs (length pairs) first) pairs first last
  kept_listed = subst (λ (l : List Record). IsKept l pairs first last) (sym listed_is) kept

-- ---- one link set

-- what follows of two facts on a value
pub if_ok_both : {T E : Type 0} (r : Result T E) (P Q R : T → Type 0) → ((t : T) → P t → Q t → R t) → IfOk r P → IfOk r Q → IfOk r R
if_ok_both (Ok t) P Q R f p q = f t p q
if_ok_both (Err e) P Q R f p q = tt

module _ (name : Name) (set : Link → Link) (old : List (HeldName × Link)) (rising : IsRising key_cmp old) where
  pub set_there : (l : Link) (new : List (HeldName × Link)) → value_at key_cmp (key name) old ≡ Some l → new ≡ with_pair key_cmp (key name) (set l) old → IsRising key_cmp new → IsSet (Some name) set old new
  set_there l new there is rises = record {
    links = λ n. ap (value_at key_cmp (key n)) is ∙ value_with key_cmp key_total (key n) (key name) (set l) old ∙ go n (same_name name n) refl;
    count = ap length is ∙ length_with_old key_cmp key_total (key name) (set l) l old rising there;
    rising = rises;
  }
    where
      go : (n : Name) → (b : Bool) → same_name name n ≡ b →
          cond (is_eq (key_cmp (key n) (key name))) (Some (set l)) (value_at key_cmp (key n) old) ≡ set_at (Some name) set n (value_at key_cmp (key n) old)
      go n true h =
          let here : value_at key_cmp (key n) old ≡ Some l = subst (λ (m : Name). value_at key_cmp (key m) old ≡ Some l) (same_name_is name n h) there in
          ap (λ (b : Bool). cond b (Some (set l)) (value_at key_cmp (key n) old)) (name_ties name n ∙ h)
          ∙ sym (ap (λ (b : Bool). cond b (option_map set (value_at key_cmp (key n) old)) (value_at key_cmp (key n) old)) h ∙ ap (option_map set) here)
      go n false h =
          ap (λ (b : Bool). cond b (Some (set l)) (value_at key_cmp (key n) old)) (name_ties name n ∙ h)
          ∙ sym (ap (λ (b : Bool). cond b (option_map set (value_at key_cmp (key n) old)) (value_at key_cmp (key n) old)) h)

-- ---- one change more

or_first : (x : Option Link) → or_else x None ≡ x
or_first None = refl
or_first (Some x) = refl

module _ (list : List Record) (r : Record) (pairs mid new : List (HeldName × Link)) (first last : Option Name) (kept : IsKept list pairs first last) (fresh : is_held list r.name ≡ false)
    (more : mid ≡ with_pair key_cmp (key r.name) (link r last None) pairs) (set : IsSet last (set_after (Some r.name)) mid new) where
  not_last : is_at last r.name ≡ false
  not_last = go (is_at last r.name) refl
    where
      go : (b : Bool) → is_at last r.name ≡ b → is_at last r.name ≡ false
      go true h = absurd (let k = last_held list r.name (subst (λ (o : Option Name). is_at o r.name ≡ true) kept.last_is h) in cc)
      go false h = h

  absent : value_at key_cmp (key r.name) pairs ≡ None
  absent = kept.links r.name ∙ no_link None list None r.name fresh

  mid_link : (n : Name) → value_at key_cmp (key n) mid ≡ cond (same_name r.name n) (Some (link r last None)) (link_of None list None n)
  mid_link n =
      ap (value_at key_cmp (key n)) more
      ∙ value_with key_cmp key_total (key n) (key r.name) (link r last None) pairs
      ∙ ap (λ (b : Bool). cond b (Some (link r last None)) (value_at key_cmp (key n) pairs)) (name_ties r.name n)
      ∙ ap (λ (o : Option Link). cond (same_name r.name n) (Some (link r last None)) o) (kept.links n)

  new_link : (n : Name) → (b : Bool) → same_name r.name n ≡ b → value_at key_cmp (key n) new ≡ link_of None (list ++ r ∷ []) None n
  new_link n true h =
      let is : r.name ≡ n = same_name_is r.name n h in
      let elsewhere : is_at last n ≡ false = subst (λ (m : Name). is_at last m ≡ false) is not_last in
      let none : link_of None list (Some r.name) n ≡ None = no_link None list (Some r.name) n (subst (λ (m : Name). is_held list m ≡ false) is fresh) in
      set.links n
      ∙ set_elsewhere last (set_after (Some r.name)) n (value_at key_cmp (key n) mid) elsewhere
      ∙ mid_link n
      ∙ ap (λ (b : Bool). cond b (Some (link r last None)) (link_of None list None n)) h
      ∙ ap (λ (l : Option Name). Some (link r l None)) kept.last_is
      ∙ sym (link_append None list (r ∷ []) None n
      ∙ ap (λ (o : Option Link). or_else o (link_of (last_name None list) (r ∷ []) None n)) none
      ∙ ap (λ (b : Bool). cond b (Some (link r (last_name None list) None)) None) h)
  new_link n false h =
      set.links n
      ∙ ap (set_at last (set_after (Some r.name)) n) (mid_link n ∙ ap (λ (b : Bool). cond b (Some (link r last None)) (link_of None list None n)) h)
      ∙ ap (λ (l : Option Name). set_at l (set_after (Some r.name)) n (link_of None list None n)) kept.last_is
      ∙ sym (after_last None list None (Some r.name) n kept.distinct)
      ∙ sym (link_append None list (r ∷ []) None n
      ∙ ap (λ (b : Bool). or_else (link_of None list (Some r.name) n) (cond b (Some (link r (last_name None list) None)) None)) h
      ∙ or_first (link_of None list (Some r.name) n))

  first_more : (l : List Record) → moved_end (first_name l None) (Some r.name) (first_name l None) ≡ first_name (l ++ r ∷ []) None
  first_more [] = refl
  first_more (x ∷ l) = refl

  pub kept_more : IsKept (list ++ r ∷ []) new (moved_end first (Some r.name) first) (Some r.name)
  kept_more = record {
    distinct = distinct_push list r kept.distinct fresh;
    first_is = ap (λ (o : Option Name). moved_end o (Some r.name) o) kept.first_is ∙ first_more list;
    last_is = sym (last_append None list (r ∷ []));
    links = λ n. new_link n (same_name r.name n) refl;
    count = set.count ∙ ap length more ∙ length_with_new key_cmp (key r.name) (link r last None) pairs absent ∙ ap (λ (n : ℕ). n + 1) kept.count ∙ sym (length-append list (r ∷ []));
    rising = set.rising;
  }

-- ---- one change less

no_second : (c : Record) (n : Name) → c.name ≡ n → (list : List Record) → is_held list c.name ≡ false → (d : Record) → d.name ≡ n → Contains list d → ⊥
no_second c n is list none d named member = not_record list c.name none d (record { member = member; named = named ∙ sym is })

-- both settings, where one part or the other has the link
module _ (at_last at_first : Option Name) (after before : Option Name) (n : Name) where
  set_some : (o : Option Link) (l : Link) → o ≡ Some l → (m : Link) × (set_at at_last (set_after after) n o ≡ Some m)
  set_some o l e = go (is_at at_last n) refl
    where
      go : (b : Bool) → is_at at_last n ≡ b → (m : Link) × (set_at at_last (set_after after) n o ≡ Some m)
      go true h = (set_after after l, rw (h, e) refl)
      go false h = (l, rw (h, e) refl)

  pub set_both : (x y : Option Link) → (is_at at_last n ≡ true → y ≡ None) → ((l : Link) → x ≡ Some l → is_at at_first n ≡ false) →
      set_at at_first (set_before before) n (set_at at_last (set_after after) n (or_else x y)) ≡ or_else (set_at at_last (set_after after) n x) (set_at at_first (set_before before) n y)
  set_both None y last first = go (is_at at_last n) refl
    where
      go : (b : Bool) → is_at at_last n ≡ b →
          set_at at_first (set_before before) n (set_at at_last (set_after after) n y) ≡ or_else (set_at at_last (set_after after) n None) (set_at at_first (set_before before) n y)
      go true h =
          ap (λ (o : Option Link). set_at at_first (set_before before) n (set_at at_last (set_after after) n o)) (last h)
          ∙ ap (set_at at_first (set_before before) n) (set_none at_last (set_after after) n)
          ∙ ap (set_at at_first (set_before before) n) (sym (last h))
          ∙ ap (λ (o : Option Link). or_else o (set_at at_first (set_before before) n y)) (sym (set_none at_last (set_after after) n))
      go false h =
          ap (set_at at_first (set_before before) n) (set_elsewhere at_last (set_after after) n y h)
          ∙ ap (λ (o : Option Link). or_else o (set_at at_first (set_before before) n y)) (sym (set_none at_last (set_after after) n))
  set_both (Some l) y last first =
      let s = set_some (Some l) l refl in
      set_elsewhere at_first (set_before before) n (set_at at_last (set_after after) n (Some l)) (first l refl)
      ∙ s.1
      ∙ sym (ap (λ (o : Option Link). or_else o (set_at at_first (set_before before) n y)) s.1)

module _ (xs : List Record) (r : Record) (ys : List Record) (pairs less mid new : List (HeldName × Link)) (first last : Option Name) (kept : IsKept (xs ++ r ∷ ys) pairs first last)
    (out : less ≡ without_key key_cmp (key r.name) pairs)
    (after : IsSet (last_name None xs) (set_after (first_name ys None)) less mid) (before : IsSet (first_name ys None) (set_before (last_name None xs)) mid new) where
  early : is_held xs r.name ≡ false
  early = distinct_front r ys xs kept.distinct

  late : is_held ys r.name ≡ false
  late = distinct_back r ys xs kept.distinct

  -- a name is not in both parts
  apart : (n : Name) → is_held xs n ≡ true → is_held ys n ≡ true → ⊥
  apart n a b = by (held xs n a).0 (held xs n a).1 (splits xs (held xs n a).0 (held xs n a).1.member) b
    where
      by : (c : Record) → IsRecord xs n c → Splits xs c → is_held ys n ≡ true → ⊥
      by c i s b =
          let whole : xs ++ ys ≡ s.before ++ c ∷ (s.after ++ ys) = ap (λ (l : List Record). l ++ ys) s.is ∙ append_assoc s.before (c ∷ s.after) ys in
          let none : is_held (s.after ++ ys) c.name ≡ false = distinct_back c (s.after ++ ys) s.before (subst AreDistinct whole (distinct_without r ys xs kept.distinct)) in
          let d = held ys n b in
          no_second c n i.named (s.after ++ ys) none d.0 d.1.named (second_part s.after ys d.0 d.1.member)

  less_link : (n : Name) → value_at key_cmp (key n) less ≡ cond (same_name r.name n) None (link_of None (xs ++ r ∷ ys) None n)
  less_link n =
      ap (value_at key_cmp (key n)) out
      ∙ value_without key_cmp key_total (key n) (key r.name) pairs kept.rising
      ∙ ap (λ (b : Bool). cond b None (value_at key_cmp (key n) pairs)) (name_ties r.name n)
      ∙ ap (λ (o : Option Link). cond (same_name r.name n) None o) (kept.links n)

  new_value : (n : Name) → value_at key_cmp (key n) new ≡
      set_at (first_name ys None) (set_before (last_name None xs)) n (set_at (last_name None xs) (set_after (first_name ys None)) n (value_at key_cmp (key n) less))
  new_value n = before.links n ∙ ap (set_at (first_name ys None) (set_before (last_name None xs)) n) (after.links n)

  fewer_link : (n : Name) → (b : Bool) → same_name r.name n ≡ b → value_at key_cmp (key n) new ≡ link_of None (xs ++ ys) None n
  fewer_link n true h =
      let is : r.name ≡ n = same_name_is r.name n h in
      let none : value_at key_cmp (key n) less ≡ None = less_link n ∙ ap (λ (b : Bool). cond b None (link_of None (xs ++ r ∷ ys) None n)) h in
      new_value n
      ∙ ap (λ (o : Option Link). set_at (first_name ys None) (set_before (last_name None xs)) n (set_at (last_name None xs) (set_after (first_name ys None)) n o)) none
      ∙ ap (set_at (first_name ys None) (set_before (last_name None xs)) n) (set_none (last_name None xs) (set_after (first_name ys None)) n)
      ∙ set_none (first_name ys None) (set_before (last_name None xs)) n
      ∙ sym (link_append None xs ys None n
      ∙ ap (λ (o : Option Link). or_else o (link_of (last_name None xs) ys None n)) (no_link None xs (first_name ys None) n (subst (λ (m : Name). is_held xs m ≡ false) is early))
      ∙ no_link (last_name None xs) ys None n (subst (λ (m : Name). is_held ys m ≡ false) is late))
  fewer_link n false h =
      let old : value_at key_cmp (key n) less ≡ or_else (link_of None xs (Some r.name) n) (link_of (Some r.name) ys None n) =
      less_link n
      ∙ ap (λ (b : Bool). cond b None (link_of None (xs ++ r ∷ ys) None n)) h
      ∙ link_append None xs (r ∷ ys) None n
      ∙ ap (λ (b : Bool). or_else (link_of None xs (Some r.name) n) (cond b (Some (link r (last_name None xs) (first_name ys None))) (link_of (Some r.name) ys None n))) h in
      new_value n
      ∙ ap (λ (o : Option Link). set_at (first_name ys None) (set_before (last_name None xs)) n (set_at (last_name None xs) (set_after (first_name ys None)) n o)) old
      ∙ set_both (last_name None xs) (first_name ys None) (first_name ys None) (last_name None xs) n (link_of None xs (Some r.name) n) (link_of (Some r.name) ys None n)
      (λ l. no_link (Some r.name) ys None n (not_in_second (last_held xs n l) (is_held ys n) refl))
      (λ l e. not_first l e (is_at (first_name ys None) n) refl)
      ∙ sym (link_append None xs ys None n
      ∙ ap (λ (o : Option Link). or_else o (link_of (last_name None xs) ys None n)) (after_last None xs (Some r.name) (first_name ys None) n (distinct_first xs (r ∷ ys) kept.distinct))
      ∙ ap (or_else (set_at (last_name None xs) (set_after (first_name ys None)) n (link_of None xs (Some r.name) n))) (before_first ys (Some r.name) (last_name None xs) None n))
    where
      not_in_second : is_held xs n ≡ true → (b : Bool) → is_held ys n ≡ b → is_held ys n ≡ false
      not_in_second a true e = absurd (apart n a e)
      not_in_second a false e = e

      linked_held : (l : Link) → link_of None xs (Some r.name) n ≡ Some l → (b : Bool) → is_held xs n ≡ b → is_held xs n ≡ true
      linked_held l e true i = i
      linked_held l e false i = absurd (let k = no_link None xs (Some r.name) n i in cc)

      not_first : (l : Link) → link_of None xs (Some r.name) n ≡ Some l → (b : Bool) → is_at (first_name ys None) n ≡ b → is_at (first_name ys None) n ≡ false
      not_first l e true i = absurd (apart n (linked_held l e (is_held xs n) refl) (first_held ys n i))
      not_first l e false i = i

  pub kept_less : IsKept (xs ++ ys) new (first_name (xs ++ ys) None) (last_name None (xs ++ ys))
  kept_less = record {
    distinct = distinct_without r ys xs kept.distinct;
    first_is = refl;
    last_is = refl;
    links = λ n. fewer_link n (same_name r.name n) refl;
    count =
        let there = kept.links r.name ∙ link_middle xs r ys early in
        let gone = length_without key_cmp key_total (key r.name) (link r (last_name None xs) (first_name ys None)) pairs kept.rising there in
        let is = before.count ∙ after.count ∙ ap length out in
        let all = kept.count in
        let a = length-append xs (r ∷ ys) in
        let b = length-append xs ys in
        omega (arith, gone, is, all, a, b);
    rising = before.rising;
  }

-- ---- the change of a name taken out

-- where the change of a name stands
record Cut (list : List Record) (name : Name) : Type 0 where
  first : List Record
  change : Record
  rest : List Record
  is : list ≡ first ++ change ∷ rest
  named : change.name ≡ name

cut : (list : List Record) (name : Name) → is_held list name ≡ true → Cut list name
cut list name there = at (held list name there).0 (held list name there).1 (splits list (held list name there).0 (held list name there).1.member)
  where
    at : (c : Record) → IsRecord list name c → Splits list c → Cut list name
    at c i s = record { first = s.before; change = c; rest = s.after; is = s.is; named = i.named }

last_some : (name : Name) (list : List Record) → (last : Name) × (last_name (Some name) list ≡ Some last)
last_some name [] = (name, refl)
last_some name (r ∷ list) = last_some r.name list

first_moved : (xs : List Record) (r : Record) (ys : List Record) → moved_end (last_name None xs) (first_name ys None) (first_name (xs ++ r ∷ ys) None) ≡ first_name (xs ++ ys) None
first_moved [] r ys = refl
first_moved (x ∷ xs) r ys = let l = last_some x.name xs in rw l.1 refl

last_moved : (xs : List Record) (r : Record) (ys : List Record) → moved_end (first_name ys None) (last_name None xs) (last_name None (xs ++ r ∷ ys)) ≡ last_name None (xs ++ ys)
last_moved xs r [] = sym (ap (last_name None) (append-nil xs))
last_moved xs r (y ∷ ys) = last_append None xs (r ∷ y ∷ ys) ∙ sym (last_append None xs (y ∷ ys))

module _ (pairs less mid new : List (HeldName × Link)) (first last : Option Name) (l : Link) where
  out_of : (xs : List Record) (r : Record) (ys : List Record) → IsKept (xs ++ r ∷ ys) pairs first last → l.before ≡ last_name None xs → l.after ≡ first_name ys None →
      less ≡ without_key key_cmp (key r.name) pairs → IsSet l.before (set_after l.after) less mid → IsSet l.after (set_before l.before) mid new →
      IsKept (without (xs ++ r ∷ ys) r.name) new (moved_end l.before l.after first) (moved_end l.after l.before last)
  out_of xs r ys kept b a out after before =
      let after_there : IsSet (last_name None xs) (set_after (first_name ys None)) less mid =
      subst (λ (o : Option Name). IsSet o (set_after (first_name ys None)) less mid) b (subst (λ (o : Option Name). IsSet l.before (set_after o) less mid) a after) in
      let before_there : IsSet (first_name ys None) (set_before (last_name None xs)) mid new =
      subst (λ (o : Option Name). IsSet o (set_before (last_name None xs)) mid new) a (subst (λ (o : Option Name). IsSet l.after (set_before o) mid new) b before) in
      let fewer = kept_less xs r ys pairs less mid new first last kept out after_there before_there in
      let first_is : moved_end l.before l.after first ≡ first_name (xs ++ ys) None =
      ap (λ (o : Option Name). moved_end o l.after first) b
      ∙ ap (λ (o : Option Name). moved_end (last_name None xs) o first) a
      ∙ ap (moved_end (last_name None xs) (first_name ys None)) kept.first_is
      ∙ first_moved xs r ys in
      let last_is : moved_end l.after l.before last ≡ last_name None (xs ++ ys) =
      ap (λ (o : Option Name). moved_end o l.before last) a
      ∙ ap (λ (o : Option Name). moved_end (first_name ys None) o last) b
      ∙ ap (moved_end (first_name ys None) (last_name None xs)) kept.last_is
      ∙ last_moved xs r ys in
      let left : without (xs ++ r ∷ ys) r.name ≡ xs ++ ys = without_place r.name xs r ys refl (distinct_front r ys xs kept.distinct) (distinct_back r ys xs kept.distinct) in
      record {
        distinct = subst AreDistinct (sym left) fewer.distinct;
        first_is = first_is ∙ ap (λ (k : List Record). first_name k None) (sym left);
        last_is = last_is ∙ ap (last_name None) (sym left);
        links = λ n. fewer.links n ∙ ap (λ (k : List Record). link_of None k None n) (sym left);
        count = fewer.count ∙ ap length (sym left);
        rising = fewer.rising;
      }

  pub taken_out : (list : List Record) (name : Name) → IsKept list pairs first last → is_held list name ≡ true → link_of None list None name ≡ Some l →
      less ≡ without_key key_cmp (key name) pairs → IsSet l.before (set_after l.after) less mid → IsSet l.after (set_before l.before) mid new →
      IsKept (without list name) new (moved_end l.before l.after first) (moved_end l.after l.before last)
  taken_out list name kept there linked out after before = at (cut list name there)
    where
      at : Cut list name → IsKept (without list name) new (moved_end l.before l.after first) (moved_end l.after l.before last)
      at c =
          let whole : IsKept (c.first ++ c.change ∷ c.rest) pairs first last = subst (λ (k : List Record). IsKept k pairs first last) c.is kept in
          let fresh = distinct_front c.change c.rest c.first whole.distinct in
          let here : link_of None list None c.change.name ≡ Some (link c.change (last_name None c.first) (first_name c.rest None)) =
          ap (λ (k : List Record). link_of None k None c.change.name) c.is ∙ link_middle c.first c.change c.rest fresh in
          let is : l ≡ link c.change (last_name None c.first) (first_name c.rest None) =
          same_some l (link c.change (last_name None c.first) (first_name c.rest None)) (sym linked ∙ ap (link_of None list None) (sym c.named) ∙ here) in
          let gone : less ≡ without_key key_cmp (key c.change.name) pairs = out ∙ ap (λ (n : Name). without_key key_cmp (key n) pairs) (sym c.named) in
          let done = out_of c.first c.change c.rest whole (ap (λ (m : Link). m.before) is) (ap (λ (m : Link). m.after) is) gone after before in
          subst (λ (k : List Record). IsKept k new (moved_end l.before l.after first) (moved_end l.after l.before last))
          (ap (λ (k : List Record). without k c.change.name) (sym c.is) ∙ ap (without list) c.named) done

-- ---- a step of a walk

-- a change that is held has a link
pub link_there : (list : List Record) (name : Name) → is_held list name ≡ true → link_of None list None name ≡ None → ⊥
link_there list name there none =
    let absent = record_none list name (link_record None list None name ∙ ap (option_map (λ (l : Link). arc_value l.change)) none) in
    cc

-- the change of the next name is the first of what remains
pub next_step : {B : Type 0} (f : B → Record) (o : Option B) (list : List Record) (at : Option Name) (name : Name) → AreDistinct list → first_name (remaining list at) None ≡ Some name →
    MatchOption o (record_of list name ≡ None) (λ b. record_of list name ≡ Some (f b)) →
    MatchOption o (remaining list at ≡ []) (λ b. remaining list at ≡ f b ∷ after_name list (f b).name)
next_step {B = B} f o list at name distinct e h = go (remaining list at) refl (remaining_ends list at)
  where
    given : (s : Record) → record_of list name ≡ Some s → remaining list at ≡ s ∷ after_name list s.name → (o : Option B) →
        MatchOption o (record_of list name ≡ None) (λ b. record_of list name ≡ Some (f b)) → MatchOption o (remaining list at ≡ []) (λ b. remaining list at ≡ f b ∷ after_name list (f b).name)
    given s is rest None h = absurd (no_some s (sym is ∙ h))
    given s is rest (Some b) h = subst (λ (r : Record). remaining list at ≡ r ∷ after_name list r.name) (same_some s (f b) (sym is ∙ h)) rest

    there : (s : Record) (ss : List Record) → remaining list at ≡ s ∷ ss → s.name ≡ name → (front : List Record) → list ≡ front ++ s ∷ ss →
        MatchOption o (remaining list at ≡ []) (λ b. remaining list at ≡ f b ∷ after_name list (f b).name)
    there s ss rest named front is =
        let fresh = distinct_front s ss front (subst AreDistinct is distinct) in
        let found : record_of list name ≡ Some s = ap (record_of list) (sym named) ∙ ap (λ (k : List Record). record_of k s.name) is ∙ record_middle s ss front fresh in
        let after : after_name list s.name ≡ ss = ap (λ (k : List Record). after_name k s.name) is ∙ after_middle s ss front fresh in
        given s found (rest ∙ ap (λ (k : List Record). s ∷ k) (sym after)) o h

    go : (rest : List Record) → remaining list at ≡ rest → Ends list (remaining list at) → MatchOption o (remaining list at ≡ []) (λ b. remaining list at ≡ f b ∷ after_name list (f b).name)
    go [] r ends = absurd (let k : first_name (remaining list at) None ≡ None = ap (λ (k : List Record). first_name k None) r in no_some name (sym e ∙ k))
    go (s ∷ ss) r ends =
        let named : s.name ≡ name = same_some s.name name (sym (ap (λ (k : List Record). first_name k None) r) ∙ e) in
        there s ss r named ends.front (ends.is ∙ ap (λ (k : List Record). ends.front ++ k) r)
