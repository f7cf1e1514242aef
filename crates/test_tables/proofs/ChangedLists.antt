-- Lists of changes with one change more or less, as the tables of needs and contests want them.
use Rattle.std.proofs.Common.{◌≡◌, List, [], ◌∷◌, ◌++◌, refl, sym, ◌∙◌, ap, subst, inl, inr, true, false}
use Rattle.std.specs.Prelude.{Contains, ◌⊎◌, ◌≢◌, Option, Some, None, MatchOption, is_some}
use Rattle.pj_name.specs.declared.name.Name.{Name}
use Rattle.pj_change.specs.declared.change.Record.{Record}
use Rattle.pj_change.specs.Lawful.{is_held, record_of}
use Rattle.pj_change.specs.Sets.{HaveSameMembers, HaveDistinctNames}
use Rattle.pj_change.specs.Unrecord.{IsHolder, without}
use Rattle.pj_change.proofs.Members.{uncons, first_member, later_member, before_member, middle_member, after_member, moved, same_member, no_member, Splits, splits}
use Rattle.pj_change.proofs.Listings.{IsRelated, related_pairs}
use Rattle.pj_change.proofs.LawfulLists.{not_held, not_record, held_member, append_cases, first_part, second_part, IsRecord}
use Rattle.pj_change.proofs.LawfulChanges.{without_place}
use Rattle.pj_apply.specs.Links.{AreDistinct}
use Rattle.pj_apply.proofs.Distinct.{distinct_names, distinct_push, distinct_front, distinct_back, distinct_without, record_is, record_none}
use Rattle.pj_contest.specs.Contests.{Table, IsContestsOf, IsFree}
use Rattle.pj_contest.specs.Laws.{OfMembers}

-- ---- look-ups

-- where no change of the name is found, none is held
pub absent : {X : Type 0} (f : X → Record) (o : Option X) (S : List Record) (name : Name) → MatchOption o (record_of S name ≡ None) (λ x. record_of S name ≡ Some (f x)) → is_some o ≡ false → is_held S name ≡ false
absent f None S name m h = record_none S name m
absent f (Some x) S name m h = absurd (cc)

pub found_held : (S : List Record) (name : Name) (r : Record) → record_of S name ≡ Some r → is_held S name ≡ true
found_held S name r e = held_member S name r (record_is S name r e)

-- ---- distinct names

related_distinct : (S : List Record) → IsRelated (λ r s. r.name ≢ s.name) S → AreDistinct S
related_distinct [] h = tt
related_distinct (r ∷ S) h = (not_held S r.name (λ s i. h.0 s i.member (sym i.named)), related_distinct S h.1)

pub are_distinct : (S : List Record) → HaveDistinctNames S → AreDistinct S
are_distinct S h = related_distinct S (related_pairs (λ r s. r.name ≢ s.name) S h)

-- ---- one more

module _ (S : List Record) (r : Record) (distinct : HaveDistinctNames S) (fresh : is_held S r.name ≡ false) where
  there : (c : Record) → (r ≡ c) ⊎ Contains S c → Contains (S ++ r ∷ []) c
  there c (inl e) = subst (Contains (S ++ r ∷ [])) e (middle_member S [] r)
  there c (inr m) = before_member S [] r c m

  back : (c : Record) → Contains S c ⊎ Contains (r ∷ []) c → Contains (r ∷ S) c
  back c (inl m) = later_member r S c m
  back c (inr m) = elim (uncons r [] c m) [
    | inl e ↦ subst (Contains (r ∷ S)) e (first_member r S)
    | inr n ↦ absurd (no_member c n)
  ]

  -- the table of the list with the change in front is that of the list with the change at its end
  pub put_last : OfMembers → (t : Table) → IsContestsOf (r ∷ S) t → IsContestsOf (S ++ r ∷ []) t
  put_last of_members t is =
      let d = are_distinct S distinct in
      of_members (r ∷ S) (S ++ r ∷ [])
      (record { there = λ c m. there c (uncons r S c m); back = λ c m. back c (append_cases S (r ∷ []) c m) })
      (distinct_names (r ∷ S) (fresh, d)) (distinct_names (S ++ r ∷ []) (distinct_push S r d fresh)) t is

-- ---- one less

-- the change of a name in a list, and what stands before it and behind it
pub record Stands (S : List Record) (name : Name) (r : Record) : Type 0 where
  pub before : List Record
  pub after : List Record
  pub is : S ≡ before ++ r ∷ after
  pub named : r.name ≡ name
  pub left : without S name ≡ before ++ after
  pub apart : AreDistinct (r ∷ (before ++ after))

module _ (S : List Record) (name : Name) (r : Record) (distinct : HaveDistinctNames S) where
  standing : IsRecord S name r → Splits S r → Stands S name r
  standing i s =
      let d : AreDistinct (s.before ++ r ∷ s.after) = subst AreDistinct s.is (are_distinct S distinct) in
      let front = distinct_front r s.after s.before d in
      let behind = distinct_back r s.after s.before d in
      record {
        before = s.before;
        after = s.after;
        is = s.is;
        named = i.named;
        left = ap (λ l. without l name) s.is ∙ without_place name s.before r s.after i.named (subst (λ n. is_held s.before n ≡ false) i.named front) (subst (λ n. is_held s.after n ≡ false) i.named behind);
        apart = (not_held (s.before ++ s.after) r.name (λ c h. neither s.before s.after c h front behind (append_cases s.before s.after c h.member)), distinct_without r s.after s.before d);
      }
    where
      neither : (before after : List Record) (c : Record) → IsRecord (before ++ after) r.name c → is_held before r.name ≡ false → is_held after r.name ≡ false → Contains before c ⊎ Contains after c → ⊥
      neither before after c h front behind (inl m) = not_record before r.name front c (record { member = m; named = h.named })
      neither before after c h front behind (inr m) = not_record after r.name behind c (record { member = m; named = h.named })

  pub stands : record_of S name ≡ Some r → Stands S name r
  stands e = let i = record_is S name r e in standing i (splits S r i.member)

  module _ (s : Stands S name r) where
    -- it is not one of those that are left
    pub gone : is_held (without S name) r.name ≡ false
    gone = subst (λ l. is_held l r.name ≡ false) (sym s.left) s.apart.0

    there' : (c : Record) → Contains s.before c ⊎ Contains (r ∷ s.after) c → Contains (r ∷ (s.before ++ s.after)) c
    there' c (inl m) = later_member r (s.before ++ s.after) c (first_part s.before s.after c m)
    there' c (inr m) = elim (uncons r s.after c m) [
      | inl e ↦ subst (Contains (r ∷ (s.before ++ s.after))) e (first_member r (s.before ++ s.after))
      | inr n ↦ later_member r (s.before ++ s.after) c (second_part s.before s.after c n)
    ]

    back' : (c : Record) → (r ≡ c) ⊎ Contains (s.before ++ s.after) c → Contains (s.before ++ r ∷ s.after) c
    back' c (inl e) = subst (Contains (s.before ++ r ∷ s.after)) e (middle_member s.before s.after r)
    back' c (inr m) = elim (append_cases s.before s.after c m) [
      | inl n ↦ before_member s.before s.after r c n
      | inr n ↦ after_member s.before s.after r c n
    ]

    same : HaveSameMembers S (r ∷ (s.before ++ s.after))
    same = record {
      there = λ c m. there' c (append_cases s.before (r ∷ s.after) c (moved c s.is m));
      back = λ c m. moved c (sym s.is) (back' c (uncons r (s.before ++ s.after) c m));
    }

    -- the table of the list is that of the list with the change in front of those that are left
    pub put_first : OfMembers → (t : Table) → IsContestsOf S t → IsContestsOf (r ∷ without S name) t
    put_first of_members t is = subst (λ l. IsContestsOf (r ∷ l) t) (sym s.left)
        (of_members S (r ∷ (s.before ++ s.after)) same distinct (distinct_names (r ∷ (s.before ++ s.after)) s.apart) t is)

    -- none of them needs it, nor does it need itself, where no change of the list does
    pub left_free : ((holder : Name) → IsHolder S name holder → ⊥) → IsFree (without S name) r
    left_free none c m n = none c.name (record {
      needing = c;
      member = same.back c (subst (λ l. Contains (r ∷ l) c) s.left m);
      needs = same_member c.change.needs s.named n;
      named = refl;
    })

-- ---- a change that may come

pub free : (S : List Record) (r : Record) → ((holder : Name) → IsHolder S r.name holder → ⊥) → (Contains r.change.needs r.name → ⊥) → IsFree S r
free S r none apart c m n = by (uncons r S c m)
  where
    by : (r ≡ c) ⊎ Contains S c → ⊥
    by (inl e) = apart (subst (λ (q : Record). Contains q.change.needs r.name) (sym e) n)
    by (inr k) = none c.name (record { needing = c; member = k; needs = n; named = refl })
