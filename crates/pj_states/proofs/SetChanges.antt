-- A table of versions with what a whole change says, and without it.
use Rattle.std.proofs.Common.{◌≡◌, ◌∙◌, sym, ap, refl, ℕ, zero, suc, Bool, true, false, List, [], ◌∷◌, ◌++◌, Option, Some, None, cond, take, length, inl, inr, arith}
use Rattle.std.specs.Prelude.{Contains, slice_get, is_some}
use Rattle.std.specs.Ordering.{is_eq}
use Rattle.std.specs.declared.cmp.Ordering.{Ordering}
use Rattle.std.specs.declared.cmp.Ordering.TheVariants.{Less, Equal, Greater}
use Rattle.std.proofs.lemmas.Cmp.{tied_itself}
use Rattle.pj_name.specs.Name.{same_name}
use Rattle.pj_change.specs.declared.hunk.Hunk.{Hunk}
use Rattle.pj_change.specs.declared.change.Record.{Record}
use Rattle.pj_change.specs.Lawful.{is_held}
use Rattle.pj_change.proofs.EqualNames.{name_itself, same_name_is, is_same_name}
use Rattle.pj_change.proofs.LawfulLists.{append_cases, first_part, second_part, middle_cases, held_member}
use Rattle.pj_change.proofs.Members.{first_member, before_member, after_member, uncons, no_member}
use Rattle.pj_pmap.specs.Pairs.{with_pair, or_else}
use Rattle.pj_pmap.proofs.Lookups.{value_with}
use Rattle.pj_ranges.specs.declared.range.HunkAt.{HunkAt}
use Rattle.pj_ranges.specs.Units.{hunk_cmp}
use Rattle.pj_ranges.proofs.RangeOrder.{hunk_total}
use Rattle.pj_states.specs.declared.deletion.Deletion.{Deletion}
use Rattle.pj_states.specs.Rows.{Rows, hunk_at, said_by}
use Rattle.pj_states.specs.OfSets.{deletion_of, IsSaid, AreVersionsOf}
use Rattle.pj_states.specs.Given.{deletion_in, given_by, given_at, NothingSaidWhereNew}
use Rattle.pj_states.proofs.HunkOrder.{hunk_tied}

-- ---- what one of two says

abbrev pub gone_by : {X : Type 0} → Option X → Option X → Option X
gone_by given said = cond (is_some given) None said

-- the first, the second, the third that says something
else_else : {X : Type 0} (a b c : Option X) → or_else a (or_else b c) ≡ or_else (or_else a b) c
else_else None b c = refl
else_else (Some x) b c = refl

gone_gone : {X : Type 0} (a b c : Option X) → gone_by a (gone_by b c) ≡ gone_by (or_else a b) c
gone_gone None b c = refl
gone_gone (Some x) b c = refl

else_none : {X : Type 0} (a : Option X) → or_else a None ≡ a
else_none None = refl
else_none (Some x) = refl

-- ---- one hunk more or less

module _ (r : Record) (number : ℕ) (h : Hunk) (d : Deletion) (is : deletion_of r h ≡ Some d) (rows : Rows) where
  abbrev hunk : HunkAt
  hunk = hunk_at r.name number

  pub hunk_added : (now : Rows) → now ≡ with_pair hunk_cmp hunk d rows → (k : HunkAt) → said_by k now ≡ or_else (given_at r number h k) (said_by k rows)
  hunk_added now same k =
      ap (said_by k) same ∙ value_with hunk_cmp hunk_total k hunk d rows ∙ by (is_eq (hunk_cmp k hunk))
      ∙ ap (λ o. or_else (cond (is_eq (hunk_cmp k hunk)) o None) (said_by k rows)) (sym is)
    where
      by : (b : Bool) → cond b (Some d) (said_by k rows) ≡ or_else (cond b (Some d) None) (said_by k rows)
      by true = refl
      by false = refl

  pub hunk_removed : (now : Rows) → ((k : HunkAt) → said_by k now ≡ cond (is_eq (hunk_cmp k hunk)) None (said_by k rows)) → (k : HunkAt) → said_by k now ≡ gone_by (given_at r number h k) (said_by k rows)
  hunk_removed now said k =
      said k ∙ by (is_eq (hunk_cmp k hunk)) ∙ ap (λ o. gone_by (cond (is_eq (hunk_cmp k hunk)) o None) (said_by k rows)) (sym is)
    where
      by : (b : Bool) → cond b None (said_by k rows) ≡ gone_by (cond b (Some d) None) (said_by k rows)
      by true = refl
      by false = refl

-- what is not there may be taken away
pub said_without_none : (rows : Rows) (k j : HunkAt) → said_by k rows ≡ None → said_by j rows ≡ cond (is_eq (hunk_cmp j k)) None (said_by j rows)
said_without_none rows k j none = by (hunk_cmp j k) refl
  where
    by : (o : Ordering) → hunk_cmp j k ≡ o → said_by j rows ≡ cond (is_eq (hunk_cmp j k)) None (said_by j rows)
    by Less e = rw e refl
    by Greater e = rw e refl
    by Equal e = ap (λ i. said_by i rows) (hunk_tied j k e) ∙ none ∙ ap (λ o. cond (is_eq o) None (said_by j rows)) (sym e)

-- ---- the first elements of a list

take_at : {X : Type 0} (xs : List X) (i : ℕ) → slice_get (take i xs) i ≡ None
take_at [] zero = refl
take_at [] (suc i) = refl
take_at (x ∷ xs) zero = refl
take_at (x ∷ xs) (suc i) = take_at xs i

take_last : {X : Type 0} (xs : List X) (i : ℕ) → slice_get (take (suc i) xs) i ≡ slice_get xs i
take_last [] i = refl
take_last (x ∷ xs) zero = refl
take_last (x ∷ xs) (suc i) = take_last xs i

take_other : {X : Type 0} (xs : List X) (i k : ℕ) → (k ≡ i → ⊥) → slice_get (take (suc i) xs) k ≡ slice_get (take i xs) k
take_other [] zero k other = refl
take_other [] (suc i) k other = refl
take_other (x ∷ xs) zero zero other = absurd (other refl)
take_other (x ∷ xs) zero (suc k) other = refl
take_other (x ∷ xs) (suc i) zero other = refl
take_other (x ∷ xs) (suc i) (suc k) other = take_other xs i k (λ same. other (ap suc same))

pub take_whole : {X : Type 0} (xs : List X) (i : ℕ) → length xs ≡ i → take i xs ≡ xs
take_whole [] zero e = refl
take_whole [] (suc i) e = refl
take_whole (x ∷ xs) zero e = absurd (omega arith)
take_whole (x ∷ xs) (suc i) e = ap (λ ys. x ∷ ys) (take_whole xs i (omega arith))

-- ---- what the first hunks of a change say

module _ (r : Record) where
  abbrev pub given_upto : ℕ → HunkAt → Option Deletion
  given_upto n k = cond (same_name r.name k.change) (deletion_in r (slice_get (take n r.change.hunks) k.hunk)) None

  pub all_given : (n : ℕ) → length r.change.hunks ≡ n → (k : HunkAt) → given_upto n k ≡ given_by r k
  all_given n e k = ap (λ hs. cond (same_name r.name k.change) (deletion_in r (slice_get hs k.hunk)) None) (take_whole r.change.hunks n e)

  module _ (i : ℕ) (h : Hunk) (there : slice_get r.change.hunks i ≡ Some h) where
    -- the hunk itself says its own, and those before it nothing
    more_itself : given_upto (suc i) (hunk_at r.name i) ≡ deletion_of r h
    more_itself =
        ap (λ b. cond b (deletion_in r (slice_get (take (suc i) r.change.hunks) i)) None) (name_itself r.name)
        ∙ ap (deletion_in r) (take_last r.change.hunks i ∙ there)

    pub not_yet : given_upto i (hunk_at r.name i) ≡ None
    not_yet =
        ap (λ b. cond b (deletion_in r (slice_get (take i r.change.hunks) i)) None) (name_itself r.name)
        ∙ ap (deletion_in r) (take_at r.change.hunks i)

    more_other : (k : HunkAt) → (k ≡ hunk_at r.name i → ⊥) → given_upto (suc i) k ≡ given_upto i k
    more_other k other = by (same_name r.name k.change) refl
      where
        by : (b : Bool) → same_name r.name k.change ≡ b → cond b (deletion_in r (slice_get (take (suc i) r.change.hunks) k.hunk)) None ≡ cond b (deletion_in r (slice_get (take i r.change.hunks) k.hunk)) None
        by false e = refl
        by true e =
            let named = same_name_is r.name k.change e in
            ap (deletion_in r) (take_other r.change.hunks i k.hunk (λ at. other (λ j. record { change = sym named j; hunk = at j })))

    -- one hunk more
    pub given_more : (k : HunkAt) → given_upto (suc i) k ≡ or_else (given_at r i h k) (given_upto i k)
    given_more k = by (hunk_cmp k (hunk_at r.name i)) refl
      where
        away : is_eq (hunk_cmp k (hunk_at r.name i)) ≡ false → (k ≡ hunk_at r.name i → ⊥) → given_upto (suc i) k ≡ or_else (given_at r i h k) (given_upto i k)
        away e other = more_other k other ∙ ap (λ b. or_else (cond b (deletion_of r h) None) (given_upto i k)) (sym e)

        apart : (o : Ordering) → hunk_cmp k (hunk_at r.name i) ≡ o → (o ≡ Equal → ⊥) → k ≡ hunk_at r.name i → ⊥
        apart o e not same = not (sym e ∙ ap (hunk_cmp k) (sym same) ∙ tied_itself hunk_total k)

        by : (o : Ordering) → hunk_cmp k (hunk_at r.name i) ≡ o → given_upto (suc i) k ≡ or_else (given_at r i h k) (given_upto i k)
        by Less e = away (ap is_eq e) (apart Less e (λ c. cc))
        by Greater e = away (ap is_eq e) (apart Greater e (λ c. cc))
        by Equal e =
            let same = hunk_tied k (hunk_at r.name i) e in
            ap (given_upto (suc i)) same ∙ more_itself
            ∙ sym (else_none (deletion_of r h))
            ∙ ap (or_else (deletion_of r h)) (sym (ap (given_upto i) same ∙ not_yet))
            ∙ ap (λ b. or_else (cond b (deletion_of r h) None) (given_upto i k)) (sym (ap is_eq e))

    -- the table with a hunk more, after those before it
    pub with_more : (base was now : Rows) → ((k : HunkAt) → said_by k was ≡ or_else (given_upto i k) (said_by k base)) →
        ((k : HunkAt) → said_by k now ≡ or_else (given_at r i h k) (said_by k was)) → (k : HunkAt) → said_by k now ≡ or_else (given_upto (suc i) k) (said_by k base)
    with_more base was now upto more k =
        more k ∙ ap (or_else (given_at r i h k)) (upto k) ∙ else_else (given_at r i h k) (given_upto i k) (said_by k base)
        ∙ ap (λ o. or_else o (said_by k base)) (sym (given_more k))

    pub fresh_still : (base was : Rows) → ((k : HunkAt) → said_by k was ≡ or_else (given_upto i k) (said_by k base)) → said_by (hunk_at r.name i) base ≡ None → said_by (hunk_at r.name i) was ≡ None
    fresh_still base was upto fresh = upto (hunk_at r.name i) ∙ ap (λ o. or_else o (said_by (hunk_at r.name i) base)) not_yet ∙ fresh

    -- and with a hunk less
    pub without_more : (base was now : Rows) → ((k : HunkAt) → said_by k was ≡ gone_by (given_upto i k) (said_by k base)) →
        ((k : HunkAt) → said_by k now ≡ gone_by (given_at r i h k) (said_by k was)) → (k : HunkAt) → said_by k now ≡ gone_by (given_upto (suc i) k) (said_by k base)
    without_more base was now upto less k =
        less k ∙ ap (gone_by (given_at r i h k)) (upto k) ∙ gone_gone (given_at r i h k) (given_upto i k) (said_by k base)
        ∙ ap (λ o. gone_by o (said_by k base)) (sym (given_more k))

  -- all hunks more, and less
  pub with_all : (base now : Rows) (n : ℕ) → length r.change.hunks ≡ n → ((k : HunkAt) → said_by k now ≡ or_else (given_upto n k) (said_by k base)) → (k : HunkAt) → said_by k now ≡ or_else (given_by r k) (said_by k base)
  with_all base now n e upto k = upto k ∙ ap (λ o. or_else o (said_by k base)) (all_given n e k)

  pub without_all : (base now : Rows) (n : ℕ) → length r.change.hunks ≡ n → ((k : HunkAt) → said_by k now ≡ gone_by (given_upto n k) (said_by k base)) → (k : HunkAt) → said_by k now ≡ gone_by (given_by r k) (said_by k base)
  without_all base now n e upto k = upto k ∙ ap (λ o. gone_by o (said_by k base)) (all_given n e k)

-- ---- the change in a set

module _ (r : Record) where
  -- what a change says is said in each set that has it
  pub given_said : (S : List Record) → Contains S r → (k : HunkAt) (d : Deletion) → given_by r k ≡ Some d → IsSaid S k d
  given_said S m k d e = by (same_name r.name k.change) refl (slice_get r.change.hunks k.hunk) refl e
    where
      by : (b : Bool) → same_name r.name k.change ≡ b → (o : Option Hunk) → slice_get r.change.hunks k.hunk ≡ o → cond b (deletion_in r o) None ≡ Some d → IsSaid S k d
      by false named o at h = absurd (cc)
      by true named None at h = absurd (cc)
      by true named (Some h') at h = record { change = r; member = m; name = same_name_is r.name k.change named; hunk = h'; there = at; is = h }

  -- what it says is by its own hunks
  given_own : (k : HunkAt) (d : Deletion) → given_by r k ≡ Some d → r.name ≡ k.change
  given_own k d e = by (same_name r.name k.change) refl e
    where
      by : (b : Bool) → same_name r.name k.change ≡ b → cond b (deletion_in r (slice_get r.change.hunks k.hunk)) None ≡ Some d → r.name ≡ k.change
      by true named h = same_name_is r.name k.change named
      by false named h = absurd (cc)

  own_given : (S : List Record) (k : HunkAt) (d : Deletion) (s : IsSaid S k d) → r ≡ s.change → given_by r k ≡ Some d
  own_given S k d s same = ap (λ (x : Record). given_by x k) same ∙ said_given s.change k d s.name s.hunk s.there s.is
    where
      said_given : (x : Record) (k : HunkAt) (d : Deletion) → x.name ≡ k.change → (h : Hunk) → slice_get x.change.hunks k.hunk ≡ Some h → deletion_of x h ≡ Some d → given_by x k ≡ Some d
      said_given x k d named h there is =
          ap (λ b. cond b (deletion_in x (slice_get x.change.hunks k.hunk)) None) (is_same_name x.name k.change named)
          ∙ ap (deletion_in x) there ∙ is

said_in : (S T : List Record) → ((s : Record) → Contains S s → Contains T s) → (k : HunkAt) (d : Deletion) → IsSaid S k d → IsSaid T k d
said_in S T to k d s = record { change = s.change; member = to s.change s.member; name = s.name; hunk = s.hunk; there = s.there; is = s.is }

module _ (r : Record) (base now : Rows) where
  module _ (fresh : (number : ℕ) → said_by (hunk_at r.name number) base ≡ None) (rows : (k : HunkAt) → said_by k now ≡ or_else (given_by r k) (said_by k base)) where
    kept_with : (k : HunkAt) (d : Deletion) → said_by k base ≡ Some d → (o : Option Deletion) → given_by r k ≡ o → said_by k now ≡ Some d
    kept_with k d h None g = rows k ∙ ap (λ o. or_else o (said_by k base)) g ∙ h
    kept_with k d h (Some x) g =
        let named = given_own r k x g in
        let none : said_by k base ≡ None = ap (λ n. said_by (hunk_at n k.hunk) base) (sym named) ∙ fresh k.hunk in
        let c : None ≡ Some d = sym none ∙ h in
        absurd (cc)

    -- the table of a set with the change
    pub set_with : (S : List Record) → AreVersionsOf S base → AreVersionsOf (S ++ r ∷ []) now
    set_with S of k d = (there (given_by r k) refl, back)
      where
        there : (o : Option Deletion) → given_by r k ≡ o → said_by k now ≡ Some d → IsSaid (S ++ r ∷ []) k d
        there None g h =
            let f : said_by k now ≡ said_by k base = rows k ∙ ap (λ o. or_else o (said_by k base)) g in
            said_in S (S ++ r ∷ []) (first_part S (r ∷ [])) k d ((of k d).0 (sym f ∙ h))
        there (Some x) g h =
            let f : said_by k now ≡ Some x = rows k ∙ ap (λ o. or_else o (said_by k base)) g in
            let same : Some x ≡ Some d = sym f ∙ h in
            given_said r (S ++ r ∷ []) (second_part S (r ∷ []) r (first_member r [])) k d (g ∙ same)

        back : IsSaid (S ++ r ∷ []) k d → said_by k now ≡ Some d
        back s = elim (append_cases S (r ∷ []) s.change s.member) [
          | inl old ↦ kept_with k d ((of k d).1 (record { change = s.change; member = old; name = s.name; hunk = s.hunk; there = s.there; is = s.is })) (given_by r k) refl
          | inr own ↦ elim (uncons r [] s.change own) [
            | inl same ↦ rows k ∙ ap (λ o. or_else o (said_by k base)) (own_given r (S ++ r ∷ []) k d s same)
            | inr none ↦ absurd (no_member s.change none)
          ]
        ]

  module _ (rows : (k : HunkAt) → said_by k now ≡ gone_by (given_by r k) (said_by k base)) (before after : List Record) (other : is_held (before ++ after) r.name ≡ false) where
    wider : (s : Record) → Contains (before ++ after) s → Contains (before ++ r ∷ after) s
    wider s m = elim (append_cases before after s m) [
      | inl b ↦ before_member before after r s b
      | inr a ↦ after_member before after r s a
    ]

    kept_without : (k : HunkAt) (d : Deletion) → IsSaid (before ++ after) k d → said_by k base ≡ Some d → (o : Option Deletion) → given_by r k ≡ o → said_by k now ≡ Some d
    kept_without k d s h None g = rows k ∙ ap (λ o. gone_by o (said_by k base)) g ∙ h
    kept_without k d s h (Some x) g =
        let held : is_held (before ++ after) r.name ≡ true = held_member (before ++ after) r.name s.change (record { member = s.member; named = s.name ∙ sym (given_own r k x g) }) in
        let c : true ≡ false = sym held ∙ other in
        absurd (cc)

    -- the table of a set without the change
    pub set_without : AreVersionsOf (before ++ r ∷ after) base → AreVersionsOf (before ++ after) now
    set_without of k d = (there (given_by r k) refl, λ s. kept_without k d s ((of k d).1 (said_in (before ++ after) (before ++ r ∷ after) wider k d s)) (given_by r k) refl)
      where
        there : (o : Option Deletion) → given_by r k ≡ o → said_by k now ≡ Some d → IsSaid (before ++ after) k d
        there (Some x) g h =
            let f : said_by k now ≡ None = rows k ∙ ap (λ o. gone_by o (said_by k base)) g in
            let c : None ≡ Some d = sym f ∙ h in
            absurd (cc)
        there None g h =
            let f : said_by k now ≡ said_by k base = rows k ∙ ap (λ o. gone_by o (said_by k base)) g in
            let s : IsSaid (before ++ r ∷ after) k d = (of k d).0 (sym f ∙ h) in
            elim (middle_cases before r after s.change s.member) [
              | inl b ↦ record { change = s.change; member = first_part before after s.change b; name = s.name; hunk = s.hunk; there = s.there; is = s.is }
              | inr rest ↦ elim rest [
                | inl same ↦ (let own = own_given r (before ++ r ∷ after) k d s same in let c : None ≡ Some d = sym g ∙ own in absurd (cc))
                | inr a ↦ record { change = s.change; member = second_part before after s.change a; name = s.name; hunk = s.hunk; there = s.there; is = s.is }
              ]
            ]

-- a change that is not in the set says nothing in its table
pub nothing_said : NothingSaidWhereNew
nothing_said S rows of n new number = by (said_by (hunk_at n number) rows) refl
  where
    by : (o : Option Deletion) → said_by (hunk_at n number) rows ≡ o → said_by (hunk_at n number) rows ≡ None
    by None e = e
    by (Some d) e =
        let s = (of (hunk_at n number) d).0 e in
        let held : is_held S n ≡ true = held_member S n s.change (record { member = s.member; named = s.name }) in
        let c : true ≡ false = sym held ∙ new in
        absurd (cc)
