-- A hunk is contested exactly where a change that contests it is counted; what a change brings of pairs; and neither depends on the order of a set's list.
use Rattle.std.proofs.Common.{◌≡◌, ℕ, ◌+◌, ◌≤◌, Bool, true, false, ◌&&◌, ◌||◌, List, [], ◌∷◌, ◌++◌, refl, sym, ap, ◌∙◌, subst, arith, cond, count_by, sum_by, nat_lt}
use Rattle.std.specs.Prelude.{Contains, ◌↔◌}
use Rattle.std.specs.Cmp.{both_ways}
use Rattle.std.specs.List.{list_any}
use Rattle.std.proofs.lemmas.Bool.{and_parts, and_from, and_right}
use Rattle.std.proofs.lemmas.List.Folds.{list_any-append}
use Rattle.std.proofs.lemmas.List.Sums.{sum_by-cons}
use Rattle.pj_name.specs.Name.{same_name}
use Rattle.pj_change.specs.declared.hunk.Hunk.{Hunk}
use Rattle.pj_change.specs.declared.hunk.Hunk.TheVariants.{File, Dir, NameOf, Insert, Order, Delete, Revive}
use Rattle.pj_change.specs.declared.change.Record.{Record}
use Rattle.pj_change.specs.Positions.{numbered}
use Rattle.pj_change.specs.Sets.{HaveSameMembers, HaveDistinctNames}
use Rattle.pj_change.specs.Contested.{opposes, deleted_at, is_hunk_contested}
use Rattle.pj_change.specs.ContestCounts.{is_contested_by, contests_of, contest_pairs, pairs_with}
use Rattle.pj_change.proofs.EqualNames.{same_name_is, name_itself}
use Rattle.pj_change.proofs.Members.{any_member, passes, any_same, none_passes}
use Rattle.pj_change.proofs.NeedNumbers.{delete_owner, numbered_need}
use Rattle.pj_change.proofs.Counting.{positive_count, at_least_one, from_one, sum_plus, sum_alike, count_alike, sum_middle, count_middle}
use Rattle.pj_change.proofs.DistinctRecords.{set_count}

-- ---- where a hunk is contested

-- whichever of two members is asked for first
any_exchanged : {X Y : Type 0} (a : Y → Bool) (b : X → Y → Bool) (xs : List X) (ys : List Y) →
    list_any (λ x. list_any (λ y. a y && b x y) ys) xs ≡ list_any (λ y. a y && list_any (λ x. b x y) xs) ys
any_exchanged a b xs ys = both_ways _ _ there back
  where
    there : list_any (λ x. list_any (λ y. a y && b x y) ys) xs ≡ true → list_any (λ y. a y && list_any (λ x. b x y) xs) ys ≡ true
    there e =
        let x = passes (λ x. list_any (λ y. a y && b x y) ys) xs e in
        let y = passes (λ y. a y && b x.it y) ys x.is in
        let both = and_parts (a y.it) (b x.it y.it) y.is in
        any_member (λ y. a y && list_any (λ x. b x y) xs) ys y.it y.member (and_from _ _ both.0 (any_member (λ x. b x y.it) xs x.it x.member both.1))

    back : list_any (λ y. a y && list_any (λ x. b x y) xs) ys ≡ true → list_any (λ x. list_any (λ y. a y && b x y) ys) xs ≡ true
    back e =
        let y = passes (λ y. a y && list_any (λ x. b x y) xs) ys e in
        let both = and_parts (a y.it) (list_any (λ x. b x y.it) xs) y.is in
        let x = passes (λ x. b x y.it) xs both.1 in
        any_member (λ x. list_any (λ y. a y && b x y) ys) xs x.it x.member (any_member (λ y. a y && b x.it y) ys y.it y.member (and_from _ _ both.0 x.is))

none_contest : (S : List Record) → list_any (λ (i : Record). false) S ≡ false
none_contest S = none_passes (λ (i : Record). false) S (λ i m. refl)

any_contesting : (S : List Record) (d : Record) (h : Hunk) → list_any (is_contested_by S d h) S ≡ is_hunk_contested S d h
any_contesting S d (Delete owner start end by) = any_exchanged (λ o. same_name o.name (numbered d owner)) (λ i o. opposes i d o.name start end (deleted_at o start)) S S
any_contesting S d (File parent name exec) = none_contest S
any_contesting S d (Dir parent name) = none_contest S
any_contesting S d (NameOf parent child name exec) = none_contest S
any_contesting S d (Insert file ups downs bytes) = none_contest S
any_contesting S d (Order file source target) = none_contest S
any_contesting S d (Revive owner start end by) = none_contest S

-- the test of the count is the test of a contested hunk
pub counted_contested : (S : List Record) (d : Record) (h : Hunk) → nat_lt 0 (contests_of S d h) ≡ is_hunk_contested S d h
counted_contested S d h = positive_count (is_contested_by S d h) S ∙ any_contesting S d h

-- a hunk is contested exactly where its count is at least 1
pub contested_where_counted : (S : List Record) (d : Record) (h : Hunk) → (is_hunk_contested S d h ≡ true) ↔ (1 ≤ contests_of S d h)
contested_where_counted S d h =
    (at_least_one (contests_of S d h) (is_hunk_contested S d h) (counted_contested S d h), from_one (contests_of S d h) (is_hunk_contested S d h) (counted_contested S d h))

-- ---- sets

module _ (S T : List Record) (same : HaveSameMembers S T) where
  pub contested_by-same : (d : Record) (h : Hunk) (i : Record) → is_contested_by S d h i ≡ is_contested_by T d h i
  contested_by-same d (Delete owner start end by) i = any_same _ _ S T same.there same.back (λ o. refl)
  contested_by-same d (File parent name exec) i = refl
  contested_by-same d (Dir parent name) i = refl
  contested_by-same d (NameOf parent child name exec) i = refl
  contested_by-same d (Insert file ups downs bytes) i = refl
  contested_by-same d (Order file source target) i = refl
  contested_by-same d (Revive owner start end by) i = refl

  module _ (left : HaveDistinctNames S) (right : HaveDistinctNames T) where
    -- two lists with the same members, each once, contest a hunk as often
    pub contests-same : (d : Record) (h : Hunk) → contests_of S d h ≡ contests_of T d h
    contests-same d h =
        set_count S T same left right (is_contested_by S d h)
        ∙ count_alike (is_contested_by S d h) (is_contested_by T d h) T (λ i m. contested_by-same d h i)

-- ---- one change more

any_without : {X : Type 0} (p : X → Bool) (xs : List X) (x : X) (ys : List X) → p x ≡ false → list_any p (xs ++ x ∷ ys) ≡ list_any p (xs ++ ys)
any_without p xs x ys e = list_any-append p xs (x ∷ ys) ∙ ap (λ b. list_any p xs || (b || list_any p ys)) e ∙ sym (list_any-append p xs ys)

count_none : {X : Type 0} (p : X → Bool) (xs : List X) → ((x : X) → p x ≡ false) → count_by p xs ≡ 0
count_none p [] e = refl
count_none p (x ∷ xs) e = (let h = sum_by-cons (λ x. cond (p x) 1 0) x xs in let g = count_none p xs e in let bit : Bool → ℕ = λ b. cond b 1 0 in let k : bit (p x) ≡ 0 = ap bit (e x) in omega (arith, h, g, k))

-- no change contests its own hunks
not_itself : (S : List Record) (r : Record) (h : Hunk) → is_contested_by S r h r ≡ false
unfolding opposes
not_itself S r (Delete owner start end by) = none_passes _ S (λ o m. and_right (same_name o.name (numbered r owner)) (opposes r r o.name start end (deleted_at o start)) (no_stranger o))
  where
    no_stranger : (o : Record) → opposes r r o.name start end (deleted_at o start) ≡ false
    no_stranger o = rw (name_itself r.name) refl
not_itself S r (File parent name exec) = refl
not_itself S r (Dir parent name) = refl
not_itself S r (NameOf parent child name exec) = refl
not_itself S r (Insert file ups downs bytes) = refl
not_itself S r (Order file source target) = refl
not_itself S r (Revive owner start end by) = refl

module _ (before after : List Record) (r : Record) (free : (d : Record) → Contains (before ++ r ∷ after) d → Contains d.change.needs r.name → ⊥) where
  -- a change that none needs owns no range that is deleted
  not_owner : (d : Record) → Contains (before ++ r ∷ after) d → (owner start end : ℕ) (by : List ℕ) → Contains d.change.hunks (Delete owner start end by) →
      same_name r.name (numbered d owner) ≡ false
  not_owner d m owner start end by n = go (same_name r.name (numbered d owner)) refl
    where
      go : (b : Bool) → same_name r.name (numbered d owner) ≡ b → same_name r.name (numbered d owner) ≡ false
      go true e = absurd (free d m (subst (Contains d.change.needs) (sym (same_name_is r.name (numbered d owner) e)) (numbered_need d owner (delete_owner d owner start end by n))))
      go false e = e

  -- so whether another change contests a hunk does not depend on it
  same_contest : (d : Record) → Contains (before ++ r ∷ after) d → (h : Hunk) → Contains d.change.hunks h → (i : Record) →
      is_contested_by (before ++ r ∷ after) d h i ≡ is_contested_by (before ++ after) d h i
  same_contest d m (Delete owner start end by) n i =
      any_without (λ o. same_name o.name (numbered d owner) && opposes i d o.name start end (deleted_at o start)) before r after
      (ap (λ b. b && opposes i d r.name start end (deleted_at r start)) (not_owner d m owner start end by n))
  same_contest d m (File parent name exec) n i = refl
  same_contest d m (Dir parent name) n i = refl
  same_contest d m (NameOf parent child name exec) n i = refl
  same_contest d m (Insert file ups downs bytes) n i = refl
  same_contest d m (Order file source target) n i = refl
  same_contest d m (Revive owner start end by) n i = refl

  -- a hunk gains the change itself where that contests it
  pub contests_middle : (d : Record) → Contains (before ++ r ∷ after) d → (h : Hunk) → Contains d.change.hunks h →
      contests_of (before ++ r ∷ after) d h ≡ contests_of (before ++ after) d h + cond (is_contested_by (before ++ after) d h r) 1 0
  contests_middle d m h n =
      count_alike (is_contested_by (before ++ r ∷ after) d h) (is_contested_by (before ++ after) d h) (before ++ r ∷ after) (λ i k. same_contest d m h n i)
      ∙ count_middle (is_contested_by (before ++ after) d h) before r after

  hunks_middle : (d : Record) → Contains (before ++ r ∷ after) d →
      sum_by (contests_of (before ++ r ∷ after) d) d.change.hunks
      ≡ sum_by (contests_of (before ++ after) d) d.change.hunks + count_by (λ h. is_contested_by (before ++ after) d h r) d.change.hunks
  hunks_middle d m =
      sum_alike (contests_of (before ++ r ∷ after) d) (λ h. contests_of (before ++ after) d h + cond (is_contested_by (before ++ after) d h r) 1 0) d.change.hunks (λ h n. contests_middle d m h n)
      ∙ sum_plus (contests_of (before ++ after) d) (λ h. cond (is_contested_by (before ++ after) d h r) 1 0) d.change.hunks

  -- a change that none needs brings its pairs with the others, wherever it stands
  pub pairs_middle : contest_pairs (before ++ r ∷ after) ≡ contest_pairs (before ++ after) + pairs_with (before ++ after) r
  pairs_middle =
      let S = before ++ after in
      let own : Record → ℕ = λ d. sum_by (contests_of S d) d.change.hunks in
      let gained : Record → ℕ = λ d. count_by (λ h. is_contested_by S d h r) d.change.hunks in
      let all : contest_pairs (before ++ r ∷ after) ≡ sum_by (λ d. own d + gained d) (before ++ r ∷ after) = sum_alike _ _ (before ++ r ∷ after) (λ d m. hunks_middle d m) in
      let middle = sum_middle (λ d. own d + gained d) before r after in
      let apart = sum_plus own gained S in
      let none : gained r ≡ 0 = count_none (λ h. is_contested_by S r h r) r.change.hunks (λ h. not_itself S r h) in
      omega (arith, all, middle, apart, none)
