-- How a change that comes or goes changes the number of changes that contest a hunk.
use Rattle.std.proofs.Common.{◌≡◌, ℕ, ◌+◌, Bool, true, false, ◌&&◌, ◌||◌, List, [], ◌∷◌, Option, Some, None, refl, sym, ap, ◌∙◌, subst, arith, cond, count_by}
use Rattle.std.specs.Prelude.{Contains, slice_get}
use Rattle.std.specs.List.{list_any}
use Rattle.pj_name.specs.declared.name.Name.{Name}
use Rattle.pj_name.specs.Name.{same_name}
use Rattle.pj_change.specs.declared.hunk.Hunk.{Hunk}
use Rattle.pj_change.specs.declared.hunk.Hunk.TheVariants.{File, Dir, NameOf, Insert, Order, Delete, Revive}
use Rattle.pj_change.specs.declared.change.Record.{Record}
use Rattle.pj_change.specs.Lawful.{is_held}
use Rattle.pj_change.specs.Positions.{numbered}
use Rattle.pj_change.specs.Contested.{opposes, deleted_at}
use Rattle.pj_change.proofs.Counting.{count_alike}
use Rattle.pj_change.proofs.EqualNames.{same_name_is, name_itself}
use Rattle.pj_change.proofs.Members.{any_alike, none_passes, first_member, later_member, member_at}
use Rattle.pj_change.proofs.LawfulLists.{not_record}
use Rattle.pj_change.proofs.NeedNumbers.{delete_owner, numbered_need}
use Rattle.pj_ranges.specs.declared.range.HunkAt.{HunkAt}
use Rattle.pj_ranges.specs.Units.{hunk_cmp}
use Rattle.pj_ranges.proofs.RangeOrder.{hunk_total}
use Rattle.pj_rows.specs.Keys.{times}
use Rattle.pj_rows.proofs.KeyLemmas.{count_cons}
use Rattle.pj_contest.specs.Contests.{is_opposed, is_hit, AreHitsInOrder, count_of, own_count, IsFree}
use Rattle.pj_contest.proofs.MarkOrder.{hunk_tied}
use Rattle.pj_contest.proofs.Once.{times_once}

-- 1 or 0
abbrev pub bit : Bool → ℕ
bit b = cond b 1 0

-- the hunk is one of the change
abbrev pub IsOwn : Record → Option Hunk → Type 0
IsOwn d None = Unit {0}
IsOwn d (Some g) = Contains d.change.hunks g

own_at : (d : Record) (k : ℕ) → IsOwn d (slice_get d.change.hunks k)
own_at d k = by (slice_get d.change.hunks k) refl
  where
    by : (g : Option Hunk) → slice_get d.change.hunks k ≡ g → IsOwn d g
    by None e = tt
    by (Some g) e = member_at d.change.hunks k g e

or_no : (b : Bool) → (b || false) ≡ b
or_no true = refl
or_no false = refl

and_no : (b : Bool) → (b && false) ≡ false
and_no true = refl
and_no false = refl

zero_more : (n : ℕ) → 0 + n ≡ n
zero_more n = omega arith

turned : (m n : ℕ) → m + n ≡ n + m
turned m n = omega arith

module _ (S : List Record) (r : Record) where
  -- a change that none needs is not the owner of a range that another deletes
  not_owner : IsFree S r → (d : Record) → Contains (r ∷ S) d → (owner start end : ℕ) (names : List ℕ) → Contains d.change.hunks (Delete owner start end names) → same_name r.name (numbered d owner) ≡ false
  not_owner free d m owner start end names n = go (same_name r.name (numbered d owner)) refl
    where
      go : (b : Bool) → same_name r.name (numbered d owner) ≡ b → same_name r.name (numbered d owner) ≡ false
      go true e = absurd (free d m (subst (Contains d.change.needs) (sym (same_name_is r.name (numbered d owner) e)) (numbered_need d owner (delete_owner d owner start end names n))))
      go false e = e

  -- so whether another contests a hunk does not depend on it
  opposed_more : IsFree S r → (d : Record) → Contains (r ∷ S) d → (g : Option Hunk) → IsOwn d g → (i : Record) → is_opposed (r ∷ S) d g i ≡ is_opposed S d g i
  opposed_more free d m None own i = refl
  opposed_more free d m (Some (File parent name exec)) own i = refl
  opposed_more free d m (Some (Dir parent name)) own i = refl
  opposed_more free d m (Some (NameOf parent child name exec)) own i = refl
  opposed_more free d m (Some (Insert file ups downs bytes)) own i = refl
  opposed_more free d m (Some (Order file source target)) own i = refl
  opposed_more free d m (Some (Revive owner start end names)) own i = refl
  opposed_more free d m (Some (Delete owner start end names)) own i =
      let other : same_name r.name (numbered d owner) ≡ false = not_owner free d m owner start end names own in
      rw other refl

  no_stranger : (n : Name) (owner start end : ℕ) (o : Record) → (same_name n (numbered r owner) && opposes r r n start end (deleted_at o start)) ≡ false
  unfolding opposes
  no_stranger n owner start end o = (let e : same_name r.name r.name ≡ true = name_itself r.name in rw e (and_no (same_name n (numbered r owner))))

  -- none contests its own hunks
  no_own : (g : Option Hunk) → is_opposed S r g r ≡ false
  no_own None = refl
  no_own (Some (File parent name exec)) = refl
  no_own (Some (Dir parent name)) = refl
  no_own (Some (NameOf parent child name exec)) = refl
  no_own (Some (Insert file ups downs bytes)) = refl
  no_own (Some (Order file source target)) = refl
  no_own (Some (Revive owner start end names)) = refl
  no_own (Some (Delete owner start end names)) = none_passes (λ o. same_name o.name (numbered r owner) && opposes r r o.name start end (deleted_at o start)) S (λ o m. no_stranger o.name owner start end o)

  -- where no change of S has the name, none of its hunks is hit
  pub no_hit : is_held S r.name ≡ false → (x : HunkAt) → same_name r.name x.change ≡ true → (i : Record) → is_hit S x i ≡ false
  no_hit fresh x same i = none_passes (λ d. same_name d.name x.change && is_opposed S d (slice_get d.change.hunks x.hunk) i) S (λ d m. by d m (same_name d.name x.change) refl)
    where
      by : (d : Record) → Contains S d → (b : Bool) → same_name d.name x.change ≡ b → (same_name d.name x.change && is_opposed S d (slice_get d.change.hunks x.hunk) i) ≡ false
      by d m true f = absurd (not_record S r.name fresh d (record { member = m; named = same_name_is d.name x.change f ∙ sym (same_name_is r.name x.change same) }))
      by d m false f = rw f refl

  hit_more : IsFree S r → (x : HunkAt) (i : Record) → is_hit (r ∷ S) x i ≡ ((same_name r.name x.change && is_opposed S r (slice_get r.change.hunks x.hunk) i) || is_hit S x i)
  hit_more free x i =
      ap (λ b. (same_name r.name x.change && b) || list_any (λ d. same_name d.name x.change && is_opposed (r ∷ S) d (slice_get d.change.hunks x.hunk) i) S)
      (opposed_more free r (first_member r S) (slice_get r.change.hunks x.hunk) (own_at r x.hunk) i)
      ∙ ap (λ b. (same_name r.name x.change && is_opposed S r (slice_get r.change.hunks x.hunk) i) || b)
      (any_alike (λ d. same_name d.name x.change && is_opposed (r ∷ S) d (slice_get d.change.hunks x.hunk) i) (λ d. same_name d.name x.change && is_opposed S d (slice_get d.change.hunks x.hunk) i) S
      (λ d m. ap (λ b. same_name d.name x.change && b) (opposed_more free d (later_member r S d m) (slice_get d.change.hunks x.hunk) (own_at d x.hunk) i)))

  -- a change that none needs has its own contested hunks, and adds one to each hunk that it contests
  pub counts_more : is_held S r.name ≡ false → IsFree S r → (x : HunkAt) → count_of (r ∷ S) x ≡ cond (same_name r.name x.change) (own_count S r x.hunk) (count_of S x + bit (is_hit S x r))
  counts_more fresh free x = by (same_name r.name x.change) refl
    where
      g : Option Hunk
      g = slice_get r.change.hunks x.hunk

      by : (b : Bool) → same_name r.name x.change ≡ b → count_of (r ∷ S) x ≡ cond (same_name r.name x.change) (own_count S r x.hunk) (count_of S x + bit (is_hit S x r))
      by true f =
          let one : (i : Record) → is_hit (r ∷ S) x i ≡ is_opposed S r g i = λ i.
          hit_more free x i ∙ ap (λ b. (same_name r.name x.change && is_opposed S r g i) || b) (no_hit fresh x f i) ∙ ap (λ b. (b && is_opposed S r g i) || false) f ∙ or_no (is_opposed S r g i) in
          let self : is_hit (r ∷ S) x r ≡ false = one r ∙ no_own g in
          count_cons (is_hit (r ∷ S) x) r S ∙ ap (λ b. cond b 1 0 + count_by (is_hit (r ∷ S) x) S) self
          ∙ ap (λ n. 0 + n) (count_alike (is_hit (r ∷ S) x) (is_opposed S r g) S (λ i m. one i))
          ∙ zero_more (own_count S r x.hunk) ∙ sym (ap (λ b. cond b (own_count S r x.hunk) (count_of S x + bit (is_hit S x r))) f)
      by false f =
          let one : (i : Record) → is_hit (r ∷ S) x i ≡ is_hit S x i = λ i. hit_more free x i ∙ ap (λ b. (b && is_opposed S r g i) || is_hit S x i) f in
          count_cons (is_hit (r ∷ S) x) r S ∙ ap (λ b. cond b 1 0 + count_by (is_hit (r ∷ S) x) S) (one r)
          ∙ ap (λ n. cond (is_hit S x r) 1 0 + n) (count_alike (is_hit (r ∷ S) x) (is_hit S x) S (λ i m. one i))
          ∙ turned (bit (is_hit S x r)) (count_of S x) ∙ sym (ap (λ b. cond b (own_count S r x.hunk) (count_of S x + bit (is_hit S x r))) f)

pub none_false : (T : List Record) → count_by (λ (i : Record). false) T ≡ 0
none_false [] = refl
none_false (t ∷ T) = count_cons (λ (i : Record). false) t T ∙ zero_more (count_by (λ (i : Record). false) T) ∙ none_false T

-- where none passes, none is counted
pub count_none : (p : Record → Bool) (T : List Record) → ((i : Record) → p i ≡ false) → count_by p T ≡ 0
count_none p T none = count_alike p (λ i. false) T (λ i m. none i) ∙ none_false T

-- no hunk of a change that is not there is contested
pub counts_none : (S : List Record) (r : Record) → is_held S r.name ≡ false → (x : HunkAt) → same_name r.name x.change ≡ true → count_of S x ≡ 0
counts_none S r fresh x same = count_none (is_hit S x) S (no_hit S r fresh x same)

-- each hit stands once
pub hits_once : (S : List Record) (r : Record) (ks : List HunkAt) → AreHitsInOrder S r ks → (x : HunkAt) → times hunk_cmp x ks ≡ bit (is_hit S x r)
hits_once S r ks are x = times_once hunk_cmp hunk_total hunk_tied ks are.sorted x (is_hit S x r) (are.all x).0 (are.all x).1
