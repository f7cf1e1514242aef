-- Each point has its list of surviving versions, where records with equal names have equal texts.
use Rattle.std.proofs.Common.{◌≡◌, ℕ, zero, suc, ◌+◌, List, [], ◌∷◌, ◌++◌, refl, sym, ◌∙◌, ap, subst, inl, inr, arith, Bool, true, false}
use Rattle.std.specs.Prelude.{Contains, ◌⊎◌, ◌&&◌, Option, Some, None, slice_get}
use Rattle.std.specs.declared.cmp.Ordering.{Ordering}
use Rattle.std.specs.declared.cmp.Ordering.TheVariants.{Less, Equal, Greater}
use Rattle.std.specs.Ordering.{ordering_reverse}
use Rattle.std.specs.Option.{option_cmp}
use Rattle.std.specs.Cmp.{IsTotalOrder}
use Rattle.std.specs.List.Sorted.{IsStrictlySortedBy}
use Rattle.std.proofs.lemmas.Bool.{and_parts, and_from}
use Rattle.std.proofs.lemmas.Option.{same_Some}
use Rattle.pj_name.specs.declared.name.Name.{Name}
use Rattle.pj_name.specs.Name.{name_cmp}
use Rattle.pj_change.specs.declared.point.Point.{Point}
use Rattle.pj_change.specs.declared.hunk.Hunk.{Hunk}
use Rattle.pj_change.specs.declared.hunk.Hunk.TheVariants.{File, Dir, NameOf, Insert, Order, Delete, Revive}
use Rattle.pj_change.specs.declared.version.Version.{Version}
use Rattle.pj_change.specs.declared.version.Version.TheVariants.{Owner, Deleted, Revived}
use Rattle.pj_change.specs.declared.change.Record.{Record}
use Rattle.pj_change.specs.Sets.{HaveOneText}
use Rattle.pj_change.specs.Covers.{covers, is_delete, is_revive}
use Rattle.pj_change.specs.Versions.{survives}
use Rattle.pj_change.specs.SurvivingVersions.{SurvivesBy, IsSurvivor, changer, version_cmp, AreSurvivors}
use Rattle.pj_change.proofs.EqualNames.{name_tied}
use Rattle.pj_change.proofs.LawfulLists.{append_cases, first_part, second_part}
use Rattle.pj_change.proofs.Listings.{IsRelated}
use Rattle.pj_change.proofs.Members.{uncons, first_member, later_member, no_member, same_member, from_each}
use Rattle.pj_change.proofs.VersionsInOrder.{version_total, one_version}

-- ---- things in order

module _ {X : Type 0} (cmp : X → X → Ordering) (total : IsTotalOrder cmp) where
  -- a list in order of x and the members of another
  record IsInserted (x : X) (xs : List X) : Type 0 where
    list : List X
    sorted : IsRelated (λ a b. cmp a b ≡ Less) list
    only : (y : X) → Contains list y → (x ≡ y) ⊎ Contains xs y
    here : Contains list x
    rest : (y : X) → Contains xs y → Contains list y

  inserted : (x : X) (xs : List X) → IsRelated (λ a b. cmp a b ≡ Less) xs → ((y : X) → Contains xs y → cmp x y ≡ Equal → x ≡ y) → IsInserted x xs
  inserted x [] s tied = record {
    list = x ∷ [];
    sorted = (λ y m. absurd (no_member y m), tt);
    only = λ y m. uncons x [] y m;
    here = first_member x [];
    rest = λ y m. absurd (no_member y m);
  }
  inserted x (y ∷ ys) s tied = go (cmp x y) refl (inserted x ys s.1 (λ z m. tied z (later_member y ys z m)))
    where
      go : (o : Ordering) → cmp x y ≡ o → IsInserted x ys → IsInserted x (y ∷ ys)
      go Less e r = record {
        list = x ∷ y ∷ ys;
        sorted = (λ z m. elim (uncons y ys z m) [ inl h ↦ subst (λ z. cmp x z ≡ Less) h e | inr n ↦ total.trans x y z e (s.0 z n) ], s);
        only = λ z m. uncons x (y ∷ ys) z m;
        here = first_member x (y ∷ ys);
        rest = λ z m. later_member x (y ∷ ys) z m;
      }
      go Equal e r = record {
        list = y ∷ ys;
        sorted = s;
        only = λ z m. inr m;
        here = same_member (y ∷ ys) (sym (tied y (first_member y ys) e)) (first_member y ys);
        rest = λ z m. m;
      }
      go Greater e r =
          let before : cmp y x ≡ Less = total.antisymm y x ∙ ap ordering_reverse e in
          record {
            list = y ∷ r.list;
            sorted = (λ z m. elim (r.only z m) [ inl h ↦ subst (λ z. cmp y z ≡ Less) h before | inr n ↦ s.0 z n ], r.sorted);
            only = λ z m. elim (uncons y r.list z m) [
              | inl h ↦ inr (same_member (y ∷ ys) h (first_member y ys))
              | inr n ↦ elim (r.only z n) [ inl h ↦ inl h | inr k ↦ inr (later_member y ys z k) ]
            ];
            here = later_member y r.list x r.here;
            rest = λ z m. elim (uncons y ys z m) [
              | inl h ↦ same_member (y ∷ r.list) h (first_member y r.list)
              | inr n ↦ later_member y r.list z (r.rest z n)
            ];
          }

  -- a list in order with the members of another
  record IsOrdered (xs : List X) : Type 0 where
    list : List X
    sorted : IsRelated (λ a b. cmp a b ≡ Less) list
    only : (y : X) → Contains list y → Contains xs y
    all : (y : X) → Contains xs y → Contains list y

  ordered : (xs : List X) → ((u v : X) → Contains xs u → Contains xs v → cmp u v ≡ Equal → u ≡ v) → IsOrdered xs
  ordered [] tied = record { list = []; sorted = tt; only = λ y m. m; all = λ y m. m }
  ordered (x ∷ xs) tied =
      let o = ordered xs (λ u v m n. tied u v (later_member x xs u m) (later_member x xs v n)) in
      let i = inserted x o.list o.sorted (λ y m. tied x y (first_member x xs) (later_member x xs y (o.only y m))) in
      record {
        list = i.list;
        sorted = i.sorted;
        only = λ y m. elim (i.only y m) [ inl h ↦ same_member (x ∷ xs) h (first_member x xs) | inr n ↦ later_member x xs y (o.only y n) ];
        all = λ y m. elim (uncons x xs y m) [ inl h ↦ same_member i.list h i.here | inr n ↦ i.rest y (o.all y n) ];
      }

  sorted_related : (xs : List X) → IsRelated (λ a b. cmp a b ≡ Less) xs → IsStrictlySortedBy cmp xs
  unfolding IsStrictlySortedBy
  sorted_related [] s = tt
  sorted_related (x ∷ xs) s = (from_each (λ y. cmp x y ≡ Less) xs s.0, sorted_related xs s.1)

-- ---- the versions of a set, hunk by hunk

abbrev one_if : Bool → Version → List Version
one_if true v = v ∷ []
one_if false v = []

one_if_is : (b : Bool) (v w : Version) → Contains (one_if b v) w → (b ≡ true) × (v ≡ w)
one_if_is true v w m = elim (uncons v [] w m) [ inl e ↦ (refl, e) | inr n ↦ absurd (no_member w n) ]
one_if_is false v w m = absurd (no_member w m)

one_if_there : (b : Bool) (v : Version) → b ≡ true → Contains (one_if b v) v
one_if_there true v e = first_member v []
one_if_there false v e = absurd (cc)

module _ (S : List Record) (p : Point) where
  -- the surviving version by hunk k of d
  abbrev version_by : Record → ℕ → Hunk → List Version
  version_by d k (Delete owner start end by) = one_if (covers d (Delete owner start end by) p && survives S d.name p) (Deleted d.name k)
  version_by d k (Revive owner start end by) = one_if (covers d (Revive owner start end by) p && survives S d.name p) (Revived d.name k)
  version_by d k h = []

  -- those by hunks of which the first is hunk k
  abbrev versions_from : Record → ℕ → List Hunk → List Version
  versions_from d k [] = []
  versions_from d k (h ∷ hs) = version_by d k h ++ versions_from d (k + 1) hs

  abbrev versions_of : List Record → List Version
  versions_of [] = []
  versions_of (d ∷ ds) = versions_from d 0 d.change.hunks ++ versions_of ds

  version_is : (d : Record) → Contains S d → (k : ℕ) (h : Hunk) → slice_get d.change.hunks k ≡ Some h → (v : Version) → Contains (version_by d k h) v → IsSurvivor S p v
  version_is d n k (Delete owner start end by) at v m =
      let h = Delete owner start end by in
      let is = one_if_is (covers d h p && survives S d.name p) (Deleted d.name k) v m in
      let both = and_parts (covers d h p) (survives S d.name p) is.0 in
      subst (IsSurvivor S p) is.1 (record { by = d; member = n; name = refl; hunk = h; there = at; kind = refl; covered = both.0; survives_it = both.1 })
  version_is d n k (Revive owner start end by) at v m =
      let h = Revive owner start end by in
      let is = one_if_is (covers d h p && survives S d.name p) (Revived d.name k) v m in
      let both = and_parts (covers d h p) (survives S d.name p) is.0 in
      subst (IsSurvivor S p) is.1 (record { by = d; member = n; name = refl; hunk = h; there = at; kind = refl; covered = both.0; survives_it = both.1 })
  version_is d n k (File parent name exec) at v m = absurd (no_member v m)
  version_is d n k (Dir parent name) at v m = absurd (no_member v m)
  version_is d n k (NameOf parent child name exec) at v m = absurd (no_member v m)
  version_is d n k (Insert file ups downs bytes) at v m = absurd (no_member v m)
  version_is d n k (Order file source target) at v m = absurd (no_member v m)

  versions_from_is : (d : Record) → Contains S d → (k : ℕ) (hs : List Hunk) → ((i : ℕ) (h : Hunk) → slice_get hs i ≡ Some h → slice_get d.change.hunks (k + i) ≡ Some h) →
      (v : Version) → Contains (versions_from d k hs) v → IsSurvivor S p v
  versions_from_is d n k [] at v m = absurd (no_member v m)
  versions_from_is d n k (h ∷ hs) at v m = elim (append_cases (version_by d k h) (versions_from d (k + 1) hs) v m) [
    | inl here ↦ version_is d n k h (let e : k + 0 ≡ k = omega arith in ap (slice_get d.change.hunks) (sym e) ∙ at 0 h refl) v here
    | inr rest ↦ versions_from_is d n (k + 1) hs (λ i g e. (let f : k + 1 + i ≡ k + suc i = omega arith in ap (slice_get d.change.hunks) f ∙ at (suc i) g e)) v rest
  ]

  versions_is : (ds : List Record) → ((d : Record) → Contains ds d → Contains S d) → (v : Version) → Contains (versions_of ds) v → IsSurvivor S p v
  versions_is [] within v m = absurd (no_member v m)
  versions_is (d ∷ ds) within v m = elim (append_cases (versions_from d 0 d.change.hunks) (versions_of ds) v m) [
    | inl here ↦ versions_from_is d (within d (first_member d ds)) 0 d.change.hunks (λ i h e. (let f : 0 + i ≡ i = omega arith in ap (slice_get d.change.hunks) f ∙ e)) v here
    | inr rest ↦ versions_is ds (λ x n. within x (later_member d ds x n)) v rest
  ]

  versions_from_there : (d : Record) (k : ℕ) (hs : List Hunk) (i : ℕ) (h : Hunk) → slice_get hs i ≡ Some h → (v : Version) → Contains (version_by d (k + i) h) v → Contains (versions_from d k hs) v
  versions_from_there d k [] i h e v m = absurd (cc)
  versions_from_there d k (g ∷ hs) zero h e v m =
      let same : h ≡ g = sym (same_Some g h e) in
      let first : k + 0 ≡ k = omega arith in
      first_part (version_by d k g) (versions_from d (k + 1) hs) v (subst (λ x. Contains (version_by d k x) v) same (subst (λ n. Contains (version_by d n h) v) first m))
  versions_from_there d k (g ∷ hs) (suc i) h e v m =
      let next : k + suc i ≡ k + 1 + i = omega arith in
      second_part (version_by d k g) (versions_from d (k + 1) hs) v (versions_from_there d (k + 1) hs i h e v (subst (λ n. Contains (version_by d n h) v) next m))

  versions_there : (ds : List Record) (d : Record) → Contains ds d → (k : ℕ) (h : Hunk) → slice_get d.change.hunks k ≡ Some h → (v : Version) → Contains (version_by d k h) v → Contains (versions_of ds) v
  versions_there [] d n k h e v m = absurd (no_member d n)
  versions_there (x ∷ ds) d n k h e v m = elim (uncons x ds d n) [
    | inl same ↦ first_part (versions_from x 0 x.change.hunks) (versions_of ds) v (subst (λ (y : Record). Contains (versions_from y 0 y.change.hunks) v) (sym same)
        (versions_from_there d 0 d.change.hunks k h e v (let f : k ≡ 0 + k = omega arith in subst (λ n. Contains (version_by d n h) v) f m)))
    | inr later ↦ second_part (versions_from x 0 x.change.hunks) (versions_of ds) v (versions_there ds d later k h e v m)
  ]

  -- the surviving versions in some order
  abbrev survivors_of : List Version
  survivors_of = one_if (survives S p.change p) Owner ++ versions_of S

  survivor_is : (v : Version) → Contains survivors_of v → IsSurvivor S p v
  survivor_is v m = elim (append_cases (one_if (survives S p.change p) Owner) (versions_of S) v m) [
    | inl o ↦ (let is = one_if_is (survives S p.change p) Owner v o in subst (IsSurvivor S p) is.1 is.0)
    | inr rest ↦ versions_is S (λ d n. n) v rest
  ]

  deleted_there : (change : Name) (number : ℕ) → (s : SurvivesBy S p is_delete change number) → (h : Hunk) → s.hunk ≡ h → Contains (version_by s.by number h) (Deleted change number)
  deleted_there change number s (Delete owner start end by) e =
      let both = and_from _ _ (ap (λ h. covers s.by h p) (sym e) ∙ s.covered) (ap (λ n. survives S n p) s.name ∙ s.survives_it) in
      subst (λ n. Contains (version_by s.by number (Delete owner start end by)) (Deleted n number)) s.name (one_if_there _ (Deleted s.by.name number) both)
  deleted_there change number s (File parent name exec) e = absurd (let k = s.kind in let f = ap is_delete e in cc)
  deleted_there change number s (Dir parent name) e = absurd (let k = s.kind in let f = ap is_delete e in cc)
  deleted_there change number s (NameOf parent child name exec) e = absurd (let k = s.kind in let f = ap is_delete e in cc)
  deleted_there change number s (Insert file ups downs bytes) e = absurd (let k = s.kind in let f = ap is_delete e in cc)
  deleted_there change number s (Order file source target) e = absurd (let k = s.kind in let f = ap is_delete e in cc)
  deleted_there change number s (Revive owner start end by) e = absurd (let k = s.kind in let f = ap is_delete e in cc)

  revived_there : (change : Name) (number : ℕ) → (s : SurvivesBy S p is_revive change number) → (h : Hunk) → s.hunk ≡ h → Contains (version_by s.by number h) (Revived change number)
  revived_there change number s (Revive owner start end by) e =
      let both = and_from _ _ (ap (λ h. covers s.by h p) (sym e) ∙ s.covered) (ap (λ n. survives S n p) s.name ∙ s.survives_it) in
      subst (λ n. Contains (version_by s.by number (Revive owner start end by)) (Revived n number)) s.name (one_if_there _ (Revived s.by.name number) both)
  revived_there change number s (File parent name exec) e = absurd (let k = s.kind in let f = ap is_revive e in cc)
  revived_there change number s (Dir parent name) e = absurd (let k = s.kind in let f = ap is_revive e in cc)
  revived_there change number s (NameOf parent child name exec) e = absurd (let k = s.kind in let f = ap is_revive e in cc)
  revived_there change number s (Insert file ups downs bytes) e = absurd (let k = s.kind in let f = ap is_revive e in cc)
  revived_there change number s (Order file source target) e = absurd (let k = s.kind in let f = ap is_revive e in cc)
  revived_there change number s (Delete owner start end by) e = absurd (let k = s.kind in let f = ap is_revive e in cc)

  survivor_there : (v : Version) → IsSurvivor S p v → Contains survivors_of v
  survivor_there Owner h = first_part (one_if (survives S p.change p) Owner) (versions_of S) Owner (one_if_there (survives S p.change p) Owner h)
  survivor_there (Deleted change number) s =
      second_part (one_if (survives S p.change p) Owner) (versions_of S) (Deleted change number)
      (versions_there S s.by s.member number s.hunk s.there (Deleted change number) (deleted_there change number s s.hunk refl))
  survivor_there (Revived change number) s =
      second_part (one_if (survives S p.change p) Owner) (versions_of S) (Revived change number)
      (versions_there S s.by s.member number s.hunk s.there (Revived change number) (revived_there change number s s.hunk refl))

-- ---- the list

option_tied : (a b : Option Name) → option_cmp name_cmp a b ≡ Equal → a ≡ b
option_tied None None e = refl
option_tied None (Some n) e = absurd (cc)
option_tied (Some m) None e = absurd (cc)
option_tied (Some m) (Some n) e = ap Some (name_tied m n e)

-- a point has a list of surviving versions, where records with equal names have equal texts
pub survivors_there : (S : List Record) → HaveOneText S → (p : Point) → (versions : List Version) × AreSurvivors S p versions
survivors_there S unique p =
    let tied = λ (u v : Version) (m : Contains (survivors_of S p) u) (n : Contains (survivors_of S p) v) (e : version_cmp u v ≡ Equal).
    one_version S unique p u v (survivor_is S p u m) (survivor_is S p v n) (option_tied (changer u) (changer v) e) in
    let o = ordered version_cmp version_total (survivors_of S p) tied in (
      o.list,
      record {
        sorted = sorted_related version_cmp version_total o.list o.sorted;
        only = λ v m. survivor_is S p v (o.only v m);
        all = λ v h. o.all v (survivor_there S p v h);
      },
    )
