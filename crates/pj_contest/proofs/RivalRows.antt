-- The rows that a walk gives name the changes that contest.
use Rattle.std.proofs.Common.{◌≡◌, ℕ, ◌≤◌, ◌<◌, Bool, true, false, ◌&&◌, ◌⊎◌, inl, inr, ⊎_elim, List, [], ◌∷◌, Option, Some, None, refl, sym, ap, ◌∙◌, subst, arith, map, nat_lt, nat_le, nat_eq}
use Rattle.std.specs.Prelude.{Contains, filter_map, is_some}
use Rattle.std.specs.List.{list_any, take_while}
use Rattle.std.specs.Cmp.{IsTotalOrder, nat_cmp_is, Equal-is}
use Rattle.std.specs.Cmp.Lexicographic.{options_total}
use Rattle.std.specs.Option.{option_cmp}
use Rattle.std.specs.Ordering.{is_lt, is_eq, nat_cmp, ordering_then}
use Rattle.std.specs.declared.cmp.Ordering.{Ordering}
use Rattle.std.specs.declared.cmp.Ordering.TheVariants.{Less, Equal, Greater}
use Rattle.std.proofs.lemmas.Cmp.{tied_itself, tied_back}
use Rattle.std.proofs.lemmas.Bool.Decides.{nat_tests}
use Rattle.std.proofs.lemmas.Bool.{and_parts, and_from}
use borrow.Author.Tests.{ltb-true, leb-true}
use Rattle.pj_pmap.specs.Pairs.{IsRising, rest_after}
use Rattle.pj_pmap.proofs.Order.{greater_back}
use Rattle.pj_pmap.proofs.Lookups.{contains_later, contains_cases, above_contains, contains_value}
use Rattle.pj_name.specs.declared.name.Name.{Name}
use Rattle.pj_name.specs.Name.{same_name, name_cmp}
use Rattle.pj_name.proofs.Names.{name_cmp-total}
use Rattle.pj_change.specs.declared.point.Point.{Point}
use Rattle.pj_change.specs.declared.point.Place.{Place}
use Rattle.pj_change.specs.declared.point.Place.TheVariants as placed
use Rattle.pj_change.specs.declared.point.Ref.{Ref}
use Rattle.pj_change.specs.declared.hunk.Hunk.{Hunk}
use Rattle.pj_change.specs.declared.hunk.Hunk.TheVariants.{File, Dir, NameOf, Insert, Order, Delete, Revive}
use Rattle.pj_change.specs.declared.kind.Deleted.TheVariants as deleted
use Rattle.pj_change.specs.declared.change.Record.{Record}
use Rattle.pj_change.specs.Graph.{point_cmp}
use Rattle.pj_change.specs.Positions.{resolve, same_place, numbered}
use Rattle.pj_change.specs.Lawful.{is_held}
use Rattle.pj_change.specs.Covers.{is_within}
use Rattle.pj_change.specs.Contested.{are_strangers, inserts_after, is_place_within, builds_on, base_of, is_resolved, opposes, deleted_at}
use Rattle.pj_change.proofs.Decided.{known_less}
use Rattle.pj_change.proofs.EqualNames.{same_name_is, is_same_name, same_place_is, name_tied}
use Rattle.pj_change.proofs.Orders.{point_total}
use Rattle.pj_change.proofs.LawfulLists.{held_member}
use Rattle.pj_change.proofs.Members.{any_member, none_passes, passes, no_member, first_member}
use Rattle.pj_change.proofs.OneCover.{less_is}
use Rattle.pj_change.proofs.PickedMembers.{flat_from, flat_there, image, mapped, picked_from, picked_there}
use Rattle.pj_rows.specs.declared.values.Here.{Here}
use Rattle.pj_rows.specs.Keys.{has, keys_in, is_among}
use Rattle.pj_rows.proofs.Scanned.{scan_has}
use Rattle.pj_contest.specs.declared.marks.UpMark.{UpMark}
use Rattle.pj_contest.specs.declared.marks.BaseMark.{BaseMark}
use Rattle.pj_contest.specs.Sorting.{IsTight}
use Rattle.pj_contest.specs.Marks.{up_cmp, up_row, base_cmp, base_row}
use Rattle.pj_contest.specs.Given.{key_of, points_at, up_points, up_points_in, up_rows, bases, bases_at, base_rows}
use Rattle.pj_contest.specs.Contests.{IsIndexOf}
use Rattle.pj_contest.specs.Rivals.{is_stranger_of, NameOnly, AreRivals, IsNameOfOne, is_text_rival, is_name_rival, is_rival_of}
use Rattle.pj_contest.proofs.Gathered.{one_member, while_from}
use Rattle.pj_contest.proofs.MarkOrder.{mark_cmp, row, low_bound, high_bound, up_bound, base_low, base_high, nat_upto, above_bound, below_bound, up_total, up_tied, base_total, base_tied, place_tied}
use Rattle.pj_contest.proofs.Named.{AreApart, any_named, none_named}
use Rattle.pj_contest.proofs.Once.{index_has}

-- ---- what a scan gives is there, between the two keys

module _ {K V : Type 0} (cmp : K → K → Ordering) (order : IsTotalOrder cmp) where
  rest_from : (above : K) (es : List (K × V)) → IsRising cmp es → (p : K × V) → Contains (rest_after cmp above es) p → Contains es p × (cmp above p.0 ≡ Less)
  rest_from above [] r p m = absurd (no_member p m)
  rest_from above (e ∷ es) r p m = by (rest_from above es r.1 p) (cmp above e.0) refl
    where
      later : cmp above e.0 ≡ Less → Contains es p → cmp above p.0 ≡ Less
      later f n = order.trans above e.0 p.0 f (above_contains cmp e.0 es p r.0 n)

      by : (Contains (rest_after cmp above es) p → Contains es p × (cmp above p.0 ≡ Less)) → (o : Ordering) → cmp above e.0 ≡ o → Contains (e ∷ es) p × (cmp above p.0 ≡ Less)
      by rest Less f = let n = rw f at m in (n, ⊎_elim (λ (s : e ≡ p). subst (λ (x : K × V). cmp above x.0 ≡ Less) s f) (λ (l : Contains es p). later f l) (contains_cases e p es n))
      by rest Equal f = let n = rw f at m in (contains_later e p es n, order.congr above e.0 p.0 f ∙ above_contains cmp e.0 es p r.0 n)
      by rest Greater f = let n = rest (rw f at m) in (contains_later e p es n.0, n.1)

  pub scan_only : (above below k : K) (es : List (K × V)) → IsRising cmp es → Contains (keys_in cmp above below es) k → (has cmp k es ≡ true) × (cmp above k ≡ Less) × (cmp k below ≡ Less)
  scan_only above below k es r m =
      let at = image (λ (e : K × V). e.0) (take_while (λ e. is_lt (cmp e.0 below)) (rest_after cmp above es)) k m in
      let low = while_from (λ e. is_lt (cmp e.0 below)) (rest_after cmp above es) at.it at.member in
      let rest = rest_from above es r at.it low.0 in (
        subst (λ (x : K). has cmp x es ≡ true) at.is (ap is_some (contains_value cmp order es at.it r rest.0)),
        subst (λ (x : K). cmp above x ≡ Less) at.is rest.1,
        subst (λ (x : K). cmp x below ≡ Less) at.is (less_is (cmp at.it.0 below) low.1),
      )

module _ {K : Type 0} (cmp : K → K → Ordering) (order : IsTotalOrder cmp) where
  -- a key of an index is a row of a record
  pub index_from : (rows : Record → List K) (S : List Record) (es : List (K × Here)) → IsTight cmp → IsIndexOf cmp rows S es → (k : K) → has cmp k es ≡ true → (j : Record) × Contains S j × Contains (rows j) k
  index_from rows S es tight is k e =
      let j = passes (λ r. is_among cmp k (rows r)) S (sym (is k) ∙ e) in
      let q = passes (λ x. is_eq (cmp k x)) (rows j.it) j.is in
      (j.it, j.member, subst (Contains (rows j.it)) (sym (tight k q.it ((Equal-is (cmp k q.it)).0 q.is))) q.member)

  -- the keys of an index between two others name changes of S, where the rows of a change do
  pub index_between : (rows : Record → List K) (S : List Record) (es : List (K × Here)) → IsTight cmp → IsRising cmp es → IsIndexOf cmp rows S es → (above below k : K) → Contains (keys_in cmp above below es) k → (j : Record) × Contains S j × Contains (rows j) k
  index_between rows S es tight rising is above below k m = index_from rows S es tight is k (scan_only cmp order above below k es rising m).0

-- ---- strangers

name_is : (a b : Name) → Some a ≡ Some b → a ≡ b
name_is a b e = cc

-- what a walk over an index gives names changes of the set
pub names_only : {A K : Type 0} (cmp : K → K → Ordering) → IsTotalOrder cmp → IsTight cmp → (by : K → Option Name) (row_of : A → Name → K) → ((at : A) (n : Name) → by (row_of at n) ≡ Some n) →
    (places : Record → List A) (S : List Record) (es : List (K × Here)) → IsRising cmp es → IsIndexOf cmp (λ r. map (λ at. row_of at r.name) (places r)) S es → (above below : K) →
    NameOnly S (filter_map by (keys_in cmp above below es))
names_only cmp order tight by row_of named places S es rising is above below n m =
    let k = picked_from by (keys_in cmp above below es) n m in
    let j = index_between cmp order (λ r. map (λ at. row_of at r.name) (places r)) S es tight rising is above below k.0 k.1 in
    let at = image (λ at. row_of at j.0.name) (places j.0) k.0 j.2 in
    held_member S n j.0 (record { member = j.1; named = name_is j.0.name n (sym (named at.it j.0.name) ∙ ap by at.is ∙ k.2) })

-- the strangers among the names are those that pass
pub rival_names : (S : List Record) (r : Record) (names : List Name) (p : Record → Bool) → AreRivals S r names p → (n : Name) → Contains names n × (is_stranger_of S r n ≡ true) → IsNameOfOne S p n
rival_names S r names p are n (m, f) =
    let i = passes (λ i. same_name i.name n && are_strangers i r) S f in
    let a = and_parts (same_name i.it.name n) (are_strangers i.it r) i.is in
    let name = same_name_is i.it.name n a.0 in
    record { it = i.it; member = i.member; name = name; passes = are.there i.it i.member a.1 (subst (Contains names) (sym name) m) }

pub names_of_rivals : (S : List Record) (r : Record) (names : List Name) (p : Record → Bool) → AreRivals S r names p → (n : Name) → IsNameOfOne S p n → Contains names n × (is_stranger_of S r n ≡ true)
names_of_rivals S r names p are n h =
    let b = are.back h.it h.member h.passes in
    (subst (Contains names) h.name b.1, any_member (λ i. same_name i.name n && are_strangers i r) S h.it h.member (and_from _ _ (is_same_name h.it.name n h.name) b.0))

-- ---- points within a range

nat_low : (x y : ℕ) → (nat_cmp x y ≡ Less) ⊎ (nat_cmp x y ≡ Equal) → x ≤ y
nat_low x y c = ⊎_elim (λ (l : y < x). absurd (not_greater c (sym (nat_cmp_is x y Greater l)))) (λ n. omega arith) (known_less y x)
  where
    not_greater : (nat_cmp x y ≡ Less) ⊎ (nat_cmp x y ≡ Equal) → nat_cmp x y ≡ Greater → ⊥
    not_greater (inl e) g = cc
    not_greater (inr e) g = cc

nat_below : (x y : ℕ) → nat_cmp x y ≡ Less → x < y
nat_below x y e = ⊎_elim (λ (l : x < y). l) (λ n. ⊎_elim (λ (l : y < x). absurd (let g = nat_cmp_is x y Greater l in cc)) (λ m. absurd (let f : x ≡ y = omega arith in let g = nat_cmp_is x y Equal f in cc)) (known_less y x)) (known_less x y)

point_within : (n : Name) (s e : ℕ) (p : Point) → (point_cmp (record { change = n; offset = s }) p ≡ Less) ⊎ (point_cmp (record { change = n; offset = s }) p ≡ Equal) → point_cmp p (record { change = n; offset = e }) ≡ Less → is_within n s e p ≡ true
point_within n s e p low high = by (name_cmp n p.change) refl
  where
    no_low : point_cmp (record { change = n; offset = s }) p ≡ Greater → (point_cmp (record { change = n; offset = s }) p ≡ Less) ⊎ (point_cmp (record { change = n; offset = s }) p ≡ Equal) → ⊥
    no_low g (inl h) = cc
    no_low g (inr h) = cc

    part : (o : Ordering) → name_cmp n p.change ≡ Equal → (point_cmp (record { change = n; offset = s }) p ≡ Less) ⊎ (point_cmp (record { change = n; offset = s }) p ≡ Equal) → (nat_cmp s p.offset ≡ Less) ⊎ (nat_cmp s p.offset ≡ Equal)
    part o f (inl h) = inl (sym (ap (λ o. ordering_then o (nat_cmp s p.offset)) f) ∙ h)
    part o f (inr h) = inr (sym (ap (λ o. ordering_then o (nat_cmp s p.offset)) f) ∙ h)

    by : (o : Ordering) → name_cmp n p.change ≡ o → is_within n s e p ≡ true
    by Less f = absurd (let g : point_cmp p (record { change = n; offset = e }) ≡ Greater = ap (λ o. ordering_then o (nat_cmp p.offset e)) (greater_back name_cmp-total n p.change f) in cc)
    by Greater f = absurd (no_low (ap (λ o. ordering_then o (nat_cmp s p.offset)) f) low)
    by Equal f =
        let back : name_cmp p.change n ≡ Equal = tied_back name_cmp-total n p.change f in
        let l = nat_low s p.offset (part Equal f low) in
        let h = nat_below p.offset e (sym (ap (λ o. ordering_then o (nat_cmp p.offset e)) back) ∙ high) in
        and_from _ _ (and_from _ _ (is_same_name n p.change (name_tied n p.change f)) (le_test s p.offset l)) (lt_test p.offset e h)
      where
        le_test : (x y : ℕ) → x ≤ y → nat_le x y ≡ true
        le_test x y l = grind (arith, nat_tests)

        lt_test : (x y : ℕ) → x < y → nat_lt x y ≡ true
        lt_test x y l = grind (arith, nat_tests)

within_point : (n : Name) (s e : ℕ) (p : Point) → is_within n s e p ≡ true → ((point_cmp (record { change = n; offset = s }) p ≡ Less) ⊎ (point_cmp (record { change = n; offset = s }) p ≡ Equal)) × (point_cmp p (record { change = n; offset = e }) ≡ Less)
within_point n s e p w =
    let a = and_parts (same_name n p.change && nat_le s p.offset) (nat_lt p.offset e) w in
    let b = and_parts (same_name n p.change) (nat_le s p.offset) a.0 in
    let same = same_name_is n p.change b.0 in
    let tie : name_cmp n p.change ≡ Equal = subst (λ (m : Name). name_cmp n m ≡ Equal) same (tied_itself name_cmp-total n) in
    let back : name_cmp p.change n ≡ Equal = tied_back name_cmp-total n p.change tie in
    let low : s ≤ p.offset = leb-true s p.offset b.1 in
    let high : p.offset < e = ltb-true p.offset e a.1 in
    (rw tie (nat_upto s p.offset low), rw back (sym (nat_cmp_is p.offset e Less high)))

-- ---- rows between the bounds

row_from : {A B : Type 0} (a : A → A → Ordering) (b : B → B → Ordering) (from at : A) (by : B) → mark_cmp a b (low_bound from) (row at by) ≡ Less → (a from at ≡ Less) ⊎ (a from at ≡ Equal)
row_from a b from at by h = go (a from at) refl
  where
    go : (o : Ordering) → a from at ≡ o → (a from at ≡ Less) ⊎ (a from at ≡ Equal)
    go Less f = inl f
    go Equal f = inr f
    go Greater f = absurd (let g : mark_cmp a b (low_bound from) (row at by) ≡ Greater = rw f refl in cc)

row_below : {A B : Type 0} (a : A → A → Ordering) (b : B → B → Ordering) (upto at : A) (by : B) → mark_cmp a b (row at by) (low_bound upto) ≡ Less → a at upto ≡ Less
row_below a b upto at by h = go (a at upto) refl
  where
    go : (o : Ordering) → a at upto ≡ o → a at upto ≡ Less
    go Less f = f
    go Equal f = absurd (let g : mark_cmp a b (row at by) (low_bound upto) ≡ Greater = rw f refl in cc)
    go Greater f = absurd (let g : mark_cmp a b (row at by) (low_bound upto) ≡ Greater = rw f refl in cc)

row_upto : {A B : Type 0} (a : A → A → Ordering) (b : B → B → Ordering) (upto at : A) (by : B) → mark_cmp a b (row at by) (high_bound upto) ≡ Less → (a at upto ≡ Less) ⊎ (a at upto ≡ Equal)
row_upto a b upto at by h = go (a at upto) refl
  where
    go : (o : Ordering) → a at upto ≡ o → (a at upto ≡ Less) ⊎ (a at upto ≡ Equal)
    go Less f = inl f
    go Equal f = inr f
    go Greater f = absurd (let g : mark_cmp a b (row at by) (high_bound upto) ≡ Greater = rw f refl in cc)

squeezed : {A : Type 0} (a : A → A → Ordering) → IsTotalOrder a → IsTight a → (x y : A) → (a x y ≡ Less) ⊎ (a x y ≡ Equal) → (a y x ≡ Less) ⊎ (a y x ≡ Equal) → x ≡ y
squeezed a order tight x y (inr e) d = tight x y e
squeezed a order tight x y (inl l) (inl m) = absurd (let g = greater_back order x y l in cc)
squeezed a order tight x y (inl l) (inr e) = sym (tight y x e)

row_below_from : {A B : Type 0} (a : A → A → Ordering) (b : B → B → Ordering) (upto at : A) (by : B) → a at upto ≡ Less → mark_cmp a b (row at by) (low_bound upto) ≡ Less
row_below_from a b upto at by h = rw h refl

-- ---- ups

up_in : (j : Record) (h : Hunk) (p : Point) → Contains (up_points_in j h) p → (n : Name) (s e : ℕ) → is_within n s e p ≡ true → inserts_after j n s e h ≡ true
up_in j (File parent name exec) p d n s e w = absurd (no_member p d)
up_in j (Dir parent name) p d n s e w = absurd (no_member p d)
up_in j (NameOf parent child name exec) p d n s e w = absurd (no_member p d)
up_in j (Order file source target) p d n s e w = absurd (no_member p d)
up_in j (Delete owner start end names) p d n s e w = absurd (no_member p d)
up_in j (Revive owner start end names) p d n s e w = absurd (no_member p d)
up_in j (Insert file ups downs bytes) p d n s e w = let u = flat_from (λ up. points_at (resolve j up)) ups p d in at u.0 u.1 (resolve j u.0) refl u.2
  where
    at : (up : Ref) → Contains ups up → (place : Place) → resolve j up ≡ place → Contains (points_at place) p → list_any (λ up. is_place_within n s e (resolve j up)) ups ≡ true
    at up f placed.Root r d = absurd (no_member p d)
    at up f (placed.At q) r d = any_member (λ up. is_place_within n s e (resolve j up)) ups up f (ap (is_place_within n s e) r ∙ ap (is_within n s e) (one_member q p d) ∙ w)

-- an up of a change within a range is an insertion after it
pub up_from : (j : Record) (p : Point) → Contains (up_points j) p → (n : Name) (s e : ℕ) → is_within n s e p ≡ true → list_any (inserts_after j n s e) j.change.hunks ≡ true
up_from j p m n s e w = let h = flat_from (up_points_in j) j.change.hunks p m in any_member (inserts_after j n s e) j.change.hunks h.0 h.1 (up_in j h.0 p h.2 n s e w)

pub up_to : (j : Record) (n : Name) (s e : ℕ) → list_any (inserts_after j n s e) j.change.hunks ≡ true → (p : Point) × Contains (up_points j) p × (is_within n s e p ≡ true)
up_to j n s e w = let h = passes (inserts_after j n s e) j.change.hunks w in by h.it h.member h.is
  where
    by : (h : Hunk) → Contains j.change.hunks h → inserts_after j n s e h ≡ true → (p : Point) × Contains (up_points j) p × (is_within n s e p ≡ true)
    by (File parent name exec) c d = absurd (cc)
    by (Dir parent name) c d = absurd (cc)
    by (NameOf parent child name exec) c d = absurd (cc)
    by (Order file source target) c d = absurd (cc)
    by (Delete owner start end names) c d = absurd (cc)
    by (Revive owner start end names) c d = absurd (cc)
    by (Insert file ups downs bytes) c d = let u = passes (λ up. is_place_within n s e (resolve j up)) ups d in at u.it u.member (resolve j u.it) refl u.is
      where
        at : (up : Ref) → Contains ups up → (place : Place) → resolve j up ≡ place → is_place_within n s e place ≡ true → (p : Point) × Contains (up_points j) p × (is_within n s e p ≡ true)
        at up f placed.Root r d = absurd (cc)
        at up f (placed.At p) r d = (
          p,
          flat_there (up_points_in j) j.change.hunks (Insert file ups downs bytes) p c
              (flat_there (λ up. points_at (resolve j up)) ups up p f (subst (λ q. Contains (points_at q) p) (sym r) (first_member p []))),
          d,
        )

-- what is scanned for a deletion of bytes
pub text_rows : (S : List Record) → AreApart S → (es : List (UpMark × Here)) → IsRising up_cmp es → IsIndexOf up_cmp up_rows S es → (r : Record) (n : Name) (s e : ℕ) →
    AreRivals S r (filter_map (λ m. m.by) (keys_in up_cmp (up_bound (record { change = n; offset = s })) (up_bound (record { change = n; offset = e })) es)) (is_text_rival r n s e)
text_rows S apart es rising is r n s e = record { there = there; back = back }
  where
    from : Point
    from = record { change = n; offset = s }

    upto : Point
    upto = record { change = n; offset = e }

    rows : List UpMark
    rows = keys_in up_cmp (up_bound from) (up_bound upto) es

    there : (i : Record) → Contains S i → are_strangers i r ≡ true → Contains (filter_map (λ m. m.by) rows) i.name → is_text_rival r n s e i ≡ true
    there i m strange named =
        let (k, c, by) = picked_from (λ m. m.by) rows i.name named in
        let only = scan_only up_cmp up_total (up_bound from) (up_bound upto) k es rising c in
        let j = index_from up_cmp up_total up_rows S es up_tied is k only.0 in
        let u = image (λ (p : Point). up_row p j.0.name) (up_points j.0) k j.2 in
        let p = u.it in
        let named : Some j.0.name ≡ Some i.name = ap (λ (x : UpMark). x.by) u.is ∙ by in
        let same : j.0 ≡ i = apart j.0 i j.1 m (name_is j.0.name i.name named) in
        let low = row_from point_cmp name_cmp from p j.0.name (subst (λ x. up_cmp (up_bound from) x ≡ Less) (sym u.is) only.1) in
        let high = row_below point_cmp name_cmp upto p j.0.name (subst (λ x. up_cmp x (up_bound upto) ≡ Less) (sym u.is) only.2) in
        let inserts = up_from j.0 p u.member n s e (point_within n s e p low high) in
        and_from _ _ strange (subst (λ (x : Record). list_any (inserts_after x n s e) x.change.hunks ≡ true) same inserts)

    back : (i : Record) → Contains S i → is_text_rival r n s e i ≡ true → (are_strangers i r ≡ true) × Contains (filter_map (λ m. m.by) rows) i.name
    back i m w =
        let a = and_parts (are_strangers i r) (list_any (inserts_after i n s e) i.change.hunks) w in
        let u = up_to i n s e a.1 in
        let at = within_point n s e u.0 u.2 in (
          a.0,
          picked_there (λ m. m.by) rows (up_row u.0 i.name) i.name
              (scan_has up_cmp up_total up_tied (up_bound from) (up_bound upto) (up_row u.0 i.name) es rising
              (index_has up_cmp up_total up_tied up_rows S es is i m (up_row u.0 i.name) (mapped (λ (p : Point). up_row p i.name) (up_points i) u.0 u.1))
              (above_bound point_cmp name_cmp from u.0 i.name at.0) (row_below_from point_cmp name_cmp upto u.0 i.name at.1)) refl,
        )

-- ---- bases

place_self : (p : Place) → same_place p p ≡ true
place_self placed.Root = refl
place_self (placed.At p) = and_from _ _ (is_same_name p.change p.change refl) (number p.offset)
  where
    number : (n : ℕ) → nat_eq n n ≡ true
    number n = grind (arith, nat_tests)

key_is : (a b : Place) → key_of a ≡ key_of b → a ≡ b
key_is placed.Root placed.Root e = refl
key_is placed.Root (placed.At q) e = absurd (cc)
key_is (placed.At p) placed.Root e = absurd (cc)
key_is (placed.At p) (placed.At q) e = ap placed.At (point_is p q e)
  where
    point_is : (p q : Point) → Some p ≡ Some q → p ≡ q
    point_is p q e = cc

-- a base of a change is a hunk that builds there
pub base_from : (j : Record) (c : Option Point) → Contains (bases j) c → (child : Place) → c ≡ key_of child → list_any (builds_on j child) j.change.hunks ≡ true
base_from j c m child same = let h = flat_from (λ h. bases_at j (base_of h)) j.change.hunks c m in by h.0 h.1 (base_of h.0) refl h.2
  where
    by : (h : Hunk) → Contains j.change.hunks h → (o : Option Ref) → base_of h ≡ o → Contains (bases_at j o) c → list_any (builds_on j child) j.change.hunks ≡ true
    by h n None e d = absurd (no_member c d)
    by h n (Some b) e d = any_member (builds_on j child) j.change.hunks h n
        (ap (is_resolved j child) e ∙ subst (λ (q : Place). same_place (resolve j b) q ≡ true) (key_is (resolve j b) child (one_member (key_of (resolve j b)) c d ∙ same)) (place_self (resolve j b)))

pub base_to : (j : Record) (child : Place) → list_any (builds_on j child) j.change.hunks ≡ true → Contains (bases j) (key_of child)
base_to j child w = let h = passes (builds_on j child) j.change.hunks w in by h.it h.member (base_of h.it) refl h.is
  where
    by : (h : Hunk) → Contains j.change.hunks h → (o : Option Ref) → base_of h ≡ o → is_resolved j child o ≡ true → Contains (bases j) (key_of child)
    by h c None e d = absurd (cc)
    by h c (Some b) e d = flat_there (λ h. bases_at j (base_of h)) j.change.hunks h (key_of child) c
        (subst (λ o. Contains (bases_at j o) (key_of child)) (sym e)
        (subst (λ (q : Place). Contains (bases_at j (Some b)) (key_of q)) (same_place_is (resolve j b) child d) (first_member (key_of (resolve j b)) [])))

-- what is scanned for the deletion of a name
pub name_rows : (S : List Record) → AreApart S → (es : List (BaseMark × Here)) → IsRising base_cmp es → IsIndexOf base_cmp base_rows S es → (r : Record) (child : Place) →
    AreRivals S r (filter_map (λ m. m.by) (keys_in base_cmp (base_low (key_of child)) (base_high (key_of child)) es)) (is_name_rival r child)
name_rows S apart es rising is r child = record { there = there; back = back }
  where
    at : Option Point
    at = key_of child

    rows : List BaseMark
    rows = keys_in base_cmp (base_low at) (base_high at) es

    there : (i : Record) → Contains S i → are_strangers i r ≡ true → Contains (filter_map (λ m. m.by) rows) i.name → is_name_rival r child i ≡ true
    there i m strange named =
        let (k, c, by) = picked_from (λ m. m.by) rows i.name named in
        let only = scan_only base_cmp base_total (base_low at) (base_high at) k es rising c in
        let j = index_from base_cmp base_total base_rows S es base_tied is k only.0 in
        let b = image (λ (c : Option Point). base_row c j.0.name) (bases j.0) k j.2 in
        let named : Some j.0.name ≡ Some i.name = ap (λ (x : BaseMark). x.by) b.is ∙ by in
        let same : j.0 ≡ i = apart j.0 i j.1 m (name_is j.0.name i.name named) in
        let low = row_from (option_cmp point_cmp) name_cmp at b.it j.0.name (subst (λ x. base_cmp (base_low at) x ≡ Less) (sym b.is) only.1) in
        let high = row_upto (option_cmp point_cmp) name_cmp at b.it j.0.name (subst (λ x. base_cmp x (base_high at) ≡ Less) (sym b.is) only.2) in
        let key = squeezed (option_cmp point_cmp) (options_total point_total) place_tied at b.it low high in
        and_from _ _ strange (subst (λ (x : Record). list_any (builds_on x child) x.change.hunks ≡ true) same (base_from j.0 b.it b.member child (sym key)))

    back : (i : Record) → Contains S i → is_name_rival r child i ≡ true → (are_strangers i r ≡ true) × Contains (filter_map (λ m. m.by) rows) i.name
    back i m w =
        let a = and_parts (are_strangers i r) (list_any (builds_on i child) i.change.hunks) w in
        let tie = tied_itself (options_total point_total) at in (
          a.0,
          picked_there (λ m. m.by) rows (base_row at i.name) i.name
              (scan_has base_cmp base_total base_tied (base_low at) (base_high at) (base_row at i.name) es rising
              (index_has base_cmp base_total base_tied base_rows S es is i m (base_row at i.name) (mapped (λ (c : Option Point). base_row c i.name) (bases i) at (base_to i child a.1)))
              (above_bound (option_cmp point_cmp) name_cmp at at i.name (inr tie)) (below_bound (option_cmp point_cmp) name_cmp at at i.name (inr tie))) refl,
        )

-- ---- the kind of what is deleted

pub rival_is : (S : List Record) → AreApart S → (r : Record) (owner start end : ℕ) (o : Record) → Contains S o → o.name ≡ numbered r owner → (i : Record) →
    is_rival_of S r owner start end i ≡ opposes i r o.name start end (deleted_at o start)
rival_is S apart r owner start end o m e i = any_named S (numbered r owner) (λ o. opposes i r o.name start end (deleted_at o start)) apart o m e

pub rival_none : (S : List Record) (r : Record) (owner start end : ℕ) → is_held S (numbered r owner) ≡ false → (i : Record) → is_rival_of S r owner start end i ≡ false
rival_none S r owner start end h i = none_named S (numbered r owner) (λ o. opposes i r o.name start end (deleted_at o start)) h

pub opposes_text : (i r : Record) (n : Name) (start end : ℕ) → opposes i r n start end (Some deleted.Text) ≡ is_text_rival r n start end i
unfolding opposes
opposes_text i r n start end = refl

pub opposes_name : (i r : Record) (n : Name) (start end : ℕ) (child : Place) → opposes i r n start end (Some (deleted.NameOf child)) ≡ is_name_rival r child i
unfolding opposes
opposes_name i r n start end child = refl

pub opposes_none : (i r : Record) (n : Name) (start end : ℕ) → opposes i r n start end None ≡ false
unfolding opposes
opposes_none i r n start end = ap (λ b. are_strangers i r && b) (none_passes (λ (h : Hunk). false) i.change.hunks (λ h m. refl)) ∙ and_no (are_strangers i r)
  where
    and_no : (b : Bool) → (b && false) ≡ false
    and_no true = refl
    and_no false = refl
