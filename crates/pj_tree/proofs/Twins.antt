-- Among children in order, those of one name stand together.
use Rattle.std.proofs.Common.{◌≡◌, ℕ, zero, suc, ◌+◌, ◌-◌, ◌<◌, ◌≤◌, Bool, true, false, ◌&&◌, ◌||◌, not, List, length, get_or, map, refl, sym, ap, ◌∙◌, subst, inl, inr, ◌⊎◌, arith, bytes_eq, nat_lt, Contains}
use Rattle.std.proofs.lemmas.Bool.{ltb-true, lt-ltb, and_parts, false_from_ne_true}
use Rattle.std.specs.List.Sorted.{IsStrictlySortedBy}
use Rattle.std.specs.Ordering.{nat_cmp}
use Rattle.std.specs.Cmp.Lexicographic.{slice_cmp, bytes_decides}
use Rattle.std.specs.declared.cmp.Ordering.{Ordering}
use Rattle.std.specs.declared.cmp.Ordering.TheVariants.{Less, Equal, Greater}
use Rattle.std.proofs.lemmas.Cmp.{nat_list_cmp_total, tied_itself}
use Rattle.pj_change.specs.declared.point.Point.{Point}
use Rattle.pj_change.specs.Positions.{same_point}
use Rattle.pj_change.specs.Graph.{point_cmp}
use Rattle.pj_change.specs.Children.{Child, child_cmp, is_shared}
use Rattle.pj_change.proofs.Members.{any_member, none_passes}
use Rattle.pj_change.proofs.Orders.{point_total}
use Rattle.pj_change.proofs.EqualNames.{same_point_is, same_point_itself}
use Rattle.std.proofs.lemmas.List.{get_or-map, get_or_default, length-map}
use Rattle.pj_tree.specs.declared.pairings.Pairing.{Pairing}
use Rattle.pj_tree.specs.Pairings.{child_of}
use Rattle.pj_tree.proofs.SortedLists.{sorted_at, which}
use Rattle.pj_tree.proofs.Ties.{bytes_tied}

-- they have one name, and are not one
abbrev pub are_twins : Child → Child → Bool
are_twins d c = bytes_eq d.bytes c.bytes && not (same_point d.inode c.inode)

-- children in order with one name are twins
apart : (c d : Child) → child_cmp c d ≡ Less → c.bytes ≡ d.bytes → same_point c.inode d.inode ≡ false
apart c d low names = by (same_point c.inode d.inode) refl
  where
    by : (b : Bool) → same_point c.inode d.inode ≡ b → same_point c.inode d.inode ≡ false
    by false h = h
    by true h =
        let points : c.inode ≡ d.inode = same_point_is c.inode d.inode h in
        let e : slice_cmp nat_cmp c.bytes d.bytes ≡ Equal = subst (λ x. slice_cmp nat_cmp c.bytes x ≡ Equal) names (tied_itself nat_list_cmp_total c.bytes) in
        let f : point_cmp c.inode d.inode ≡ Equal = subst (λ x. point_cmp c.inode x ≡ Equal) points (tied_itself point_total c.inode) in
        absurd (let g : child_cmp c d ≡ Equal = rw e f in let k = sym g ∙ low in cc)

-- what stands between two of one name has that name
between : (a b c : Child) → child_cmp a b ≡ Less → child_cmp b c ≡ Less → a.bytes ≡ c.bytes → a.bytes ≡ b.bytes
between a b c low high e = by (slice_cmp nat_cmp a.bytes b.bytes) refl (slice_cmp nat_cmp b.bytes c.bytes) refl
  where
    by : (o : Ordering) → slice_cmp nat_cmp a.bytes b.bytes ≡ o → (p : Ordering) → slice_cmp nat_cmp b.bytes c.bytes ≡ p → a.bytes ≡ b.bytes
    by Equal f p g = bytes_tied a.bytes b.bytes f
    by Less f Equal g = e ∙ sym (bytes_tied b.bytes c.bytes g)
    by Less f Less g =
        let t : slice_cmp nat_cmp a.bytes c.bytes ≡ Less = nat_list_cmp_total.trans a.bytes b.bytes c.bytes f g in
        let s : slice_cmp nat_cmp c.bytes c.bytes ≡ Less = subst (λ x. slice_cmp nat_cmp x c.bytes ≡ Less) e t in
        absurd (let k = sym (tied_itself nat_list_cmp_total c.bytes) ∙ s in cc)
    by Less f Greater g = absurd (let h = rw g at high in cc)
    by Greater f p g = absurd (let h = rw f at low in cc)

bytes_are : (xs ys : List ℕ) → bytes_eq xs ys ≡ true → xs ≡ ys
bytes_are xs ys h = (bytes_decides xs ys).0 h

are_bytes : (xs ys : List ℕ) → xs ≡ ys → bytes_eq xs ys ≡ true
are_bytes xs ys e = (bytes_decides xs ys).1 e

same_point_back : (p q : Point) → same_point p q ≡ false → same_point q p ≡ false
same_point_back p q h = by (same_point q p) refl
  where
    by : (b : Bool) → same_point q p ≡ b → same_point q p ≡ false
    by false e = e
    by true e = let f : q ≡ p = same_point_is q p e in absurd (let g : same_point p q ≡ true = subst (λ x. same_point x q ≡ true) f (same_point_itself q) in let k = sym g ∙ h in cc)

-- a child is a twin of the one before it, and of the one after it, if they have its name
twins_up : (c d : Child) → child_cmp c d ≡ Less → bytes_eq c.bytes d.bytes ≡ true → are_twins c d ≡ true
twins_up c d low e = rw (e, apart c d low (bytes_are c.bytes d.bytes e)) refl

twins_down : (c d : Child) → child_cmp c d ≡ Less → bytes_eq d.bytes c.bytes ≡ true → are_twins d c ≡ true
twins_down c d low e = rw (e, same_point_back c.inode d.inode (apart c d low (sym (bytes_are d.bytes c.bytes e)))) refl

module _ (cs : List Child) (sorted : IsStrictlySortedBy child_cmp cs) (at : ℕ) (d : Child) (inside : at < length cs) where
  member : (k : ℕ) → k < length cs → Contains cs (get_or cs k d)
  member k l = (k, l, get_or_default cs k (get_or cs k d) d l)

  pub twin_before : 0 < at → bytes_eq (get_or cs (at - 1) d).bytes (get_or cs at d).bytes ≡ true → is_shared cs (get_or cs at d) ≡ true
  twin_before some e =
      any_member (λ x. are_twins x (get_or cs at d)) cs (get_or cs (at - 1) d) (member (at - 1) (omega arith))
      (twins_up (get_or cs (at - 1) d) (get_or cs at d) (sorted_at child_cmp cs (at - 1) at d sorted (omega arith) inside) e)

  pub twin_after : at + 1 < length cs → bytes_eq (get_or cs (at + 1) d).bytes (get_or cs at d).bytes ≡ true → is_shared cs (get_or cs at d) ≡ true
  twin_after some e =
      any_member (λ x. are_twins x (get_or cs at d)) cs (get_or cs (at + 1) d) (member (at + 1) some)
      (twins_down (get_or cs at d) (get_or cs (at + 1) d) (sorted_at child_cmp cs at (at + 1) d sorted (omega arith) some) e)

  pub no_twin : (0 < at → bytes_eq (get_or cs (at - 1) d).bytes (get_or cs at d).bytes ≡ false) →
      (at + 1 < length cs → bytes_eq (get_or cs (at + 1) d).bytes (get_or cs at d).bytes ≡ false) → is_shared cs (get_or cs at d) ≡ false
  no_twin below above = none_passes (λ x. are_twins x (get_or cs at d)) cs (λ x m. false_from_ne_true (are_twins x (get_or cs at d)) (λ t. none x m t))
    where
      names : (k : ℕ) → k < length cs → bytes_eq (get_or cs k d).bytes (get_or cs at d).bytes ≡ true → (k < at → ⊥) × (at < k → ⊥)
      names k l e = (low (which k (at - 1)), high (which (at + 1) k))
        where
          same : (get_or cs k d).bytes ≡ (get_or cs at d).bytes
          same = bytes_are (get_or cs k d).bytes (get_or cs at d).bytes e

          low : (k ≤ at - 1 → (k < at - 1) ⊎ (k ≡ at - 1)) → k < at → ⊥
          low either m = elim (either (omega arith)) [
            | inl n ↦
                let b = between (get_or cs k d) (get_or cs (at - 1) d) (get_or cs at d) (sorted_at child_cmp cs k (at - 1) d sorted n (omega arith))
                (sorted_at child_cmp cs (at - 1) at d sorted (omega arith) inside) same in
                let t = are_bytes (get_or cs (at - 1) d).bytes (get_or cs at d).bytes (sym b ∙ same) in
                let f = below (omega arith) in
                let g = sym t ∙ f in cc
            | inr n ↦ let f = subst (λ i. bytes_eq (get_or cs i d).bytes (get_or cs at d).bytes ≡ true) n e in let g = sym f ∙ below (omega arith) in cc
          ]

          high : (at + 1 ≤ k → (at + 1 < k) ⊎ (at + 1 ≡ k)) → at < k → ⊥
          high either m = elim (either (omega arith)) [
            | inl n ↦
                let b = between (get_or cs at d) (get_or cs (at + 1) d) (get_or cs k d) (sorted_at child_cmp cs at (at + 1) d sorted (omega arith) (omega arith))
                (sorted_at child_cmp cs (at + 1) k d sorted n l) (sym same) in
                let t = are_bytes (get_or cs (at + 1) d).bytes (get_or cs at d).bytes (sym b) in
                let f = above (omega arith) in
                let g = sym t ∙ f in cc
            | inr n ↦ let f = subst (λ i. bytes_eq (get_or cs i d).bytes (get_or cs at d).bytes ≡ true) (sym n) e in let g = sym f ∙ above (omega arith) in cc
          ]

      at_index : (k : ℕ) (x : Child) → k < length cs → get_or cs k x ≡ x → get_or cs k d ≡ x
      at_index k x l e = get_or_default cs k d x l ∙ e

      three : (k : ℕ) → (k < at) ⊎ ((at < k) ⊎ (k ≡ at))
      three k = order k at
        where
          order : (a b : ℕ) → (a < b) ⊎ ((b < a) ⊎ (a ≡ b))
          order zero zero = inr (inr refl)
          order zero (suc b) = inl (omega arith)
          order (suc a) zero = inr (inl (omega arith))
          order (suc a) (suc b) = elim (order a b) [ inl l ↦ inl (omega arith) | inr r ↦ inr (elim r [ inl l ↦ inl (omega arith) | inr e ↦ inr (ap suc e) ]) ]

      none : (x : Child) → Contains cs x → are_twins x (get_or cs at d) ≡ true → ⊥
      none x m t =
          let here : get_or cs m.0 d ≡ x = at_index m.0 x m.1 m.2 in
          let both = and_parts (bytes_eq x.bytes (get_or cs at d).bytes) (not (same_point x.inode (get_or cs at d).inode)) t in
          let n = names m.0 m.1 (subst (λ y. bytes_eq y.bytes (get_or cs at d).bytes ≡ true) (sym here) both.0) in
          elim (three m.0) [
            | inl l ↦ n.0 l
            | inr r ↦ elim r [
              | inl l ↦ n.1 l
              | inr e ↦
                  let is : x ≡ get_or cs at d = sym here ∙ ap (λ k. get_or cs k d) e in
                  let p : same_point x.inode (get_or cs at d).inode ≡ true = subst (λ y. same_point y.inode (get_or cs at d).inode ≡ true) (sym is) (same_point_itself (get_or cs at d).inode) in
                  let q = both.1 in
                  let r : not true ≡ true = rw p at q in cc
            ]
          ]

-- ---- among pairings

pub has_twin_is : (es : List Pairing) (at : ℕ) → IsStrictlySortedBy child_cmp (map child_of es) → at < length es → (d : Pairing) →
    is_shared (map child_of es) (child_of (get_or es at d))
    ≡ ((nat_lt 0 at && bytes_eq (get_or es (at - 1) d).row.now.name (get_or es at d).row.now.name)
    || (nat_lt (at + 1) (length es) && bytes_eq (get_or es (at + 1) d).row.now.name (get_or es at d).row.now.name))
has_twin_is es at sorted inside d = by first refl second refl
  where
    cs : List Child
    cs = map child_of es

    long : length cs ≡ length es
    long = simp length-map

    here : (k : ℕ) → k < length es → get_or cs k (child_of d) ≡ child_of (get_or es k d)
    here k l = get_or-map child_of es k d (child_of d) l

    names : ℕ → Bool
    names k = bytes_eq (get_or es k d).row.now.name (get_or es at d).row.now.name

    name_at : (k : ℕ) → k < length es → bytes_eq (get_or cs k (child_of d)).bytes (get_or cs at (child_of d)).bytes ≡ names k
    name_at k l = λ i. bytes_eq (here k l i).bytes (here at inside i).bytes

    in_cs : at < length cs
    in_cs = rw long inside

    shared : Bool
    shared = is_shared cs (child_of (get_or es at d))

    to_shared : (b : Bool) → is_shared cs (get_or cs at (child_of d)) ≡ b → shared ≡ b
    to_shared b e = ap (is_shared cs) (sym (here at inside)) ∙ e

    before : 0 < at → names (at - 1) ≡ true → shared ≡ true
    before some e = to_shared true (twin_before cs sorted at (child_of d) in_cs some (name_at (at - 1) (omega arith) ∙ e))

    after : at + 1 < length es → names (at + 1) ≡ true → shared ≡ true
    after some e = to_shared true (twin_after cs sorted at (child_of d) in_cs (rw long some) (name_at (at + 1) some ∙ e))

    none : (0 < at → names (at - 1) ≡ false) → (at + 1 < length es → names (at + 1) ≡ false) → shared ≡ false
    none below above = to_shared false (no_twin cs sorted at (child_of d) in_cs (λ l. name_at (at - 1) (omega arith) ∙ below l)
        (λ l. let m : at + 1 < length es = rw long at l in name_at (at + 1) m ∙ above m))

    rest_false : (a b : Bool) → a ≡ true → (a && b) ≡ false → b ≡ false
    rest_false true b t e = e
    rest_false false b t e = absurd (cc)

    first : Bool
    first = nat_lt 0 at && names (at - 1)

    second : Bool
    second = nat_lt (at + 1) (length es) && names (at + 1)

    by : (p : Bool) → first ≡ p → (q : Bool) → second ≡ q → shared ≡ (first || second)
    by true e q f = let a = and_parts (nat_lt 0 at) (names (at - 1)) e in before (ltb-true 0 at a.0) a.1 ∙ sym (ap (λ x. x || second) e)
    by false e true f = let a = and_parts (nat_lt (at + 1) (length es)) (names (at + 1)) f in after (ltb-true (at + 1) (length es) a.0) a.1 ∙ sym (λ i. e i || f i)
    by false e false f =
        none (λ l. rest_false (nat_lt 0 at) (names (at - 1)) (lt-ltb 0 at l) e) (λ l. rest_false (nat_lt (at + 1) (length es)) (names (at + 1)) (lt-ltb (at + 1) (length es) l) f)
        ∙ sym (λ i. e i || f i)
