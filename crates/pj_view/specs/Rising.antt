-- Points in rising order.
use Rattle.std.proofs.Common.{◌≡◌, sym, refl, subst, inl, inr, List, [], ◌∷◌}
use Rattle.std.specs.Prelude.{Contains, ◌⊎◌}
use Rattle.std.specs.BTreeSet.{insert_key}
use Rattle.std.specs.Ordering.{match_ordering}
use Rattle.std.specs.List.Sorted.{IsStrictlySortedBy}
use Rattle.std.specs.declared.cmp.Ordering.{Ordering}
use Rattle.std.specs.declared.cmp.Ordering.TheVariants.{Less, Equal, Greater}
use Rattle.pj_pmap.proofs.Order.{less_back}
use Rattle.pj_change.specs.declared.point.Point.{Point}
use Rattle.pj_change.specs.Graph.{point_cmp}
use Rattle.pj_change.proofs.EqualNames.{point_tied}
use Rattle.pj_change.proofs.Members.{first_member, later_member, uncons, no_member, same_member, each, from_each}
use Rattle.pj_change.proofs.Orders.{point_total}
use Rattle.pj_view.specs.SetGraph.{rising}

-- ---- one point more

put_only : (p : Point) (ps : List Point) (q : Point) → Contains (insert_key point_cmp ps p) q → (p ≡ q) ⊎ Contains ps q
put_only p [] q m = uncons p [] q m
put_only p (x ∷ ps) q m = by (put_only p ps q) (point_cmp p x) m
  where
    by : (Contains (insert_key point_cmp ps p) q → (p ≡ q) ⊎ Contains ps q) → (o : Ordering) →
        Contains (match_ordering o (p ∷ x ∷ ps) (x ∷ ps) (x ∷ insert_key point_cmp ps p)) q → (p ≡ q) ⊎ Contains (x ∷ ps) q
    by rest Less m = uncons p (x ∷ ps) q m
    by rest Equal m = inr m
    by rest Greater m = elim (uncons x (insert_key point_cmp ps p) q m) [
      | inl e ↦ inr (same_member (x ∷ ps) e (first_member x ps))
      | inr n ↦ elim (rest n) [ inl e ↦ inl e | inr k ↦ inr (later_member x ps q k) ]
    ]

put_here : (p : Point) (ps : List Point) → Contains (insert_key point_cmp ps p) p
put_here p [] = first_member p []
put_here p (x ∷ ps) = by (put_here p ps) (point_cmp p x) refl
  where
    by : Contains (insert_key point_cmp ps p) p → (o : Ordering) → point_cmp p x ≡ o → Contains (match_ordering o (p ∷ x ∷ ps) (x ∷ ps) (x ∷ insert_key point_cmp ps p)) p
    by rest Less e = first_member p (x ∷ ps)
    by rest Equal e = same_member (x ∷ ps) (sym (point_tied p x e)) (first_member x ps)
    by rest Greater e = later_member x (insert_key point_cmp ps p) p rest

put_rest : (p : Point) (ps : List Point) (q : Point) → Contains ps q → Contains (insert_key point_cmp ps p) q
put_rest p [] q m = absurd (no_member q m)
put_rest p (x ∷ ps) q m = by (put_rest p ps q) (point_cmp p x)
  where
    by : (Contains ps q → Contains (insert_key point_cmp ps p) q) → (o : Ordering) → Contains (match_ordering o (p ∷ x ∷ ps) (x ∷ ps) (x ∷ insert_key point_cmp ps p)) q
    by rest Less = later_member p (x ∷ ps) q m
    by rest Equal = m
    by rest Greater = elim (uncons x ps q m) [
      | inl e ↦ same_member (x ∷ insert_key point_cmp ps p) e (first_member x (insert_key point_cmp ps p))
      | inr n ↦ later_member x (insert_key point_cmp ps p) q (rest n)
    ]

put_sorted : (p : Point) (ps : List Point) → IsStrictlySortedBy point_cmp ps → IsStrictlySortedBy point_cmp (insert_key point_cmp ps p)
unfolding IsStrictlySortedBy
put_sorted p [] s = (tt, tt)
put_sorted p (x ∷ ps) s = by (put_sorted p ps s.1) (point_cmp p x) refl
  where
    by : IsStrictlySortedBy point_cmp (insert_key point_cmp ps p) → (o : Ordering) → point_cmp p x ≡ o →
        IsStrictlySortedBy point_cmp (match_ordering o (p ∷ x ∷ ps) (x ∷ ps) (x ∷ insert_key point_cmp ps p))
    by rest Less e = (
      from_each (λ y. point_cmp p y ≡ Less) (x ∷ ps) (λ y m. elim (uncons x ps y m) [
        | inl h ↦ subst (λ z. point_cmp p z ≡ Less) h e
        | inr n ↦ point_total.trans p x y e (each (λ z. point_cmp x z ≡ Less) ps s.0 y n)
      ]),
      s,
    )
    by rest Equal e = s
    by rest Greater e = (
      from_each (λ y. point_cmp x y ≡ Less) (insert_key point_cmp ps p) (λ y m. elim (put_only p ps y m) [
        | inl h ↦ subst (λ z. point_cmp x z ≡ Less) h (less_back point_total p x e)
        | inr n ↦ each (λ z. point_cmp x z ≡ Less) ps s.0 y n
      ]),
      rest,
    )

-- ---- all of a list

pub rising_only : (ps : List Point) (q : Point) → Contains (rising ps) q → Contains ps q
rising_only [] q m = m
rising_only (p ∷ ps) q m = elim (put_only p (rising ps) q m) [
  | inl e ↦ same_member (p ∷ ps) e (first_member p ps)
  | inr n ↦ later_member p ps q (rising_only ps q n)
]

pub rising_all : (ps : List Point) (q : Point) → Contains ps q → Contains (rising ps) q
rising_all [] q m = m
rising_all (p ∷ ps) q m = elim (uncons p ps q m) [
  | inl e ↦ same_member (rising (p ∷ ps)) e (put_here p (rising ps))
  | inr n ↦ put_rest p (rising ps) q (rising_all ps q n)
]

pub rising_sorted : (ps : List Point) → IsStrictlySortedBy point_cmp (rising ps)
unfolding IsStrictlySortedBy
rising_sorted [] = tt
rising_sorted (p ∷ ps) = put_sorted p (rising ps) (rising_sorted ps)
