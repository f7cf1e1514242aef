-- The rows inside blocks that come and go with cuts, by the points that are told apart before and after.
use Rattle.std.proofs.Common.{◌≡◌, ◌∙◌, sym, ap, subst, ℕ, ◌+◌, ◌<◌, List, [], ◌∷◌, ◌++◌, length, take, get_or, inl, inr, zero, suc, refl}
use Rattle.std.specs.Prelude.{◌↔◌, Contains, ◌⊎◌, map}
use Rattle.pj_change.specs.declared.point.Point.{Point}
use Rattle.pj_change.specs.declared.row.EdgeRow.{EdgeRow}
use Rattle.pj_change.proofs.Members.{first_member, uncons, no_member, moved, same_member}
use Rattle.pj_change.proofs.LawfulLists.{append_cases, first_part, second_part}
use Rattle.pj_change.proofs.TakenLists.{taken_more}
use Rattle.pj_cuts.specs.Counted.{Counted, count_at}
use Rattle.pj_edges.specs.OwnRows.{row_before}
use Rattle.pj_outline.specs.Inner.{IsInside, IsNotInside, AreInside, AreUncut, HasNoRowOnceCut, AreRowsOnceCut}

-- a list with one thing more has it and those before
one_more : {X : Type 0} (list : List X) (x y : X) → Contains (list ++ x ∷ []) y ↔ (Contains list y ⊎ (x ≡ y))
one_more list x y = (
  λ m. elim (append_cases list (x ∷ []) y m) [
    | inl k ↦ inl k
    | inr k ↦ elim (uncons x [] y k) [ inl e ↦ inr e | inr n ↦ absurd (no_member y n) ]
  ],
  λ k. elim k [ inl m ↦ first_part list (x ∷ []) y m | inr e ↦ second_part list (x ∷ []) y (same_member (x ∷ []) e (first_member x [])) ],
)

module _ (c : Counted) (points : List Point) (i : ℕ) (p : Point) (low : i < length points) (is : p ≡ get_or points i p) (list : List Point) where
  -- the first points with one more
  among : (q : Point) → Contains (take (i + 1) points) q ↔ (Contains (take i points) q ⊎ (p ≡ q))
  among q = (
    λ m. (one_more (take i points) p q).0 (moved q (taken_more points i p low is) m),
    λ k. moved q (sym (taken_more points i p low is)) ((one_more (take i points) p q).1 k),
  )

  pub uncut_more : count_at c p ≡ 0 → AreUncut c (take i points) list → AreUncut c (take (i + 1) points) (list ++ p ∷ [])
  uncut_more none are q = (
    λ m. elim ((one_more list p q).0 m) [
      | inl k ↦ (let h = (are q).0 k in ((among q).1 (inl h.0), h.1))
      | inr e ↦ ((among q).1 (inr e), subst (λ z. count_at c z ≡ 0) e none)
    ],
    λ h. (one_more list p q).1 (elim ((among q).0 h.0) [ inl k ↦ inl ((are q).1 (k, h.1)) | inr e ↦ inr e ]),
  )

  pub uncut_same : (count_at c p ≡ 0 → ⊥) → AreUncut c (take i points) list → AreUncut c (take (i + 1) points) list
  uncut_same some are q = (
    λ m. (let h = (are q).0 m in ((among q).1 (inl h.0), h.1)),
    λ h. elim ((among q).0 h.0) [ inl k ↦ (are q).1 (k, h.1) | inr e ↦ absurd (some (subst (λ z. count_at c z ≡ 0) (sym e) h.1)) ],
  )

  pub inside_more : IsInside c p → AreInside c (take i points) list → AreInside c (take (i + 1) points) (list ++ p ∷ [])
  inside_more there are = record {
    only = λ q m. elim ((one_more list p q).0 m) [
      | inl k ↦ (let h = are.only q k in ((among q).1 (inl h.0), h.1))
      | inr e ↦ ((among q).1 (inr e), subst (IsInside c) e there)
    ];
    all = λ q m. elim ((among q).0 m) [
      | inl k ↦ elim (are.all q k) [ inl n ↦ inl n | inr h ↦ inr ((one_more list p q).1 (inl h)) ]
      | inr e ↦ inr ((one_more list p q).1 (inr e))
    ];
  }

  pub inside_same : IsNotInside c p → AreInside c (take i points) list → AreInside c (take (i + 1) points) list
  inside_same none are = record {
    only = λ q m. (let h = are.only q m in ((among q).1 (inl h.0), h.1));
    all = λ q m. elim ((among q).0 m) [ inl k ↦ are.all q k | inr e ↦ inl (subst (IsNotInside c) e none) ];
  }

-- a row to one of the points, and the row to each
row_of : (points : List Point) (row : EdgeRow) → Contains (map row_before points) row → (p : Point) × Contains points p × (row ≡ row_before p)
row_of [] row m = absurd (no_member row m)
row_of (p ∷ ps) row m = elim (uncons (row_before p) (map row_before ps) row m) [
  | inl e ↦ (p, first_member p ps, sym e)
  | inr k ↦ (let h = row_of ps row k in (h.0, second_part (p ∷ []) ps h.0 h.1, h.2))
]

has_row_of : (points : List Point) (p : Point) → Contains points p → Contains (map row_before points) (row_before p)
has_row_of [] p m = absurd (no_member p m)
has_row_of (x ∷ xs) p m = elim (uncons x xs p m) [
  | inl e ↦ same_member (map row_before (x ∷ xs)) (ap row_before e) (first_member (row_before x) (map row_before xs))
  | inr k ↦ second_part (row_before x ∷ []) (map row_before xs) (row_before p) (has_row_of xs p k)
]

module _ (fewer more : Counted) (points list both : List Point) (rows : List EdgeRow) (are : rows ≡ map row_before both) where
  -- where the points are parted by cuts first
  pub once_cut_then_inside : AreUncut fewer points list → AreInside more list both → AreRowsOnceCut fewer more points rows
  once_cut_then_inside uncut inside = record {
    each = λ row m. (let h = row_of both row (moved row are m) in let k = inside.only h.0 h.1 in let n = (uncut h.0).0 k.0 in (h.0, n.0, record { uncut = n.1; inside = k.1; is = h.2 }));
    all = λ p m. by p m (count_at fewer p) refl;
  }
    where
      by : (p : Point) → Contains points p → (n : ℕ) → count_at fewer p ≡ n → HasNoRowOnceCut fewer more p ⊎ Contains rows (row_before p)
      by p m zero e = elim (inside.all p ((uncut p).1 (m, e))) [
        | inl none ↦ inl (λ _. none)
        | inr k ↦ inr (moved (row_before p) (sym are) (has_row_of both p k))
      ]
      by p m (suc n) e = inl (λ o. (let z : suc n ≡ 0 = sym e ∙ o in cc))

  -- where they are parted by blocks first
  pub once_cut_from_inside : AreInside more points list → AreUncut fewer list both → AreRowsOnceCut fewer more points rows
  once_cut_from_inside inside uncut = record {
    each = λ row m. (let h = row_of both row (moved row are m) in let n = (uncut h.0).0 h.1 in let k = inside.only h.0 n.0 in (h.0, k.0, record { uncut = n.1; inside = k.1; is = h.2 }));
    all = λ p m. by p m (count_at fewer p) refl;
  }
    where
      by : (p : Point) → Contains points p → (n : ℕ) → count_at fewer p ≡ n → HasNoRowOnceCut fewer more p ⊎ Contains rows (row_before p)
      by p m zero e = elim (inside.all p m) [
        | inl none ↦ inl (λ _. none)
        | inr k ↦ inr (moved (row_before p) (sym are) (has_row_of both p ((uncut p).1 (k, e))))
      ]
      by p m (suc n) e = inl (λ o. (let z : suc n ≡ 0 = sym e ∙ o in cc))
