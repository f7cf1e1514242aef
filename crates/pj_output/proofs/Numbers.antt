-- The number of the live vertex that begins at a point.
use Rattle.std.proofs.Common.{◌≡◌, ◌∙◌, ℕ, ◌<◌, ◌≤◌, Bool, true, false, List, length, get_or, refl, sym, ap, subst, inl, inr, ◌⊎◌, zero, suc, arith}
use Rattle.std.specs.List.Sorted.{IsStrictlySortedBy, IsPartitionedBy, IsPartitionPoint}
use Rattle.std.specs.List.{AllWithin}
use Rattle.std.specs.Ordering.{is_lt}
use Rattle.std.specs.declared.cmp.Ordering.TheVariants.{Less}
use Rattle.std.proofs.lemmas.Cmp.{tied_itself}
use Rattle.std.proofs.lemmas.Option.{slice_get_read, slice_get_within, get_or_from_slice_get}
use Rattle.pj_change.specs.declared.point.Point.{Point}
use Rattle.pj_change.specs.declared.graph.Vertex.{Vertex}
use Rattle.pj_change.specs.declared.graph.VertexKind.TheVariants as vertex_kind
use Rattle.pj_change.specs.declared.graph.Status.TheVariants.{Dead}
use Rattle.pj_change.specs.Graph.{point_cmp, vertex_cmp}
use Rattle.pj_change.specs.Vertices.{first_point}
use Rattle.pj_change.proofs.ListNumbers.{numbered_member}
use Rattle.pj_change.proofs.Orders.{point_total, vertex_total}
use Rattle.pj_tree.proofs.SortedLists.{less_first, found, sorted_at}
use Rattle.pj_output.specs.Pairs.{BeginsAt}

-- a vertex begins before the point
abbrev pub is_below : Point → Vertex → Bool
is_below first v = is_lt (point_cmp (first_point v) first)

abbrev beginning : Point → Vertex
beginning first = record { change = first.change; start = first.offset; end = 0; kind = vertex_kind.Text; status = Dead }

module _ (live : List Vertex) (sorted : IsStrictlySortedBy vertex_cmp live) (first : Point) where
  pub below_first : IsPartitionedBy (is_below first) live
  below_first = less_first vertex_cmp vertex_total live (beginning first) sorted

  -- the vertex that begins there has the number at which those below end
  pub number_is : (k : ℕ) → IsPartitionPoint (λ v. is_below first v ≡ true) (λ v. is_below first v ≡ false) live k → k ≤ length live →
      (number : ℕ) → BeginsAt live first number → BeginsAt live first k
  number_is k cut within number b = record {
    v = b.v;
    there = slice_get_read live (length live) k b.v refl here.0 (sym (here.1 b.v));
    first_is = b.first_is;
  }
    where
      here : (k < length live) × ((d : Vertex) → get_or live k d ≡ b.v)
      here = found vertex_cmp vertex_total live b.v k sorted (numbered_member live number b.v b.there)
          (subst (λ p. AllWithin (λ v. is_below p v ≡ true) live 0 k) (sym b.first_is) cut.0)
          (subst (λ p. AllWithin (λ v. is_below p v ≡ false) live k (length live)) (sym b.first_is) cut.1) within

  -- no vertex begins there where none has that number
  pub none_begins : (k : ℕ) → IsPartitionPoint (λ v. is_below first v ≡ true) (λ v. is_below first v ≡ false) live k → k ≤ length live →
      (BeginsAt live first k → ⊥) → (number : ℕ) → BeginsAt live first number → ⊥
  none_begins k cut within none number b = none (number_is k cut within number b)

  -- one vertex begins there at most
  pub one_begins : (i j : ℕ) → BeginsAt live first i → BeginsAt live first j → i ≡ j
  one_begins i j a b = elim (lower i j) [
    | inl l ↦ absurd (apart i j a b l)
    | inr r ↦ elim r [ inl l ↦ absurd (apart j i b a l) | inr e ↦ e ]
  ]
    where
      lower : (i j : ℕ) → (i < j) ⊎ ((j < i) ⊎ (i ≡ j))
      lower zero zero = inr (inr refl)
      lower zero (suc j) = inl (omega arith)
      lower (suc i) zero = inr (inl (omega arith))
      lower (suc i) (suc j) = elim (lower i j) [ inl l ↦ inl (omega arith) | inr r ↦ inr (elim r [ inl l ↦ inl (omega arith) | inr e ↦ inr (ap suc e) ]) ]

      apart : (i j : ℕ) → BeginsAt live first i → BeginsAt live first j → i < j → ⊥
      apart i j a b l =
          let less : vertex_cmp (get_or live i a.v) (get_or live j a.v) ≡ Less = sorted_at vertex_cmp live i j a.v sorted l (slice_get_within live j b.v b.there) in
          let at_i : get_or live i a.v ≡ a.v = get_or_from_slice_get live i a.v a.v a.there in
          let at_j : get_or live j a.v ≡ b.v = get_or_from_slice_get live j b.v a.v b.there in
          let same : vertex_cmp a.v b.v ≡ Less = subst (λ x. vertex_cmp x b.v ≡ Less) at_i (subst (λ y. vertex_cmp (get_or live i a.v) y ≡ Less) at_j less) in
          let tied : point_cmp (first_point a.v) (first_point a.v) ≡ Less = subst (λ p. point_cmp (first_point a.v) p ≡ Less) (b.first_is ∙ sym a.first_is) same in
          let itself = tied_itself point_total (first_point a.v) in
          cc
