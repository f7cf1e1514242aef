-- The graph of a table keeps the law of views.
use Rattle.std.proofs.Common.{◌≡◌, ◌≤◌, ◌<◌, ℕ, refl, sym, ap, ◌∙◌, subst, inl, inr, arith, Bool, true, false, List, [], ◌∷◌}
use Rattle.std.specs.Prelude.{Contains, ◌⊎◌, ◌&&◌, Option, Some, None, nat_le}
use Rattle.std.specs.List.{find, filter}
use Rattle.std.specs.List.Sorted.{IsStrictlySortedBy}
use Rattle.std.specs.Ordering.{nat_cmp, ordering_then}
use Rattle.std.specs.declared.cmp.Ordering.{Ordering}
use Rattle.std.specs.declared.cmp.Ordering.TheVariants.{Less, Equal, Greater}
use Rattle.std.proofs.lemmas.Bool.{and_parts}
use Rattle.std.proofs.lemmas.Bool.Decides.{nat_tests}
use Rattle.std.proofs.lemmas.Cmp.{tied_itself}
use Rattle.std.proofs.lemmas.List.Kept.{IsStrictlySortedBy-filter}
use Rattle.pj_name.specs.Name.{same_name, name_cmp}
use Rattle.pj_name.proofs.Names.{name_cmp-total}
use Rattle.pj_change.specs.declared.point.Point.{Point}
use Rattle.pj_change.specs.Graph.{point_cmp}
use Rattle.pj_change.proofs.Members.{uncons, first_member, later_member, no_member, from_each}
use Rattle.pj_change.proofs.EqualNames.{same_name_is, is_same_name}
use Rattle.pj_change.proofs.Listings.{IsRelated, related_pairs}
use Rattle.pj_dead.specs.PointGraphs.{IsVertex, IsEdge, IsWhole}
use Rattle.test_tables.specs.declared.dead.shape.Shape.{Shape}
use Rattle.test_tables.specs.declared.dead.shape.Arrow.{Arrow}
use Rattle.test_tables.specs.ListedGraphs.{has, leads, shape_of, firsts, first_of, last_of, graph_of, IsBefore, AreApart}

-- ---- lists

filter_member : {X : Type 0} (t : X → Bool) (xs : List X) (x : X) → Contains (filter t xs) x → Contains xs x × (t x ≡ true)
filter_member t [] x m = absurd (no_member x m)
filter_member {X} t (y ∷ ys) x m = by (t y) refl (filter_member t ys x)
  where
    by : (b : Bool) → t y ≡ b → (Contains (filter t ys) x → Contains ys x × (t x ≡ true)) → Contains (y ∷ ys) x × (t x ≡ true)
    by false e rest = (let n : Contains (filter t ys) x = rw e at m in let k = rest n in (later_member y ys x k.0, k.1))
    by true e rest =
        let n : Contains (y ∷ filter t ys) x = rw e at m in
        elim (uncons y (filter t ys) x n) [
          | inl s ↦ (subst (Contains (y ∷ ys)) s (first_member y ys), sym (ap t s) ∙ e)
          | inr k ↦ (let r = rest k in (later_member y ys x r.0, r.1))
        ]

member_filter : {X : Type 0} (t : X → Bool) (xs : List X) (x : X) → Contains xs x → t x ≡ true → Contains (filter t xs) x
member_filter t [] x m h = absurd (no_member x m)
member_filter {X} t (y ∷ ys) x m h = by (t y) refl (member_filter t ys x) (uncons y ys x m)
  where
    by : (b : Bool) → t y ≡ b → (Contains ys x → t x ≡ true → Contains (filter t ys) x) → (y ≡ x) ⊎ Contains ys x → Contains (filter t (y ∷ ys)) x
    by false e rest (inl s) = absurd (let f : true ≡ false = sym h ∙ sym (ap t s) ∙ e in cc)
    by false e rest (inr k) = rw e (rest k h)
    by true e rest (inl s) = rw e (subst (Contains (y ∷ filter t ys)) s (first_member y (filter t ys)))
    by true e rest (inr k) = rw e (later_member y (filter t ys) x (rest k h))

found_is : {X : Type 0} (t : X → Bool) (xs : List X) (x : X) → find t xs ≡ Some x → Contains xs x × (t x ≡ true)
found_is t [] x h = absurd (cc)
found_is {X} t (y ∷ ys) x h = by (t y) refl (found_is t ys x)
  where
    by : (b : Bool) → t y ≡ b → (find t ys ≡ Some x → Contains ys x × (t x ≡ true)) → Contains (y ∷ ys) x × (t x ≡ true)
    by false e rest = (let n : find t ys ≡ Some x = rw e at h in let k = rest n in (later_member y ys x k.0, k.1))
    by true e rest = (let s : Some y ≡ Some x = rw e at h in let same : y ≡ x = cc in (subst (Contains (y ∷ ys)) same (first_member y ys), sym (ap t same) ∙ e))

is_found : {X : Type 0} (t : X → Bool) (xs : List X) (x : X) → Contains xs x → t x ≡ true → ((y : X) → Contains xs y → t y ≡ true → y ≡ x) → find t xs ≡ Some x
is_found t [] x m h one = absurd (no_member x m)
is_found {X} t (y ∷ ys) x m h one = by (t y) refl (is_found t ys x)
  where
    by : (b : Bool) → t y ≡ b → (Contains ys x → t x ≡ true → ((z : X) → Contains ys z → t z ≡ true → z ≡ x) → find t ys ≡ Some x) → find t (y ∷ ys) ≡ Some x
    by true e rest = rw e (ap Some (one y (first_member y ys) e))
    by false e rest = elim (uncons y ys x m) [
      | inl s ↦ absurd (let f : true ≡ false = sym h ∙ sym (ap t s) ∙ e in cc)
      | inr k ↦ rw e (rest k h (λ z n g. one z (later_member y ys z n) g))
    ]

related_cases : {X : Type 0} (R : X → X → Type 0) (xs : List X) → IsRelated R xs → (x y : X) → Contains xs x → Contains xs y → (x ≡ y) ⊎ (R x y ⊎ R y x)
related_cases R [] r x y m n = absurd (no_member x m)
related_cases R (z ∷ zs) r x y m n = elim (uncons z zs x m) [
  | inl e ↦ elim (uncons z zs y n) [
    | inl f ↦ inl (sym e ∙ f)
    | inr k ↦ inr (inl (subst (λ w. R w y) e (r.0 y k)))
  ]
  | inr j ↦ elim (uncons z zs y n) [
    | inl f ↦ inr (inr (subst (λ w. R w x) f (r.0 x j)))
    | inr k ↦ related_cases R zs r.1 x y j k
  ]
]

first_member_of : (shapes : List Shape) (s : Shape) → Contains shapes s → Contains (firsts shapes) s.first
first_member_of [] s m = absurd (no_member s m)
first_member_of (t ∷ ts) s m = elim (uncons t ts s m) [
  | inl e ↦ subst (λ (z : Shape). Contains (firsts (t ∷ ts)) z.first) e (first_member t.first (firsts ts))
  | inr n ↦ later_member t.first (firsts ts) s.first (first_member_of ts s n)
]

pub shape_with : (shapes : List Shape) (v : Point) → Contains (firsts shapes) v → (s : Shape) × Contains shapes s × (s.first ≡ v)
shape_with [] v m = absurd (no_member v m)
shape_with (t ∷ ts) v m = elim (uncons t.first (firsts ts) v m) [
  | inl e ↦ (t, first_member t ts, e)
  | inr n ↦ (let k = shape_with ts v n in (k.0, later_member t ts k.0 k.1, k.2))
]

-- ---- one vertex

nat_le_is : (m n : ℕ) → nat_le m n ≡ true → m ≤ n
nat_le_is m n h = grind (arith, nat_tests)

is_nat_le : (m n : ℕ) → m ≤ n → nat_le m n ≡ true
is_nat_le m n h = grind (arith, nat_tests)

record IsIn (p : Point) (s : Shape) : Type 0 where
  change : p.change ≡ s.first.change
  low : s.first.offset ≤ p.offset
  high : p.offset ≤ s.last.offset

has_is : (p : Point) (s : Shape) → has p s ≡ true → IsIn p s
has_is p s h =
    let a = and_parts (same_name p.change s.first.change && nat_le s.first.offset p.offset) (nat_le p.offset s.last.offset) h in
    let b = and_parts (same_name p.change s.first.change) (nat_le s.first.offset p.offset) a.0 in
    record { change = same_name_is p.change s.first.change b.0; low = nat_le_is s.first.offset p.offset b.1; high = nat_le_is p.offset s.last.offset a.1 }

is_has : (p : Point) (s : Shape) → IsIn p s → has p s ≡ true
is_has p s i =
    let a = is_same_name p.change s.first.change i.change in
    let b = is_nat_le s.first.offset p.offset i.low in
    let c = is_nat_le p.offset s.last.offset i.high in
    rw (a, b, c) refl

nat_less : (m n : ℕ) → nat_cmp m n ≡ Less → m < n
nat_less m n h = grind (arith, nat_tests)

less_nat : (m n : ℕ) → m < n → nat_cmp m n ≡ Less
less_nat m n h = grind (arith, nat_tests)

-- points of one change are in the order of their positions
less_offset : (p q : Point) → p.change ≡ q.change → point_cmp p q ≡ Less → p.offset < q.offset
less_offset p q e h =
    let t : name_cmp p.change q.change ≡ Equal = subst (λ n. name_cmp p.change n ≡ Equal) e (tied_itself name_cmp-total p.change) in
    nat_less p.offset q.offset (sym (ap (λ o. ordering_then o (nat_cmp p.offset q.offset)) t) ∙ h)

-- what is not behind a point in its change is before what that is before
before_too : (p q r : Point) → p.change ≡ q.change → p.offset ≤ q.offset → point_cmp q r ≡ Less → point_cmp p r ≡ Less
before_too p q r e l h = by (name_cmp q.change r.change) refl
  where
    same : name_cmp p.change r.change ≡ name_cmp q.change r.change
    same = ap (λ n. name_cmp n r.change) e

    by : (o : Ordering) → name_cmp q.change r.change ≡ o → point_cmp p r ≡ Less
    by Less f = ap (λ o. ordering_then o (nat_cmp p.offset r.offset)) (same ∙ f)
    by Equal f =
        let k : nat_cmp q.offset r.offset ≡ Less = sym (ap (λ o. ordering_then o (nat_cmp q.offset r.offset)) f) ∙ h in
        let m = nat_less q.offset r.offset k in
        ap (λ o. ordering_then o (nat_cmp p.offset r.offset)) (same ∙ f) ∙ less_nat p.offset r.offset (omega arith)
    by Greater f = absurd (let k : Greater ≡ Less = sym (ap (λ o. ordering_then o (nat_cmp q.offset r.offset)) f) ∙ h in cc)

module _ (shapes : List Shape) (arrows : List Arrow) (are : AreApart shapes) where
  related : IsRelated IsBefore shapes
  related = related_pairs IsBefore shapes are.apart

  clash : (p : Point) (s t : Shape) → Contains shapes s → has p s ≡ true → has p t ≡ true → IsBefore s t → ⊥
  clash p s t m h k before =
      let i = has_is p s h in
      let j = has_is p t k in
      let e = (are.each s m).0 in
      let l = less_offset s.last t.first (e ∙ sym i.change ∙ j.change) before in
      omega (arith, l, i.high, j.low)

  one_shape : (p : Point) (s t : Shape) → Contains shapes s → Contains shapes t → has p s ≡ true → has p t ≡ true → t ≡ s
  one_shape p s t m n h k = elim (related_cases IsBefore shapes related s t m n) [
    | inl e ↦ sym e
    | inr r ↦ elim r [ inl b ↦ absurd (clash p s t m h k b) | inr b ↦ absurd (clash p t s n k h b) ]
  ]

  shape_there : (p : Point) (s : Shape) → Contains shapes s → has p s ≡ true → shape_of p shapes ≡ Some s
  shape_there p s m h = is_found (has p) shapes s m h (λ t n k. one_shape p s t m n h k)

  own_first : (s : Shape) → Contains shapes s → has s.first s ≡ true
  own_first s m = is_has s.first s (record { change = refl; low = omega arith; high = (are.each s m).1 })

  pub first_is_vertex : (s : Shape) → Contains shapes s → IsVertex (graph_of shapes arrows) s.first
  first_is_vertex s m = ap first_of (shape_there s.first s m (own_first s m))

  record HasShape (p v : Point) : Type 0 where
    shape : Shape
    member : Contains shapes shape
    is : shape_of p shapes ≡ Some shape
    there : has p shape ≡ true
    begins : shape.first ≡ v

  shape_at : (p v : Point) → first_of (shape_of p shapes) ≡ Some v → HasShape p v
  shape_at p v e = by (shape_of p shapes) refl e
    where
      by : (o : Option Shape) → shape_of p shapes ≡ o → first_of o ≡ Some v → HasShape p v
      by None f h = absurd (cc)
      by (Some s) f h = (let k = found_is (has p) shapes s f in record { shape = s; member = k.0; is = f; there = k.1; begins = (let g : Some s.first ≡ Some v = h in cc) })

  vertex_there : (v : Point) → Contains (firsts shapes) v → IsVertex (graph_of shapes arrows) v
  vertex_there v m = (let k = shape_with shapes v m in subst (IsVertex (graph_of shapes arrows)) k.2 (first_is_vertex k.0 k.1))

  pub there_vertex : (v : Point) → IsVertex (graph_of shapes arrows) v → Contains (firsts shapes) v
  there_vertex v e = (let k = shape_at v v e in subst (Contains (firsts shapes)) k.begins (first_member_of shapes k.shape k.member))

  -- an edge of the list between vertices is one of the graph
  pub edge_there : (u v : Point) → IsVertex (graph_of shapes arrows) u → IsVertex (graph_of shapes arrows) v → leads arrows u v ≡ true → IsEdge (graph_of shapes arrows) u v
  edge_there u v from to h = record { source = from; out = member_filter (λ x. leads arrows u x) (firsts shapes) v (there_vertex v to) h }

  firsts_rise : (list : List Shape) → ((s : Shape) → Contains list s → Contains shapes s) → IsRelated IsBefore list → IsStrictlySortedBy point_cmp (firsts list)
  unfolding IsStrictlySortedBy
  firsts_rise [] within r = tt
  firsts_rise (s ∷ ss) within r = (
    from_each (λ y. point_cmp s.first y ≡ Less) (firsts ss) (λ y m.
        let k = shape_with ss y m in
        let own = are.each s (within s (first_member s ss)) in
        subst (λ z. point_cmp s.first z ≡ Less) k.2 (before_too s.first s.last k.0.first (sym own.0) own.1 (r.0 k.0 k.1))),
    firsts_rise ss (λ t m. within t (later_member s ss t m)) r.1,
  )

  pub graph_is_whole : IsWhole (graph_of shapes arrows)
  graph_is_whole = record {
    into = λ u v there m. (let k = filter_member (λ x. leads arrows u x) (firsts shapes) v m in (vertex_there v k.0, member_filter (λ x. leads arrows x v) (firsts shapes) u (there_vertex u there) k.1));
    out = λ u v there m. (let k = filter_member (λ x. leads arrows x v) (firsts shapes) u m in (vertex_there u k.0, member_filter (λ x. leads arrows u x) (firsts shapes) v (there_vertex v there) k.1));
    outs_rise = λ u there. IsStrictlySortedBy-filter point_cmp (λ x. leads arrows u x) (firsts shapes) (firsts_rise shapes (λ s m. m) related);
    ins_rise = λ v there. IsStrictlySortedBy-filter point_cmp (λ x. leads arrows x v) (firsts shapes) (firsts_rise shapes (λ s m. m) related);
    few = there_vertex;
    ends = λ v there.
        let k = shape_at v v there in
        let e : last_of (shape_of v shapes) v ≡ k.shape.last = ap (λ o. last_of o v) k.is in
        subst (λ (l : Point). l.change ≡ v.change) (sym e) ((are.each k.shape k.member).0 ∙ ap (λ (q : Point). q.change) k.begins);
    ranges = λ p v. (
      λ e.
          let k = shape_at p v e in
          let i = has_is p k.shape k.there in
          let there : IsVertex (graph_of shapes arrows) v = subst (IsVertex (graph_of shapes arrows)) k.begins (first_is_vertex k.shape k.member) in
          let own : shape_of v shapes ≡ Some k.shape = subst (λ q. shape_of q shapes ≡ Some k.shape) k.begins (shape_there k.shape.first k.shape k.member (own_first k.shape k.member)) in
          let l : last_of (shape_of v shapes) v ≡ k.shape.last = ap (λ o. last_of o v) own in (
            there,
            record {
              change = i.change ∙ ap (λ (q : Point). q.change) k.begins;
              low = subst (λ (q : Point). q.offset ≤ p.offset) k.begins i.low;
              high = subst (λ (q : Point). p.offset ≤ q.offset) (sym l) i.high;
            },
          ),
      λ r.
          let k = shape_at v v r.0 in
          let l : last_of (shape_of v shapes) v ≡ k.shape.last = ap (λ o. last_of o v) k.is in
          let h = is_has p k.shape (record {
            change = r.1.change ∙ sym (ap (λ (q : Point). q.change) k.begins);
            low = subst (λ (q : Point). q.offset ≤ p.offset) (sym k.begins) r.1.low;
            high = subst (λ (q : Point). p.offset ≤ q.offset) l r.1.high;
          }) in
          ap first_of (shape_there p k.shape k.member h) ∙ ap Some k.begins,
    );
  }
