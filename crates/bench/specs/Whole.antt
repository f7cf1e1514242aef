-- The graph of a board keeps the law of views.
use Rattle.std.proofs.Common.{◌≡◌, ◌≤◌, ◌<◌, ℕ, zero, suc, ◌+◌, ◌-◌, refl, sym, ap, ◌∙◌, subst, inl, inr, arith, cond, Bool, true, false, [], ◌∷◌}
use Rattle.std.specs.Prelude.{Contains, ◌⊎◌, ◌&&◌, Some, None, nat_le}
use Rattle.std.specs.List.Sorted.{IsStrictlySortedBy}
use Rattle.std.specs.Ordering.{nat_cmp, ordering_then}
use Rattle.std.specs.declared.cmp.Ordering.TheVariants.{Less, Equal}
use Rattle.std.proofs.lemmas.Bool.{and_parts}
use Rattle.std.proofs.lemmas.Bool.Decides.{nat_tests}
use Rattle.std.proofs.lemmas.Cmp.{tied_itself}
use Rattle.std.proofs.lemmas.List.Kept.{IsStrictlySortedBy-filter}
use Rattle.pj_name.specs.Name.{same_name, name_cmp, no_name}
use Rattle.pj_name.proofs.Names.{name_cmp-total}
use Rattle.pj_change.specs.declared.point.Point.{Point}
use Rattle.pj_change.specs.Graph.{point_cmp}
use Rattle.pj_change.proofs.Members.{uncons, no_member, first_member, later_member, before_member, middle_member}
use Rattle.pj_change.proofs.PickedMembers.{passed, kept}
use Rattle.pj_change.proofs.EqualNames.{same_name_is, is_same_name}
use Rattle.pj_dead.specs.PointGraphs.{IsVertex, IsWhole}
use Rattle.bench.specs.declared.dead.shape.Shape.{Shape}
use Rattle.bench.specs.Boards.{has, joins, leads, point_at, points_below, ahead, behind, aheads, behinds, graph_of}

-- ---- numbers

-- the number is that of a vertex, where the last one is given
pub record IsNumber (last n : ℕ) : Type 0 where
  pub low : 6 ≤ n
  pub high : n ≤ last

nat_le_is : (m n : ℕ) → nat_le m n ≡ true → m ≤ n
nat_le_is m n h = grind (arith, nat_tests)

has_is : (last n : ℕ) → has last n ≡ true → IsNumber last n
has_is last n h = (let a = and_parts (nat_le 6 n) (nat_le n last) h in record { low = nat_le_is 6 n a.0; high = nat_le_is n last a.1 })

record IsLed (last u v : ℕ) : Type 0 where
  source : has last u ≡ true
  target : has last v ≡ true

led : (shape : Shape) (last u v : ℕ) → leads shape last u v ≡ true → IsLed last u v
led shape last u v h =
    let a = and_parts (has last u && has last v) (joins shape u (v - u)) h in
    let b = and_parts (has last u) (has last v) a.0 in
    record { source = b.0; target = b.1 }

-- ---- points

one_point : (p q : Point) → p.change ≡ q.change → p.offset ≡ q.offset → p ≡ q
one_point p q n k = λ i. record { change = n i; offset = k i }

less_nat : (m n : ℕ) → m < n → nat_cmp m n ≡ Less
less_nat m n h = grind (arith, nat_tests)

-- points of one change are in the order of their positions
before : (p q : Point) → p.change ≡ q.change → p.offset < q.offset → point_cmp p q ≡ Less
before p q e l =
    let t : name_cmp p.change q.change ≡ Equal = subst (λ n. name_cmp p.change n ≡ Equal) e (tied_itself name_cmp-total p.change) in
    ap (λ o. ordering_then o (nat_cmp p.offset q.offset)) t ∙ less_nat p.offset q.offset l

three_rise : (p q r : Point) → p.change ≡ q.change → q.change ≡ r.change → p.offset < q.offset → q.offset < r.offset → IsStrictlySortedBy point_cmp (p ∷ q ∷ r ∷ [])
unfolding IsStrictlySortedBy
three_rise p q r e f l m = ((before p q e l, (before p r (e ∙ f) (omega (arith, l, m)), tt)), ((before q r f m, tt), (tt, tt)))

nearer : (n k : ℕ) → k < suc n → (k < n) ⊎ (k ≡ n)
nearer n k l = grind (arith)

below_there : (n k : ℕ) → k < n → Contains (points_below n) (point_at k)
below_there zero k l = absurd (omega (arith, l))
below_there (suc n) k l = elim (nearer n k l) [
  | inl less ↦ before_member (points_below n) [] (point_at n) (point_at k) (below_there n k less)
  | inr e ↦ subst (λ j. Contains (points_below (suc n)) (point_at j)) (sym e) (middle_member (points_below n) [] (point_at n))
]

-- ---- candidates

-- the point so far ahead
record IsAhead (u v : Point) (by : ℕ) : Type 0 where
  change : v.change ≡ u.change
  offset : v.offset ≡ u.offset + by

from_ahead : (u v : Point) (by : ℕ) → ahead u by ≡ v → IsAhead u v by
from_ahead u v by e = record { change = sym (ap (λ (p : Point). p.change) e); offset = sym (ap (λ (p : Point). p.offset) e) }

from_behind : (u v : Point) (by : ℕ) → by ≤ v.offset → behind v by ≡ u → IsAhead u v by
from_behind u v by l e =
    let k : v.offset - by ≡ u.offset = ap (λ (p : Point). p.offset) e in
    record { change = ap (λ (p : Point). p.change) e; offset = omega (arith, k, l) }

to_ahead : (u v : Point) (by : ℕ) → IsAhead u v by → ahead u by ≡ v
to_ahead u v by a = one_point (ahead u by) v (sym a.change) (sym a.offset)

to_behind : (u v : Point) (by : ℕ) → IsAhead u v by → behind v by ≡ u
to_behind u v by a = (let k = a.offset in one_point (behind v by) u a.change (omega (arith, k)))

module _ (x y z p : Point) where
  in_three : Contains (x ∷ y ∷ z ∷ []) p → (x ≡ p) ⊎ ((y ≡ p) ⊎ (z ≡ p))
  in_three m = elim (uncons x (y ∷ z ∷ []) p m) [
    | inl e ↦ inl e
    | inr n ↦ elim (uncons y (z ∷ []) p n) [
      | inl e ↦ inr (inl e)
      | inr o ↦ elim (uncons z [] p o) [ inl e ↦ inr (inr e) | inr none ↦ absurd (no_member p none) ]
    ]
  ]

  three_in : (x ≡ p) ⊎ ((y ≡ p) ⊎ (z ≡ p)) → Contains (x ∷ y ∷ z ∷ []) p
  three_in (inl e) = subst (Contains (x ∷ y ∷ z ∷ [])) e (first_member x (y ∷ z ∷ []))
  three_in (inr (inl e)) = later_member x (y ∷ z ∷ []) p (subst (Contains (y ∷ z ∷ [])) e (first_member y (z ∷ [])))
  three_in (inr (inr e)) = later_member x (y ∷ z ∷ []) p (later_member y (z ∷ []) p (subst (Contains (z ∷ [])) e (first_member z [])))

-- up to three ahead
abbrev IsNearAhead : Point → Point → Type 0
IsNearAhead u v = IsAhead u v 1 ⊎ (IsAhead u v 2 ⊎ IsAhead u v 3)

ahead_of : (u v : Point) → Contains (aheads u) v → IsNearAhead u v
ahead_of u v m = elim (in_three (ahead u 1) (ahead u 2) (ahead u 3) v m) [
  | inl e ↦ inl (from_ahead u v 1 e)
  | inr o ↦ elim o [ inl e ↦ inr (inl (from_ahead u v 2 e)) | inr e ↦ inr (inr (from_ahead u v 3 e)) ]
]

behind_of : (u v : Point) → 6 ≤ v.offset → Contains (behinds v) u → IsNearAhead u v
behind_of u v l m = elim (in_three (behind v 3) (behind v 2) (behind v 1) u m) [
  | inl e ↦ inr (inr (from_behind u v 3 (omega (arith, l)) e))
  | inr o ↦ elim o [ inl e ↦ inr (inl (from_behind u v 2 (omega (arith, l)) e)) | inr e ↦ inl (from_behind u v 1 (omega (arith, l)) e) ]
]

is_ahead : (u v : Point) → IsNearAhead u v → Contains (aheads u) v
is_ahead u v a = three_in (ahead u 1) (ahead u 2) (ahead u 3) v (elim a [
  | inl e ↦ inl (to_ahead u v 1 e)
  | inr o ↦ elim o [ inl e ↦ inr (inl (to_ahead u v 2 e)) | inr e ↦ inr (inr (to_ahead u v 3 e)) ]
])

is_behind : (u v : Point) → IsNearAhead u v → Contains (behinds v) u
is_behind u v a = three_in (behind v 3) (behind v 2) (behind v 1) u (elim a [
  | inl e ↦ inr (inr (to_behind u v 1 e))
  | inr o ↦ elim o [ inl e ↦ inr (inl (to_behind u v 2 e)) | inr e ↦ inl (to_behind u v 3 e) ]
])

one_change : (u v : Point) → IsNearAhead u v → v.change ≡ u.change
one_change u v (inl a) = a.change
one_change u v (inr (inl a)) = a.change
one_change u v (inr (inr a)) = a.change

-- ---- the graph

module _ (shape : Shape) (middle last : ℕ) where
  -- a vertex by its change and its number
  pub record IsNumbered (v : Point) : Type 0 where
    pub change : v.change ≡ no_name
    pub there : has last v.offset ≡ true

  record IsThere (p v : Point) : Type 0 where
    numbered : IsNumbered p
    same : p ≡ v

  there : (p v : Point) → (graph_of shape middle last).first p ≡ Some v → IsThere p v
  there p v e = by (same_name p.change no_name && has last p.offset) refl e
    where
      by : (b : Bool) → (same_name p.change no_name && has last p.offset) ≡ b → cond b (Some p) None ≡ Some v → IsThere p v
      by false f h = absurd (cc)
      by true f h =
          let a = and_parts (same_name p.change no_name) (has last p.offset) f in
          record { numbered = record { change = same_name_is p.change no_name a.0; there = a.1 }; same = (let g : Some p ≡ Some v = h in cc) }

  is_vertex : (v : Point) → IsNumbered v → IsVertex (graph_of shape middle last) v
  is_vertex v n =
      let a = is_same_name v.change no_name n.change in
      let b = n.there in
      rw (a, b) refl

  pub is_numbered : (v : Point) → IsVertex (graph_of shape middle last) v → IsNumbered v
  is_numbered v e = (there v v e).numbered

  pub in_range : (v : Point) → IsVertex (graph_of shape middle last) v → IsNumber last v.offset
  in_range v e = has_is last v.offset (is_numbered v e).there

  pub is_listed : (v : Point) → IsVertex (graph_of shape middle last) v → Contains (points_below (last + 1)) v
  is_listed v e =
      let high = (in_range v e).high in
      subst (Contains (points_below (last + 1))) (one_point (point_at v.offset) v (sym (is_numbered v e).change) refl) (below_there (last + 1) v.offset (omega (arith, high)))

  pub graph_is_whole : IsWhole (graph_of shape middle last)
  graph_is_whole = record {
    into = λ u v e m.
        let k = passed (λ q. leads shape last u.offset q.offset) (aheads u) v m in
        let a = ahead_of u v k.member in
        let n : IsNumbered v = record { change = one_change u v a ∙ (is_numbered u e).change; there = (led shape last u.offset v.offset k.passes).target } in
        (is_vertex v n, kept (λ q. leads shape last q.offset v.offset) (behinds v) u (is_behind u v a) k.passes);
    out = λ u v e m.
        let k = passed (λ q. leads shape last q.offset v.offset) (behinds v) u m in
        let a = behind_of u v (in_range v e).low k.member in
        let n : IsNumbered u = record { change = sym (one_change u v a) ∙ (is_numbered v e).change; there = (led shape last u.offset v.offset k.passes).source } in
        (is_vertex u n, kept (λ q. leads shape last u.offset q.offset) (aheads u) v (is_ahead u v a) k.passes);
    outs_rise = λ u e.
        IsStrictlySortedBy-filter point_cmp (λ q. leads shape last u.offset q.offset) (aheads u)
        (three_rise (ahead u 1) (ahead u 2) (ahead u 3) refl refl (omega arith) (omega arith));
    ins_rise = λ v e.
        let low = (in_range v e).low in
        IsStrictlySortedBy-filter point_cmp (λ q. leads shape last q.offset v.offset) (behinds v)
        (three_rise (behind v 3) (behind v 2) (behind v 1) refl refl (omega (arith, low)) (omega (arith, low)));
    few = is_listed;
    ends = λ v e. refl;
    ranges = λ p v. (
      λ e.
          let k = there p v e in
          let o : p.offset ≡ v.offset = ap (λ (q : Point). q.offset) k.same in (
            is_vertex v (subst IsNumbered k.same k.numbered),
            record { change = ap (λ (q : Point). q.change) k.same; low = omega (arith, o); high = omega (arith, o) },
          ),
      λ r.
          let low = r.1.low in
          let high = r.1.high in
          let same : p ≡ v = one_point p v r.1.change (omega (arith, low, high)) in
          subst (λ q. (graph_of shape middle last).first q ≡ Some v) (sym same) r.0,
    );
  }
