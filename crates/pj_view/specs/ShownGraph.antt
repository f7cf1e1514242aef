-- The graph of a list keeps the law of views, and is the view of a lawful list.
use Rattle.std.proofs.Common.{◌≡◌, ◌∙◌, sym, refl, ap, subst, inl, inr, ℕ, ◌+◌, ◌-◌, ◌<◌, ◌≤◌, Bool, true, false, List, [], ◌∷◌, Option, None, Some, arith, suc, zero, cond}
use Rattle.std.specs.Prelude.{Contains, ◌⊎◌, map, filter_map, flat_map}
use Rattle.std.specs.List.{filter, range_with_len, sum_by}
use Rattle.std.specs.Option.{option_map}
use Rattle.std.specs.List.Sorted.{IsStrictlySortedBy}
use Rattle.std.proofs.lemmas.List.Kept.{IsStrictlySortedBy-filter}
use Rattle.std.proofs.lemmas.Option.{same_Some}
use Rattle.pj_change.specs.declared.point.Point.{Point}
use Rattle.pj_change.specs.declared.graph.Vertex.{Vertex}
use Rattle.pj_change.specs.declared.change.Record.{Record}
use Rattle.pj_change.specs.Before.{Leads}
use Rattle.pj_change.specs.Graph.{point_cmp}
use Rattle.pj_change.specs.PointsIn.{IsPointOf, LiesIn}
use Rattle.pj_change.specs.Positions.{own_point}
use Rattle.pj_change.specs.Rules.{position_count}
use Rattle.pj_change.specs.Sets.{HaveOneText}
use Rattle.pj_change.specs.Vertices.{IsVertex, first_point, last_point}
use Rattle.pj_change.proofs.Decided.{Known}
use Rattle.pj_change.proofs.KnownEdges.{known_leads, known_dead}
use Rattle.pj_change.proofs.LawfulLists.{first_part, second_part}
use Rattle.pj_change.proofs.Members.{first_member, later_member, uncons, no_member, same_member}
use Rattle.pj_change.proofs.PickedMembers.{picked_from, picked_there}
use Rattle.pj_change.proofs.OneVertex.{nonempty}
use Rattle.pj_change.proofs.PositionLemmas.{kind_at_below}
use Rattle.pj_change.proofs.VertexOfPoint.{one_vertex_at, point_of_vertex}
use Rattle.pj_apply.specs.Links.{AreDistinct}
use Rattle.pj_dead.specs.PointGraphs.{PointGraph, IsWithin, IsWhole}
use Rattle.pj_dead.specs.PointGraphs as shown
use Rattle.pj_dead.specs.ViewOf.{IsShown, IsViewOf}
use Rattle.pj_view.specs.Apart.{known_distinct, distinct_texts, lawful_apart}
use Rattle.pj_view.specs.KnownShown.{HasShown, known_shown}
use Rattle.pj_view.specs.Laws.{GraphIsView, GraphIsWhole}
use Rattle.pj_view.specs.SetGraph.{points_of, all_points, answer, found, last_of, is_dead_vertex, leads, shown_at, graph_at, no_graph, graph_by, graph_of}
use Rattle.pj_view.specs.Rising.{rising_only, rising_all, rising_sorted}

-- ---- lists

kept_member : {X : Type 0} (t : X → Bool) (xs : List X) (x : X) → Contains (filter t xs) x → Contains xs x × (t x ≡ true)
kept_member t [] x m = absurd (no_member x m)
kept_member {X} t (y ∷ ys) x m = by (kept_member t ys x) (t y) refl m
  where
    by : (Contains (filter t ys) x → Contains ys x × (t x ≡ true)) → (b : Bool) → t y ≡ b → Contains (cond b (y ∷ filter t ys) (filter t ys)) x → Contains (y ∷ ys) x × (t x ≡ true)
    by rest true e n = elim (uncons y (filter t ys) x n) [
      | inl h ↦ (same_member (y ∷ ys) h (first_member y ys), subst (λ z. t z ≡ true) h e)
      | inr l ↦ (let k = rest l in (later_member y ys x k.0, k.1))
    ]
    by rest false e n = (let k = rest n in (later_member y ys x k.0, k.1))

member_kept : {X : Type 0} (t : X → Bool) (xs : List X) (x : X) → Contains xs x → t x ≡ true → Contains (filter t xs) x
member_kept t [] x m h = absurd (no_member x m)
member_kept {X} t (y ∷ ys) x m h = by (member_kept t ys x) (t y) refl (uncons y ys x m)
  where
    by : (Contains ys x → t x ≡ true → Contains (filter t ys) x) → (b : Bool) → t y ≡ b → (y ≡ x) ⊎ Contains ys x → Contains (cond b (y ∷ filter t ys) (filter t ys)) x
    by rest true e (inl s) = same_member (y ∷ filter t ys) s (first_member y (filter t ys))
    by rest true e (inr n) = later_member y (filter t ys) x (rest n h)
    by rest false e (inl s) = absurd (let k : t y ≡ true = subst (λ z. t z ≡ true) (sym s) h in let c : false ≡ true = sym e ∙ k in cc)
    by rest false e (inr n) = rest n h

in_range : (a n k : ℕ) → a ≤ k → k < a + n → Contains (range_with_len a n) k
in_range a zero k l h = absurd (omega arith)
in_range a (suc n) k l h = by (in_range (a + 1) n k) (cases a k l)
  where
    cases : (a k : ℕ) → a ≤ k → (a ≡ k) ⊎ (a + 1 ≤ k)
    cases a k l = grind arith

    by : (a + 1 ≤ k → k < a + 1 + n → Contains (range_with_len (a + 1) n) k) → (a ≡ k) ⊎ (a + 1 ≤ k) → Contains (range_with_len a (suc n)) k
    by rest (inl e) = same_member (a ∷ range_with_len (a + 1) n) e (first_member a (range_with_len (a + 1) n))
    by rest (inr m) = later_member a (range_with_len (a + 1) n) k (rest m (omega arith))

mapped : {X Y : Type 0} (f : X → Y) (xs : List X) (x : X) → Contains xs x → Contains (map f xs) (f x)
mapped f [] x m = absurd (no_member x m)
mapped f (z ∷ zs) x m = elim (uncons z zs x m) [
  | inl e ↦ same_member (f z ∷ map f zs) (ap f e) (first_member (f z) (map f zs))
  | inr n ↦ later_member (f z) (map f zs) (f x) (mapped f zs x n)
]

in_all : {X Y : Type 0} (f : X → List Y) (xs : List X) (x : X) (y : Y) → Contains xs x → Contains (f x) y → Contains (flat_map f xs) y
in_all f [] x y m k = absurd (no_member x m)
in_all {X} {Y} f (z ∷ zs) x y m k = elim (uncons z zs x m) [
  | inl e ↦ first_part (f z) (flat_map f zs) y (subst (λ w. Contains (f w) y) (sym e) k)
  | inr n ↦ second_part (f z) (flat_map f zs) y (in_all f zs x y n k)
]

-- each point of S is among all
pub point_listed : (S : List Record) (p : Point) → IsPointOf S p → Contains (all_points S) p
point_listed S p h =
    let low = kind_at_below h.owner.change.hunks p.offset h.kind h.there in
    let at = in_range 0 (sum_by position_count h.owner.change.hunks) p.offset (omega arith) (omega arith) in
    let same : own_point h.owner p.offset ≡ p = λ i. record { change = h.name i; offset = p.offset } in
    in_all points_of S h.owner p h.member (same_member (points_of h.owner) same (mapped (own_point h.owner) (range_with_len 0 (sum_by position_count h.owner.change.hunks)) p.offset at))

-- ---- answers

pub answer_yes : {A : Type 0} (k : Known A) → answer k ≡ true → A
answer_yes (inl a) e = a
answer_yes (inr n) e = absurd (cc)

pub yes_answer : {A : Type 0} (k : Known A) → A → answer k ≡ true
yes_answer (inl a) b = refl
yes_answer (inr n) b = absurd (n b)

-- ---- what is shown at a point

module _ (S : List Record) (one : HaveOneText S) (p : Point) where
  found_is : (v : Vertex) (k : Known (HasShown S p)) → found k ≡ Some v → IsShown S v × LiesIn p v
  found_is v (inl h) e = (let s : h.it ≡ v = same_Some h.it v e in (subst (IsShown S) s h.is, subst (LiesIn p) s h.lies))
  found_is v (inr n) e = absurd (cc)

  is_found : (v : Vertex) → IsShown S v → LiesIn p v → (k : Known (HasShown S p)) → found k ≡ Some v
  is_found v is lies (inl h) = ap Some (one_vertex_at S one p h.it v h.is.vertex is.vertex h.lies lies)
  is_found v is lies (inr n) = absurd (n (record { it = v; is = is; lies = lies }))

  pub shown_is : (v : Vertex) → shown_at S one p ≡ Some v → IsShown S v × LiesIn p v
  unfolding shown_at
  shown_is v e = found_is v (known_shown S p one) e

  pub is_shown : (v : Vertex) → IsShown S v → LiesIn p v → shown_at S one p ≡ Some v
  unfolding shown_at
  is_shown v is lies = is_found v is lies (known_shown S p one)

-- the first point of a vertex lies in it
pub first_lies : (S : List Record) (v : Vertex) → IsVertex S v → LiesIn (first_point v) v
first_lies S v h = record { change = refl; low = omega arith; high = nonempty S v h }

-- ---- the graph

module _ (S : List Record) (one : HaveOneText S) where
  -- the vertex that has a point, if one is shown
  abbrev at : Point → Option Vertex
  at = shown_at S one

  -- the graph of S
  abbrev graph : PointGraph
  graph = graph_at S at (all_points S)

  -- the vertex of S that has the first point
  at_first : (v : Vertex) → IsShown S v → at (first_point v) ≡ Some v
  at_first v is = is_shown S one (first_point v) v is (first_lies S v is.vertex)

  record Begins (v : Point) : Type 0 where
    it : Vertex
    is : IsShown S it
    first : first_point it ≡ v
    there : at v ≡ Some it

  begins_by : (p v : Point) (o : Option Vertex) → at p ≡ o → option_map first_point o ≡ Some v → Begins v
  begins_by p v None h e = absurd (cc)
  begins_by p v (Some w) h e =
      let is = shown_is S one p w h in
      let first : first_point w ≡ v = same_Some (first_point w) v e in
      record { it = w; is = is.0; first = first; there = subst (λ q. at q ≡ Some w) first (at_first w is.0) }

  begins_from : (p v : Point) → graph.first p ≡ Some v → Begins v
  begins_from p v e = begins_by p v (at p) refl e

  begin_vertex : (v : Point) → Begins v → shown.IsVertex graph v
  begin_vertex v b = ap (option_map first_point) b.there ∙ ap Some b.first

  listed_begins : (v : Point) → Contains graph.vertices v → Begins v
  listed_begins v m =
      let k = picked_from (λ p. option_map first_point (at p)) (all_points S) v (rising_only (filter_map (λ p. option_map first_point (at p)) (all_points S)) v m) in
      begins_from k.0 v k.2

  begins_listed : (v : Point) → Begins v → Contains graph.vertices v
  begins_listed v b =
      let lies : LiesIn v b.it = subst (λ p. LiesIn p b.it) b.first (first_lies S b.it b.is.vertex) in
      rising_all (filter_map (λ p. option_map first_point (at p)) (all_points S)) v
      (picked_there (λ p. option_map first_point (at p)) (all_points S) v v (point_listed S v (point_of_vertex S v b.it b.is.vertex lies)) (begin_vertex v b))

  vertex_listed : (v : Point) → shown.IsVertex graph v → Contains graph.vertices v
  vertex_listed v e = begins_listed v (begins_from v v e)

  listed_vertex : (v : Point) → Contains graph.vertices v → shown.IsVertex graph v
  listed_vertex v m = begin_vertex v (listed_begins v m)

  firsts_sorted : IsStrictlySortedBy point_cmp graph.vertices
  firsts_sorted = rising_sorted (filter_map (λ p. option_map first_point (at p)) (all_points S))

  -- the last point of the vertex with this first one
  last_is : (v : Point) (b : Begins v) → graph.last v ≡ last_point b.it
  last_is v b = ap (λ o. last_of o v) b.there

  within_lies : (p v : Point) (b : Begins v) → IsWithin graph v p → LiesIn p b.it
  within_lies p v b w =
      let some = nonempty S b.it b.is.vertex in
      let low : b.it.start ≤ p.offset = (let l = w.low in let e : b.it.start ≡ v.offset = ap (λ (q : Point). q.offset) b.first in omega arith) in
      let high : p.offset ≤ b.it.end - 1 = (let l = w.high in let e : (graph.last v).offset ≡ b.it.end - 1 = ap (λ (q : Point). q.offset) (last_is v b) in omega (arith, l, e)) in
      record { change = ap (λ (q : Point). q.change) b.first ∙ sym w.change; low = low; high = omega arith }

  lies_within : (p v : Point) (b : Begins v) → LiesIn p b.it → IsWithin graph v p
  lies_within p v b l =
      let low = l.low in
      let high = l.high in
      let start : b.it.start ≡ v.offset = ap (λ (q : Point). q.offset) b.first in
      let last : (graph.last v).offset ≡ b.it.end - 1 = ap (λ (q : Point). q.offset) (last_is v b) in
      record { change = sym l.change ∙ ap (λ (q : Point). q.change) b.first; low = omega arith; high = omega (arith, last, high) }

  range_there : (p v : Point) → graph.first p ≡ Some v → shown.IsVertex graph v × IsWithin graph v p
  range_there p v e = by (at p) refl e
    where
      by : (o : Option Vertex) → at p ≡ o → option_map first_point o ≡ Some v → shown.IsVertex graph v × IsWithin graph v p
      by None h e = absurd (cc)
      by (Some w) h e =
          let b = begins_by p v (Some w) h e in
          let is = shown_is S one p w h in
          let same : b.it ≡ w = one_vertex_at S one v b.it w b.is.vertex is.0.vertex (subst (λ q. LiesIn q b.it) b.first (first_lies S b.it b.is.vertex))
          (subst (λ q. LiesIn q w) (same_Some (first_point w) v e) (first_lies S w is.0.vertex)) in
          (begin_vertex v b, lies_within p v b (subst (LiesIn p) (sym same) is.1))

  range_back : (p v : Point) → shown.IsVertex graph v × IsWithin graph v p → graph.first p ≡ Some v
  range_back p v (is, w) =
      let b = begins_from v v is in
      ap (option_map first_point) (is_shown S one p b.it b.is (within_lies p v b w)) ∙ ap Some b.first

  pub whole_at : IsWhole graph
  whole_at = record {
    into = λ u v is m. (let k = kept_member (λ w. leads S (at u) (at w)) graph.vertices v m in
        (listed_vertex v k.0, member_kept (λ w. leads S (at w) (at v)) graph.vertices u (vertex_listed u is) k.1));
    out = λ u v is m. (let k = kept_member (λ w. leads S (at w) (at v)) graph.vertices u m in
        (listed_vertex u k.0, member_kept (λ w. leads S (at u) (at w)) graph.vertices v (vertex_listed v is) k.1));
    outs_rise = λ u is. IsStrictlySortedBy-filter point_cmp (λ w. leads S (at u) (at w)) graph.vertices firsts_sorted;
    ins_rise = λ v is. IsStrictlySortedBy-filter point_cmp (λ w. leads S (at w) (at v)) graph.vertices firsts_sorted;
    few = vertex_listed;
    ends = λ v is. (let b = begins_from v v is in ap (λ (q : Point). q.change) (last_is v b) ∙ ap (λ (q : Point). q.change) b.first);
    ranges = λ p v. (range_there p v, range_back p v);
  }

  edge_there : (u v : Vertex) → IsShown S u → IsShown S v → Contains (graph.outs (first_point u)) (first_point v) → Leads S u v
  edge_there u v a b m =
      let k = kept_member (λ w. leads S (at (first_point u)) (at w)) graph.vertices (first_point v) m in
      let e : leads S (Some u) (Some v) ≡ true = (λ i. leads S (sym (at_first u a) i) (sym (at_first v b) i)) ∙ k.1 in
      answer_yes (known_leads S u v) e

  edge_back : (u v : Vertex) → IsShown S u → IsShown S v → Leads S u v → Contains (graph.outs (first_point u)) (first_point v)
  edge_back u v a b l =
      member_kept (λ w. leads S (at (first_point u)) (at w)) graph.vertices (first_point v)
      (begins_listed (first_point v) (record { it = v; is = b; first = refl; there = at_first v b }))
      ((λ i. leads S (at_first u a i) (at_first v b i)) ∙ yes_answer (known_leads S u v) l)

  pub view_at : IsViewOf S graph
  view_at = record {
    all = λ v is. ap (option_map first_point) (at_first v is);
    only = λ p is. (let b = begins_from p p is in (b.it, b.is, b.first));
    last = λ v is. ap (λ o. last_of o (first_point v)) (at_first v is);
    dead = λ v is. (
        let e : graph.dead (first_point v) ≡ answer (known_dead S v) = ap (is_dead_vertex S) (at_first v is) in
        (λ d. answer_yes (known_dead S v) (sym e ∙ d), λ d. e ∙ yes_answer (known_dead S v) d));
    edges = λ u v a b. (edge_there u v a b, edge_back u v a b);
  }

-- ---- of any list, and of a lawful one

no_whole : IsWhole no_graph
unfolding IsStrictlySortedBy
no_whole = record {
  into = λ u v is m. absurd (no_member v m);
  out = λ u v is m. absurd (no_member u m);
  outs_rise = λ u is. tt;
  ins_rise = λ u is. tt;
  few = λ v is. absurd (let e : None ≡ Some v = is in cc);
  ends = λ v is. refl;
  ranges = λ p v. (λ e. absurd (let f : None ≡ Some v = e in cc), λ k. absurd (let f : None ≡ Some v = k.0 in cc));
}

whole_by : (S : List Record) (k : Known (AreDistinct S)) → IsWhole (graph_by S k)
whole_by S (inl d) = whole_at S (distinct_texts S d)
whole_by S (inr n) = no_whole

pub graph_whole : GraphIsWhole
unfolding graph_of
graph_whole S = whole_by S (known_distinct S)

view_by : (S : List Record) → AreDistinct S → (k : Known (AreDistinct S)) → IsViewOf S (graph_by S k)
view_by S distinct (inl d) = view_at S (distinct_texts S d)
view_by S distinct (inr n) = absurd (n distinct)

pub graph_is_view : GraphIsView
unfolding graph_of
graph_is_view S lawful = view_by S (lawful_apart S lawful) (known_distinct S)
