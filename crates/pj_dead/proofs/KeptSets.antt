-- A dead set that has no touched vertex is one of both graphs, and has the same rows.
use Rattle.std.proofs.Common.{◌≡◌, ◌≤◌, List, subst, inl, inr, arith}
use Rattle.std.specs.Prelude.{Some}
use Rattle.pj_change.specs.declared.point.Point.{Point}
use Rattle.pj_change.specs.DeadSets.{here, on, IsEitherWay}
use Rattle.pj_change.proofs.DeadPaths.{end_dead, path_connected}
use Rattle.pj_dead.specs.declared.row.PseudoRow.{PseudoRow}
use Rattle.pj_dead.specs.PointGraphs.{PointGraph, IsVertex, IsEdge, IsDead, IsWhole}
use Rattle.pj_dead.specs.DeadRows.{AreOfOneSet, IsPathOverDead, IsRowAt}
use Rattle.pj_dead.specs.Touched.{IsTouched, IsKeptAt, IsKept, IsAway}

-- ---- one vertex

-- what has a point is a vertex
pub first_there : (g : PointGraph) → IsWhole g → (p v : Point) → g.first p ≡ Some v → IsVertex g v
first_there g lawful p v e = ((lawful.ranges p v).0 e).0

-- the last point of a vertex is one of its points
pub first_last : (g : PointGraph) → IsWhole g → (v : Point) → IsVertex g v → g.first (g.last v) ≡ Some v
first_last g lawful v there =
    let r = ((lawful.ranges v v).0 there).1 in
    (lawful.ranges (g.last v) v).1 (there, record { change = lawful.ends v there; low = r.high; high = omega arith })

-- the same vertex has the same points
untouched_there : (g h : PointGraph) → IsWhole g → IsWhole h → (touched : List Point) (v : Point) → IsVertex g v → IsKeptAt g h v → (IsTouched g touched v → ⊥) → IsTouched h touched v → ⊥
untouched_there g h lg lh touched v there same none t =
    let r = ((lh.ranges t.point v).0 t.first).1 in
    let high : t.point.offset ≤ (g.last v).offset = subst (λ (l : Point). t.point.offset ≤ l.offset) same.last r.high in
    none (record { point = t.point; member = t.member; first = (lg.ranges t.point v).1 (there, record { change = r.change; low = r.low; high = high }) })

-- a step from the same vertex to a dead one is a step of the other graph
step_there : (g h : PointGraph) (v w : Point) → IsKeptAt g h v → IsEitherWay (IsEdge g) v w → IsDead g w → IsEitherWay (IsEdge h) v w × IsDead h w
step_there g h v w same (inl e) dead = (let k = same.ahead w e dead in (inl k.0, k.1))
step_there g h v w same (inr e) dead = (let k = same.back w e dead in (inr k.0, k.1))

-- ---- one set

module _ (g h : PointGraph) (lg : IsWhole g) (lh : IsWhole h) (touched : List Point) (there : IsKept g h touched) (back : IsKept h g touched) (u : Point) (away : IsAway g touched u) where
  -- its vertices are the same in the other graph
  own_same : (v : Point) → AreOfOneSet g u v → IsKeptAt g h v
  own_same v j = there v (end_dead j) (away v j)

  -- they are not touched in the other graph
  own_away : (v : Point) → AreOfOneSet g u v → IsTouched h touched v → ⊥
  own_away v j = untouched_there g h lg lh touched v (end_dead j).vertex (own_same v j) (away v j)

  -- seen from the other graph they are the same too
  own_back : (v : Point) → AreOfOneSet g u v → IsKeptAt h g v
  own_back v j = back v (own_same v j).dead (own_away v j)

  -- what is in the set is in it in the other graph
  set_there : {v : Point} → AreOfOneSet g u v → AreOfOneSet h u v
  set_there (here d) = here (own_same u (here d)).dead
  set_there (on {v} {w} p s d) = (let k = step_there g h v w (own_same v p) s d in on (set_there p) k.0 k.1)

  -- what is in it in the other graph is in the set
  set_back_here : {v : Point} → IsDead g u → AreOfOneSet h u v → AreOfOneSet g u v
  set_back_here dead (here d) = here dead
  set_back_here dead (on {v} {w} p s d) =
      let j = set_back_here dead p in
      let k = step_there h g v w (own_back v j) s d in
      on j k.0 k.1

  -- a path over dead vertices is one of the other graph
  path_there : {v : Point} → IsPathOverDead g u v → IsPathOverDead h u v
  path_there (here d) = here (own_same u (here d)).dead
  path_there (on {v} {w} p e d) =
      let k = (own_same v (path_connected (IsEdge g) (IsDead g) p)).ahead w e d in
      on (path_there p) k.0 k.1

  -- in the other graph no vertex of the set is touched
  pub still_away : IsDead g u → IsAway h touched u
  still_away dead v j = own_away v (set_back_here dead j)

  -- the rows that enter the set at u enter it there in the other graph
  pub same_rows : IsDead g u → (row : PseudoRow) → IsRowAt g u row → IsRowAt h u row
  same_rows dead row r =
      let l = r.leaves in
      let out = (own_same l.end (path_connected (IsEdge g) (IsDead g) l.path)).departs row.target (l.edge, l.live) in
      record {
        least = record { member = set_there r.least.member; below = λ v k. r.least.below v (set_back_here dead k) };
        enters = (own_same u (here dead)).enters row.source r.enters;
        leaves = record { end = l.end; path = path_there l.path; edge = out.0; live = out.1 };
      }
