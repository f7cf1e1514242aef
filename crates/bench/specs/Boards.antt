-- A graph of numbered vertices, each of one point, whose edges are computed from the numbers.
use Rattle.std.specs.Prelude.{ℕ, zero, suc, ◌+◌, ◌-◌, ◌%◌, Bool, ◌&&◌, ◌||◌, not, cond, nat_eq, nat_le, List, [], ◌∷◌, ◌++◌, Some, None}
use Rattle.std.specs.List.{filter}
use Rattle.pj_name.specs.Name.{same_name, no_name}
use Rattle.pj_change.specs.declared.point.Point.{Point}
use Rattle.pj_dead.specs.PointGraphs.{PointGraph}
use Rattle.bench.specs.declared.dead.shape.Shape.{Shape}
use Rattle.bench.specs.declared.dead.shape.Shape.TheVariants.{Chain, Comb, Grid}

-- an edge leads from a number to the one that is so far above it
abbrev pub joins : Shape → ℕ → ℕ → Bool
joins Chain from by = nat_eq by 1
joins Comb from by = nat_eq (from % 2) 0 && nat_le by 2
joins Grid from by = nat_eq by 3 || (nat_eq by 1 && not (nat_eq (from % 3) 2))

-- a number of a vertex, where the last one is given
abbrev pub has : ℕ → ℕ → Bool
has last n = nat_le 6 n && nat_le n last

-- an edge leads from vertex to vertex
abbrev pub leads : Shape → ℕ → ℕ → ℕ → Bool
leads shape last from to = has last from && has last to && joins shape from (to - from)

-- the point of a number
abbrev pub point_at : ℕ → Point
point_at n = record { change = no_name; offset = n }

-- the points of the first numbers
abbrev pub points_below : ℕ → List Point
points_below zero = []
points_below (suc n) = points_below n ++ point_at n ∷ []

-- the point so far ahead
abbrev pub ahead : Point → ℕ → Point
ahead p by = record { change = p.change; offset = p.offset + by }

-- the point so far behind
abbrev pub behind : Point → ℕ → Point
behind p by = record { change = p.change; offset = p.offset - by }

-- where edges from a vertex may lead
abbrev pub aheads : Point → List Point
aheads u = ahead u 1 ∷ ahead u 2 ∷ ahead u 3 ∷ []

-- where edges to a vertex may come from
abbrev pub behinds : Point → List Point
behinds v = behind v 3 ∷ behind v 2 ∷ behind v 1 ∷ []

-- the graph of the numbers up to the last one, where the first one, the last one and the one in the middle are live
abbrev pub graph_of : Shape → ℕ → ℕ → PointGraph
graph_of shape middle last = record {
  vertices = points_below (last + 1);
  outs = λ u. filter (λ v. leads shape last u.offset v.offset) (aheads u);
  ins = λ v. filter (λ u. leads shape last u.offset v.offset) (behinds v);
  last = λ v. v;
  dead = λ v. not (nat_eq v.offset 6 || nat_eq v.offset middle || nat_eq v.offset last);
  first = λ p. cond (same_name p.change no_name && has last p.offset) (Some p) None;
}
