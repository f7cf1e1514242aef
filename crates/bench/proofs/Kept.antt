-- Which points touch each vertex of a board.
use Rattle.std.proofs.Common.{◌≡◌, ℕ, ◌+◌, List, arith}
use Rattle.pj_change.specs.declared.point.Point.{Point}
use Rattle.pj_dead.specs.PointGraphs.{PointGraph}
use Rattle.pj_dead.specs.Touched.{IsKept}
use Rattle.bench.specs.declared.dead.shape.Shape.{Shape}
use Rattle.bench.specs.Boards.{points_below, graph_of}
use Rattle.bench.specs.Whole.{in_range, is_listed}

-- all points up to the last one touch all vertices, so none is left that differs
pub kept_all : (shape : Shape) (middle last : ℕ) (h : PointGraph) → IsKept (graph_of shape middle last) h (points_below (last + 1))
kept_all shape middle last h v dead none = absurd (none (record { point = v; member = is_listed shape middle last v dead.vertex; first = dead.vertex }))

-- no number up to 0 is one of a vertex, so none is there that differs
pub kept_none : (shape : Shape) (middle last : ℕ) (h : PointGraph) (touched : List Point) → last ≡ 0 → IsKept (graph_of shape middle last) h touched
kept_none shape middle last h touched empty v dead away =
    let n = in_range shape middle last v dead.vertex in
    let low = n.low in
    let high = n.high in
    absurd (omega (arith, low, high, empty))
