-- Graphs whose dead vertices differ only where they have a touched point.
use Rattle.std.proofs.Common.{◌≡◌, ◌∙◌, sym, subst, ℕ, ◌+◌, ◌<◌, ◌≤◌, true, false, List, [], length, get_or, take, arith, inl, inr}
use Rattle.std.specs.Prelude.{Contains, Some, None, Option, nat_eq}
use Rattle.std.proofs.lemmas.Bool.Decides.{nat_tests}
use Rattle.std.proofs.lemmas.List.{take_more, take_all}
use Rattle.std.proofs.lemmas.List.Elements.{Contains-push_cases}
use Rattle.pj_change.specs.declared.point.Point.{Point}
use Rattle.pj_change.specs.Positions.{same_point}
use Rattle.pj_change.proofs.Members.{no_member, moved}
use Rattle.pj_change.proofs.EqualNames.{same_point_is, name_itself}
use Rattle.pj_dead.specs.PointGraphs.{PointGraph, IsDead, IsWhole}
use Rattle.pj_dead.specs.DeadRows.{Enters}
use Rattle.pj_dead.specs.Pseudo.{AreRowsOf}
use Rattle.pj_dead.specs.Touched.{IsTouched, IsKeptAt, IsKept}
use Rattle.test_tables.specs.declared.dead.shape.Shape.{Shape}
use Rattle.test_tables.specs.declared.dead.shape.Arrow.{Arrow}
use Rattle.test_tables.specs.ListedGraphs.{graph_of, AreApart}
use Rattle.test_tables.specs.Neighbours.{GoesAlike, ComesAlike}
use Rattle.test_tables.specs.Whole.{shape_with, there_vertex}

pub point_itself : (p : Point) → same_point p p ≡ true
point_itself p = (let n = name_itself p.change in rw n (number p.offset))
  where
    number : (n : ℕ) → nat_eq n n ≡ true
    number n = grind (arith, nat_tests)

pub point_decides : (p q : Point) → (same_point p q ≡ true → p ≡ q) × (p ≡ q → same_point p q ≡ true)
point_decides p q = (same_point_is p q, λ e. subst (λ z. same_point p z ≡ true) e (point_itself p))

-- ---- a loop over a list

-- each of the first n is
abbrev pub AreTo : {X : Type 0} → (X → Type 0) → List X → ℕ → Type 0
AreTo {X} P list n = (x : X) → Contains (take n list) x → P x

module _ {X : Type 0} (P : X → Type 0) (list : List X) where
  -- none is left to be
  pub each_none : AreTo P list 0
  each_none x m = absurd (no_member x m)

  -- one more is
  pub each_more : (n : ℕ) (x : X) → n < length list → x ≡ get_or list n x → AreTo P list n → P x → AreTo P list (n + 1)
  each_more n x low is so_far now y m = elim (Contains-push_cases (take n list) (get_or list n x) y (moved y (take_more list n x low) m)) [
    | inl o ↦ so_far y o
    | inr e ↦ subst P (is ∙ e) now
  ]

  -- all are
  pub each_all : (n : ℕ) → length list ≤ n → AreTo P list n → (x : X) → Contains list x → P x
  each_all n high all x m = all x (moved x (sym (take_all n list high)) m)

-- ---- kept vertices

-- a dead vertex that begins here keeps in the other graph what it has, or is touched
abbrev pub IsFine : PointGraph → PointGraph → List Point → Shape → Type 0
IsFine g h touched s = IsDead g s.first → (IsTouched g touched s.first → ⊥) → IsKeptAt g h s.first

-- the dead vertices differ only where they are touched, if each of them is fine
pub all_kept : (shapes : List Shape) (arrows : List Arrow) → AreApart shapes → (h : PointGraph) (touched : List Point) → ((s : Shape) → Contains shapes s → IsFine (graph_of shapes arrows) h touched s) → IsKept (graph_of shapes arrows) h touched
all_kept shapes arrows apart h touched fine v dead none =
    let g = graph_of shapes arrows in
    let k = shape_with shapes v (there_vertex shapes arrows apart v dead.vertex) in
    subst (IsKeptAt g h) k.2 (fine k.0 k.1 (subst (IsDead g) (sym k.2) dead) (λ t. none (subst (IsTouched g touched) k.2 t)))

-- a dead vertex keeps what it has where its end and its edges are alike
pub kept_there : (g h : PointGraph) → IsWhole g → (v : Point) → IsDead h v → h.last v ≡ g.last v →
    ((w : Point) → Contains (g.outs v) w → GoesAlike g h v w) → ((u : Point) → Contains (g.ins v) u → ComesAlike g h u v) → IsKeptAt g h v
kept_there g h lawful v dead last goes comes = record {
  dead = dead;
  last = last;
  ahead = λ w e d. (goes w e.out).dead d;
  back = λ u e d. (comes u (lawful.into u v e.source e.out).1).dead d;
  enters = λ p e. subst (Enters h v) e.last_is ((comes e.from (lawful.into e.from v e.edge.source e.edge.out).1).live e.live);
  departs = λ q d. (goes q d.0.out).live d.1;
}

-- a graph without vertices has no row
pub no_rows : (shapes : List Shape) (arrows : List Arrow) (rows : _) → shapes ≡ [] → rows ≡ [] → AreRowsOf (graph_of shapes arrows) rows
no_rows shapes arrows rows e f row = (
  λ h. absurd (let k : false ≡ true = rw f at h in cc),
  λ r. absurd (let k : ◌≡◌ {A = Option Point} None (Some r.from) = rw e at r.from_source.vertex in cc),
)

-- ---- touched

-- it is not the point of the vertex
abbrev pub IsNotOf : PointGraph → Point → Point → Type 0
IsNotOf g v p = g.first p ≡ Some v → ⊥

-- what has none of the points is not touched
pub not_touched : (g : PointGraph) (touched : List Point) (v : Point) → ((p : Point) → Contains touched p → IsNotOf g v p) → IsTouched g touched v → ⊥
not_touched g touched v none t = none t.point t.member t.first
