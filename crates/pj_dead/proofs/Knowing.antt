-- What is known of a graph, and what the lists of neighbours say.
use Rattle.std.proofs.Common.{◌≡◌, ◌↔◌, ◌∙◌, sym, subst, refl, inl, inr, Bool, true, false, List, [], ◌++◌, cond}
use Rattle.std.specs.Prelude.{Contains, Some, IsTrue, not}
use Rattle.std.specs.BTreeMap.{BTreeMap, Updates, get}
use Rattle.std.specs.Ordering.{is_eq}
use Rattle.std.proofs.lemmas.List.Elements.{Contains-append_cases, Contains-append_left, Contains-append_right}
use Rattle.pj_change.specs.declared.point.Point.{Point}
use Rattle.pj_change.specs.Gathers.{Gathers, IsOfOne}
use Rattle.pj_change.specs.Graph.{point_cmp}
use Rattle.pj_change.proofs.EqualNames.{point_tied}
use Rattle.pj_change.proofs.Gathering.{gathers_alike, gathered}
use Rattle.pj_dead.specs.declared.near.Way.{Way}
use Rattle.pj_dead.specs.declared.near.Way.TheVariants.{Ahead, Back, Either}
use Rattle.pj_dead.specs.declared.known.Neighbours.{Neighbours}
use Rattle.pj_dead.specs.declared.known.Known.{Known}
use Rattle.pj_dead.specs.PointGraphs.{PointGraph, IsVertex, IsDead, IsWhole}
use Rattle.pj_dead.specs.DeadRows.{Enters, Departs}
use Rattle.pj_dead.specs.Searches.{around, GoesOn}
use Rattle.pj_dead.specs.Known.{AreNeighbours, AreKnown, dead_around}
use Rattle.pj_dead.proofs.Seen.{equal_is}
use Rattle.pj_dead.proofs.Searching.{goes_alike}

-- ---- maps

-- what holds of each value of a map and of the one that is put into it holds of each value after
pub updated : {X : Type 0} (P : Point → X → Type 0) (old new : BTreeMap Point X) (at : Point) (x : X) → Updates point_cmp old new at (Some x) →
    ((v : Point) (y : X) → get point_cmp old v ≡ Some y → P v y) → P at x → (v : Point) (y : X) → get point_cmp new v ≡ Some y → P v y
updated {X} P old new at x update before now v y e = by (is_eq (point_cmp at v)) refl (update.0 v)
  where
    by : (b : Bool) → is_eq (point_cmp at v) ≡ b → get point_cmp new v ≡ cond (is_eq (point_cmp at v)) (Some x) (get point_cmp old v) → P v y
    by true t u =
        let s : Some x ≡ Some y = sym (rw t at u) ∙ e in
        let same : x ≡ y = cc in
        subst (λ z. P z y) (point_tied at v (equal_is (point_cmp at v) t)) (subst (P at) same now)
    by false t u = before v y (sym (rw t at u) ∙ e)

module _ (g : PointGraph) (known : Known) (are : AreKnown g known) (at : Point) where
  pub dead_more : (new : BTreeMap Point Bool) (b : Bool) → b ≡ g.dead at → Updates point_cmp known.dead new at (Some b) → AreKnown g (record { neighbours = known.neighbours; dead = new })
  dead_more new b is update = record { neighbours = are.neighbours; dead = updated (λ v c. c ≡ g.dead v) known.dead new at b update are.dead is }

  pub neighbours_more : (new : BTreeMap Point Neighbours) (n : Neighbours) → AreNeighbours g at n → Updates point_cmp known.neighbours new at (Some n) → AreKnown g (record { neighbours = new; dead = known.dead })
  neighbours_more new n is update = record { neighbours = updated (AreNeighbours g) known.neighbours new at n update are.neighbours is; dead = are.dead }

-- ---- sides

-- those of some vertices of which P holds
pub one_side : (P : Point → Type 0) (points list : List Point) → Gathers (IsOfOne (λ a z. P a × (a ≡ z)) points) [] list → (v : Point) → Contains list v ↔ (Contains points v × P v)
one_side P points list all v = (
  λ m. (let o = gathered (IsOfOne (λ a z. P a × (a ≡ z)) points) list all v m in (subst (Contains points) o.is.1 o.member, subst P o.is.1 o.is.0)),
  λ k. all.all v (record { one = v; member = k.0; is = (k.1, refl) }),
)

-- one vertex is wanted where P holds of it
pub wanted_one : (P : Point → Type 0) (point : Point) (b : Bool) → (IsTrue b → P point) → (P point → IsTrue b) → (old new : List Point) → Gathers (λ p. IsTrue b × (point ≡ p)) old new → Gathers (λ p. P point × (point ≡ p)) old new
wanted_one P point b there back old new h = gathers_alike (λ p. IsTrue b × (point ≡ p)) (λ p. P point × (point ≡ p)) old new (λ p k. (there k.0, k.1)) (λ p k. (back k.0, k.1)) h

pub not_true : (b : Bool) → IsTrue (not b) → b ≡ false
not_true true h = absurd (cc)
not_true false h = refl

pub true_not : (b : Bool) → b ≡ false → IsTrue (not b)
true_not true h = absurd (cc)
true_not false h = refl

-- a whole list is gathered at once
pub gathers_list : (old more : List Point) → Gathers (Contains more) old (old ++ more)
gathers_list old more = record {
  kept = λ x m. Contains-append_left old more x m;
  all = λ x m. Contains-append_right old more x m;
  only = λ x m. Contains-append_cases old more x m;
}

-- ---- neighbours

module _ (g : PointGraph) (at : Point) (n : Neighbours) (are : AreNeighbours g at n) where
  pub around_dead : (way : Way) (p : Point) → Contains (dead_around way n) p → Contains (around g way at) p × IsDead g p
  around_dead Ahead p m = (are.outs.dead p).0 m
  around_dead Back p m = (are.ins.dead p).0 m
  around_dead Either p m = elim (Contains-append_cases n.outs.dead.items n.ins.dead.items p m) [
    | inl o ↦ (let k = (are.outs.dead p).0 o in (Contains-append_left (g.outs at) (g.ins at) p k.0, k.1))
    | inr i ↦ (let k = (are.ins.dead p).0 i in (Contains-append_right (g.outs at) (g.ins at) p k.0, k.1))
  ]

  pub dead_there : (way : Way) (p : Point) → Contains (around g way at) p × IsDead g p → Contains (dead_around way n) p
  dead_there Ahead p k = (are.outs.dead p).1 k
  dead_there Back p k = (are.ins.dead p).1 k
  dead_there Either p k = elim (Contains-append_cases (g.outs at) (g.ins at) p k.0) [
    | inl o ↦ Contains-append_left n.outs.dead.items n.ins.dead.items p ((are.outs.dead p).1 (o, k.1))
    | inr i ↦ Contains-append_right n.outs.dead.items n.ins.dead.items p ((are.ins.dead p).1 (i, k.1))
  ]

  pub goes_near : (way : Way) (old new : List Point) → GoesOn (Contains (dead_around way n)) old new → GoesOn (λ p. Contains (around g way at) p × IsDead g p) old new
  goes_near way old new h = goes_alike (Contains (dead_around way n)) (λ p. Contains (around g way at) p × IsDead g p) old new (around_dead way) (dead_there way) h

  pub departs_there : IsVertex g at → (q : Point) → Contains n.outs.live.items q → Departs g at q
  departs_there there q m = (let k = (are.outs.live q).0 m in (record { source = there; out = k.0 }, k.1))

  pub there_departs : (q : Point) → Departs g at q → Contains n.outs.live.items q
  there_departs q d = (are.outs.live q).1 (d.0.out, d.1)

  module _ (lawful : IsWhole g) where
    pub source_enters : IsVertex g at → (p : Point) → IsOfOne (λ v z. g.last v ≡ z) n.ins.live.items p → Enters g at p
    source_enters there p o =
        let l = (are.ins.live o.one).0 o.member in
        let k = lawful.out o.one at there l.0 in
        record { from = o.one; live = l.1; edge = record { source = k.0; out = k.1 }; last_is = o.is }

    pub enters_source : (p : Point) → Enters g at p → IsOfOne (λ v z. g.last v ≡ z) n.ins.live.items p
    enters_source p e = record { one = e.from; member = (are.ins.live e.from).1 ((lawful.into e.from at e.edge.source e.edge.out).1, e.live); is = e.last_is }
