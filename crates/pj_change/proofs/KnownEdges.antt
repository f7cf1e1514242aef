-- Whether a vertex is one of a set, and whether an edge leads from one vertex to another, is decided.
use Rattle.std.proofs.Common.{◌≡◌, ℕ, ◌+◌, ◌-◌, ◌<◌, ◌≤◌, List, length, refl, sym, ◌∙◌, ap, inl, inr, arith, true, false}
use Rattle.std.specs.Prelude.{Contains, ◌⊎◌, ◌≢◌, IsTrue, Option, Some, None, slice_get}
use Rattle.pj_change.specs.declared.point.Point.{Point}
use Rattle.pj_change.specs.declared.point.Place.{Place}
use Rattle.pj_change.specs.declared.point.Place.TheVariants as placed
use Rattle.pj_change.specs.declared.point.Ref.{Ref}
use Rattle.pj_change.specs.declared.hunk.Hunk.{Hunk}
use Rattle.pj_change.specs.declared.hunk.Hunk.TheVariants.{File, Dir, NameOf, Insert, Order, Delete, Revive}
use Rattle.pj_change.specs.declared.kind.Kind.{Kind}
use Rattle.pj_change.specs.declared.kind.Kind.TheVariants.{NameAt, FileInode, DirInode, Text}
use Rattle.pj_change.specs.declared.graph.VertexKind.{VertexKind}
use Rattle.pj_change.specs.declared.graph.VertexKind.TheVariants as vertex_kind
use Rattle.pj_change.specs.declared.graph.Status.{Status}
use Rattle.pj_change.specs.declared.graph.Status.TheVariants.{Alive, Dead}
use Rattle.pj_change.specs.declared.graph.Label.TheVariants as label
use Rattle.pj_change.specs.declared.graph.Vertex.{Vertex}
use Rattle.pj_change.specs.declared.graph.Edge.{Edge}
use Rattle.pj_change.specs.declared.change.Record.{Record}
use Rattle.pj_change.specs.Positions.{kind_at, place, resolve, own_point}
use Rattle.pj_change.specs.Status.{status_of}
use Rattle.pj_change.specs.Vertices.{is_cut, first_point, last_point, IsRun, IsSingle, IsVertexBy, IsVertex, name_kind}
use Rattle.pj_change.specs.RealEdges.{IsBlock, IsOrder, IsNameEdge, IsEdgeOf}
use Rattle.pj_change.specs.Before.{Leads, IsDeadText}
use Rattle.pj_change.proofs.Decided.{Known, known_as, known_both, known_three, known_one, known_some, known_below, known_all_below, known_test, known_number, known_less, known_name, known_point, known_place, known_status, known_kind, HasAt, known_at}

-- ---- vertices

known_up_to : (m n : ℕ) → Known (m ≤ n)
known_up_to m n = known_as (λ l. omega arith) (λ l. omega arith) (known_less m (n + 1))

module _ (S : List Record) where
  known_uncut : (v : Vertex) → Known ((k : ℕ) → v.start < k → k < v.end → is_cut S (record { change = v.change; offset = k }) ≡ false)
  known_uncut v = known_as (λ f k a b. f k b a) (λ f k b a. f k a b) (known_all_below _ v.end (λ k. behind k))
    where
      behind : (k : ℕ) → Known (v.start < k → is_cut S (record { change = v.change; offset = k }) ≡ false)
      behind k = elim (known_less v.start k) [
        | inl l ↦ known_as (λ e. λ l. e) (λ f. f l) (known_test (is_cut S (record { change = v.change; offset = k })) false)
        | inr n ↦ inl (λ l. absurd (n l))
      ]

  known_run : (v : Vertex) (first past : ℕ) → Known (IsRun S v first past)
  known_run v first past =
      known_as (λ r. record { nonempty = r.0; inside = r.1.0; from = r.1.1.0; upto = r.1.1.1.0; uncut = r.1.1.1.1 }) (λ r. (r.nonempty, (r.inside, (r.from, (r.upto, r.uncut)))))
      (known_both (known_less v.start v.end)
      (known_both (known_up_to v.end past)
      (known_both (known_one (known_number v.start first) (known_test (is_cut S (first_point v)) true))
      (known_both (known_one (known_number v.end past) (known_test (is_cut S (record { change = v.change; offset = v.end })) true)) (known_uncut v)))))

  known_single : (v : Vertex) (kind : VertexKind) (status : Status) → Known (IsSingle v kind status)
  known_single v kind status = known_three (known_number v.end (v.start + 1)) (known_kind v.kind kind) (known_status v.status status)

  known_vertex_by : (owner : Record) (v : Vertex) (k : Option Kind) → Known (IsVertexBy S owner v k)
  known_vertex_by owner v None = inr (λ h. h)
  known_vertex_by owner v (Some (NameAt hunk)) = known_single v (name_kind (slice_get owner.change.hunks hunk)) (status_of S (first_point v))
  known_vertex_by owner v (Some (FileInode hunk)) = known_single v vertex_kind.File Alive
  known_vertex_by owner v (Some (DirInode hunk)) = known_single v vertex_kind.Dir Alive
  known_vertex_by owner v (Some (Text hunk first past)) =
      known_three (known_run v first past) (known_kind v.kind vertex_kind.Text) (known_status v.status (status_of S (first_point v)))

  pub known_vertex : (v : Vertex) → Known (IsVertex S v)
  known_vertex v =
      known_as (λ s. record { owner = s.0; member = s.1; name = s.2.0; is = s.2.1 }) (λ h. (h.owner, h.member, (h.name, h.is)))
      (known_some _ S (λ owner. known_both (known_name owner.name v.change) (known_vertex_by owner v (kind_at owner.change.hunks v.start))))

  pub known_dead : (v : Vertex) → Known (IsDeadText S v)
  known_dead v =
      known_as (λ d. record { vertex = d.0; text = d.1; dead = d.2 }) (λ d. (d.vertex, d.text, d.dead))
      (known_three (known_vertex v) (known_kind v.kind vertex_kind.Text) (known_status v.status Dead))

-- ---- edges

-- a block or order edge of a hunk leads from one place to another
record Joins (S : List Record) (r : Record) (first : ℕ) (h : Hunk) (p : Place) (q : Point) : Type 0 where
  edge : Edge
  is : IsEdgeOf S r first h edge
  label : edge.label ≢ label.Folder
  from : edge.source ≡ p
  to : edge.target ≡ q

-- the same for an insertion, by what it refers to
abbrev IsUp : Record → ℕ → List Ref → Place → Point → Type 0
IsUp r first ups p q = (up : Ref) × Contains ups up × ((resolve r up ≡ p) × (own_point r first ≡ q))

abbrev IsInner : List Record → Record → ℕ → ℕ → Place → Point → Type 0
IsInner S r first past p q =
    (at : ℕ) × (at < past) × ((first < at) × IsTrue (is_cut S (own_point r at)) × ((placed.At (own_point r (at - 1)) ≡ p) × (own_point r at ≡ q)))

abbrev IsDown : Record → ℕ → List Ref → Place → Point → Type 0
IsDown r past downs p q = (down : Ref) × Contains downs down × ((placed.At (own_point r (past - 1)) ≡ p) × (resolve r down ≡ placed.At q))

module _ (S : List Record) (r : Record) (first : ℕ) (p : Place) (q : Point) where
  not_name : (offset : ℕ) (parent child : Place) (e : Edge) → e.label ≢ label.Folder → IsNameEdge S r offset parent child e → ⊥
  not_name offset parent child e no_folder n = elim n [ inl f ↦ no_folder f.folder | inr f ↦ no_folder f.folder ]

  block_edge : Edge
  block_edge = record { source = p; target = q; label = label.Block; status = status_of S q; introducer = r.name }

  order_edge : Edge
  order_edge = record { source = p; target = q; label = label.Order; status = Alive; introducer = r.name }

  block_there : (source : Place) (offset : ℕ) → source ≡ p → own_point r offset ≡ q → IsBlock S r source offset block_edge
  unfolding block_edge
  block_there source offset e f = record { from = sym e; to = sym f; block = refl; of_target = ap (status_of S) (sym f); by = refl }

  order_there : (source target : Place) → source ≡ p → target ≡ placed.At q → IsOrder r source target order_edge
  unfolding order_edge
  order_there source target e f = record { from = sym e; to = sym f; order = refl; alive = refl; by = refl }

  joins_block : (h : Hunk) → IsEdgeOf S r first h block_edge → Joins S r first h p q
  unfolding block_edge
  joins_block h is = record { edge = block_edge; is = is; label = λ e. (cc); from = refl; to = refl }

  joins_order : (h : Hunk) → IsEdgeOf S r first h order_edge → Joins S r first h p q
  unfolding order_edge
  joins_order h is = record { edge = order_edge; is = is; label = λ e. (cc); from = refl; to = refl }

  target_of : (target : Place) (e : Edge) → placed.At e.target ≡ target → e.target ≡ q → target ≡ placed.At q
  target_of target e f g = sym f ∙ (λ i. placed.At (g i))

  module _ (file : Ref) (ups downs : List Ref) (bytes : List ℕ) where
    insert_there : IsUp r first ups p q ⊎ (IsInner S r first (first + length bytes) p q ⊎ IsDown r (first + length bytes) downs p q) → Joins S r first (Insert file ups downs bytes) p q
    insert_there (inl u) = joins_block (Insert file ups downs bytes) (inl (u.0, u.1, block_there (resolve r u.0) first u.2.0 u.2.1))
    insert_there (inr (inl a)) = joins_block (Insert file ups downs bytes)
        (inr (inl (a.0, a.2.0, a.1, a.2.1, block_there (placed.At (own_point r (a.0 - 1))) a.0 a.2.2.0 a.2.2.1)))
    insert_there (inr (inr d)) = joins_order (Insert file ups downs bytes)
        (inr (inr (d.0, d.1, order_there (placed.At (own_point r (first + length bytes - 1))) (resolve r d.0) d.2.0 d.2.1)))

    insert_back : Joins S r first (Insert file ups downs bytes) p q → IsUp r first ups p q ⊎ (IsInner S r first (first + length bytes) p q ⊎ IsDown r (first + length bytes) downs p q)
    insert_back j = elim j.is [
      | inl u ↦ (let b = u.2 in inl (u.0, u.1, (sym b.from ∙ j.from, sym b.to ∙ j.to)))
      | inr k ↦ elim k [
        | inl a ↦ (let b = a.4 in inr (inl (a.0, a.2, (a.1, a.3, (sym b.from ∙ j.from, sym b.to ∙ j.to)))))
        | inr d ↦ (let o = d.2 in inr (inr (d.0, d.1, (sym o.from ∙ j.from, target_of (resolve r d.0) j.edge o.to j.to))))
      ]
    ]

    known_insert : Known (Joins S r first (Insert file ups downs bytes) p q)
    known_insert = known_as insert_there insert_back
        (known_one (known_some _ ups (λ up. known_both (known_place (resolve r up) p) (known_point (own_point r first) q)))
        (known_one (known_below _ (first + length bytes) (λ at. known_three (known_less first at) (known_test (is_cut S (own_point r at)) true)
        (known_both (known_place (placed.At (own_point r (at - 1))) p) (known_point (own_point r at) q))))
        (known_some _ downs (λ down. known_both (known_place (placed.At (own_point r (first + length bytes - 1))) p) (known_place (resolve r down) (placed.At q))))))

  known_order : (file source target : Ref) → Known (Joins S r first (Order file source target) p q)
  known_order file source target = known_as
      (λ e. joins_order (Order file source target) (order_there (resolve r source) (resolve r target) e.0 e.1))
      (λ j. (let o = j.is in (sym o.from ∙ j.from, target_of (resolve r target) j.edge o.to j.to)))
      (known_both (known_place (resolve r source) p) (known_place (resolve r target) (placed.At q)))

  known_joins : (h : Hunk) → Known (Joins S r first h p q)
  known_joins (File parent name exec) = inr (λ j. not_name first (resolve r parent) (placed.At (own_point r (first + 1))) j.edge j.label j.is)
  known_joins (Dir parent name) = inr (λ j. not_name first (resolve r parent) (placed.At (own_point r (first + 1))) j.edge j.label j.is)
  known_joins (NameOf parent child name exec) = inr (λ j. not_name first (resolve r parent) (resolve r child) j.edge j.label j.is)
  known_joins (Insert file ups downs bytes) = known_insert file ups downs bytes
  known_joins (Order file source target) = known_order file source target
  known_joins (Delete owner start end by) = inr (λ j. j.is)
  known_joins (Revive owner start end by) = inr (λ j. j.is)

-- whether an edge leads from one vertex to another is decided
pub known_leads : (S : List Record) (u v : Vertex) → Known (Leads S u v)
known_leads S u v = known_as there back
    (known_three (known_vertex S u) (known_vertex S v)
    (known_some _ S (λ r. known_at (joining r) r.change.hunks (λ number h. known_joins S r (place r.change.hunks number) (placed.At (last_point u)) (first_point v) h))))
  where
    joining : Record → ℕ → Hunk → Type 0
    joining r number h = Joins S r (place r.change.hunks number) h (placed.At (last_point u)) (first_point v)

    there : IsVertex S u × IsVertex S v × ((r : Record) × Contains S r × HasAt (joining r) r.change.hunks) → Leads S u v
    there (source, target, (r, member, at)) =
        let j = at.is in
        record {
          source = source;
          target = target;
          edge = j.edge;
          real = record { introducer = r; member = member; number = at.number; hunk = at.it; there = at.there; is = j.is };
          label = j.label;
          from = j.from;
          to = j.to;
        }

    back : Leads S u v → IsVertex S u × IsVertex S v × ((r : Record) × Contains S r × HasAt (joining r) r.change.hunks)
    back l =
        let e = l.real in
        (l.source, l.target, (e.introducer, e.member, record { number = e.number; it = e.hunk; there = e.there; is = record { edge = l.edge; is = e.is; label = l.label; from = l.from; to = l.to } }))
