-- The edges of a set are finitely many.
use Rattle.std.proofs.Common.{◌≡◌, ℕ, ◌+◌, ◌-◌, ◌<◌, List, length, refl, sym, ◌∙◌, inl, inr, true}
use Rattle.std.specs.Prelude.{Contains, IsTrue, ◌⊎◌}
use Rattle.pj_change.specs.declared.point.Point.{Point}
use Rattle.pj_change.specs.declared.point.Place.{Place}
use Rattle.pj_change.specs.declared.point.Place.TheVariants as placed
use Rattle.pj_change.specs.declared.point.Ref.{Ref}
use Rattle.pj_change.specs.declared.hunk.Hunk.{Hunk}
use Rattle.pj_change.specs.declared.hunk.Hunk.TheVariants.{File, Dir, NameOf, Insert, Order, Delete, Revive}
use Rattle.pj_change.specs.declared.graph.Status.TheVariants.{Alive}
use Rattle.pj_change.specs.declared.graph.Label.TheVariants as label
use Rattle.pj_change.specs.declared.graph.Edge.{Edge}
use Rattle.pj_change.specs.declared.change.Record.{Record}
use Rattle.pj_change.specs.Positions.{place, resolve, own_point}
use Rattle.pj_change.specs.Status.{status_of}
use Rattle.pj_change.specs.Vertices.{is_cut}
use Rattle.pj_change.specs.RealEdges.{IsBlock, IsOrder, IsFolder, IsNameEdge, IsEdgeOf, IsEdge}
use Rattle.pj_change.proofs.Decided.{Known, known_less, known_test, HasAt}
use Rattle.pj_answers.proofs.Finite as finite

-- a place is where an edge leads to
place_is : (p : Point) (target : Place) → placed.At p ≡ target → (q : Point) → target ≡ placed.At q → q ≡ p
place_is p target e q f = (let g : placed.At p ≡ placed.At q = e ∙ f in cc)

module _ (S : List Record) (r : Record) where
  -- the block edge to a position
  block_edge : Place → ℕ → Edge
  block_edge source offset = record {
    source = source;
    target = own_point r offset;
    label = label.Block;
    status = status_of S (own_point r offset);
    introducer = r.name;
  }

  -- there is just one of it
  block : (source : Place) (offset : ℕ) → finite.Finite (IsBlock S r source offset)
  unfolding block_edge
  block source offset = finite.one (IsBlock S r source offset) (block_edge source offset)
      (record { from = refl; to = refl; block = refl; of_target = refl; by = refl })
      (λ e h. λ i. record { source = sym h.from i; target = sym h.to i; label = sym h.block i; status = sym h.of_target i; introducer = sym h.by i })

  -- there is at most one order edge between two places
  order : (source target : Place) → finite.Finite (IsOrder r source target)
  order source placed.Root = finite.none (IsOrder r source placed.Root) (λ e h. let f = h.to in cc)
  order source (placed.At q) = finite.one (IsOrder r source (placed.At q))
      (record { source = source; target = q; label = label.Order; status = Alive; introducer = r.name })
      (record { from = refl; to = refl; order = refl; alive = refl; by = refl })
      (λ e h. λ i. record {
        source = sym h.from i;
        target = place_is e.target (placed.At q) h.to q refl i;
        label = sym h.order i;
        status = sym h.alive i;
        introducer = sym h.by i;
      })

  -- and at most one folder edge of a name
  folder : (offset : ℕ) (source target : Place) → finite.Finite (IsFolder S r offset source target)
  folder offset source placed.Root = finite.none (IsFolder S r offset source placed.Root) (λ e h. let f = h.to in cc)
  folder offset source (placed.At q) = finite.one (IsFolder S r offset source (placed.At q))
      (record { source = source; target = q; label = label.Folder; status = status_of S (own_point r offset); introducer = r.name })
      (record { from = refl; to = refl; folder = refl; of_name = refl; by = refl })
      (λ e h. λ i. record {
        source = sym h.from i;
        target = place_is e.target (placed.At q) h.to q refl i;
        label = sym h.folder i;
        status = sym h.of_name i;
        introducer = sym h.by i;
      })

  -- the edges of a name
  name_edges : (offset : ℕ) (parent child : Place) → finite.Finite (IsNameEdge S r offset parent child)
  name_edges offset parent child = finite.either _ _ (folder offset parent (placed.At (own_point r offset)))
      (folder offset (placed.At (own_point r offset)) child)

  -- what leads to a later vertex of a block
  abbrev IsLater : ℕ → ℕ → Edge → Type 0
  IsLater first at e = (first < at) × IsTrue (is_cut S (own_point r at)) × IsBlock S r (placed.At (own_point r (at - 1))) at e

  -- there is at most one of them at a position
  later : (first at : ℕ) → finite.Finite (IsLater first at)
  later first at = by (known_less first at) (known_test (is_cut S (own_point r at)) true)
    where
      by : Known (first < at) → Known (is_cut S (own_point r at) ≡ true) → finite.Finite (IsLater first at)
      by (inl l) (inl c) = finite.alike (IsBlock S r (placed.At (own_point r (at - 1))) at) (IsLater first at) (λ e h. (l, c, h)) (λ e h. h.2)
          (block (placed.At (own_point r (at - 1))) at)
      by (inl l) (inr n) = finite.none (IsLater first at) (λ e h. n h.1)
      by (inr n) c = finite.none (IsLater first at) (λ e h. n h.0)

  -- the edges of an insertion
  insertion : (first : ℕ) (file : Ref) (ups downs : List Ref) (bytes : List ℕ) → finite.Finite (IsEdgeOf S r first (Insert file ups downs bytes))
  insertion first file ups downs bytes =
      finite.alike
      (λ e. ((up : Ref) × Contains ups up × IsBlock S r (resolve r up) first e)
      ⊎ (((at : ℕ) × (at < first + length bytes) × IsLater first at e)
      ⊎ ((down : Ref) × Contains downs down × IsOrder r (placed.At (own_point r (first + length bytes - 1))) (resolve r down) e)))
      (IsEdgeOf S r first (Insert file ups downs bytes)) there back
      (finite.either _ _ (finite.some (λ up. IsBlock S r (resolve r up) first) ups (λ up m. block (resolve r up) first))
      (finite.either _ _ (finite.below (IsLater first) (first + length bytes) (λ at. later first at))
      (finite.some (λ down. IsOrder r (placed.At (own_point r (first + length bytes - 1))) (resolve r down)) downs
      (λ down m. order (placed.At (own_point r (first + length bytes - 1))) (resolve r down)))))
    where
      there : (e : Edge) →
          ((up : Ref) × Contains ups up × IsBlock S r (resolve r up) first e)
          ⊎ (((at : ℕ) × (at < first + length bytes) × IsLater first at e)
          ⊎ ((down : Ref) × Contains downs down × IsOrder r (placed.At (own_point r (first + length bytes - 1))) (resolve r down) e)) →
          IsEdgeOf S r first (Insert file ups downs bytes) e
      there e (inl u) = inl u
      there e (inr (inl (at, high, (low, cut, is)))) = inr (inl (at, low, high, cut, is))
      there e (inr (inr d)) = inr (inr d)

      back : (e : Edge) → IsEdgeOf S r first (Insert file ups downs bytes) e →
          ((up : Ref) × Contains ups up × IsBlock S r (resolve r up) first e)
          ⊎ (((at : ℕ) × (at < first + length bytes) × IsLater first at e)
          ⊎ ((down : Ref) × Contains downs down × IsOrder r (placed.At (own_point r (first + length bytes - 1))) (resolve r down) e))
      back e (inl u) = inl u
      back e (inr (inl (at, low, high, cut, is))) = inr (inl (at, high, (low, cut, is)))
      back e (inr (inr d)) = inr (inr d)

  -- the edges of a hunk
  of_hunk : (first : ℕ) (h : Hunk) → finite.Finite (IsEdgeOf S r first h)
  of_hunk first (File parent name exec) = name_edges first (resolve r parent) (placed.At (own_point r (first + 1)))
  of_hunk first (Dir parent name) = name_edges first (resolve r parent) (placed.At (own_point r (first + 1)))
  of_hunk first (NameOf parent child name exec) = name_edges first (resolve r parent) (resolve r child)
  of_hunk first (Insert file ups downs bytes) = insertion first file ups downs bytes
  of_hunk first (Order file source target) = order (resolve r source) (resolve r target)
  of_hunk first (Delete owner start end by) = finite.none (IsEdgeOf S r first (Delete owner start end by)) (λ e h. h)
  of_hunk first (Revive owner start end by) = finite.none (IsEdgeOf S r first (Revive owner start end by)) (λ e h. h)

-- ---- those of the set

-- the edges of the set are finitely many
pub edges : (S : List Record) → finite.Finite (IsEdge S)
edges S =
    finite.alike (λ e. (r : Record) × Contains S r × HasAt (λ number h. IsEdgeOf S r (place r.change.hunks number) h e) r.change.hunks) (IsEdge S)
    (λ e (r, m, h). record { introducer = r; member = m; number = h.number; hunk = h.it; there = h.there; is = h.is })
    (λ e h. (h.introducer, h.member, record { number = h.number; it = h.hunk; there = h.there; is = h.is }))
    (finite.some _ S (λ r m. finite.at (λ number h e. IsEdgeOf S r (place r.change.hunks number) h e) r.change.hunks
    (λ number h. of_hunk S r (place r.change.hunks number) h)))
