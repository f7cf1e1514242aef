-- The edges of a set, gathered hunk by hunk and change by change.
use Rattle.std.proofs.Common.{◌≡◌, ℕ, ◌+◌, ◌-◌, ◌<◌, List, [], length, true, false, sym, ◌∙◌, ap, subst, inl, inr, arith}
use Rattle.std.specs.Prelude.{Contains, ◌⊎◌, Some, slice_get}
use Rattle.std.proofs.lemmas.Option.{same_Some, slice_get_within}
use Rattle.pj_change.specs.declared.point.Place.{Place}
use Rattle.pj_change.specs.declared.point.Place.TheVariants as placed
use Rattle.pj_change.specs.declared.point.Ref.{Ref}
use Rattle.pj_change.specs.declared.hunk.Hunk.{Hunk}
use Rattle.pj_change.specs.declared.hunk.Hunk.TheVariants.{Insert}
use Rattle.pj_change.specs.declared.graph.Edge.{Edge}
use Rattle.pj_change.specs.declared.change.Record.{Record}
use Rattle.pj_change.specs.Positions.{place, own_point, resolve}
use Rattle.pj_change.specs.Vertices.{is_cut}
use Rattle.pj_change.specs.RealEdges.{IsBlock, IsOrder, IsFolder, IsNameEdge, IsEdgeOf, IsEdge}
use Rattle.pj_change.specs.Graph.{edge_cmp, Lists}
use Rattle.pj_change.proofs.Listings.{same_listing}
use Rattle.pj_change.specs.Gathers.{Gathers, IsOfOne}
use Rattle.pj_change.specs.GraphParts.{IsInner, IsSaid}
use Rattle.pj_change.proofs.Gathering.{gathers_none, gathers_both, gathers_alike, gathered}

-- ---- the edges of a name

pub name_added : (S : List Record) (r : Record) (name : ℕ) (parent child : Place) (old middle new : List Edge) →
    Gathers (IsFolder S r name parent (placed.At (own_point r name))) old middle → Gathers (IsFolder S r name (placed.At (own_point r name)) child) middle new →
    Gathers (IsNameEdge S r name parent child) old new
name_added S r name parent child old middle new a b =
    gathers_both (IsFolder S r name parent (placed.At (own_point r name))) (IsFolder S r name (placed.At (own_point r name)) child) (IsNameEdge S r name parent child)
    old middle new (λ e h. h) (λ e h. inl h) (λ e h. inr h) a b

-- ---- the inner edges of a block

module _ (S : List Record) (r : Record) (first : ℕ) where
  pub inner_none : (list : List Edge) → Gathers (IsInner S r first (first + 1)) list list
  inner_none list = gathers_none (IsInner S r first (first + 1)) list (λ e h. (let a = h.after in let b = h.before in omega arith))

  further : (at : ℕ) (e : Edge) → IsInner S r first at e → IsInner S r first (at + 1) e
  further at e h = record { at = h.at; after = h.after; before = (let b = h.before in omega arith); cut = h.cut; is = h.is }

  last_or_not : (at : ℕ) (e : Edge) → (h : IsInner S r first (at + 1) e) → IsInner S r first at e ⊎ (h.at ≡ at)
  last_or_not at e h = elim (cases h.at at h.before) [ inl l ↦ inl (record { at = h.at; after = h.after; before = l; cut = h.cut; is = h.is }) | inr s ↦ inr s ]
    where
      cases : (m n : ℕ) → m < n + 1 → (m < n) ⊎ (m ≡ n)
      cases m n l = grind (arith)

  pub inner_uncut : (at : ℕ) (old new : List Edge) → is_cut S (own_point r at) ≡ false → Gathers (IsInner S r first at) old new → Gathers (IsInner S r first (at + 1)) old new
  inner_uncut at old new uncut a = gathers_alike (IsInner S r first at) (IsInner S r first (at + 1)) old new (further at) back a
    where
      back : (e : Edge) → IsInner S r first (at + 1) e → IsInner S r first at e
      back e h = elim (last_or_not at e h) [
        | inl k ↦ k
        | inr s ↦ absurd (let c : is_cut S (own_point r at) ≡ true = subst (λ n. is_cut S (own_point r n) ≡ true) s h.cut in cc)
      ]

  pub inner_cut : (at : ℕ) (old middle new : List Edge) → first < at → is_cut S (own_point r at) ≡ true → Gathers (IsInner S r first at) old middle →
      Gathers (IsBlock S r (placed.At (own_point r (at - 1))) at) middle new → Gathers (IsInner S r first (at + 1)) old new
  inner_cut at old middle new low cut a b =
      gathers_both (IsInner S r first at) (IsBlock S r (placed.At (own_point r (at - 1))) at) (IsInner S r first (at + 1)) old middle new split (further at)
      (λ e h. record { at = at; after = low; before = omega arith; cut = cut; is = h }) a b
    where
      split : (e : Edge) → IsInner S r first (at + 1) e → IsInner S r first at e ⊎ IsBlock S r (placed.At (own_point r (at - 1))) at e
      split e h = elim (last_or_not at e h) [ inl k ↦ inl k | inr s ↦ inr (subst (λ n. IsBlock S r (placed.At (own_point r (n - 1))) n e) s h.is) ]

-- ---- the edges of an insertion

module _ (S : List Record) (r : Record) (first : ℕ) (file : Ref) (ups downs : List Ref) (bytes : List ℕ) where
  abbrev FromUp : Edge → Type 0
  FromUp = IsOfOne (λ (up : Ref). IsBlock S r (resolve r up) first) ups

  abbrev ToDown : Edge → Type 0
  ToDown = IsOfOne (λ (down : Ref). IsOrder r (placed.At (own_point r (first + length bytes - 1))) (resolve r down)) downs

  pub insertion_added : (old a b new : List Edge) → Gathers FromUp old a → Gathers (IsInner S r first (first + length bytes)) a b → Gathers ToDown b new →
      Gathers (IsEdgeOf S r first (Insert file ups downs bytes)) old new
  insertion_added old a b new f g h =
      gathers_both FromUp (λ e. IsInner S r first (first + length bytes) e ⊎ ToDown e) (IsEdgeOf S r first (Insert file ups downs bytes)) old a new
      split up (λ e k. rest e k) f
      (gathers_both (IsInner S r first (first + length bytes)) ToDown (λ e. IsInner S r first (first + length bytes) e ⊎ ToDown e) a b new (λ e k. k) (λ e k. inl k) (λ e k. inr k) g h)
    where
      split : (e : Edge) → IsEdgeOf S r first (Insert file ups downs bytes) e → FromUp e ⊎ (IsInner S r first (first + length bytes) e ⊎ ToDown e)
      split e (inl (up, m, is)) = inl (record { one = up; member = m; is = is })
      split e (inr (inl (at, low, high, cut, is))) = inr (inl (record { at = at; after = low; before = high; cut = cut; is = is }))
      split e (inr (inr (down, m, is))) = inr (inr (record { one = down; member = m; is = is }))

      up : (e : Edge) → FromUp e → IsEdgeOf S r first (Insert file ups downs bytes) e
      up e k = inl (k.one, k.member, k.is)

      rest : (e : Edge) → IsInner S r first (first + length bytes) e ⊎ ToDown e → IsEdgeOf S r first (Insert file ups downs bytes) e
      rest e (inl k) = inr (inl (k.at, k.after, k.before, k.cut, k.is))
      rest e (inr k) = inr (inr (k.one, k.member, k.is))

-- ---- the edges that a change says

module _ (S : List Record) (r : Record) where
  -- by one of its first hunks
  abbrev pub IsSaidBelow : ℕ → Edge → Type 0
  IsSaidBelow n e = (h : IsSaid S r e) × (h.number < n)

  pub said_none : (list : List Edge) → Gathers (IsSaidBelow 0) list list
  said_none list = gathers_none (IsSaidBelow 0) list (λ e h. omega (arith, h.1))

  pub said_more : (n first : ℕ) (hunk : Hunk) → slice_get r.change.hunks n ≡ Some hunk → first ≡ place r.change.hunks n → (old middle new : List Edge) →
      Gathers (IsSaidBelow n) old middle → Gathers (IsEdgeOf S r first hunk) middle new → Gathers (IsSaidBelow (n + 1)) old new
  said_more n first hunk there at old middle new a b =
      gathers_both (IsSaidBelow n) (IsEdgeOf S r first hunk) (IsSaidBelow (n + 1)) old middle new split (λ e h. (h.0, (let l = h.1 in omega arith))) here a b
    where
      here : (e : Edge) → IsEdgeOf S r first hunk e → IsSaidBelow (n + 1) e
      here e is = (record { number = n; hunk = hunk; there = there; is = subst (λ f. IsEdgeOf S r f hunk e) at is }, omega arith)

      cases : (m k : ℕ) → m < k + 1 → (m < k) ⊎ (m ≡ k)
      cases m k l = grind (arith)

      last : (e : Edge) (h : IsSaid S r e) → h.number ≡ n → IsEdgeOf S r first hunk e
      last e h same =
          let g : h.hunk ≡ hunk = same_Some h.hunk hunk (sym h.there ∙ ap (slice_get r.change.hunks) same ∙ there) in
          let f : place r.change.hunks h.number ≡ first = ap (place r.change.hunks) same ∙ sym at in
          subst (λ k. IsEdgeOf S r first k e) g (subst (λ k. IsEdgeOf S r k h.hunk e) f h.is)

      split : (e : Edge) → IsSaidBelow (n + 1) e → IsSaidBelow n e ⊎ IsEdgeOf S r first hunk e
      split e (h, low) = elim (cases h.number n low) [ inl l ↦ inl (h, l) | inr same ↦ inr (last e h same) ]

  pub said_all : (n : ℕ) → length r.change.hunks ≡ n → (old new : List Edge) → Gathers (IsSaidBelow n) old new → Gathers (IsSaid S r) old new
  said_all n all old new a = gathers_alike (IsSaidBelow n) (IsSaid S r) old new (λ e h. h.0)
      (λ e h. (h, (let l = slice_get_within r.change.hunks h.number h.hunk h.there in omega arith))) a

-- ---- the edges of the set

of_set : (S : List Record) (r : Record) (e : Edge) → Contains S r → IsSaid S r e → IsEdge S e
of_set S r e m h = record { introducer = r; member = m; number = h.number; hunk = h.hunk; there = h.there; is = h.is }

pub of_introducer : (S : List Record) (e : Edge) (h : IsEdge S e) → IsSaid S h.introducer e
of_introducer S e h = record { number = h.number; hunk = h.hunk; there = h.there; is = h.is }

-- those of all its changes
pub edges_gathered : (S : List Record) (new : List Edge) → Gathers (IsOfOne (IsSaid S) S) [] new → Gathers (IsEdge S) [] new
edges_gathered S new a =
    gathers_alike (IsOfOne (IsSaid S) S) (IsEdge S) [] new
    (λ e h. of_set S h.one e h.member h.is) (λ e h. record { one = h.introducer; member = h.member; is = of_introducer S e h }) a

-- and are listed
pub edges_listed : (S : List Record) (new list : List Edge) → Gathers (IsEdge S) [] new → Lists edge_cmp (Contains new) list → Lists edge_cmp (IsEdge S) list
edges_listed S new list a = same_listing edge_cmp (Contains new) (IsEdge S) (gathered (IsEdge S) new a) a.all list
