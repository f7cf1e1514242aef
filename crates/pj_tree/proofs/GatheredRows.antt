-- The rows of a change, gathered hunk by hunk, and the inodes among vertices, gathered one by one.
use Rattle.std.proofs.Common.{◌≡◌, ℕ, ◌+◌, ◌<◌, Bool, true, false, List, [], length, take, get_or, drop, refl, sym, ◌∙◌, ap, subst, inl, inr, arith}
use Rattle.std.specs.Prelude.{Contains, ◌⊎◌, Option, Some, None, MatchOption, slice_get}
use Rattle.std.proofs.lemmas.Option.{slice_get_within, same_Some, none-some}
use Rattle.std.proofs.lemmas.List.{take-append-drop}
use Rattle.std.proofs.lemmas.List.Elements.{Contains-get_or}
use Rattle.pj_change.specs.declared.point.Point.{Point}
use Rattle.pj_change.specs.declared.hunk.Hunk.{Hunk}
use Rattle.pj_change.specs.declared.graph.Vertex.{Vertex}
use Rattle.pj_change.specs.declared.graph.VertexKind.{VertexKind}
use Rattle.pj_change.specs.declared.graph.VertexKind.TheVariants as vertex_kind
use Rattle.pj_change.specs.declared.change.Record.{Record}
use Rattle.pj_change.specs.Positions.{place, same_point}
use Rattle.pj_change.specs.Vertices.{first_point}
use Rattle.pj_change.proofs.EqualNames.{same_point_is, same_point_itself}
use Rattle.pj_change.proofs.LawfulLists.{first_part}
use Rattle.pj_tree.specs.declared.row.NameRow.{NameRow}
use Rattle.pj_tree.specs.declared.row.Inode.{Inode}
use Rattle.pj_tree.specs.Rows.{HasAlso, HasInode}
use Rattle.pj_change.specs.Gathers.{Gathers, IsOfOne}
use Rattle.pj_tree.specs.TreeOf.{hunk_row, inode_by, inode_of, IsRowOf}
use Rattle.pj_change.proofs.Gathering.{gathers_none, gathers_both, gathers_alike, gathered, of_more}

-- ---- the row of a hunk

-- it was added, if there is one
pub row_added : (row : Option NameRow) (old new : List NameRow) → MatchOption row (new ≡ old) (λ one. HasAlso old one new) → Gathers (λ x. row ≡ Some x) old new
row_added None old new same = subst (Gathers (λ x. None ≡ Some x) old) (sym same) (gathers_none (λ x. None ≡ Some x) old (λ x h. none-some x h))
row_added (Some one) old new also = record {
  kept = λ x m. (also x).1 (inr m);
  all = λ x h. (also x).1 (inl (sym (same_Some one x h)));
  only = λ x m. elim ((also x).0 m) [ inl s ↦ inr (ap Some (sym s)) | inr k ↦ inl k ];
}

-- ---- the rows of a change

module _ (S : List Record) (r : Record) where
  -- by one of its first hunks
  abbrev pub IsRowBelow : ℕ → NameRow → Type 0
  IsRowBelow n row = (h : IsRowOf S r row) × (h.number < n)

  pub rows_none : (list : List NameRow) → Gathers (IsRowBelow 0) list list
  rows_none list = gathers_none (IsRowBelow 0) list (λ row h. omega (arith, h.1))

  pub rows_more : (n first : ℕ) (hunk : Hunk) → slice_get r.change.hunks n ≡ Some hunk → first ≡ place r.change.hunks n → (old middle new : List NameRow) →
      Gathers (IsRowBelow n) old middle → Gathers (λ x. hunk_row S r first hunk ≡ Some x) middle new → Gathers (IsRowBelow (n + 1)) old new
  rows_more n first hunk there at old middle new a b =
      gathers_both (IsRowBelow n) (λ x. hunk_row S r first hunk ≡ Some x) (IsRowBelow (n + 1)) old middle new split (λ x h. (h.0, (let l = h.1 in omega arith))) here a b
    where
      here : (x : NameRow) → hunk_row S r first hunk ≡ Some x → IsRowBelow (n + 1) x
      here x is = (record { number = n; hunk = hunk; there = there; is = ap (λ f. hunk_row S r f hunk) (sym at) ∙ is }, omega arith)

      cases : (m k : ℕ) → m < k + 1 → (m < k) ⊎ (m ≡ k)
      cases m k l = grind (arith)

      last : (x : NameRow) (h : IsRowOf S r x) → h.number ≡ n → hunk_row S r first hunk ≡ Some x
      last x h same =
          let g : h.hunk ≡ hunk = same_Some h.hunk hunk (sym h.there ∙ ap (slice_get r.change.hunks) same ∙ there) in
          let f : place r.change.hunks h.number ≡ first = ap (place r.change.hunks) same ∙ sym at in
          ap (λ k. hunk_row S r first k) (sym g) ∙ ap (λ k. hunk_row S r k h.hunk) (sym f) ∙ h.is

      split : (x : NameRow) → IsRowBelow (n + 1) x → IsRowBelow n x ⊎ (hunk_row S r first hunk ≡ Some x)
      split x (h, low) = elim (cases h.number n low) [ inl l ↦ inl (h, l) | inr same ↦ inr (last x h same) ]

  pub rows_all : (n : ℕ) → length r.change.hunks ≡ n → (old new : List NameRow) → Gathers (IsRowBelow n) old new → Gathers (IsRowOf S r) old new
  rows_all n all old new a = gathers_alike (IsRowBelow n) (IsRowOf S r) old new (λ x h. h.0)
      (λ x h. (h, (let l = slice_get_within r.change.hunks h.number h.hunk h.there in omega arith))) a

-- ---- the inodes among vertices

inode_at : (p : Point) (kind : VertexKind) (i : Inode) → inode_by p kind ≡ Some i → p ≡ i.at
inode_at p vertex_kind.File i e = ap (λ (j : Inode). j.at) (same_Some (record { at = p; dir = false }) i e)
inode_at p vertex_kind.Dir i e = ap (λ (j : Inode). j.at) (same_Some (record { at = p; dir = true }) i e)
inode_at p vertex_kind.Name i e = absurd (none-some i e)
inode_at p vertex_kind.ExecName i e = absurd (none-some i e)
inode_at p vertex_kind.Text i e = absurd (none-some i e)

-- the inode is that of the vertex
abbrev pub IsInodeOf : Vertex → Inode → Type 0
IsInodeOf v i = inode_of v ≡ Some i

-- each of the vertices stands at a point of its own
abbrev pub StandApart : List Vertex → Type 0
StandApart vs = (v w : Vertex) → Contains vs v → Contains vs w → first_point v ≡ first_point w → v ≡ w

module _ (vs : List Vertex) (apart : StandApart vs) (k : ℕ) (v : Vertex) (low : k < length vs) (is : v ≡ get_or vs k v) (old : List Inode) (before : Gathers (IsOfOne IsInodeOf (take k vs)) [] old) where
  inodes_same : inode_of v ≡ None → Gathers (IsOfOne IsInodeOf (take (k + 1) vs)) [] old
  inodes_same e = of_more IsInodeOf vs k v v low is [] old old before (gathers_none (IsInodeOf v) old (λ i h. none-some i (sym e ∙ h)))

  inodes_more : (one : Inode) (new : List Inode) → inode_of v ≡ Some one → HasInode old one new → Gathers (IsOfOne IsInodeOf (take (k + 1) vs)) [] new
  inodes_more one new e has = of_more IsInodeOf vs k v v low is [] old new before (record {
    kept = kept;
    all = λ i h. (has i).1 (inl (same_Some i one (sym h ∙ e)));
    only = λ i m. elim ((has i).0 m) [ inl s ↦ inr (e ∙ ap Some (sym s)) | inr p ↦ inl p.0 ];
  })
    where
      here : Contains vs v
      here = subst (λ w. Contains vs w) (sym is) (Contains-get_or vs k v low)

      whole : (w : Vertex) → Contains (take k vs) w → Contains vs w
      whole w m = subst (λ l. Contains l w) (take-append-drop k vs) (first_part (take k vs) (drop k vs) w m)

      -- an inode of an earlier vertex at the same point is the same
      same : (i : Inode) → Contains old i → i.at ≡ one.at → i ≡ one
      same i m at =
          let h = gathered (IsOfOne IsInodeOf (take k vs)) old before i m in
          let points : first_point h.one ≡ first_point v = inode_at (first_point h.one) h.one.kind i h.is ∙ at ∙ sym (inode_at (first_point v) v.kind one e) in
          let w : h.one ≡ v = apart h.one v (whole h.one h.member) here points in
          same_Some i one (sym h.is ∙ ap inode_of w ∙ e)

      kept : (i : Inode) → Contains old i → Contains new i
      kept i m = go (same_point i.at one.at) refl
        where
          go : (b : Bool) → same_point i.at one.at ≡ b → Contains new i
          go true h = (has i).1 (inl (same i m (same_point_is i.at one.at h)))
          go false h = (has i).1 (inr (m, λ at. (let t : same_point i.at one.at ≡ true = ap (λ (p : Point). same_point p one.at) at ∙ same_point_itself one.at in cc)))

  -- that of the next vertex was added, if it is one
  pub inodes_next : (o : Option Inode) → o ≡ inode_of v → (new : List Inode) → MatchOption o (new ≡ old) (λ one. HasInode old one new) → Gathers (IsOfOne IsInodeOf (take (k + 1) vs)) [] new
  inodes_next None e new same = subst (Gathers (IsOfOne IsInodeOf (take (k + 1) vs)) []) (sym same) (inodes_same (sym e))
  inodes_next (Some one) e new has = inodes_more one new (sym e) has
