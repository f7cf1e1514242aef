-- The rows and the inodes of the first hunks of a change, with those of one hunk more.
use Rattle.std.proofs.Common.{◌≡◌, ◌∙◌, sym, ap, subst, ℕ, ◌+◌, ◌<◌, List, length, arith, inl, inr}
use Rattle.std.specs.Prelude.{Contains, ◌⊎◌, Option, Some, None, MatchOption, slice_get}
use Rattle.std.proofs.lemmas.Option.{same_Some, none-some, slice_get_within}
use Rattle.pj_change.specs.declared.point.Point.{Point}
use Rattle.pj_change.specs.declared.hunk.Hunk.{Hunk}
use Rattle.pj_change.specs.declared.change.Record.{Record}
use Rattle.pj_change.specs.Positions.{place}
use Rattle.pj_tree.specs.declared.row.NameRow.{NameRow}
use Rattle.pj_tree.specs.declared.row.Inode.{Inode}
use Rattle.pj_tree.specs.Rows.{HasInode, LacksRow, LacksInode}
use Rattle.pj_tree.specs.TreeOf.{hunk_row, IsRowOf}
use Rattle.pj_tree.proofs.GatheredRows.{IsRowBelow}
use Rattle.pj_names.specs.Given.{inode_in, IsInodeOf, IsInodeBelow, HasInodesBelow, IsAtInodeBelow, Leaves}
use Rattle.pj_names.proofs.InodesMade.{stands, one_hunk}

below_or_at : (m n : ℕ) → m < n + 1 → (m < n) ⊎ (m ≡ n)
below_or_at m n l = grind (arith)

-- ---- what is left

-- first some things are taken, and then others
pub leaves_both : {X : Type 0} (P Q R : X → Type 0) (old middle new : List X) → ((x : X) → R x → P x ⊎ Q x) → ((x : X) → P x → R x) → ((x : X) → Q x → R x) →
    Leaves P old middle → Leaves Q middle new → Leaves R old new
leaves_both P Q R old middle new split left right a b x = (
  λ m. (let k = (b x).0 m in let l = (a x).0 k.0 in (l.0, λ r. elim (split x r) [ inl p ↦ l.1 p | inr q ↦ k.1 q ])),
  λ m. (b x).1 ((a x).1 (m.0, λ p. m.1 (left x p)), λ q. m.1 (right x q)),
)

pub leaves_all : {X : Type 0} (P : X → Type 0) (list : List X) → ((x : X) → P x → ⊥) → Leaves P list list
leaves_all P list none x = (λ m. (m, none x), λ m. m.0)

pub row_taken : (row : Option NameRow) (old new : List NameRow) → MatchOption row (new ≡ old) (λ one. LacksRow old one new) → Leaves (λ x. row ≡ Some x) old new
row_taken None old new same = subst (Leaves (λ x. None ≡ Some x) old) (sym same) (leaves_all (λ x. None ≡ Some x) old (λ x h. none-some x h))
row_taken (Some one) old new lacks = λ x. (
  λ m. (let k = (lacks x).0 m in (k.0, λ e. k.1 (sym (same_Some one x e)))),
  λ m. (lacks x).1 (m.0, λ e. m.1 (ap Some (sym e))),
)

module _ (r : Record) (n first : ℕ) (hunk : Hunk) (there : slice_get r.change.hunks n ≡ Some hunk) (at : first ≡ place r.change.hunks n) where
  -- ---- rows

  module _ (S : List Record) where
    abbrev IsHere : NameRow → Type 0
    IsHere x = hunk_row S r first hunk ≡ Some x

    here_row : (x : NameRow) → IsHere x → IsRowBelow S r (n + 1) x
    here_row x is = (record { number = n; hunk = hunk; there = there; is = ap (λ f. hunk_row S r f hunk) (sym at) ∙ is }, omega arith)

    last_row : (x : NameRow) (h : IsRowOf S r x) → h.number ≡ n → IsHere x
    last_row x h same =
        let g : h.hunk ≡ hunk = same_Some h.hunk hunk (sym h.there ∙ ap (slice_get r.change.hunks) same ∙ there) in
        let f : place r.change.hunks h.number ≡ first = ap (place r.change.hunks) same ∙ sym at in
        ap (λ k. hunk_row S r first k) (sym g) ∙ ap (λ k. hunk_row S r k h.hunk) (sym f) ∙ h.is

    row_cases : (x : NameRow) → IsRowBelow S r (n + 1) x → IsRowBelow S r n x ⊎ IsHere x
    row_cases x (h, low) = elim (below_or_at h.number n low) [ inl l ↦ inl (h, l) | inr same ↦ inr (last_row x h same) ]

    -- the rows of one hunk more are taken
    pub rows_less : (old middle new : List NameRow) → Leaves (IsRowBelow S r n) old middle → Leaves IsHere middle new → Leaves (IsRowBelow S r (n + 1)) old new
    rows_less old middle new a b = leaves_both (IsRowBelow S r n) IsHere (IsRowBelow S r (n + 1)) old middle new row_cases (λ x h. (h.0, (let l = h.1 in omega arith))) here_row a b

  -- ---- inodes

  here_inode : (i : Inode) → inode_in r first hunk ≡ Some i → IsInodeBelow r (n + 1) i
  here_inode i is = (record { number = n; hunk = hunk; there = there; is = ap (λ f. inode_in r f hunk) (sym at) ∙ is }, omega arith)

  last_inode : (i : Inode) (h : IsInodeOf r i) → h.number ≡ n → inode_in r first hunk ≡ Some i
  last_inode i h same =
      let g : h.hunk ≡ hunk = same_Some h.hunk hunk (sym h.there ∙ ap (slice_get r.change.hunks) same ∙ there) in
      let f : place r.change.hunks h.number ≡ first = ap (place r.change.hunks) same ∙ sym at in
      ap (λ k. inode_in r first k) (sym g) ∙ ap (λ k. inode_in r k h.hunk) (sym f) ∙ h.is

  inode_cases : (i : Inode) → IsInodeBelow r (n + 1) i → IsInodeBelow r n i ⊎ (inode_in r first hunk ≡ Some i)
  inode_cases i (h, low) = elim (below_or_at h.number n low) [ inl l ↦ inl (h, l) | inr same ↦ inr (last_inode i h same) ]

  more_below : (i : Inode) → IsInodeBelow r n i → IsInodeBelow r (n + 1) i
  more_below i h = (h.0, (let l = h.1 in omega arith))

  -- an inode of an earlier hunk stands elsewhere
  apart : (i one : Inode) → IsInodeBelow r n i → inode_in r first hunk ≡ Some one → i.at ≡ one.at → ⊥
  apart i one h is e =
      let k : IsInodeOf r one = record { number = n; hunk = hunk; there = there; is = ap (λ f. inode_in r f hunk) (sym at) ∙ is } in
      let same : h.0.number ≡ n = one_hunk r i one h.0 k e in
      let low = h.1 in
      omega (arith, same, low)

  -- the inode of one hunk more is added
  pub inodes_more : (o : Option Inode) → o ≡ inode_in r first hunk → (old middle new : List Inode) → HasInodesBelow r n old middle → MatchOption o (new ≡ middle) (λ one. HasInode middle one new) → HasInodesBelow r (n + 1) old new
  inodes_more None e old middle new a same = record {
    kept = λ i m other. subst (λ l. Contains l i) (sym same) (a.kept i m other);
    all = λ i h. elim (inode_cases i h) [ inl k ↦ subst (λ l. Contains l i) (sym same) (a.all i k) | inr k ↦ absurd (none-some i (e ∙ k)) ];
    only = λ i m. elim (a.only i (subst (λ l. Contains l i) same m)) [ inl k ↦ inl k | inr k ↦ inr (more_below i k) ];
  }
  inodes_more (Some one) e old middle new a has = record {
    kept = λ i m other. (has i).1 (inr (a.kept i m other, λ same. other (ap (λ (p : Point). p.change) same ∙ (stands r one (here_inode one (sym e)).0).of_change)));
    all = λ i h. elim (inode_cases i h) [
      | inl k ↦ (has i).1 (inr (a.all i k, apart i one k (sym e)))
      | inr k ↦ (has i).1 (inl (same_Some i one (sym k ∙ sym e)))
    ];
    only = λ i m. elim ((has i).0 m) [
      | inl same ↦ inr (here_inode i (sym e ∙ ap Some (sym same)))
      | inr k ↦ elim (a.only i k.0) [ inl l ↦ inl l | inr l ↦ inr (more_below i l) ]
    ];
  }

  abbrev IsAtHere : Inode → Type 0
  IsAtHere i = (j : Inode) × (inode_in r first hunk ≡ Some j) × (i.at ≡ j.at)

  inode_taken : (o : Option Inode) → o ≡ inode_in r first hunk → (old new : List Inode) → MatchOption o (new ≡ old) (λ one. LacksInode old one.at new) → Leaves IsAtHere old new
  inode_taken None e old new same = subst (Leaves IsAtHere old) (sym same) (leaves_all IsAtHere old (λ i h. none-some h.0 (e ∙ h.1)))
  inode_taken (Some one) e old new lacks = λ i. (
    λ m. (let k = (lacks i).0 m in (k.0, λ h. k.1 (h.2 ∙ sym (ap (λ (j : Inode). j.at) (same_Some one h.0 (e ∙ h.1)))))),
    λ m. (lacks i).1 (m.0, λ same. m.1 (one, sym e, same)),
  )

  -- the inode of one hunk more is taken
  pub inodes_less : (o : Option Inode) → o ≡ inode_in r first hunk → (old middle new : List Inode) → Leaves (IsAtInodeBelow r n) old middle → MatchOption o (new ≡ middle) (λ one. LacksInode middle one.at new) →
      Leaves (IsAtInodeBelow r (n + 1)) old new
  inodes_less o e old middle new a b = leaves_both (IsAtInodeBelow r n) IsAtHere (IsAtInodeBelow r (n + 1)) old middle new
      (λ i h. elim (inode_cases h.0 h.1) [ inl k ↦ inl (h.0, k, h.2) | inr k ↦ inr (h.0, k, h.2) ])
      (λ i h. (h.0, more_below h.0 h.1, h.2))
      (λ i h. (h.0, here_inode h.0 h.1, h.2))
      a (inode_taken o e middle new b)

-- ---- at the start and at the end

pub inodes_none : (r : Record) (list : List Inode) → HasInodesBelow r 0 list list
inodes_none r list = record { kept = λ i m other. m; all = λ i h. absurd (let l = h.1 in omega (arith, l)); only = λ i m. inl m }

pub none_at : (r : Record) (list : List Inode) → Leaves (IsAtInodeBelow r 0) list list
none_at r list = leaves_all (IsAtInodeBelow r 0) list (λ i h. (let l = h.1.1 in omega (arith, l)))

pub no_rows : (S : List Record) (r : Record) (list : List NameRow) → Leaves (IsRowBelow S r 0) list list
no_rows S r list = leaves_all (IsRowBelow S r 0) list (λ x h. (let l = h.1 in omega (arith, l)))

pub all_rows : (S : List Record) (r : Record) (n : ℕ) → length r.change.hunks ≡ n → (old new : List NameRow) → Leaves (IsRowBelow S r n) old new → Leaves (IsRowOf S r) old new
all_rows S r n all old new a x = (
  λ m. (let k = (a x).0 m in (k.0, λ h. k.1 (h, (let l = slice_get_within r.change.hunks h.number h.hunk h.there in omega (arith, l, all))))),
  λ m. (a x).1 (m.0, λ h. m.1 h.0),
)
