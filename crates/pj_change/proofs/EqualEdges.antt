-- In a lawful set edges that the order does not tell apart are equal.
use Rattle.std.proofs.Common.{◌≡◌, ℕ, zero, suc, List, length, true, false, refl, sym, ◌∙◌, ap, subst, inl, inr, arith}
use Rattle.std.specs.Prelude.{Contains, ◌⊎◌, Option, Some, None, slice_get}
use Rattle.std.specs.declared.cmp.Ordering.TheVariants.{Equal}
use Rattle.std.specs.Ordering.{nat_cmp}
use Rattle.std.proofs.lemmas.Bool.{and_parts}
use Rattle.std.proofs.lemmas.Option.{same_Some}
use Rattle.pj_name.specs.Name.{name_cmp}
use Rattle.pj_change.specs.declared.point.Point.{Point}
use Rattle.pj_change.specs.declared.point.Place.{Place}
use Rattle.pj_change.specs.declared.point.Place.TheVariants as placed
use Rattle.pj_change.specs.declared.point.Ref.{Ref}
use Rattle.pj_change.specs.declared.point.Ref.TheVariants as ref
use Rattle.pj_change.specs.declared.kind.Kind.TheVariants.{NameAt}
use Rattle.pj_change.specs.declared.hunk.Hunk.{Hunk}
use Rattle.pj_change.specs.declared.hunk.Hunk.TheVariants.{File, Dir, NameOf, Insert, Order, Delete, Revive}
use Rattle.pj_change.specs.declared.graph.Label.{Label}
use Rattle.pj_change.specs.declared.graph.Label.TheVariants as label
use Rattle.pj_change.specs.declared.graph.Status.TheVariants.{Alive}
use Rattle.pj_change.specs.declared.graph.Edge.{Edge}
use Rattle.pj_change.specs.declared.change.Record.{Record}
use Rattle.pj_change.specs.Positions.{kind_at, numbered, place, own_point, resolve, IsNumbered}
use Rattle.pj_change.specs.Context.{is_dir_inode, is_parent, holds}
use Rattle.pj_change.specs.Lawful.{is_held, needs_of, IsLawful}
use Rattle.pj_change.specs.Status.{status_of}
use Rattle.pj_change.specs.RealEdges.{IsBlock, IsOrder, IsFolder, IsEdgeOf, IsEdge}
use Rattle.pj_change.specs.Graph.{place_cmp, label_rank, edge_cmp, point_cmp}
use Rattle.pj_change.proofs.EqualNames.{at_is, both_tie, label_tied, name_tied, place_tied, point_tied}
use Rattle.pj_change.proofs.HunkLemmas.{refs_of}
use Rattle.pj_change.proofs.LawfulLists.{one_record}
use Rattle.pj_change.proofs.ListNumbers.{numbered_member}
use Rattle.pj_change.proofs.Members.{all_member, splits}
use Rattle.pj_change.proofs.NeedNumbers.{IsNeedNumber, numbered_need}
use Rattle.pj_change.proofs.PositionLemmas.{ref_is_numbered, kind_at_first}

-- ---- what an edge of each label says of its status

-- the parent of the name that a hunk makes
abbrev parent_of : Hunk → Option Ref
parent_of (File parent name exec) = Some parent
parent_of (Dir parent name) = Some parent
parent_of (NameOf parent child name exec) = Some parent
parent_of h = None

-- from a parent to a name
record IsInto (S : List Record) (r : Record) (e : Edge) : Type 0 where
  hunk : Hunk
  member : Contains r.change.hunks hunk
  parent : Ref
  is_parent_of : parent_of hunk ≡ Some parent
  from : e.source ≡ resolve r parent
  of_target : e.status ≡ status_of S e.target

-- from a name to its child
record IsOutOf (S : List Record) (r : Record) (e : Edge) : Type 0 where
  name : ℕ
  hunk : ℕ
  there : kind_at r.change.hunks name ≡ Some (NameAt hunk)
  from : e.source ≡ placed.At (own_point r name)
  of_source : e.status ≡ status_of S (own_point r name)

-- by its label
record Tells (S : List Record) (r : Record) (e : Edge) : Type 0 where
  block : e.label ≡ label.Block → e.status ≡ status_of S e.target
  order : e.label ≡ label.Order → e.status ≡ Alive
  folder : e.label ≡ label.Folder → IsInto S r e ⊎ IsOutOf S r e

block_tells : (S : List Record) (r : Record) (source : Place) (offset : ℕ) (e : Edge) → IsBlock S r source offset e → Tells S r e
block_tells S r source offset e h = record {
  block = λ l. h.of_target ∙ ap (status_of S) (sym h.to);
  order = λ l. absurd (let k = sym h.block ∙ l in cc);
  folder = λ l. absurd (let k = sym h.block ∙ l in cc);
}

order_tells : (S : List Record) (r : Record) (source target : Place) (e : Edge) → IsOrder r source target e → Tells S r e
order_tells S r source target e h = record {
  block = λ l. absurd (let k = sym h.order ∙ l in cc);
  order = λ l. h.alive;
  folder = λ l. absurd (let k = sym h.order ∙ l in cc);
}

into_tells : (S : List Record) (r : Record) (first : ℕ) (h : Hunk) (parent : Ref) (e : Edge) → Contains r.change.hunks h → parent_of h ≡ Some parent →
    IsFolder S r first (resolve r parent) (placed.At (own_point r first)) e → Tells S r e
into_tells S r first h parent e m is f = record {
  block = λ l. absurd (let k = sym f.folder ∙ l in cc);
  order = λ l. absurd (let k = sym f.folder ∙ l in cc);
  folder = λ l. inl (record { hunk = h; member = m; parent = parent; is_parent_of = is; from = f.from; of_target = f.of_name ∙ ap (status_of S) (sym (at_is e.target (own_point r first) f.to)) });
}

out_tells : (S : List Record) (r : Record) (first hunk : ℕ) (child : Place) (e : Edge) → kind_at r.change.hunks first ≡ Some (NameAt hunk) →
    IsFolder S r first (placed.At (own_point r first)) child e → Tells S r e
out_tells S r first hunk child e there f = record {
  block = λ l. absurd (let k = sym f.folder ∙ l in cc);
  order = λ l. absurd (let k = sym f.folder ∙ l in cc);
  folder = λ l. inr (record { name = first; hunk = hunk; there = there; from = f.from; of_source = f.of_name });
}

tells : (S : List Record) (r : Record) (i : ℕ) (h : Hunk) → slice_get r.change.hunks i ≡ Some h → (e : Edge) → IsEdgeOf S r (place r.change.hunks i) h e → Tells S r e
tells S r i (File parent name exec) t e (inl f) = into_tells S r (place r.change.hunks i) (File parent name exec) parent e (numbered_member r.change.hunks i (File parent name exec) t) refl f
tells S r i (File parent name exec) t e (inr f) = out_tells S r (place r.change.hunks i) i _ e (kind_at_first r.change.hunks i (File parent name exec) t (omega arith)) f
tells S r i (Dir parent name) t e (inl f) = into_tells S r (place r.change.hunks i) (Dir parent name) parent e (numbered_member r.change.hunks i (Dir parent name) t) refl f
tells S r i (Dir parent name) t e (inr f) = out_tells S r (place r.change.hunks i) i _ e (kind_at_first r.change.hunks i (Dir parent name) t (omega arith)) f
tells S r i (NameOf parent child name exec) t e (inl f) = into_tells S r (place r.change.hunks i) (NameOf parent child name exec) parent e (numbered_member r.change.hunks i (NameOf parent child name exec) t) refl f
tells S r i (NameOf parent child name exec) t e (inr f) = out_tells S r (place r.change.hunks i) i _ e (kind_at_first r.change.hunks i (NameOf parent child name exec) t (omega arith)) f
tells S r i (Insert file ups downs bytes) t e (inl (up, m, b)) = block_tells S r _ _ e b
tells S r i (Insert file ups downs bytes) t e (inr (inl (at, low, high, cut, b))) = block_tells S r _ _ e b
tells S r i (Insert file ups downs bytes) t e (inr (inr (down, m, o))) = order_tells S r _ _ e o
tells S r i (Order file source target) t e o = order_tells S r _ _ e o
tells S r i (Delete owner start end by) t e o = absurd o
tells S r i (Revive owner start end by) t e o = absurd o

-- ---- in a lawful set the parent of a name is no name of the same change

parent_holds : (c : Record) (needs : List Record) (h : Hunk) (parent : Ref) → parent_of h ≡ Some parent → holds c needs h ≡ true → is_parent c needs parent ≡ true
parent_holds c needs (File p name exec) parent e h = (let s : p ≡ parent = same_Some p parent e in subst (λ q. is_parent c needs q ≡ true) s h)
parent_holds c needs (Dir p name) parent e h = (let s : p ≡ parent = same_Some p parent e in subst (λ q. is_parent c needs q ≡ true) s h)
parent_holds c needs (NameOf p child name true) parent e h = (let s : p ≡ parent = same_Some p parent e in subst (λ q. is_parent c needs q ≡ true) s (and_parts _ _ h).0)
parent_holds c needs (NameOf p child name false) parent e h = (let s : p ≡ parent = same_Some p parent e in subst (λ q. is_parent c needs q ≡ true) s (and_parts _ _ h).0)
parent_holds c needs (Insert file ups downs bytes) parent e h = absurd (cc)
parent_holds c needs (Order file source target) parent e h = absurd (cc)
parent_holds c needs (Delete owner start end by) parent e h = absurd (cc)
parent_holds c needs (Revive owner start end by) parent e h = absurd (cc)

parent_ref : (h : Hunk) (parent : Ref) → parent_of h ≡ Some parent → Contains (refs_of h) parent
parent_ref (File p name exec) parent e = (0, omega arith, same_Some p parent e)
parent_ref (Dir p name) parent e = (0, omega arith, same_Some p parent e)
parent_ref (NameOf p child name exec) parent e = (0, omega arith, same_Some p parent e)
parent_ref (Insert file ups downs bytes) parent e = absurd (cc)
parent_ref (Order file source target) parent e = absurd (cc)
parent_ref (Delete owner start end by) parent e = absurd (cc)
parent_ref (Revive owner start end by) parent e = absurd (cc)

no_dir : (r : Record) (needs : List Record) (name offset hunk : ℕ) → kind_at r.change.hunks name ≡ Some (NameAt hunk) → offset ≡ name → is_dir_inode (kind_at r.change.hunks offset) ≡ true → ⊥
no_dir r needs name offset hunk there same d =
    let k : is_dir_inode (kind_at r.change.hunks offset) ≡ false = ap is_dir_inode (ap (kind_at r.change.hunks) same ∙ there) in
    cc

parent_no_name : (r : Record) (before : List Record) (parent : Ref) (name hunk : ℕ) → kind_at r.change.hunks name ≡ Some (NameAt hunk) →
    IsNumbered (length r.change.needs) parent → is_held before r.name ≡ false → ((k : ℕ) → IsNeedNumber (length r.change.needs) k → is_held before (numbered r k) ≡ true) →
    is_parent r (needs_of before r) parent ≡ true → resolve r parent ≡ placed.At (own_point r name) → ⊥
parent_no_name r before ref.Root name hunk there num fresh held p e = cc
parent_no_name r before (ref.At zero offset) name hunk there num fresh held p e =
    no_dir r (needs_of before r) name offset hunk there (ap (λ (q : Point). q.offset) (at_is _ (own_point r name) e)) p
parent_no_name r before (ref.At (suc k) offset) name hunk there num fresh held p e =
    let own : numbered r (suc k) ≡ r.name = ap (λ (q : Point). q.change) (at_is _ (own_point r name) e) in
    let there_before : is_held before (numbered r (suc k)) ≡ true = held (suc k) (record { from = omega arith; upto = num }) in
    let h : is_held before r.name ≡ true = ap (is_held before) (sym own) ∙ there_before in
    absurd (let f : false ≡ true = sym fresh ∙ h in cc)

-- an edge into a name does not begin where one out of a name does
no_crossing : (S : List Record) → IsLawful S → (r : Record) → Contains S r → (e f : Edge) → e.source ≡ f.source → IsInto S r e → IsOutOf S r f → ⊥
no_crossing S lawful r m e f same a b =
    let s = splits S r m in
    let l = lawful s.before r s.after s.is in
    let holds_it = all_member (holds r (needs_of s.before r)) r.change.hunks a.hunk l.context a.member in
    parent_no_name r s.before a.parent b.name b.hunk b.there
    (ref_is_numbered r a.parent a.hunk a.member (parent_ref a.hunk a.parent a.is_parent_of)) l.fresh
    (λ k n. all_member (is_held s.before) r.change.needs (numbered r k) l.needs (numbered_need r k n))
    (parent_holds r (needs_of s.before r) a.hunk a.parent a.is_parent_of holds_it)
    (sym a.from ∙ same ∙ b.from)

-- ---- equal edges

folder_same : (S : List Record) → IsLawful S → (r : Record) → Contains S r → (e f : Edge) → e.source ≡ f.source → e.target ≡ f.target → IsInto S r e ⊎ IsOutOf S r e → IsInto S r f ⊎ IsOutOf S r f → e.status ≡ f.status
folder_same S lawful r m e f source target (inl a) (inl b) = a.of_target ∙ ap (status_of S) target ∙ sym b.of_target
folder_same S lawful r m e f source target (inl a) (inr b) = absurd (no_crossing S lawful r m e f source a b)
folder_same S lawful r m e f source target (inr a) (inl b) = absurd (no_crossing S lawful r m f e (sym source) b a)
folder_same S lawful r m e f source target (inr a) (inr b) =
    let p : own_point r a.name ≡ own_point r b.name = at_is (own_point r a.name) (own_point r b.name) (sym a.from ∙ source ∙ b.from) in
    a.of_source ∙ ap (status_of S) p ∙ sym b.of_source

status_same : (S : List Record) → IsLawful S → (r : Record) → Contains S r → (e f : Edge) → e.source ≡ f.source → e.target ≡ f.target → (l : Label) → e.label ≡ l → f.label ≡ l → Tells S r e → Tells S r f → e.status ≡ f.status
status_same S lawful r m e f source target label.Block a b t u = t.block a ∙ ap (status_of S) target ∙ sym (u.block b)
status_same S lawful r m e f source target label.Order a b t u = t.order a ∙ sym (u.order b)
status_same S lawful r m e f source target label.Folder a b t u = folder_same S lawful r m e f source target (t.folder a) (u.folder b)

by_of_edge : (S : List Record) (r : Record) (first : ℕ) (h : Hunk) (e : Edge) → IsEdgeOf S r first h e → e.introducer ≡ r.name
by_of_edge S r first (File parent name exec) e (inl f) = f.by
by_of_edge S r first (File parent name exec) e (inr f) = f.by
by_of_edge S r first (Dir parent name) e (inl f) = f.by
by_of_edge S r first (Dir parent name) e (inr f) = f.by
by_of_edge S r first (NameOf parent child name exec) e (inl f) = f.by
by_of_edge S r first (NameOf parent child name exec) e (inr f) = f.by
by_of_edge S r first (Insert file ups downs bytes) e (inl (up, m, b)) = b.by
by_of_edge S r first (Insert file ups downs bytes) e (inr (inl (at, low, high, cut, b))) = b.by
by_of_edge S r first (Insert file ups downs bytes) e (inr (inr (down, m, o))) = o.by
by_of_edge S r first (Order file source target) e o = o.by
by_of_edge S r first (Delete owner start end by) e o = absurd o
by_of_edge S r first (Revive owner start end by) e o = absurd o

pub edges_tied : (S : List Record) → IsLawful S → (e f : Edge) → IsEdge S e → IsEdge S f → edge_cmp e f ≡ Equal → e ≡ f
edges_tied S lawful e f a b tie =
    let s = both_tie (place_cmp e.source f.source) _ tie in
    let t = both_tie (point_cmp e.target f.target) _ s.1 in
    let l = both_tie (nat_cmp (label_rank e.label) (label_rank f.label)) (name_cmp e.introducer f.introducer) t.1 in
    let source = place_tied e.source f.source s.0 in
    let target = point_tied e.target f.target t.0 in
    let same_label = label_tied e.label f.label l.0 in
    let introducer = name_tied e.introducer f.introducer l.1 in
    let names : a.introducer.name ≡ b.introducer.name = sym (by_of_edge S a.introducer _ a.hunk e a.is) ∙ introducer ∙ by_of_edge S b.introducer _ b.hunk f b.is in
    let same : a.introducer ≡ b.introducer = one_record S lawful a.introducer b.introducer a.member b.member names in
    let told_e = subst (λ r. Tells S r e) same (tells S a.introducer a.number a.hunk a.there e a.is) in
    let told_f = tells S b.introducer b.number b.hunk b.there f b.is in
    let status = status_same S lawful b.introducer b.member e f source target f.label same_label refl told_e told_f in
    λ i. record { source = source i; target = target i; label = same_label i; status = status i; introducer = introducer i }
