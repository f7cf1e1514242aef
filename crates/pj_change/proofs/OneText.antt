-- A file has at most one text.
use Rattle.std.proofs.Common.{◌≡◌, ℕ, ◌<◌, List, [], ◌∷◌, length, refl, sym, ◌∙◌, ap, subst, inl, inr, arith, get_or, Bool, true, false}
use Rattle.std.specs.Prelude.{Contains, ◌↔◌, IsTrue}
use Rattle.std.specs.List.{AllZip, range_with_len}
use Rattle.std.proofs.lemmas.Bool.{cases_lt}
use Rattle.std.proofs.lemmas.List.{get_or_past}
use Rattle.std.proofs.lemmas.List.Elements.{All-contains}
use Rattle.pj_change.specs.declared.point.Point.{Point}
use Rattle.pj_change.specs.declared.graph.Vertex.{Vertex}
use Rattle.pj_change.specs.declared.change.Change.{Change}
use Rattle.pj_change.specs.declared.change.Record.{Record}
use Rattle.pj_change.specs.Vertices.{first_point}
use Rattle.pj_change.specs.Graph.{vertex_cmp, point_cmp}
use Rattle.pj_change.specs.Before.{IsBefore}
use Rattle.pj_change.specs.Layout.{IsLayout}
use Rattle.pj_change.specs.MarkedText.{Class, Piece, marked}
use Rattle.pj_change.specs.FileText.{IsLiveIn, AreAlike, LeastPointBelow, IsClass, AreClasses, IsClassBefore, bytes_of, IsPiece, IsWritten, IsFileText}
use Rattle.pj_change.proofs.Members.{first_member, no_member, same_member, moved}
use Rattle.pj_change.proofs.Listings.{same_related, related_pairs, same_sorted, one_list, not_both}
use Rattle.pj_change.proofs.Orders.{vertex_total, point_total}
use Rattle.pj_change.proofs.OneLayout.{layout_one}
use Rattle.pj_change.proofs.PathsAcross.{path_trans}

-- records with equal names have equal changes
abbrev pub HaveOneChange : List Record → Type 0
HaveOneChange S = (r s : Record) → Contains S r → Contains S s → r.name ≡ s.name → r.change ≡ s.change

-- ---- paths

like_before : (S : List Record) (u v w : Vertex) → AreAlike S u v → IsBefore S v w → IsBefore S u w
like_before S u v w a b = elim a [ inl e ↦ subst (λ x. IsBefore S x w) (sym e) b | inr k ↦ path_trans k.0 b ]

before_like : (S : List Record) (u v w : Vertex) → IsBefore S u v → AreAlike S v w → IsBefore S u w
before_like S u v w b a = elim a [ inl e ↦ subst (λ x. IsBefore S u x) e b | inr k ↦ path_trans b k.0 ]

-- ---- classes

record HasFirst (class : List Vertex) : Type 0 where
  it : Vertex
  member : Contains class it

has_first : (class : List Vertex) → 0 < length class → HasFirst class
has_first [] l = absurd (omega (arith, l))
has_first (v ∷ vs) l = record { it = v; member = first_member v vs }

below_itself : (c : List Vertex) → LeastPointBelow c c → ⊥
below_itself [] h = h
below_itself (v ∷ vs) h = not_both point_cmp point_total (first_point v) (first_point v) h h

below_both : (c d : List Vertex) → LeastPointBelow c d → LeastPointBelow d c → ⊥
below_both [] d f g = f
below_both (u ∷ us) [] f g = f
below_both (u ∷ us) (v ∷ vs) f g = not_both point_cmp point_total (first_point u) (first_point v) f g

module _ (S : List Record) (live : List Vertex) where
  -- two classes that share a vertex are one
  one_class : (c d : List Vertex) → IsClass S live c → IsClass S live d → (v : Vertex) → Contains c v → Contains d v → c ≡ d
  one_class c d a b v m n = same_sorted vertex_cmp vertex_total c d a.sorted b.sorted
      (λ w k. (let l = a.among w k in (b.alike v w n l).1 ((a.alike v w m l).0 k)))
      (λ w k. (let l = b.among w k in (a.alike v w m l).1 ((b.alike v w n l).0 k)))

  class_there : (cs ds : List (List Vertex)) → AreClasses S live cs → AreClasses S live ds → (c : List Vertex) → Contains cs c → Contains ds c
  class_there cs ds a b c m =
      let f = All-contains (IsClass S live) cs c a.each m in
      let h = has_first c f.nonempty in
      let k = b.all h.it (f.among h.it h.member) in
      let k_in : Contains ds k.1 = (k.0, k.2, k.3) in
      let e : c ≡ k.1 = one_class c k.1 f (All-contains (IsClass S live) ds k.1 b.each k_in) h.it h.member k.4 in
      same_member ds (sym e) k_in

  pub classes_one : (cs ds : List (List Vertex)) → AreClasses S live cs → AreClasses S live ds → cs ≡ ds
  classes_one cs ds a b = same_related LeastPointBelow cs ds (λ c d m n f g. below_both c d f g)
      (related_pairs LeastPointBelow cs a.rising) (related_pairs LeastPointBelow ds b.rising) (class_there cs ds a b) (class_there ds cs b a)

  module _ (classes : List (List Vertex)) (are : AreClasses S live classes) where
    within : (i : ℕ) (u : Vertex) → Contains (get_or classes i []) u → i < length classes
    within i u m = elim (cases_lt i (length classes)) [
      | inl l ↦ l
      | inr l ↦ absurd (no_member u (moved u (get_or_past classes i [] l) m))
    ]

    is_class : (i : ℕ) (u : Vertex) → Contains (get_or classes i []) u → IsClass S live (get_or classes i [])
    is_class i u m = are.each i [] (within i u m)

    -- a vertex is in one class
    one_place : (i j : ℕ) (v : Vertex) → Contains (get_or classes i []) v → Contains (get_or classes j []) v → i ≡ j
    one_place i j v m n = elim (cases_lt i j) [
      | inl l ↦ absurd (below_itself (get_or classes i []) (subst (λ c. LeastPointBelow (get_or classes i []) c) (sym same) (are.rising i j [] l (within j v n))))
      | inr l ↦ elim (cases_lt j i) [
        | inl k ↦ absurd (below_itself (get_or classes j []) (subst (λ c. LeastPointBelow (get_or classes j []) c) same (are.rising j i [] k (within i v m))))
        | inr k ↦ omega arith
      ]
    ]
      where
        same : get_or classes i [] ≡ get_or classes j []
        same = one_class (get_or classes i []) (get_or classes j []) (is_class i v m) (is_class j v n) v m n

    -- of two classes not each is before the other
    asymmetric : (i j : ℕ) → IsClassBefore S classes i j → IsClassBefore S classes j i → ⊥
    asymmetric i j a b =
        let ci = is_class i a.u a.u_in in
        let cj = is_class j a.v a.v_in in
        -- v is like the vertex of j that is before one of i, and that one is like u
        let v_like : AreAlike S a.v b.u = (cj.alike a.v b.u a.v_in (cj.among b.u b.u_in)).0 b.u_in in
        let u_like : AreAlike S b.v a.u = (ci.alike b.v a.u b.v_in (ci.among a.u a.u_in)).0 a.u_in in
        let back : IsBefore S a.v a.u = like_before S a.v b.u a.u v_like (before_like S b.u b.v a.u b.before u_like) in
        let in_i : Contains (get_or classes i []) a.v = (ci.alike a.u a.v a.u_in (cj.among a.v a.v_in)).1 (inr (a.before, back)) in
        a.apart (one_place i j a.v in_i a.v_in)

-- ---- what is written

true_both : (a b : Bool) (P : Type 0) → IsTrue a ↔ P → IsTrue b ↔ P → a ≡ b
true_both true true P f g = refl
true_both false false P f g = refl
true_both true false P f g = absurd (let h = g.1 (f.0 refl) in cc)
true_both false true P f g = absurd (let h = f.1 (g.0 refl) in cc)

module _ (S : List Record) (unique : HaveOneChange S) where
  piece_one : (v : Vertex) (p q : Piece) → IsPiece S v p → IsPiece S v q → p ≡ q
  piece_one v p q a b =
      let z = true_both p.zombie q.zombie _ a.zombie b.zombie in
      let c : a.owner.change ≡ b.owner.change = unique a.owner b.owner a.member b.member (a.name ∙ sym b.name) in
      let e : p.bytes ≡ q.bytes = a.bytes ∙ ap (λ (c : Change). bytes_of c.hunks v) c ∙ sym b.bytes in
      λ i. record { zombie = z i; bytes = e i }

  pieces_one : (vs : List Vertex) (ps qs : List Piece) → AllZip (IsPiece S) vs ps → AllZip (IsPiece S) vs qs → ps ≡ qs
  pieces_one [] [] [] a b = refl
  pieces_one [] [] (q ∷ qs) a b = absurd b
  pieces_one [] (p ∷ ps) qs a b = absurd a
  pieces_one (v ∷ vs) [] qs a b = absurd a
  pieces_one (v ∷ vs) (p ∷ ps) [] a b = absurd b
  pieces_one (v ∷ vs) (p ∷ ps) (q ∷ qs) a b =
      let e = piece_one v p q a.0 b.0 in
      let f = pieces_one vs ps qs a.1 b.1 in
      λ i. e i ∷ f i

  written_one : (class : List Vertex) (w x : Class) → IsWritten S class w → IsWritten S class x → w ≡ x
  written_one class w x a b =
      let c = true_both w.cyclic x.cyclic _ a.cyclic b.cyclic in
      let p = pieces_one class w.pieces x.pieces a.pieces b.pieces in
      λ i. record { cyclic = c i; pieces = p i }

  writtens_one : (cs : List (List Vertex)) (ws xs : List Class) → AllZip (IsWritten S) cs ws → AllZip (IsWritten S) cs xs → ws ≡ xs
  writtens_one [] [] [] a b = refl
  writtens_one [] [] (x ∷ xs) a b = absurd b
  writtens_one [] (w ∷ ws) xs a b = absurd a
  writtens_one (c ∷ cs) [] xs a b = absurd a
  writtens_one (c ∷ cs) (w ∷ ws) [] a b = absurd b
  writtens_one (c ∷ cs) (w ∷ ws) (x ∷ xs) a b =
      let e = written_one c w x a.0 b.0 in
      let f = writtens_one cs ws xs a.1 b.1 in
      λ i. e i ∷ f i

  pub text_one : (inode : Point) (s t : List ℕ) → IsFileText S inode s → IsFileText S inode t → s ≡ t
  text_one inode s t a b =
      let l : a.live ≡ b.live = one_list vertex_cmp vertex_total (IsLiveIn S inode) (IsLiveIn S inode) (λ v h. h) (λ v h. h) a.live b.live a.live_are b.live_are in
      let classes_are : AreClasses S a.live b.classes = subst (λ live. AreClasses S live b.classes) (sym l) b.classes_are in
      let c : a.classes ≡ b.classes = classes_one S a.live a.classes b.classes a.classes_are classes_are in
      let written_are : AllZip (IsWritten S) a.classes b.written = subst (λ cs. AllZip (IsWritten S) cs b.written) (sym c) b.written_are in
      let w : a.written ≡ b.written = writtens_one a.classes a.written b.written a.written_are written_are in
      let layout : IsLayout (IsClassBefore S a.classes) 0 (range_with_len 0 (length a.classes)) b.shape =
      subst (λ cs. IsLayout (IsClassBefore S cs) 0 (range_with_len 0 (length cs)) b.shape) (sym c) b.layout in
      let h : a.shape ≡ b.shape = layout_one (IsClassBefore S a.classes) (asymmetric S a.live a.classes a.classes_are) 0 (range_with_len 0 (length a.classes)) a.shape b.shape a.layout layout in
      let m : marked a.written a.shape ≡ marked b.written b.shape = λ i. marked (w i) (h i) in
      a.is ∙ m ∙ sym b.is
