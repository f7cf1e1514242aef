-- Each file of a lawful list has a text.
use Rattle.std.proofs.Common.{◌≡◌, ℕ, zero, suc, ◌<◌, List, [], ◌∷◌, length, map, refl, sym, subst, inl, inr, arith, Bool}
use Rattle.std.specs.Prelude.{Contains, IsTrue}
use Rattle.std.specs.List.{AllZip, range_with_len, slice_index_or}
use Rattle.std.proofs.lemmas.Bool.{cases_order}
use Rattle.std.proofs.lemmas.List.Elements.{Contains-get_or, All-contains}
use Rattle.pj_change.specs.declared.point.Point.{Point}
use Rattle.pj_change.specs.declared.graph.Vertex.{Vertex}
use Rattle.pj_change.specs.declared.change.Record.{Record}
use Rattle.pj_change.specs.Before.{Leads, IsBefore}
use Rattle.pj_change.specs.FileText.{IsLiveList, AreAlike, LeastPointBelow, IsClass, AreClasses, IsClassBefore, IsPiece, IsWritten, IsFileText}
use Rattle.pj_change.specs.Graph.{vertex_cmp, point_cmp}
use Rattle.pj_change.specs.Layout.{Shape, IsStrictOrder, IsLayout}
use Rattle.pj_change.specs.Lawful.{IsLawful}
use Rattle.pj_change.specs.MarkedText.{Class, marked}
use Rattle.pj_change.specs.Vertices.{first_point}
use Rattle.pj_change.proofs.Decided.{Known, known_as, known_both, known_not, known_some, known_number}
use Rattle.pj_change.proofs.Listings.{not_both, same_sorted}
use Rattle.pj_change.proofs.Members.{first_member, later_member, no_member}
use Rattle.pj_change.proofs.Orders.{vertex_total, point_total}
use Rattle.pj_change.proofs.SameLayouts.{layout-same}
use Rattle.pj_layout.proofs.Existence.{layout_exists}
use Rattle.pj_layout.proofs.Predecessors.{range_sorted}
use Rattle.pj_print.specs.Pieces.{piece_of}
use Rattle.pj_print.proofs.VertexPieces.{piece_is}
use Rattle.pj_answers.proofs.LiveTexts.{known_before, live_list}
use Rattle.pj_answers.proofs.Paths.{joined}
use Rattle.pj_answers.proofs.Classes as class
use Rattle.pj_answers.proofs.Tests.{holds, it_holds, so_holds}

-- each member with what is made of it
with_images : {X Y : Type 0} (R : X → Y → Type 0) (f : X → Y) (xs : List X) → ((x : X) → Contains xs x → R x (f x)) → AllZip R xs (map f xs)
with_images R f [] each = tt
with_images R f (x ∷ xs) each = (each x (first_member x xs), with_images R f xs (λ y m. each y (later_member x xs y m)))

-- a list that is below itself has no member
not_below_itself : (c : List Vertex) → LeastPointBelow c c → ⊥
not_below_itself [] h = h
not_below_itself (u ∷ us) h = not_both point_cmp point_total (first_point u) (first_point u) h h

-- a class that has a member is there
there : (cs : List (List Vertex)) (i : ℕ) (u : Vertex) → Contains (slice_index_or cs i []) u → i < length cs
there [] i u m = absurd (no_member u m)
there (c ∷ cs) zero u m = omega arith
there (c ∷ cs) (suc i) u m = (let l = there cs i u m in omega arith)

module _ (S : List Record) (lawful : IsLawful S) (inode : Point) (live : List Vertex) (live_are : IsLiveList S inode live) where
  -- ---- the order of any such classes

  module _ (cs : List (List Vertex)) (are : AreClasses S live cs) where
    -- the class of this number
    abbrev at : ℕ → List Vertex
    at i = slice_index_or cs i []

    -- each is a class
    is_class : (i : ℕ) → i < length cs → IsClass S live (at i)
    is_class i low = All-contains (IsClass S live) cs (at i) are.each (Contains-get_or cs i [] low)

    -- a vertex of class i, as one of what is live
    among : (i : ℕ) (u : Vertex) → Contains (at i) u → Contains live u
    among i u m = (is_class i (there cs i u m)).among u m

    -- vertices of one class are alike
    alike : (i : ℕ) (u v : Vertex) → Contains (at i) u → Contains (at i) v → AreAlike S u v
    alike i u v m n = ((is_class i (there cs i u m)).alike u v m (among i v n)).0 n

    -- what is alike is in the class
    also : (i : ℕ) (u v : Vertex) → Contains (at i) u → Contains live v → AreAlike S u v → Contains (at i) v
    also i u v m n a = ((is_class i (there cs i u m)).alike u v m n).1 a

    -- classes with a member in common are one
    same_class : (i j : ℕ) (u : Vertex) → Contains (at i) u → Contains (at j) u → at i ≡ at j
    same_class i j u m n =
        let c = is_class i (there cs i u m) in
        let d = is_class j (there cs j u n) in
        same_sorted vertex_cmp vertex_total (at i) (at j) c.sorted d.sorted
        (λ v k. also j u v n (among i v k) (alike i u v m k)) (λ v k. also i u v m (among j v k) (alike j u v n k))

    -- no vertex is in two classes
    apart : (i j : ℕ) (u : Vertex) → i < j → Contains (at i) u → Contains (at j) u → ⊥
    apart i j u low m n =
        let below : LeastPointBelow (at i) (at j) = are.rising i j [] low (there cs j u n) in
        not_below_itself (at i) (subst (λ c. LeastPointBelow (at i) c) (sym (same_class i j u m n)) below)

    -- so a vertex tells the number of its class
    one_class : (i j : ℕ) (u : Vertex) → Contains (at i) u → Contains (at j) u → i ≡ j
    one_class i j u m n = elim (cases_order i j) [
      | inl e ↦ e
      | inr d ↦ elim d [ inl l ↦ absurd (apart i j u l m n) | inr l ↦ absurd (apart j i u l n m) ]
    ]

    -- whether one class is before another
    known_class_before : (i j : ℕ) → Known (IsClassBefore S cs i j)
    known_class_before i j = known_as
        (λ h. record { apart = h.0; u = h.1.0; v = h.1.2.0; u_in = h.1.1; v_in = h.1.2.1; before = h.1.2.2 })
        (λ h. (h.apart, (h.u, h.u_in, (h.v, h.v_in, h.before))))
        (known_both (known_not (known_number i j)) (known_some _ (at i) (λ u. known_some _ (at j) (λ v. known_before S u v))))

    -- what is alike is before what the other is before
    on_before : (u v w : Vertex) → AreAlike S u v → IsBefore S v w → IsBefore S u w
    on_before u v w (inl e) b = subst (λ x. IsBefore S x w) (sym e) b
    on_before u v w (inr h) b = joined (Leads S) h.0 b

    -- a class is before what those are before that it is before
    trans : (i j k : ℕ) → IsClassBefore S cs i j → IsClassBefore S cs j k → IsClassBefore S cs i k
    trans i j k a b =
        let path : IsBefore S a.u b.v = joined (Leads S) a.before (on_before a.v b.u b.v (alike j a.v b.u a.v_in b.u_in) b.before) in
        record { apart = λ e. circle (subst (λ n. Contains (at n) b.v) (sym e) b.v_in); u = a.u; v = b.v; u_in = a.u_in; v_in = b.v_in; before = path }
      where
        circle : Contains (at i) b.v → ⊥
        circle m =
            let back : IsBefore S a.v b.v = on_before a.v b.u b.v (alike j a.v b.u a.v_in b.u_in) b.before in
            let round : IsBefore S a.v a.u = onward (alike i b.v a.u m a.u_in) back in
            let in_i : Contains (at i) a.v = also i a.u a.v a.u_in (among j a.v a.v_in) (inr (a.before, round)) in
            a.apart (one_class i j a.v in_i a.v_in)
          where
            onward : AreAlike S b.v a.u → IsBefore S a.v b.v → IsBefore S a.v a.u
            onward (inl e) p = subst (IsBefore S a.v) e p
            onward (inr h) p = joined (Leads S) p h.0

    -- whether one class is before another, as a test
    abbrev test : ℕ → ℕ → Bool
    test i j = holds (known_class_before i j)

    -- the order of classes is strict
    strict : IsStrictOrder (λ i j. IsTrue (test i j))
    strict = record {
      irreflexive = λ i h. (it_holds (known_class_before i i) h).apart refl;
      transitive = λ i j k a b. so_holds (known_class_before i k) (trans i j k (it_holds (known_class_before i j) a) (it_holds (known_class_before j k) b));
    }

    -- so they have a layout
    laid_out : (shape : Shape) × IsLayout (IsClassBefore S cs) 0 (range_with_len 0 (length cs)) shape
    laid_out =
        let laid = layout_exists test strict 64 0 refl (range_with_len 0 (length cs)) (range_sorted (length cs)) in (
          laid.0,
          layout-same (λ i j. IsTrue (test i j)) (IsClassBefore S cs) (λ i j h. it_holds (known_class_before i j) h)
              (λ i j h. so_holds (known_class_before i j) h)
              0 (range_with_len 0 (length cs)) laid.0 laid.1,
        )

    -- ---- as they are written

    -- whether a class is cyclic
    known_cyclic : (c : List Vertex) → Known ((v : Vertex) × Contains c v × IsBefore S v v)
    known_cyclic c = known_some (λ v. IsBefore S v v) c (λ v. known_before S v v)

    -- a class as it is written
    written : List Vertex → Class
    written c = record { cyclic = holds (known_cyclic c); pieces = map (piece_of S) c }

    -- it is written so
    is_written : (c : List Vertex) → ((v : Vertex) → Contains c v → Contains live v) → IsWritten S c (written c)
    unfolding written
    is_written c within = record {
      cyclic = (λ e. it_holds (known_cyclic c) e, λ h. so_holds (known_cyclic c) h);
      pieces = with_images (IsPiece S) (piece_of S) c (λ v m. piece_is S v (live_are.only v (within v m)).live.vertex);
    }

    -- the classes give a text
    pub text_of_classes : (text : List ℕ) × IsFileText S inode text
    text_of_classes =
        let laid = laid_out in (
          marked (map written cs) laid.0,
          record {
            live = live;
            live_are = live_are;
            classes = cs;
            classes_are = are;
            written = map written cs;
            written_are = with_images (IsWritten S) written cs (λ c m. is_written c (All-contains (IsClass S live) cs c are.each m).among);
            shape = laid.0;
            layout = laid.1;
            is = refl;
          },
        )

-- each file has a text
pub text_there : (S : List Record) → IsLawful S → (inode : Point) → (text : List ℕ) × IsFileText S inode text
text_there S lawful inode =
    let live = live_list S inode lawful in
    text_of_classes S lawful inode live.0 live.1 (class.classes S lawful inode live.0 live.1) (class.classes_are S lawful inode live.0 live.1)
