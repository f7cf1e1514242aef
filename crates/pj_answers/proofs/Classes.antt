-- The classes of the live text of a file.
use Rattle.std.proofs.Common.{◌≡◌, List, [], ◌∷◌, map, filter, refl, sym, ◌∙◌, ap, subst, inl, inr, arith, Bool}
use Rattle.std.specs.Prelude.{Contains, Any}
use Rattle.std.specs.declared.cmp.Ordering.{Ordering}
use Rattle.std.specs.declared.cmp.Ordering.TheVariants.{Less, Equal, Greater}
use Rattle.std.specs.Ordering.{ordering_reverse}
use Rattle.std.specs.List.Sorted.{IsStrictlySortedBy}
use Rattle.std.proofs.lemmas.List.Elements.{All-from_recursion}
use Rattle.std.proofs.lemmas.List.Kept.{IsStrictlySortedBy-filter}
use Rattle.pj_change.specs.declared.point.Point.{Point}
use Rattle.pj_change.specs.declared.graph.Vertex.{Vertex}
use Rattle.pj_change.specs.declared.change.Record.{Record}
use Rattle.pj_change.specs.FileText.{IsLiveList, AreAlike, LeastPointBelow, IsClass, AreClasses}
use Rattle.pj_change.specs.Graph.{vertex_cmp}
use Rattle.pj_change.specs.Lawful.{IsLawful}
use Rattle.pj_change.proofs.Decided.{Known, known_both, known_not, known_some}
use Rattle.pj_change.proofs.LawfulLists.{set_of}
use Rattle.pj_change.proofs.Listings.{IsRelated, not_both}
use Rattle.pj_change.proofs.Members.{uncons, first_member, later_member, no_member, same_member, from_each, each}
use Rattle.pj_change.proofs.OneVertex.{vertices_tied}
use Rattle.pj_change.proofs.Orders.{vertex_total}
use Rattle.pj_change.proofs.PickedMembers.{passed, kept, image, mapped}
use Rattle.pj_answers.proofs.LiveTexts.{known_alike, alike_back, alike_on}
use Rattle.pj_answers.proofs.Tests.{holds, it_holds, so_holds, known_below_by, pairs_from}

-- a sorted list, each member with the later ones
pub related : (xs : List Vertex) → IsStrictlySortedBy vertex_cmp xs → IsRelated (λ u v. vertex_cmp u v ≡ Less) xs
unfolding IsStrictlySortedBy
related [] s = tt
related (x ∷ xs) s = (λ y m. each (λ y. vertex_cmp x y ≡ Less) xs s.0 y m, related xs s.1)

module _ (S : List Record) (lawful : IsLawful S) (inode : Point) (live : List Vertex) (live_are : IsLiveList S inode live) where
  -- ---- the members of one class

  -- alike, and later in the order
  abbrev pub IsLater : Vertex → Vertex → Type 0
  IsLater u v = AreAlike S u v × (vertex_cmp u v ≡ Less)

  -- whether a vertex is alike and later
  pub known_later : (u v : Vertex) → Known (IsLater u v)
  known_later u v = known_both (known_alike S u v) (known_below_by (vertex_cmp u v))

  -- that, as a test
  abbrev pub is_later : Vertex → Vertex → Bool
  is_later u v = holds (known_later u v)

  -- a vertex, and those alike that are behind it
  abbrev pub class_of : Vertex → List Vertex
  class_of u = u ∷ filter (is_later u) live

  -- none that is alike is before it in the list
  abbrev pub IsFirst : Vertex → Type 0
  IsFirst u = ((v : Vertex) × Contains live v × (AreAlike S u v × (vertex_cmp v u ≡ Less))) → ⊥

  -- whether a vertex is the first of its class
  pub known_first : (u : Vertex) → Known (IsFirst u)
  known_first u = known_not (known_some (λ v. AreAlike S u v × (vertex_cmp v u ≡ Less)) live
      (λ v. known_both (known_alike S u v) (known_below_by (vertex_cmp v u))))

  -- that, as a test
  abbrev pub is_first : Vertex → Bool
  is_first u = holds (known_first u)

  -- the first vertex of each class
  abbrev pub firsts : List Vertex
  firsts = filter is_first live

  -- a first vertex is live
  pub first_live : (u : Vertex) → Contains firsts u → Contains live u
  first_live u m = (let h = passed is_first live u m in h.member)

  -- and none that is alike is before it
  first_is : (u : Vertex) → Contains firsts u → IsFirst u
  first_is u m = (let h = passed is_first live u m in it_holds (known_first u) h.passes)

  module _ (u : Vertex) (u_in : Contains firsts u) where
    -- a member of a class is live, and like its first
    member_is : (v : Vertex) → Contains (class_of u) v → Contains live v × AreAlike S u v
    member_is v m = elim (uncons u (filter (is_later u) live) v m) [
      | inl e ↦ (same_member live e (first_live u u_in), inl e)
      | inr n ↦ (let h = passed (is_later u) live v n in (h.member, (it_holds (known_later u v) h.passes).0))
    ]

    -- what is live and like the first is a member
    is_member : (v : Vertex) → Contains live v → AreAlike S u v → Contains (class_of u) v
    is_member v m a = by (vertex_cmp u v) refl
      where
        by : (o : Ordering) → vertex_cmp u v ≡ o → Contains (class_of u) v
        by Less e = later_member u (filter (is_later u) live) v (kept (is_later u) live v m (so_holds (known_later u v) (a, e)))
        by Equal e =
            let x = live_are.only u (first_live u u_in) in
            let y = live_are.only v m in
            same_member (class_of u) (vertices_tied S (set_of S lawful) u v x.live.vertex y.live.vertex e) (first_member u (filter (is_later u) live))
        by Greater e = absurd (first_is u u_in (v, m, (a, vertex_total.antisymm v u ∙ ap ordering_reverse e)))

    -- a class is in order
    class_sorted : IsStrictlySortedBy vertex_cmp (class_of u)
    unfolding IsStrictlySortedBy
    class_sorted = (
      from_each (λ v. vertex_cmp u v ≡ Less) (filter (is_later u) live)
          (λ v m. (let h = passed (is_later u) live v m in (it_holds (known_later u v) h.passes).1)),
      IsStrictlySortedBy-filter vertex_cmp (is_later u) live live_are.sorted,
    )

    -- it is a class of what is live
    class_is : IsClass S live (class_of u)
    class_is = record {
      nonempty = omega arith;
      sorted = class_sorted;
      among = λ v m. (member_is v m).0;
      alike = λ v w v_in w_in. (
        (λ m. alike_on S v u w (alike_back S u v (member_is v v_in).1) (member_is w m).1),
        (λ a. is_member w w_in (alike_on S u v w (member_is v v_in).1 a)),
      );
    }

  -- ---- all classes

  -- the class of each first vertex
  abbrev pub classes : List (List Vertex)
  classes = map class_of firsts

  -- of what is live and alike, one is the first
  first_alike : (v : Vertex) (xs : List Vertex) → IsRelated (λ a b. vertex_cmp a b ≡ Less) xs → Contains xs v →
      (u : Vertex) × Contains xs u × (AreAlike S u v × ((w : Vertex) → Contains xs w → AreAlike S u w → vertex_cmp w u ≡ Less → ⊥))
  first_alike v [] s m = absurd (no_member v m)
  first_alike v (x ∷ xs) s m = by (known_alike S x v) (λ n. first_alike v xs s.1 n)
    where
      by : Known (AreAlike S x v) → (Contains xs v → (u : Vertex) × Contains xs u ×
          (AreAlike S u v × ((w : Vertex) → Contains xs w → AreAlike S u w → vertex_cmp w u ≡ Less → ⊥))) →
          (u : Vertex) × Contains (x ∷ xs) u × (AreAlike S u v × ((w : Vertex) → Contains (x ∷ xs) w → AreAlike S u w → vertex_cmp w u ≡ Less → ⊥))
      by (inl a) rest = (
        x,
        first_member x xs,
        (
          a,
          λ w n b l. elim (uncons x xs w n) [
            | inl e ↦ not_both vertex_cmp vertex_total x x (subst (λ y. vertex_cmp y x ≡ Less) (sym e) l) (subst (λ y. vertex_cmp y x ≡ Less) (sym e) l)
            | inr k ↦ not_both vertex_cmp vertex_total x w (s.0 w k) l
          ],
        ),
      )
      by (inr apart) rest = elim (uncons x xs v m) [
        | inl e ↦ absurd (apart (inl e))
        | inr n ↦ (let r = rest n in (
          r.0,
          later_member x xs r.0 r.1,
          (
            r.2.0,
            λ w k b l. elim (uncons x xs w k) [
              | inl e ↦ absurd (apart (alike_on S x r.0 v (subst (λ y. AreAlike S y r.0) (sym e) (alike_back S r.0 w b)) r.2.0))
              | inr j ↦ r.2.1 w j b l
            ],
          ),
        ))
      ]

  -- each live vertex is in a class
  classes_all : (v : Vertex) → Contains live v → Any (λ class. Contains class v) classes
  classes_all v m =
      let f = first_alike v live (related live live_are.sorted) m in
      let u = f.0 in
      let u_in : Contains firsts u = kept is_first live u f.1 (so_holds (known_first u) (λ h. f.2.1 h.0 h.1 h.2.0 h.2.1)) in
      let c = mapped class_of firsts u u_in in
      (c.0, class_of u, c.1, c.2, is_member u u_in v m f.2.0)

  -- classes rise with their first vertices
  rising : (xs : List Vertex) → IsRelated (λ a b. vertex_cmp a b ≡ Less) xs → IsRelated LeastPointBelow (map class_of xs)
  rising [] s = tt
  rising (x ∷ xs) s = ((λ c m. (let k = image class_of xs c m in subst (LeastPointBelow (class_of x)) k.is (s.0 k.it k.member))), rising xs s.1)

  -- they are the classes of what is live
  pub classes_are : AreClasses S live classes
  classes_are = record {
    each = All-from_recursion (IsClass S live) classes
        (from_each (IsClass S live) classes (λ c m. (let k = image class_of firsts c m in subst (IsClass S live) k.is (class_is k.it k.member))));
    all = classes_all;
    rising = pairs_from LeastPointBelow classes (rising firsts (related firsts (IsStrictlySortedBy-filter vertex_cmp is_first live live_are.sorted)));
  }
