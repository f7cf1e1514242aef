-- The layout of a set of classes, from the linked sets that a search finds in it and their layouts.
use Rattle.std.proofs.Common.{◌≡◌, ℕ, suc, ◌+◌, ◌<◌, ◌≤◌, Bool, List, [], ◌∷◌, ◌++◌, length, get_or, take, map, slice_index, refl, sym, ◌∙◌, ap, subst, arith, Vec, Global}
use Rattle.std.specs.Prelude.{All, AllPairs, Contains, ◌⊎◌, ◌↔◌}
use Rattle.std.specs.Ordering.{nat_cmp}
use Rattle.std.specs.List.Sorted.{IsStrictlySortedBy, IsPermutation, IsNonDecreasingBy}
use Rattle.std.proofs.lemmas.List.{get_or-map, length-map, map_more, map_push}
use Rattle.std.proofs.lemmas.List.Sorted.{Contains-permutation, IsPermutation-sym}
use Rattle.pj_change.specs.Layout.{Shape, Shapes, IsLinked, AreLinkedSets, AreUnordered, AreOrdered, AllBefore, IsTangle, IsLayout, AreLayouts}
use Rattle.pj_change.specs.Layout as shapes
use Rattle.pj_layout.specs.declared.layout.Layout.{Layout, Series, Sides, Tangle}
use Rattle.pj_layout.specs.Orders.{Before, IsPrepared}
use Rattle.pj_layout.specs.Parts.{ArePartsOf}
use Rattle.pj_layout.specs.Shapes.{shape, shapes_of}
use Rattle.pj_layout.proofs.Shapes.{series_shape, sides_shape, tangle_shape}
use Rattle.pj_layout.proofs.MadeOfParts.{all_parts, several_parts, linked_by_one_part}
use Rattle.pj_layout.proofs.RisingParts.{parts_rise, least_rise}

-- the classes of each of some sets
abbrev pub classes_of : List (Vec ℕ Global) → List (List ℕ)
classes_of = map (λ set. set.items)

-- ---- what a search found

all_of_map : {A B : Type 0} (f : A → B) (P : B → Type 0) (xs : List A) → All P (map f xs) → All (λ x. P (f x)) xs
all_of_map f P xs each k d lt = subst P (get_or-map f xs k d (f d) lt) (each k (f d) (omega (arith, lt, length-map xs f)))

module _ (link : ℕ → ℕ → Type 0) (xs : List ℕ) (parts : List (Vec ℕ Global)) (found : ArePartsOf link xs (classes_of parts)) where
  pub parts_sorted : All (λ part. IsStrictlySortedBy nat_cmp part.items) parts
  parts_sorted = all_of_map (λ (part : Vec ℕ Global). part.items) (IsStrictlySortedBy nat_cmp) parts found.sorted

  pub parts_inside : (P : ℕ → Type 0) → All P xs → All (λ part. All P part.items) parts
  parts_inside P each = all_of_map (λ (part : Vec ℕ Global). part.items) (All P) parts (all_parts link xs xs (classes_of parts) (λ x. ((λ m. m), (λ m. m))) found P each)

same_members : (X xs : List ℕ) → IsPermutation X xs → (x : ℕ) → Contains X x ↔ Contains xs x
same_members X xs same x = (Contains-permutation X xs x same, Contains-permutation xs X x (IsPermutation-sym X xs same))

-- with no more than one part, links join each two classes
pub linked_as_one : (X : List ℕ) (link : ℕ → ℕ → Type 0) (xs : List ℕ) (parts : List (Vec ℕ Global)) → IsPermutation X xs → ArePartsOf link xs (classes_of parts) → length parts ≤ 1 → IsLinked link X
linked_as_one X link xs parts same found single = linked_by_one_part link X xs (classes_of parts) (same_members X xs same) found (omega (arith, single, length-map parts (λ (part : Vec ℕ Global). part.items)))

-- ---- layouts in a row

module _ (before : ℕ → ℕ → Type 0) (depth : ℕ) where
  layouts_and_one : (parts : List (List ℕ)) (ss : List Shape) (part : List ℕ) (s : Shape) → AreLayouts before depth parts (shapes_of ss) → IsLayout before depth part s → AreLayouts before depth (parts ++ part ∷ []) (shapes_of (ss ++ s ∷ []))
  layouts_and_one parts [] part s each laid = (part, [], ap (λ l. l ++ part ∷ []) each, laid, refl)
  layouts_and_one parts (z ∷ ss) part s each laid = (each.0, each.1 ++ part ∷ [], ap (λ l. l ++ part ∷ []) each.2, each.3, layouts_and_one each.1 ss part s each.4 laid)

  -- the layouts of the first sets, and that of the next one
  pub layouts_more : (sets : List (Vec ℕ Global)) (i : ℕ) (set : Vec ℕ Global) (layouts layouts' : List Layout) (layout : Layout) → i < length sets → set ≡ get_or sets i set → layouts' ≡ layouts ++ layout ∷ [] →
      AreLayouts before depth (classes_of (take i sets)) (shapes_of (map shape layouts)) → IsLayout before depth set.items (shape layout) → AreLayouts before depth (classes_of (take (i + 1) sets)) (shapes_of (map shape layouts'))
  layouts_more sets i set layouts layouts' layout lt at pushed each laid =
      let parts : classes_of (take (i + 1) sets) ≡ classes_of (take i sets) ++ set.items ∷ [] =
      map_more (λ (s : Vec ℕ Global). s.items) sets i set lt ∙ ap (λ (s : Vec ℕ Global). classes_of (take i sets) ++ s.items ∷ []) (sym at) in
      let laid_out : map shape layouts' ≡ map shape layouts ++ shape layout ∷ [] = ap (map shape) pushed ∙ map_push shape layouts layout in
      rw (parts, laid_out) (layouts_and_one (classes_of (take i sets)) (map shape layouts) set.items (shape layout) each laid)

-- ---- the rules

module _ (rows after : List (List Bool)) (ranks : List ℕ) (prepared : IsPrepared rows after ranks) (depth : ℕ) (X : List ℕ) where
  deeper : (parts : List (List ℕ)) (ss : Shapes) → AreLayouts (Before rows) (depth + 1) parts ss → AreLayouts (Before rows) (suc depth) parts ss
  deeper parts ss each = (let next : depth + 1 ≡ suc depth = omega arith in subst (λ n. AreLayouts (Before rows) n parts ss) next each)

  series : (ss : List Shape) (parts : List (List ℕ)) → depth < 64 → AreLinkedSets (AreUnordered (Before rows)) X parts → AllPairs (AllBefore (Before rows)) parts →
      AreLayouts (Before rows) (suc depth) parts (shapes_of ss) → IsLayout (Before rows) depth X (shapes.Series (shapes_of ss))
  series [] parts lt sets rise each = absurd (omega (arith, sets.several, ap length each))
  series (s ∷ ss) parts lt sets rise each = (lt, parts, sets, rise, each)

  -- two or more sets that are linked where there is no order
  pub series_layout : (xs : List ℕ) (parts : List (Vec ℕ Global)) (layouts : Vec Layout Global) → IsPermutation X xs → IsNonDecreasingBy (λ x. slice_index ranks x) xs →
      ArePartsOf (AreUnordered (Before rows)) xs (classes_of parts) → 1 < length parts → depth < 64 →
      AreLayouts (Before rows) (depth + 1) (classes_of parts) (shapes_of (map shape layouts.items)) → IsLayout (Before rows) depth X (shape (Series layouts))
  series_layout xs parts layouts same rising found several lt each =
      subst (IsLayout (Before rows) depth X) (sym (series_shape layouts)) (series (map shape layouts.items) (classes_of parts) lt
      (several_parts (AreUnordered (Before rows)) X xs (classes_of parts) (same_members X xs same) found (omega (arith, several, length-map parts (λ (part : Vec ℕ Global). part.items))))
      (parts_rise rows after ranks prepared xs rising (classes_of parts) found)
      (deeper (classes_of parts) (shapes_of (map shape layouts.items)) each))

  -- else two or more sets that are linked where there is an order
  pub sides_layout : (parts : List (Vec ℕ Global)) (layouts : Vec Layout Global) → IsStrictlySortedBy nat_cmp X → IsLinked (AreUnordered (Before rows)) X →
      ArePartsOf (AreOrdered (Before rows)) X (classes_of parts) → 1 < length parts → depth < 64 →
      AreLayouts (Before rows) (depth + 1) (classes_of parts) (shapes_of (map shape layouts.items)) → IsLayout (Before rows) depth X (shape (Sides layouts))
  sides_layout parts layouts sorted linked found several lt each =
      subst (IsLayout (Before rows) depth X) (sym (sides_shape layouts)) (
        lt,
        linked,
        classes_of parts,
        several_parts (AreOrdered (Before rows)) X X (classes_of parts) (λ x. ((λ m. m), (λ m. m))) found (omega (arith, several, length-map parts (λ (part : Vec ℕ Global). part.items))),
        least_rise (AreOrdered (Before rows)) X sorted (classes_of parts) found,
        deeper (classes_of parts) (shapes_of (map shape layouts.items)) each,
      )

  -- else a tangle
  pub tangle_layout : (taken : Vec ℕ Global) → 2 ≤ length X → (depth ≡ 64) ⊎ ((depth < 64) × IsLinked (AreUnordered (Before rows)) X × IsLinked (AreOrdered (Before rows)) X) →
      IsTangle (Before rows) X taken.items → IsLayout (Before rows) depth X (shape (Tangle taken))
  tangle_layout taken several why is = subst (IsLayout (Before rows) depth X) (sym (tangle_shape taken)) (several, why, is)
