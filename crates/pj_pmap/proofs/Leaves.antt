-- The pairs of a leaf that is put together of parts of another's.
use Rattle.std.proofs.Common.{Bool, true, false, ◌≡◌, ℕ, suc, ◌+◌, ◌<◌, ◌≤◌, List, [], ◌∷◌, ◌++◌, length, map, set, take, drop, refl, sym, ap, ◌∙◌, arith}
use Rattle.std.specs.declared.cmp.Ordering.{Ordering}
use Rattle.std.proofs.lemmas.List.{take-append-drop, take-set, drop-set, map-append, length-map, length-append, length-take, length-drop, nil_from_length}
use Rattle.std.specs.Bool.{◌==◌, IsTrue}
use Rattle.std.proofs.lemmas.Bool.Decides.{nat_tests}
use Rattle.pj_pmap.specs.Pairs.{IsPlace, IsRising, shown_pair, with_pair, without_key}
use Rattle.pj_pmap.specs.Nodes.{IsNode}
use Rattle.pj_pmap.proofs.Places.{with_shown, without_shown}
use Rattle.pj_pmap.proofs.Rising

-- a new element in place of the one between two places
pub set_between : {X : Type 0} (xs : List X) (start end : ℕ) (x : X) → start < end → end ≤ length xs → end ≡ suc start → set xs start x ≡ take start xs ++ x ∷ drop end xs
set_between {X} xs start end x l within one =
    let next : start + 1 ≡ end = omega arith in
    sym (take-append-drop start (set xs start x))
    ∙ ap (λ (ys : List X). ys ++ drop start (set xs start x)) (take-set xs start x)
    ∙ ap (λ (ys : List X). take start xs ++ ys) (drop-set xs start x (omega arith) ∙ ap (λ (n : ℕ). x ∷ drop n xs) next)

-- as many elements are added as are shown to be
pub length_added : {X : Type 0} (f : X → X) (old new add : List X) → map f new ≡ map f old ++ map f add → length new ≡ length old + length add
length_added f old new add h =
    sym (length-map new f) ∙ ap length h ∙ length-append (map f old) (map f add) ∙ simp length-map

-- what the test of an empty list says of its length
pub empty_is : {b : Bool} {n m : ℕ} → b ≡ (n == 0) → b ≡ true → n ≡ m → m ≡ 0
empty_is is empty same = grind (arith, nat_tests)

pub full_is : {b : Bool} {n m : ℕ} → b ≡ (n == 0) → b ≡ false → n ≡ m → 0 < m
full_is is full same = grind (arith, nat_tests)

pub is_empty_list : {X : Type 0} (n : ℕ) (xs : List X) → n ≡ length xs → (IsTrue (n == 0) → xs ≡ []) × (xs ≡ [] → IsTrue (n == 0))
is_empty_list n xs same = (
  λ t. nil_from_length xs (grind (arith, nat_tests)),
  λ e. let zero : n ≡ 0 = same ∙ ap length e in rw zero refl,
)

module _ {K V : Type 0} (cmp : K → K → Ordering) (shown : V → V) where
  -- both parts of a rising list that was cut
  pub parts_shown : (first rest list : List (K × V)) (es : List (K × V)) → first ++ rest ≡ list → map (shown_pair shown) list ≡ es → map (shown_pair shown) first ++ map (shown_pair shown) rest ≡ es
  parts_shown first rest list es cut is = sym (map-append (shown_pair shown) first rest) ∙ ap (map (shown_pair shown)) cut ∙ is

  pub first_rises : (first rest list : List (K × V)) (es : List (K × V)) → first ++ rest ≡ list → map (shown_pair shown) list ≡ es → IsRising cmp es → IsRising cmp (map (shown_pair shown) first)
  first_rises first rest list es cut is rises = Rising.IsRising-left cmp _ (map (shown_pair shown) rest) (rw (parts_shown first rest list es cut is) rises)

  pub rest_rises : (first rest list : List (K × V)) (es : List (K × V)) → first ++ rest ≡ list → map (shown_pair shown) list ≡ es → IsRising cmp es → IsRising cmp (map (shown_pair shown) rest)
  rest_rises first rest list es cut is rises = Rising.IsRising-right cmp (map (shown_pair shown) first) _ (rw (parts_shown first rest list es cut is) rises)

  pub node_shown : (most : ℕ) (es : List (K × V)) → IsNode most es → IsNode most (map (shown_pair shown) es)
  node_shown most es h = record { some = simp length-map h.some; few = simp length-map h.few }

module _ {K V : Type 0} {cmp : K → K → Ordering} {k : K} (shown : V → V) (es : List (K × V)) {start end : ℕ} (place : IsPlace cmp k (map (shown_pair shown) es) start end) where
  pub shown_with : (v : V) (list : List (K × V)) → list ≡ take start es ++ (k, v) ∷ drop end es → map (shown_pair shown) list ≡ with_pair cmp k (shown v) (map (shown_pair shown) es)
  shown_with v list h = ap (map (shown_pair shown)) h ∙ map-append (shown_pair shown) (take start es) ((k, v) ∷ drop end es) ∙ sym (with_shown shown es place (shown v))

  pub shown_without : (list : List (K × V)) → list ≡ take start es ++ drop end es → map (shown_pair shown) list ≡ without_key cmp k (map (shown_pair shown) es)
  shown_without list h = ap (map (shown_pair shown)) h ∙ map-append (shown_pair shown) (take start es) (drop end es) ∙ sym (without_shown shown es place)

  -- no more pairs are left
  pub left_few : (most : ℕ) (list : List (K × V)) → list ≡ take start es ++ drop end es → length es ≤ most → length list ≤ most
  left_few most list h few =
      let within : end ≤ length es = simp length-map at place.within in
      let ordered = place.ordered in
      rw (h, length-append (take start es) (drop end es)) (simp (length-take, length-drop) (omega (arith, few, within, ordered)))
