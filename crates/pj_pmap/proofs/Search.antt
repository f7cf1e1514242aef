-- What a binary search by key finds in a list that rises.
use Rattle.std.proofs.Common.{Bor, ◌≡◌, ℕ, zero, suc, ◌+◌, ◌<◌, ◌≤◌, List, [], ◌∷◌, length, get_or, take, drop, map, sym, ap, ◌∙◌, arith, add-one}
use Rattle.std.specs.Cmp.{IsTotalOrder}
use Rattle.std.specs.Fn.{Called, ComputesKey, ReturnsEach, Mut}
use Rattle.std.specs.Ordering.{is_lt, ordering_index}
use Rattle.std.specs.List.Sorted.{IsSortedBy, IsNonDecreasingBy, IsPartitionPoint}
use Rattle.std.specs.declared.cmp.Ordering.{Ordering}
use Rattle.std.specs.declared.cmp.Ordering.TheVariants.{Less, Equal, Greater}
use Rattle.std.proofs.lemmas.Cmp.{alike_right, tied_back}
use Rattle.std.proofs.lemmas.List.{get_or-map, take-map, drop-map, length-map}
use Rattle.std.proofs.lemmas.List.Sorted.{searchable_from_sorted}
use native.Mathlib.Numerals.{unary_clauses}
use Rattle.pj_pmap.specs.Pairs.{AllAbove, AllBelow, IsRising, IsPlace, shown_pair}
use Rattle.pj_pmap.proofs.Order.{greater_back, less_back}
use Rattle.pj_pmap.proofs.Rising

-- a closure that gives the key of each element, and stays as it is
pub computes_key : {F X R : Type 0} (g : Mut F (Bor X × Unit {0}) R) (key : X → R) (f : F) → ((a : Bor X × Unit {0}) (r : R) (f' : F) → Called g f a r f' → (r ≡ key a.0.now) × (f' ≡ f)) → ComputesKey g key f
computes_key {F} {X} {R} g key f step = record { at = each }
  where
    each : (xs : List (Bor X × Unit {0})) → ReturnsEach g (λ a r. r ≡ key a.0.now) f xs
    each [] = tt
    each (a ∷ xs) = λ r f' called. let s = step a r f' called in (s.0, rw (s.1) (each xs))

module _ {K V : Type 0} {cmp : K → K → Ordering} (order : IsTotalOrder cmp) where
  open_above : (k : K) (es : List (K × V)) (i : ℕ) (d : K × V) → AllAbove cmp k es → i < length es → cmp k (get_or es i d).0 ≡ Less
  open_above k [] i d h l = absurd (omega arith)
  open_above k (e ∷ es) zero d h l = h.0
  open_above k (e ∷ es) (suc i) d h l = open_above k es i d h.1 (omega arith)

  IsSorted-rising : (es : List (K × V)) → IsRising cmp es → IsSortedBy (λ a b. is_lt (cmp a.0 b.0)) es
  IsSorted-rising [] h i d l m = absurd (omega arith)
  IsSorted-rising (e ∷ []) h i d l m = absurd (omega arith)
  IsSorted-rising (e ∷ f ∷ es) h zero d l m = ap is_lt (greater_back order e.0 f.0 h.0.0)
  IsSorted-rising (e ∷ f ∷ es) h (suc i) d l m = simp unary_clauses (simp unary_clauses at (IsSorted-rising (f ∷ es) h.1 i d (omega arith) (omega arith)))

  -- the premise of a binary search's clause
  pub searchable : (k : K) (es : List (K × V)) → IsRising cmp es → IsNonDecreasingBy (λ e. ordering_index (cmp e.0 k)) es
  searchable k es h = searchable_from_sorted order (λ e. e.0) es k (IsSorted-rising es h)

  above_found : (k : K) (es : List (K × V)) (i : ℕ) → IsRising cmp es → i < length es → ((d : K × V) → cmp (get_or es i d).0 k ≡ Equal) → AllAbove cmp k (drop (suc i) es)
  above_found k [] i h l same = absurd (omega arith)
  above_found k (e ∷ es) zero h l same = Rising.AllAbove-same cmp order k e.0 es (tied_back order e.0 k (same e)) h.0
  above_found k (e ∷ es) (suc i) h l same = above_found k es i h.1 (omega arith) same

  below_found : (k : K) (es : List (K × V)) (i : ℕ) → IsRising cmp es → i < length es → ((d : K × V) → cmp (get_or es i d).0 k ≡ Equal) → AllBelow cmp k (take i es)
  below_found k [] i h l same = absurd (omega arith)
  below_found k (e ∷ es) zero h l same = tt
  below_found k (e ∷ es) (suc i) h l same = (greater_back order e.0 k (sym (alike_right order _ _ e.0 (same e)) ∙ open_above e.0 es i e h.0 (omega arith)), below_found k es i h.1 (omega arith) same)

  pub place_found : (k : K) (es : List (K × V)) (i : ℕ) → IsRising cmp es → i < length es → ((d : K × V) → cmp (get_or es i d).0 k ≡ Equal) → IsPlace cmp k es i (i + 1)
  place_found k es i h l same = record {
    ordered = omega arith;
    within = omega arith;
    below = below_found k es i h l same;
    above = rw add-one (above_found k es i h l same);
    one = λ _. omega arith;
    same = λ d _. tied_back order _ k (same d);
  }

  below_all : (k : K) (es : List (K × V)) (i : ℕ) → ((j : ℕ) (d : K × V) → 0 ≤ j → j < i → cmp (get_or es j d).0 k ≡ Less) → AllBelow cmp k (take i es)
  below_all k [] zero h = tt
  below_all k [] (suc i) h = tt
  below_all k (e ∷ es) zero h = tt
  below_all k (e ∷ es) (suc i) h = (greater_back order e.0 k (h 0 e (omega arith) (omega arith)), below_all k es i (λ j d l m. h (suc j) d (omega arith) (omega arith)))

  above_all : (k : K) (es : List (K × V)) (i : ℕ) → ((j : ℕ) (d : K × V) → i ≤ j → j < length es → cmp (get_or es j d).0 k ≡ Greater) → AllAbove cmp k (drop i es)
  above_all k [] zero h = tt
  above_all k [] (suc i) h = tt
  above_all k (e ∷ es) zero h = (less_back order e.0 k (h 0 e (omega arith) (omega arith)), above_all k es 0 (λ j d l m. h (suc j) d (omega arith) (omega arith)))
  above_all k (e ∷ es) (suc i) h = above_all k es i (λ j d l m. h (suc j) d (omega arith) (omega arith))

  pub place_absent : (k : K) (es : List (K × V)) (i : ℕ) → i ≤ length es → IsPartitionPoint (λ e. cmp e.0 k ≡ Less) (λ e. cmp e.0 k ≡ Greater) es i → IsPlace cmp k es i i
  place_absent k es i l h = record {
    ordered = omega arith;
    within = l;
    below = below_all k es i h.0;
    above = above_all k es i h.1;
    one = λ m. absurd (omega arith);
    same = λ d m. absurd (omega arith);
  }

-- ---- what is shown of the pairs has their keys

module _ {K V : Type 0} (cmp : K → K → Ordering) (shown : V → V) where
  AllAbove-shown : (k : K) (es : List (K × V)) → AllAbove cmp k es → AllAbove cmp k (map (shown_pair shown) es)
  AllAbove-shown k [] h = tt
  AllAbove-shown k (e ∷ es) h = (h.0, AllAbove-shown k es h.1)

  AllAbove-of_shown : (k : K) (es : List (K × V)) → AllAbove cmp k (map (shown_pair shown) es) → AllAbove cmp k es
  AllAbove-of_shown k [] h = tt
  AllAbove-of_shown k (e ∷ es) h = (h.0, AllAbove-of_shown k es h.1)

  AllBelow-shown : (k : K) (es : List (K × V)) → AllBelow cmp k es → AllBelow cmp k (map (shown_pair shown) es)
  AllBelow-shown k [] h = tt
  AllBelow-shown k (e ∷ es) h = (h.0, AllBelow-shown k es h.1)

  pub IsRising-of_shown : (es : List (K × V)) → IsRising cmp (map (shown_pair shown) es) → IsRising cmp es
  IsRising-of_shown [] h = tt
  IsRising-of_shown (e ∷ es) h = (AllAbove-of_shown e.0 es h.0, IsRising-of_shown es h.1)

  pub place_shown : (k : K) (es : List (K × V)) (start end : ℕ) → IsPlace cmp k es start end → IsPlace cmp k (map (shown_pair shown) es) start end
  place_shown k es start end p = record {
    ordered = p.ordered;
    within = simp length-map p.within;
    below = rw (take-map (shown_pair shown) start es) (AllBelow-shown k (take start es) p.below);
    above = rw (drop-map (shown_pair shown) end es) (AllAbove-shown k (drop end es) p.above);
    one = p.one;
    same = λ d l. rw (get_or-map (shown_pair shown) es start d d (let w = p.within in omega arith)) (p.same d l);
  }
