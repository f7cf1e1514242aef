-- The places of vertices among those that pass a test.
use Rattle.std.proofs.Common.{◌≡◌, ℕ, zero, suc, ◌+◌, ◌<◌, ◌≤◌, Bool, true, false, not, List, [], ◌∷◌, ◌++◌, length, take, get_or, filter, refl, sym, ◌∙◌, ap, subst, inl, inr, arith, length-append}
use Rattle.std.specs.Prelude.{IsTrue, Option, Some, None, MatchOption, slice_get}
use Rattle.std.proofs.Math.Nat.{add-zero}
use Rattle.std.proofs.lemmas.Option.{same_Some, none-some, some_pair_parts, get_or_from_slice_get}
use Rattle.std.proofs.lemmas.List.Elements.{filter-append}
use Rattle.std.proofs.lemmas.List.Filters.{length-filter_both}
use Rattle.pj_change.specs.declared.graph.Vertex.{Vertex}
use Rattle.pj_plain.specs.Links.{ArePlaces, both, placed_pair}
use Rattle.pj_change.specs.Gathers.{Gathers}
use Rattle.pj_change.proofs.Gathering.{gathers_none, gathers_one}
use Rattle.pj_change.proofs.TakenLists.{taken_more}
use Rattle.pj_change.proofs.ListNumbers.{at_front, at_end, front_or_end}

module _ (test : Vertex → Bool) where
  module _ (xs : List Vertex) (ps : List (Option ℕ)) (v : Vertex) (are : ArePlaces test xs ps) where
    one_more : (o : Option ℕ) → length (ps ++ o ∷ []) ≡ length (xs ++ v ∷ [])
    one_more o = grind (arith, length-append, are.size)

    filtered : filter test (xs ++ v ∷ []) ≡ filter test xs ++ filter test (v ∷ [])
    filtered = filter-append test xs (v ∷ [])

    abbrev IsAt : ℕ → ℕ → Type 0
    IsAt a i = (w : Vertex) × (slice_get (xs ++ v ∷ []) a ≡ Some w) × (slice_get (filter test (xs ++ v ∷ [])) i ≡ Some w)

    earlier : (a i : ℕ) → slice_get ps a ≡ Some (Some i) → IsAt a i
    earlier a i e =
        let h = are.is_at a i e in
        (h.0, at_front xs (v ∷ []) a h.0 h.1, subst (λ l. slice_get l i ≡ Some h.0) (sym filtered) (at_front (filter test xs) (filter test (v ∷ [])) i h.0 h.2))

    last_at : (a : ℕ) → a ≡ length ps → slice_get (xs ++ v ∷ []) a ≡ Some v
    last_at a e = ap (slice_get (xs ++ v ∷ [])) (e ∙ are.size) ∙ at_end xs v

    pub place_added : IsTrue (test v) → ArePlaces test (xs ++ v ∷ []) (ps ++ Some (length (filter test xs)) ∷ [])
    place_added t = record { size = one_more place; is_at = is_at; has_one = has_one }
      where
        place : Option ℕ
        place = Some (length (filter test xs))

        kept : filter test (v ∷ []) ≡ v ∷ []
        kept = rw t refl

        is_at : (a i : ℕ) → slice_get (ps ++ place ∷ []) a ≡ Some (Some i) → IsAt a i
        is_at a i e = elim (front_or_end ps place a (Some i) e) [
          | inl k ↦ earlier a i k
          | inr k ↦ (
            v,
            last_at a k.0,
            ap (λ l. slice_get l i) (filtered ∙ ap (λ l. filter test xs ++ l) kept) ∙ ap (slice_get (filter test xs ++ v ∷ [])) (sym (same_Some (length (filter test xs)) i k.1)) ∙ at_end (filter test xs) v,
          )
        ]

        has_one : (a : ℕ) (w : Vertex) → slice_get (xs ++ v ∷ []) a ≡ Some w → IsTrue (test w) → (i : ℕ) × (slice_get (ps ++ place ∷ []) a ≡ Some (Some i))
        has_one a w e u = elim (front_or_end xs v a w e) [
          | inl k ↦ (let h = are.has_one a w k u in (h.0, at_front ps (place ∷ []) a (Some h.0) h.1))
          | inr k ↦ (length (filter test xs), ap (slice_get (ps ++ place ∷ [])) (k.0 ∙ sym are.size) ∙ at_end ps place)
        ]

    pub place_left_out : test v ≡ false → ArePlaces test (xs ++ v ∷ []) (ps ++ None ∷ [])
    place_left_out t = record { size = one_more None; is_at = is_at; has_one = has_one }
      where
        is_at : (a i : ℕ) → slice_get (ps ++ None ∷ []) a ≡ Some (Some i) → IsAt a i
        is_at a i e = elim (front_or_end ps None a (Some i) e) [ inl k ↦ earlier a i k | inr k ↦ absurd (none-some i k.1) ]

        has_one : (a : ℕ) (w : Vertex) → slice_get (xs ++ v ∷ []) a ≡ Some w → IsTrue (test w) → (i : ℕ) × (slice_get (ps ++ None ∷ []) a ≡ Some (Some i))
        has_one a w e u = elim (front_or_end xs v a w e) [
          | inl k ↦ (let h = are.has_one a w k u in (h.0, at_front ps (None ∷ []) a (Some h.0) h.1))
          | inr k ↦ absurd (let f : test w ≡ false = ap test (sym k.1) ∙ t in cc)
        ]

-- ---- one vertex after the other

-- the places of the first vertices, and how many of these pass
pub record Placed (test : Vertex → Bool) (vs : List Vertex) (i count : ℕ) (places : List (Option ℕ)) : Type 0 where
  pub count_is : count ≡ length (filter test (take i vs))
  pub are : ArePlaces test (take i vs) places

module _ (test : Vertex → Bool) (vs : List Vertex) (i : ℕ) (v : Vertex) (low : i < length vs) (is : v ≡ get_or vs i v) (count : ℕ) (places : List (Option ℕ)) (before : Placed test vs i count places) where
  more : take (i + 1) vs ≡ take i vs ++ v ∷ []
  more = taken_more vs i v low is

  counted : (list : List Vertex) → filter test (v ∷ []) ≡ list → length (filter test (take (i + 1) vs)) ≡ count + length list
  counted list e =
      ap (λ l. length (filter test l)) more ∙ ap (length {A = Vertex}) (filter-append test (take i vs) (v ∷ []) ∙ ap (λ l. filter test (take i vs) ++ l) e)
      ∙ length-append (filter test (take i vs)) list ∙ ap (λ n. n + length list) (sym before.count_is)

  one_kept : test v ≡ true → filter test (v ∷ []) ≡ v ∷ []
  one_kept t = rw t refl

  none_kept : test v ≡ false → filter test (v ∷ []) ≡ []
  none_kept t = rw t refl

  pub one_placed : test v ≡ true → Placed test vs (i + 1) (count + 1) (places ++ Some count ∷ [])
  one_placed t = record {
    count_is = sym (counted (v ∷ []) (one_kept t));
    are = subst (λ l. ArePlaces test l (places ++ Some count ∷ [])) (sym more)
        (subst (λ n. ArePlaces test (take i vs ++ v ∷ []) (places ++ Some n ∷ [])) (sym before.count_is) (place_added test (take i vs) places v before.are t));
  }

  pub one_left_out : test v ≡ false → Placed test vs (i + 1) count (places ++ None ∷ [])
  one_left_out t = record {
    count_is = sym (counted [] (none_kept t) ∙ add-zero count);
    are = subst (λ l. ArePlaces test l (places ++ None ∷ [])) (sym more) (place_left_out test (take i vs) places v before.are t);
  }

-- no more pass than there are
pub count_low : (test : Vertex → Bool) (vs : List Vertex) → length (filter test vs) ≤ length vs
count_low test vs = omega (arith, length-filter_both test (λ v. not (test v)) (λ v. refl) vs)

-- ---- the places of a pair

place_there : (places : List (Option ℕ)) (a i : ℕ) → get_or places a None ≡ Some i → slice_get places a ≡ Some (Some i)
place_there [] a i e = absurd (none-some i e)
place_there (o ∷ places) zero i e = ap Some e
place_there (o ∷ places) (suc a) i e = place_there places a i e

both_parts : (o p : Option ℕ) (i j : ℕ) → both o p ≡ Some (i, j) → (o ≡ Some i) × (p ≡ Some j)
both_parts (Some k) (Some l) i j e = (let h = some_pair_parts k i l j e in (ap Some h.0, ap Some h.1))
both_parts (Some k) None i j e = absurd (none-some (i, j) e)
both_parts None p i j e = absurd (none-some (i, j) e)

-- both numbers have the places
pub places_there : (places : List (Option ℕ)) (a b i j : ℕ) → placed_pair places a b ≡ Some (i, j) → (slice_get places a ≡ Some (Some i)) × (slice_get places b ≡ Some (Some j))
places_there places a b i j e =
    let h = both_parts (get_or places a None) (get_or places b None) i j e in
    (place_there places a i h.0, place_there places b j h.1)

pub there_placed : (places : List (Option ℕ)) (a b i j : ℕ) → slice_get places a ≡ Some (Some i) → slice_get places b ≡ Some (Some j) → placed_pair places a b ≡ Some (i, j)
there_placed places a b i j e f = rw (get_or_from_slice_get places a (Some i) None e, get_or_from_slice_get places b (Some j) None f) refl

-- the pair was added, if there is one
pub pair_added : (pair : Option (ℕ × ℕ)) (old new : List (ℕ × ℕ)) → MatchOption pair (new ≡ old) (λ one. new ≡ old ++ one ∷ []) → Gathers (λ x. pair ≡ Some x) old new
pair_added None old new same = subst (Gathers (λ x. None ≡ Some x) old) (sym same) (gathers_none (λ x. None ≡ Some x) old (λ x h. none-some x h))
pair_added (Some one) old new e = gathers_one (λ x. Some one ≡ Some x) one old new e refl (λ x h. sym (same_Some one x h))
