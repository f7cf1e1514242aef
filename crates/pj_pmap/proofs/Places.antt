-- What the words say of a list in which the place of the key is known.
use Rattle.std.proofs.Common.{◌≡◌, ◌≢◌, ℕ, suc, ◌-◌, ◌<◌, ◌≤◌, false, ◌⊎◌, inl, inr, ⊎_elim, List, [], ◌∷◌, ◌++◌, length, map, get_or, take, drop, Some, None, refl, sym, ap, ◌∙◌, subst, arith}
use Rattle.std.specs.Ordering.{is_lt}
use Rattle.std.specs.declared.cmp.Ordering.{Ordering}
use Rattle.std.specs.declared.cmp.Ordering.TheVariants.{Less, Equal, Greater}
use Rattle.std.specs.Bool.{◌==◌, IsTrue}
use Rattle.std.proofs.lemmas.Bool.{cases_lt, cases_eq, eq-eqb}
use Rattle.std.proofs.lemmas.Bool.Decides.{nat_tests}
use Rattle.std.proofs.lemmas.List.{get_or-map, take-map, drop-map, length-map}
use Rattle.std.proofs.Math.ListN.{take-append-drop}
use Rattle.pj_pmap.specs.Pairs.{shown_pair, AllBelow, IsPlace, value_at, floor_of, rest_after, with_pair, without_key}
use Rattle.pj_pmap.proofs.Cuts
use Rattle.pj_pmap.proofs.Found.{IsFound, found_at}
use Rattle.pj_pmap.proofs.Rising

module _ {K V : Type 0} {cmp : K → K → Ordering} {k : K} {es : List (K × V)} {start end : ℕ} (place : IsPlace cmp k es start end) where
  -- the pairs of the place: none, or the one of the key
  pub middle : (drop start es ≡ drop end es) ⊎ ((p : K × V) × (drop start es ≡ p ∷ drop end es) × (cmp k p.0 ≡ Equal))
  middle = ⊎_elim one none (cases_lt start end)
    where
      found : IsFound es start → start < end → end ≡ suc start → (p : K × V) × (drop start es ≡ p ∷ drop end es) × (cmp k p.0 ≡ Equal)
      found f l e = (f.item, rw e (f.from), subst (λ (q : K × V). cmp k q.0 ≡ Equal) (f.read f.item) (place.same f.item l))

      one : start < end → (drop start es ≡ drop end es) ⊎ ((p : K × V) × (drop start es ≡ p ∷ drop end es) × (cmp k p.0 ≡ Equal))
      one l = let w = place.within in inr (found (found_at es start (omega arith)) l (place.one l))

      none : end ≤ start → (drop start es ≡ drop end es) ⊎ ((p : K × V) × (drop start es ≡ p ∷ drop end es) × (cmp k p.0 ≡ Equal))
      none l = let o = place.ordered in let e : start ≡ end = omega arith in inl (ap (λ (n : ℕ). drop n es) e)

  pub with_place : (v : V) → with_pair cmp k v es ≡ take start es ++ (k, v) ∷ drop end es
  with_place v =
      ap (with_pair cmp k v) (sym (take-append-drop start es))
      ∙ Cuts.with-below cmp k v (take start es) (drop start es) place.below
      ∙ ap (λ (r : List (K × V)). take start es ++ r) (⊎_elim none one middle)
    where
      none : drop start es ≡ drop end es → with_pair cmp k v (drop start es) ≡ (k, v) ∷ drop end es
      none e = rw e (Cuts.with-above cmp k v [] (drop end es) place.above)

      one : (p : K × V) × (drop start es ≡ p ∷ drop end es) × (cmp k p.0 ≡ Equal) → with_pair cmp k v (drop start es) ≡ (k, v) ∷ drop end es
      one (p, e, same) = rw (e, same) refl

  pub without_place : without_key cmp k es ≡ take start es ++ drop end es
  without_place =
      ap (without_key cmp k) (sym (take-append-drop start es))
      ∙ Cuts.without-below cmp k (take start es) (drop start es) place.below
      ∙ ap (λ (r : List (K × V)). take start es ++ r) (⊎_elim none one middle)
    where
      none : drop start es ≡ drop end es → without_key cmp k (drop start es) ≡ drop end es
      none e = rw e (Cuts.without-above cmp k [] (drop end es) place.above)

      one : (p : K × V) × (drop start es ≡ p ∷ drop end es) × (cmp k p.0 ≡ Equal) → without_key cmp k (drop start es) ≡ drop end es
      one (p, e, same) = rw (e, same) refl

  pub rest_place : rest_after cmp k es ≡ drop end es
  rest_place =
      ap (rest_after cmp k) (sym (take-append-drop start es))
      ∙ Cuts.rest-below cmp k (take start es) (drop start es) place.below
      ∙ ⊎_elim none one middle
    where
      none : drop start es ≡ drop end es → rest_after cmp k (drop start es) ≡ drop end es
      none e = rw e (Cuts.rest-above cmp k (drop end es) place.above)

      one : (p : K × V) × (drop start es ≡ p ∷ drop end es) × (cmp k p.0 ≡ Equal) → rest_after cmp k (drop start es) ≡ drop end es
      one (p, e, same) = rw (e, same) refl

  pub value_place_none : start ≡ end → value_at cmp k es ≡ None
  value_place_none e =
      ap (value_at cmp k) (sym (take-append-drop start es))
      ∙ Cuts.value-below cmp k (take start es) (drop start es) place.below
      ∙ ap (λ (n : ℕ). value_at cmp k (drop n es)) e
      ∙ Cuts.value-above cmp k [] (drop end es) place.above

  pub value_place_some : (p : K × V) → start < end → get_or es start p ≡ p → value_at cmp k es ≡ Some p.1
  value_place_some p l read =
      ap (value_at cmp k) (sym (take-append-drop start es))
      ∙ Cuts.value-below cmp k (take start es) (drop start es) place.below
      ∙ (let w = place.within in found (found_at es start (omega arith)))
    where
      found : IsFound es start → value_at cmp k (drop start es) ≡ Some p.1
      found f =
          let same : cmp k p.0 ≡ Equal = subst (λ (q : K × V). cmp k q.0 ≡ Equal) read (place.same p l) in
          rw (f.from, sym (f.read p) ∙ read, same) refl

  pub floor_place_none : end ≡ 0 → floor_of cmp k es ≡ None
  floor_place_none e =
      ap (floor_of cmp k) (sym (take-append-drop end es))
      ∙ Cuts.floor-above cmp k (take end es) (drop end es) place.above
      ∙ ap (λ (n : ℕ). floor_of cmp k (take n es)) e

  -- the last pair before the end is not above the key, and those before it are below
  pub floor_place_some : (p : K × V) (last : ℕ) → suc last ≡ end → get_or es last p ≡ p → floor_of cmp k es ≡ Some p
  floor_place_some p last e read =
      ap (floor_of cmp k) (sym (take-append-drop end es))
      ∙ Cuts.floor-above cmp k (take end es) (drop end es) place.above
      ∙ ap (λ (n : ℕ). floor_of cmp k (take n es)) (sym e)
      ∙ (let w = place.within in found (found_at es last (omega arith)))
    where
      -- where the key stands, it is the last; where it does not, the last is below
      ends : (xs : List (K × V)) → take end es ≡ xs ++ p ∷ [] → take last es ≡ xs → AllBelow cmp k xs × (is_lt (cmp k p.0) ≡ false)
      ends xs cut front = ⊎_elim here absent (cases_lt start end)
        where
          here : start < end → AllBelow cmp k xs × (is_lt (cmp k p.0) ≡ false)
          here l =
              let o = place.one l in
              let s : start ≡ last = omega arith in (
                subst (AllBelow cmp k) (ap (λ (n : ℕ). take n es) s ∙ front) place.below,
                ap is_lt (subst (λ (q : K × V). cmp k q.0 ≡ Equal) read (subst (λ (n : ℕ). cmp k (get_or es n p).0 ≡ Equal) s (place.same p l))),
              )

          absent : end ≤ start → AllBelow cmp k xs × (is_lt (cmp k p.0) ≡ false)
          absent l =
              let o = place.ordered in
              let s : start ≡ end = omega arith in
              let below : AllBelow cmp k (xs ++ p ∷ []) = subst (AllBelow cmp k) (ap (λ (n : ℕ). take n es) s ∙ cut) place.below in
              (Rising.AllBelow-left cmp k xs (p ∷ []) below, ap is_lt ((Rising.AllBelow-right cmp k xs (p ∷ []) below).0))

      single : is_lt (cmp k p.0) ≡ false → floor_of cmp k (p ∷ []) ≡ Some p
      single low = by (cmp k p.0) refl
        where
          by : (c : Ordering) → cmp k p.0 ≡ c → floor_of cmp k (p ∷ []) ≡ Some p
          by Less f = cc (ap is_lt f)
          by Equal f = rw f refl
          by Greater f = rw f refl

      found : IsFound es last → floor_of cmp k (take (suc last) es) ≡ Some p
      found f =
          let is : f.item ≡ p = sym (f.read p) ∙ read in
          let cut : take (suc last) es ≡ take last es ++ p ∷ [] = f.upto ∙ ap (λ (q : K × V). take last es ++ q ∷ []) is in
          let h : AllBelow cmp k (take last es) × (is_lt (cmp k p.0) ≡ false) = ends (take last es) (ap (λ (n : ℕ). take n es) (sym e) ∙ cut) refl in
          rw cut (Cuts.floor-below cmp k (take last es) (p ∷ []) p h.0 (single h.1))

-- ---- the same, read from the pairs themselves

module _ {K V : Type 0} {cmp : K → K → Ordering} {k : K} (shown : V → V) (es : List (K × V)) {start end : ℕ} (place : IsPlace cmp k (map (shown_pair shown) es) start end) where
  read_shown : (p : K × V) (i : ℕ) → i < length es → p ≡ get_or es i p → get_or (map (shown_pair shown) es) i (shown_pair shown p) ≡ shown_pair shown p
  read_shown p i l read = get_or-map (shown_pair shown) es i p (shown_pair shown p) l ∙ ap (shown_pair shown) (sym read)

  pub rest_shown : rest_after cmp k (map (shown_pair shown) es) ≡ map (shown_pair shown) (drop end es)
  rest_shown = rw (← drop-map (shown_pair shown) end es) (rest_place place)

  pub value_none : start ≡ end → value_at cmp k (map (shown_pair shown) es) ≡ None
  value_none = value_place_none place

  pub value_some : (p : K × V) → start ≢ end → p ≡ get_or es start p → value_at cmp k (map (shown_pair shown) es) ≡ Some (shown p.1)
  value_some p ne read =
      let o = place.ordered in
      let w = simp length-map at place.within in
      value_place_some place (shown_pair shown p) (omega arith) (read_shown p start (omega arith) read)

  -- the place is empty exactly where the key has no value
  pub is_new : (IsTrue (start == end) → value_at cmp k (map (shown_pair shown) es) ≡ None) × (value_at cmp k (map (shown_pair shown) es) ≡ None → IsTrue (start == end))
  is_new = (
    λ t. value_none (grind (arith, nat_tests)),
    λ none. ⊎_elim (λ e. eq-eqb start end e) (λ ne. absurd (there none ne)) (cases_eq start end),
  )
    where
      there : value_at cmp k (map (shown_pair shown) es) ≡ None → (start ≡ end → ⊥) → ⊥
      there none ne =
          let o = place.ordered in
          let w = simp length-map at place.within in
          let f = found_at es start (omega (arith, o, w, ne)) in
          let some = value_some f.item ne (sym (f.read f.item)) in
          cc

  pub floor_none : end ≡ 0 → floor_of cmp k (map (shown_pair shown) es) ≡ None
  floor_none = floor_place_none place

  pub floor_some : (p : K × V) → end ≢ 0 → p ≡ get_or es (end - 1) p → floor_of cmp k (map (shown_pair shown) es) ≡ Some (p.0, shown p.1)
  floor_some p ne read =
      let w = simp length-map at place.within in
      floor_place_some place (shown_pair shown p) (end - 1) (omega arith) (read_shown p (end - 1) (omega arith) read)

  -- the pairs before the place, and those after it
  pub with_shown : (v : V) → with_pair cmp k v (map (shown_pair shown) es) ≡ map (shown_pair shown) (take start es) ++ (k, v) ∷ map (shown_pair shown) (drop end es)
  with_shown v = rw (← take-map (shown_pair shown) start es, ← drop-map (shown_pair shown) end es) (with_place place v)

  pub without_shown : without_key cmp k (map (shown_pair shown) es) ≡ map (shown_pair shown) (take start es) ++ map (shown_pair shown) (drop end es)
  without_shown = rw (← take-map (shown_pair shown) start es, ← drop-map (shown_pair shown) end es) (without_place place)
