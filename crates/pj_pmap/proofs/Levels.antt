-- Lists of nodes that hold a rising list in turn.
use Rattle.std.proofs.Common.{◌≡◌, ℕ, zero, suc, ◌<◌, ◌≤◌, true, false, ⊎_elim, List, [], ◌∷◌, ◌++◌, length, get_or, take, drop, Option, Some, None, refl, sym, ap, ◌∙◌, subst, arith, append_assoc, append-nil}
use Rattle.std.specs.Cmp.{IsTotalOrder}
use Rattle.std.specs.List.{flat_map}
use Rattle.std.specs.Option.{option_to_list}
use Rattle.std.specs.Ordering.{is_lt}
use Rattle.std.specs.declared.cmp.Ordering.{Ordering}
use Rattle.std.specs.declared.cmp.Ordering.TheVariants.{Less, Equal, Greater}
use Rattle.std.proofs.Math.ListN.{take-append-drop}
use Rattle.std.proofs.lemmas.Bool.{cases_lt}
use Rattle.std.proofs.lemmas.List.{drop_all}
use Rattle.std.proofs.lemmas.List.Concat.{flat_map-append}
use Rattle.pj_pmap.specs.Pairs.{AllAbove, AllBelow, IsRising, value_at, floor_of, rest_after, with_pair, without_key, or_this, starts_above}
use Rattle.pj_pmap.specs.Nodes.{IsNode, IsNodeOrNone, AllNodes, IsLevel, IsChosen, pairs_of}
use Rattle.pj_pmap.proofs.Order.{greater_from_not_less}
use Rattle.pj_pmap.proofs.Cuts
use Rattle.pj_pmap.proofs.Found.{IsFound, found_at, around}
use Rattle.pj_pmap.proofs.Rising

module _ {N P : Type 0} (pairs : N → List P) where
  pub flat_around : (ns : List N) (i : ℕ) (f : IsFound ns i) → flat_map pairs ns ≡ flat_map pairs (take i ns) ++ (pairs f.item ++ flat_map pairs (drop (suc i) ns))
  flat_around ns i f = ap (flat_map pairs) (around ns i f) ∙ flat_map-append pairs (take i ns) (f.item ∷ drop (suc i) ns)

  pub AllNodes-append : (most : ℕ) (xs ys : List N) → AllNodes pairs most xs → AllNodes pairs most ys → AllNodes pairs most (xs ++ ys)
  AllNodes-append most [] ys h i = i
  AllNodes-append most (x ∷ xs) ys h i = (h.0, AllNodes-append most xs ys h.1 i)

  pub AllNodes-take : (most i : ℕ) (xs : List N) → AllNodes pairs most xs → AllNodes pairs most (take i xs)
  AllNodes-take most zero xs h = tt
  AllNodes-take most (suc i) [] h = tt
  AllNodes-take most (suc i) (x ∷ xs) h = (h.0, AllNodes-take most i xs h.1)

  pub AllNodes-drop : (most i : ℕ) (xs : List N) → AllNodes pairs most xs → AllNodes pairs most (drop i xs)
  AllNodes-drop most zero xs h = h
  AllNodes-drop most (suc i) [] h = tt
  AllNodes-drop most (suc i) (x ∷ xs) h = AllNodes-drop most i xs h.1

  -- one node is in the list, if there is such
  pub AllNodes-option : (most : ℕ) (node : Option N) → IsNodeOrNone pairs most node → AllNodes pairs most (option_to_list node)
  AllNodes-option most None h = tt
  AllNodes-option most (Some n) h = (h, tt)

  pub node_found : (most : ℕ) (ns : List N) (i : ℕ) (f : IsFound ns i) → AllNodes pairs most ns → IsNode most (pairs f.item)
  node_found most ns i f h =
      let at : AllNodes pairs most (f.item ∷ drop (suc i) ns) = subst (AllNodes pairs most) f.from (AllNodes-drop most i ns h) in at.0

  pub flat_option : (node : Option N) → flat_map pairs (option_to_list node) ≡ pairs_of pairs node
  flat_option None = refl
  flat_option (Some n) = append-nil (pairs n)

  -- the pairs of a list that is put together
  pub flat_spliced : (before after : List N) (first second : Option N) → flat_map pairs (before ++ option_to_list first ++ option_to_list second ++ after) ≡ flat_map pairs before ++ ((pairs_of pairs first ++ pairs_of pairs second) ++ flat_map pairs after)
  flat_spliced before after first second =
      rw (flat_map-append pairs (before ++ option_to_list first ++ option_to_list second) after, flat_map-append pairs (before ++ option_to_list first) (option_to_list second), flat_map-append pairs before (option_to_list first), flat_option first, flat_option second) (simp append_assoc)

  pub nodes_spliced : (most : ℕ) (before after : List N) (first second : Option N) → AllNodes pairs most before → IsNodeOrNone pairs most first → IsNodeOrNone pairs most second → AllNodes pairs most after → AllNodes pairs most (before ++ option_to_list first ++ option_to_list second ++ after)
  nodes_spliced most before after first second b f s a =
      AllNodes-append most _ after (AllNodes-append most _ (option_to_list second) (AllNodes-append most before (option_to_list first) b (AllNodes-option most first f)) (AllNodes-option most second s)) a

module _ {K V : Type 0} {cmp : K → K → Ordering} (order : IsTotalOrder cmp) where
  -- a part whose first key is not above k ends what is below k
  pub below_rising : (k : K) (xs : List (K × V)) (f : K × V) (ys : List (K × V)) → IsRising cmp (xs ++ f ∷ ys) → is_lt (cmp k f.0) ≡ false → AllBelow cmp k xs
  below_rising k [] f ys h low = tt
  below_rising k (x ∷ xs) f ys h low = (greater_from_not_less order k f.0 x.0 low ((Rising.AllAbove-right cmp x.0 xs (f ∷ ys) h.0).0), below_rising k xs f ys h.1 low)

  pub below_starts : (k : K) (most : ℕ) (xs es ys : List (K × V)) → IsNode most es → IsRising cmp (xs ++ (es ++ ys)) → starts_above cmp k es ≡ false → AllBelow cmp k xs
  below_starts k most xs [] ys n h low = absurd (let s = n.some in omega arith)
  below_starts k most xs (e ∷ es) ys n h low = below_rising k xs e (es ++ ys) h low

  pub above_starts : (k : K) (most : ℕ) (es ys : List (K × V)) → IsNode most es → IsRising cmp (es ++ ys) → starts_above cmp k es ≡ true → AllAbove cmp k (es ++ ys)
  above_starts k most [] ys n h up = absurd (let s = n.some in omega arith)
  above_starts k most (e ∷ es) ys n h up = Rising.AllAbove-starts cmp order k (e ∷ es ++ ys) h up

  -- where a later node starts not above k, an earlier one does not either
  starts_back : (k : K) (most : ℕ) (es zs fs ys : List (K × V)) → IsNode most es → IsNode most fs → IsRising cmp (es ++ (zs ++ (fs ++ ys))) → starts_above cmp k fs ≡ false → starts_above cmp k es ≡ false
  starts_back k most [] zs fs ys n m h low = refl
  starts_back k most (e ∷ es) zs [] ys n m h low = absurd (let s = m.some in omega arith)
  starts_back k most (e ∷ es) zs (f ∷ fs) ys n m h low =
      ap is_lt (greater_from_not_less order k f.0 e.0 low ((Rising.AllAbove-right cmp e.0 zs (f ∷ fs ++ ys) (Rising.AllAbove-right cmp e.0 es (zs ++ (f ∷ fs ++ ys)) h.0)).0))

  module _ {N : Type 0} (pairs : N → List (K × V)) (most : ℕ) where
    level_tail : (n : N) (ns : List N) → IsLevel cmp pairs most (n ∷ ns) → IsLevel cmp pairs most ns
    level_tail n ns h = record { rising = Rising.IsRising-right cmp (pairs n) (flat_map pairs ns) h.rising; nodes = h.nodes.1 }

    pub starts_before : (k : K) (ns : List N) (i j : ℕ) (d : N) → IsLevel cmp pairs most ns → i ≤ j → j < length ns → starts_above cmp k (pairs (get_or ns j d)) ≡ false → starts_above cmp k (pairs (get_or ns i d)) ≡ false
    starts_before k [] i j d h l m low = absurd (omega arith)
    starts_before k (n ∷ ns) zero zero d h l m low = low
    starts_before k (n ∷ ns) zero (suc j) d h l m low = from (found_at ns j (omega arith))
      where
        from : IsFound ns j → starts_above cmp k (pairs n) ≡ false
        from f =
            starts_back k most (pairs n) (flat_map pairs (take j ns)) (pairs f.item) (flat_map pairs (drop (suc j) ns)) h.nodes.0 (node_found pairs most ns j f h.nodes.1)
            (subst (λ (r : List (K × V)). IsRising cmp (pairs n ++ r)) (flat_around pairs ns j f) h.rising)
            (subst (λ (r : N). starts_above cmp k (pairs r) ≡ false) (f.read d) low)
    starts_before k (n ∷ ns) (suc i) zero d h l m low = absurd (omega arith)
    starts_before k (n ∷ ns) (suc i) (suc j) d h l m low = starts_before k ns i j d (level_tail n ns h) (omega arith) (omega arith) low

    -- the node is the last that starts not above k, or the first of all
    pub chosen_first : (k : K) (ns : List N) → IsLevel cmp pairs most ns → 0 < length ns → ((d : N) → starts_above cmp k (pairs (get_or ns 0 d)) ≡ true) → IsChosen cmp pairs k ns 0
    chosen_first k [] h l up = absurd (omega arith)
    chosen_first k (n ∷ ns) h l up = record {
      in_range = l;
      below = tt;
      above = Rising.AllAbove-right cmp k (pairs n) (flat_map pairs ns) (above_starts k most (pairs n) (flat_map pairs ns) h.nodes.0 h.rising (up n));
      starts = λ d m. absurd (omega arith);
    }

    pub chosen_last : (k : K) (ns : List N) (i : ℕ) → IsLevel cmp pairs most ns → i < length ns → ((d : N) → starts_above cmp k (pairs (get_or ns i d)) ≡ false) → ((d : N) → suc i < length ns → starts_above cmp k (pairs (get_or ns (suc i) d)) ≡ true) → IsChosen cmp pairs k ns i
    chosen_last k ns i h l low up = record {
      in_range = l;
      below = front (found_at ns i l);
      above = ⊎_elim back end (cases_lt (suc i) (length ns));
      starts = λ d m. low d;
    }
      where
        front : IsFound ns i → AllBelow cmp k (flat_map pairs (take i ns))
        front f = below_starts k most _ (pairs f.item) _ (node_found pairs most ns i f h.nodes) (subst (IsRising cmp) (flat_around pairs ns i f) h.rising) (subst (λ (r : N). starts_above cmp k (pairs r) ≡ false) (f.read f.item) (low f.item))

        from : suc i < length ns → IsFound ns (suc i) → AllAbove cmp k (flat_map pairs (drop (suc i) ns))
        from m f =
            let rises : IsRising cmp (flat_map pairs (drop (suc i) ns)) = Rising.IsRising-right cmp (flat_map pairs (take (suc i) ns)) _ (subst (IsRising cmp) (ap (flat_map pairs) (sym (take-append-drop (suc i) ns)) ∙ flat_map-append pairs (take (suc i) ns) (drop (suc i) ns)) h.rising) in
            rw (f.from) (above_starts k most (pairs f.item) _ (node_found pairs most ns (suc i) f h.nodes) (subst (λ (r : List N). IsRising cmp (flat_map pairs r)) f.from rises) (subst (λ (r : N). starts_above cmp k (pairs r) ≡ true) (f.read f.item) (up f.item m)))

        back : suc i < length ns → AllAbove cmp k (flat_map pairs (drop (suc i) ns))
        back m = from m (found_at ns (suc i) m)

        end : length ns ≤ suc i → AllAbove cmp k (flat_map pairs (drop (suc i) ns))
        end m = rw (drop_all (suc i) ns m) tt

-- ---- what the words say of all pairs, where the node that the key belongs to is known

module _ {K V N : Type 0} {cmp : K → K → Ordering} (pairs : N → List (K × V)) (most : ℕ) {k : K} {ns : List N} {i : ℕ} (chosen : IsChosen cmp pairs k ns i) (f : IsFound ns i) where
  pub value_chosen : value_at cmp k (flat_map pairs ns) ≡ value_at cmp k (pairs f.item)
  value_chosen =
      ap (value_at cmp k) (flat_around pairs ns i f)
      ∙ Cuts.value-below cmp k _ _ chosen.below
      ∙ Cuts.value-above cmp k (pairs f.item) _ chosen.above

  pub rest_chosen : rest_after cmp k (flat_map pairs ns) ≡ rest_after cmp k (pairs f.item) ++ flat_map pairs (drop (suc i) ns)
  rest_chosen =
      ap (rest_after cmp k) (flat_around pairs ns i f)
      ∙ Cuts.rest-below cmp k _ _ chosen.below
      ∙ Cuts.rest-split cmp k (pairs f.item) _ chosen.above

  pub with_chosen : (v : V) → with_pair cmp k v (flat_map pairs ns) ≡ flat_map pairs (take i ns) ++ (with_pair cmp k v (pairs f.item) ++ flat_map pairs (drop (suc i) ns))
  with_chosen v =
      ap (with_pair cmp k v) (flat_around pairs ns i f)
      ∙ Cuts.with-below cmp k v _ _ chosen.below
      ∙ ap (λ (r : List (K × V)). flat_map pairs (take i ns) ++ r) (Cuts.with-above cmp k v (pairs f.item) _ chosen.above)

  pub without_chosen : without_key cmp k (flat_map pairs ns) ≡ flat_map pairs (take i ns) ++ (without_key cmp k (pairs f.item) ++ flat_map pairs (drop (suc i) ns))
  without_chosen =
      ap (without_key cmp k) (flat_around pairs ns i f)
      ∙ Cuts.without-below cmp k _ _ chosen.below
      ∙ ap (λ (r : List (K × V)). flat_map pairs (take i ns) ++ r) (Cuts.without-above cmp k (pairs f.item) _ chosen.above)

  -- a list whose first key is not above k has a floor
  floor_in_node : (es : List (K × V)) → IsNode most es → starts_above cmp k es ≡ false → (p : K × V) × (floor_of cmp k es ≡ Some p)
  floor_in_node [] n low = absurd (let s = n.some in omega arith)
  floor_in_node (e ∷ es) n low = by (cmp k e.0) refl
    where
      by : (c : Ordering) → cmp k e.0 ≡ c → (p : K × V) × (floor_of cmp k (e ∷ es) ≡ Some p)
      by Less g = cc (ap is_lt g)
      by Equal g = (e, rw g refl)
      by Greater g = (or_this (floor_of cmp k es) e, rw g refl)

  pub floor_chosen : AllNodes pairs most ns → floor_of cmp k (flat_map pairs ns) ≡ floor_of cmp k (pairs f.item)
  floor_chosen all =
      ap (floor_of cmp k) (flat_around pairs ns i f ∙ sym (append_assoc (flat_map pairs (take i ns)) (pairs f.item) _))
      ∙ Cuts.floor-above cmp k (flat_map pairs (take i ns) ++ pairs f.item) _ chosen.above
      ∙ by i refl
    where
      before : 0 < i → floor_of cmp k (flat_map pairs (take i ns) ++ pairs f.item) ≡ floor_of cmp k (pairs f.item)
      before l =
          let low : starts_above cmp k (pairs f.item) ≡ false = subst (λ (r : N). starts_above cmp k (pairs r) ≡ false) (f.read f.item) (chosen.starts f.item l) in
          let h = floor_in_node (pairs f.item) (node_found pairs most ns i f all) low in
          Cuts.floor-below cmp k (flat_map pairs (take i ns)) (pairs f.item) h.0 chosen.below h.1 ∙ sym h.1

      by : (j : ℕ) → j ≡ i → floor_of cmp k (flat_map pairs (take i ns) ++ pairs f.item) ≡ floor_of cmp k (pairs f.item)
      by zero e = subst (λ (j : ℕ). floor_of cmp k (flat_map pairs (take j ns) ++ pairs f.item) ≡ floor_of cmp k (pairs f.item)) e refl
      by (suc j) e = before (omega arith)
