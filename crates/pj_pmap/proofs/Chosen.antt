-- A search that goes on in the node that the key belongs to.
use Rattle.std.proofs.Common.{is_some, MatchOption, add-one, ◌≡◌, ℕ, zero, suc, ◌+◌, ◌-◌, ◌<◌, ◌≤◌, Bool, true, false, not, List, ◌++◌, length, get_or, take, drop, Option, Some, None, refl, sym, ap, ◌∙◌, arith}
use Rattle.std.specs.Cmp.{IsTotalOrder}
use Rattle.std.specs.List.Sorted.{IsPartitionedBy, IsPartitionPoint}
use Rattle.std.specs.declared.cmp.Ordering.{Ordering}
use Rattle.std.specs.List.{flat_map}
use Rattle.pj_pmap.specs.Pairs.{starts_above, value_at, floor_of, rest_after, with_pair, without_key, least_of}
use Rattle.pj_pmap.specs.Nodes.{AllNodes, IsLevel, IsChosen}
use Rattle.pj_pmap.proofs.Found.{IsFound, found_at}
use Rattle.pj_pmap.proofs.Levels.{value_chosen, floor_chosen, rest_chosen, with_chosen, without_chosen, starts_before, chosen_first, chosen_last}

-- a share of the least key of a node is the least of the node that is shared with it
pub shared_least : {K V N : Type 0} (pairs : N → List (K × V)) (shown : K → K) → ((k : K) → shown k ≡ k) → (node was : N) (least old : K) → node ≡ was → shown least ≡ shown old → least_of (pairs was) ≡ Some old → least_of (pairs node) ≡ Some least
shared_least {N} pairs shown plain node was least old same e h = ap (λ (n : N). least_of (pairs n)) same ∙ h ∙ ap Some (sym (plain old) ∙ sym e ∙ plain least)

-- a node that was read out of the list
pub node_read : {N : Type 0} (ns : List N) (i : ℕ) (child node : N) → i < length ns → child ≡ get_or ns i child → node ≡ child → (f : IsFound ns i) × (f.item ≡ node)
node_read ns i child node l is value =
    let f : IsFound ns i = found_at ns i l in
    (f, sym (f.read child) ∙ sym is ∙ sym value)

low_is : (b : Bool) → not b ≡ true → b ≡ false
low_is true e = cc
low_is false e = refl

up_is : (b : Bool) → not b ≡ false → b ≡ true
up_is true e = refl
up_is false e = cc

module _ {K V N : Type 0} {cmp : K → K → Ordering} (order : IsTotalOrder cmp) (pairs : N → List (K × V)) (most : ℕ) (k : K) where
  -- the node does not start above k
  abbrev pub is_low : N → Bool
  is_low n = not (starts_above cmp k (pairs n))

  pub partitioned : (ns : List N) → IsLevel cmp pairs most ns → IsPartitionedBy is_low ns
  partitioned ns level i j d l m low = ap not (starts_before order pairs most k ns i j d level l m (low_is _ low))

  pub chosen_point : (ns : List N) (point : ℕ) → IsLevel cmp pairs most ns → 0 < length ns → point ≤ length ns → IsPartitionPoint (λ y. is_low y ≡ true) (λ y. is_low y ≡ false) ns point → IsChosen cmp pairs k ns (point - 1)
  chosen_point ns zero level some within split = chosen_first order pairs most k ns level some (λ d. up_is _ (split.1 0 d (omega arith) some))
  chosen_point ns (suc c) level some within split =
      let last : suc c - 1 ≡ c = omega arith in
      rw last
      (chosen_last order pairs most k ns c level within (λ d. low_is _ (split.0 c d (omega arith) (omega arith))) (λ d m. up_is _ (split.1 (suc c) d (omega arith) m)))

-- ---- what the words say of all pairs, by the chosen node

module _ {K V N : Type 0} {cmp : K → K → Ordering} (pairs : N → List (K × V)) (most : ℕ) {k : K} (ns : List N) {i : ℕ} {child node : N} (chosen : IsChosen cmp pairs k ns i) (is : child ≡ get_or ns i child) (value : node ≡ child) where
  found : (f : IsFound ns i) × (f.item ≡ node)
  found = node_read ns i child node chosen.in_range is value

  pub value_in : value_at cmp k (flat_map pairs ns) ≡ value_at cmp k (pairs node)
  value_in = value_chosen pairs most chosen found.0 ∙ ap (λ (n : N). value_at cmp k (pairs n)) found.1

  pub floor_in : AllNodes pairs most ns → floor_of cmp k (flat_map pairs ns) ≡ floor_of cmp k (pairs node)
  floor_in all = floor_chosen pairs most chosen found.0 all ∙ ap (λ (n : N). floor_of cmp k (pairs n)) found.1

  pub rest_in : rest_after cmp k (flat_map pairs ns) ≡ rest_after cmp k (pairs node) ++ flat_map pairs (drop (i + 1) ns)
  rest_in = rw add-one (rest_chosen pairs most chosen found.0 ∙ ap (λ (n : N). rest_after cmp k (pairs n) ++ flat_map pairs (drop (suc i) ns)) found.1)

  -- the pairs before the node, and those after it
  pub with_in : (v : V) → with_pair cmp k v (flat_map pairs ns) ≡ flat_map pairs (take i ns) ++ (with_pair cmp k v (pairs node) ++ flat_map pairs (drop (i + 1) ns))
  with_in v =
      rw add-one
      (with_chosen pairs most chosen found.0 v ∙ ap (λ (n : N). flat_map pairs (take i ns) ++ (with_pair cmp k v (pairs n) ++ flat_map pairs (drop (suc i) ns))) found.1)

  pub without_in : without_key cmp k (flat_map pairs ns) ≡ flat_map pairs (take i ns) ++ (without_key cmp k (pairs node) ++ flat_map pairs (drop (i + 1) ns))
  without_in =
      rw add-one
      (without_chosen pairs most chosen found.0 ∙ ap (λ (n : N). flat_map pairs (take i ns) ++ (without_key cmp k (pairs n) ++ flat_map pairs (drop (suc i) ns))) found.1)

-- the pairs from a node on are the node's and those after it
pub flat_from : {N P : Type 0} (pairs : N → List P) (ns : List N) (i : ℕ) (child node : N) → i < length ns → child ≡ get_or ns i child → node ≡ child → flat_map pairs (drop i ns) ≡ pairs node ++ flat_map pairs (drop (suc i) ns)
flat_from {N} {P} pairs ns i child node l is value = by (node_read ns i child node l is value)
  where
    by : (f : IsFound ns i) × (f.item ≡ node) → flat_map pairs (drop i ns) ≡ pairs node ++ flat_map pairs (drop (suc i) ns)
    by (f, same) = ap (flat_map pairs) f.from ∙ ap (λ (n : N). pairs n ++ flat_map pairs (drop (suc i) ns)) same

-- what a match says of an answer that is not there
pub match_none : {T : Type 0} (r : Option T) {P : Type 0} (Q : T → Type 0) → is_some r ≡ false → MatchOption r P Q → P
match_none None Q e m = m
match_none (Some x) Q e m = cc
