-- Lists of nodes that are put together of parts of another.
use Rattle.std.proofs.Common.{◌≡◌, ℕ, suc, ◌+◌, ◌-◌, ◌<◌, ◌≤◌, List, [], ◌∷◌, ◌++◌, length, get_or, take, drop, Option, Some, None, refl, sym, ap, ◌∙◌, subst, arith, append_assoc, append-nil, add-one}
use Rattle.std.specs.List.{flat_map}
use Rattle.std.specs.Option.{option_to_list}
use Rattle.std.specs.declared.cmp.Ordering.{Ordering}
use Rattle.std.proofs.lemmas.List.{length-append, length-take, length-drop, take_rest, take_more}
use Rattle.pj_pmap.specs.Pairs.{IsRising, with_pair, without_key}
use Rattle.pj_pmap.specs.Nodes.{pairs_of, IsNodeOrNone, AllNodes, IsLevel, IsChosen}
use Rattle.pj_pmap.proofs.Found.{IsFound}
use Rattle.pj_pmap.proofs.Levels.{flat_around, flat_spliced, nodes_spliced, AllNodes-take, AllNodes-drop}
use Rattle.pj_pmap.proofs.Chosen.{node_read, with_in, without_in}
use Rattle.pj_pmap.proofs.Rising

-- one more child that shares the next node
pub shared_more : {N : Type 0} (list more old ns : List N) (i : ℕ) (child share : N) → more ≡ list ++ share ∷ [] → list ≡ old ++ take i ns → i < length ns → child ≡ get_or ns i child → share ≡ child → more ≡ old ++ take (i + 1) ns
shared_more {N} list more old ns i child share e inv l is same =
    e
    ∙ ap (λ (r : List N). r ++ share ∷ []) inv
    ∙ append_assoc old (take i ns) (share ∷ [])
    ∙ ap (λ (r : List N). old ++ r) (sym tail)
  where
    tail : take (i + 1) ns ≡ take i ns ++ share ∷ []
    tail = take_more ns i child l ∙ ap (λ (n : N). take i ns ++ n ∷ []) (sym is ∙ sym same)

pub length-option : {X : Type 0} (x : Option X) → length (option_to_list x) ≤ 1
length-option None = omega arith
length-option (Some x) = omega arith

pub length_same : {N : Type 0} (list before after : List N) (first second : Option N) → list ≡ before ++ option_to_list first ++ option_to_list second ++ after → length list ≡ length before + length (option_to_list first) + length (option_to_list second) + length after
length_same list before after first second h = ap length h ∙ simp length-append

module _ {P N : Type 0} (pairs : N → List P) (most : ℕ) (ns : List N) (i n : ℕ) (list : List N) (first second : Option N) (same : list ≡ (take i ns) ++ option_to_list first ++ option_to_list second ++ (take (length ns - n) (drop n ns))) where
  pub spliced_flat : flat_map pairs list ≡ flat_map pairs (take i ns) ++ ((pairs_of pairs first ++ pairs_of pairs second) ++ flat_map pairs (drop n ns))
  spliced_flat =
      ap (flat_map pairs) same
      ∙ flat_spliced pairs (take i ns) (take (length ns - n) (drop n ns)) first second
      ∙ rw (take_rest ns n) refl

  pub spliced_nodes : AllNodes pairs most ns → IsNodeOrNone pairs most first → IsNodeOrNone pairs most second → AllNodes pairs most list
  spliced_nodes all f s =
      rw (same, take_rest ns n)
      (nodes_spliced pairs most (take i ns) (drop n ns) first second (AllNodes-take pairs most i ns all) f s (AllNodes-drop pairs most n ns all))

-- the nodes after an index, as the end of the list
pub to_end : {N : Type 0} (ns list front : List N) (n : ℕ) → list ≡ front ++ drop n ns → list ≡ front ++ take (length ns - n) (drop n ns)
to_end {N} ns list front n h = h ∙ ap (λ (ys : List N). front ++ ys) (sym (take_rest ns n))

-- the same where one node or none stands between
pub left_in : {N : Type 0} (ns list : List N) (i : ℕ) (left : Option N) → list ≡ take i ns ++ option_to_list left ++ drop (i + 1) ns → list ≡ take i ns ++ option_to_list left ++ [] ++ take (length ns - (i + 1)) (drop (i + 1) ns)
left_in {N} ns list i left h =
    to_end ns list (take i ns ++ option_to_list left ++ []) (i + 1)
    (h ∙ ap (λ (xs : List N). xs ++ drop (i + 1) ns) (sym (append-nil (take i ns ++ option_to_list left))))

-- ---- two neighbours in one

module _ {P N : Type 0} (pairs : N → List P) (ns : List N) (i : ℕ) (child other node next : N) (l : i + 1 < length ns) (is : child ≡ get_or ns i child) (value : node ≡ child) (other_is : other ≡ get_or ns (i + 1) other) (other_value : next ≡ other) where
  pub flat_two : flat_map pairs ns ≡ flat_map pairs (take i ns) ++ ((pairs node ++ pairs next) ++ flat_map pairs (drop (i + 2) ns))
  flat_two = by (node_read ns i child node (omega arith) is value) (node_read ns (i + 1) other next l other_is other_value)
    where
      by : (f : IsFound ns i) × (f.item ≡ node) → (g : IsFound ns (i + 1)) × (g.item ≡ next) → flat_map pairs ns ≡ flat_map pairs (take i ns) ++ ((pairs node ++ pairs next) ++ flat_map pairs (drop (i + 2) ns))
      by (f, a) (g, b) =
          let two : suc (i + 1) ≡ i + 2 = omega arith in
          let from : drop (suc i) ns ≡ next ∷ drop (i + 2) ns = ap (λ (j : ℕ). drop j ns) (sym (add-one i)) ∙ g.from ∙ ap (λ (m : N). m ∷ drop (suc (i + 1)) ns) b ∙ ap (λ (j : ℕ). next ∷ drop j ns) two in
          (flat_around pairs ns i f
          ∙ ap (λ (m : N). flat_map pairs (take i ns) ++ (pairs m ++ flat_map pairs (drop (suc i) ns))) a
          ∙ ap (λ (r : List N). flat_map pairs (take i ns) ++ (pairs node ++ flat_map pairs r)) from
          ∙ ap (λ (r : List P). flat_map pairs (take i ns) ++ r) (sym (append_assoc (pairs node) (pairs next) _)))

-- the pairs of a child over a node are those of the node
pub over_one : {P N : Type 0} (pairs : N → List P) (child : Option N) (node : N) (es : List P) → child ≡ Some node → pairs node ≡ es → pairs_of pairs child ≡ es
over_one pairs child node es is same = rw is same

-- those of a child over a node, and of one over another node or none, are those of both
pub over_two : {P N : Type 0} (pairs : N → List P) (first : Option N) (one : N) (second : Option (Option N)) (other : Option N) (es : List P) → first ≡ Some one → pairs_of (pairs_of pairs) second ≡ pairs_of pairs other → pairs one ++ pairs_of pairs other ≡ es → pairs_of pairs first ++ pairs_of (pairs_of pairs) second ≡ es
over_two pairs first one second other es is rest same = rw (is, rest) same

-- the middle of a rising list rises
pub rises_between : {K V : Type 0} (cmp : K → K → Ordering) (es xs ys zs : List (K × V)) → IsRising cmp es → es ≡ xs ++ (ys ++ zs) → IsRising cmp ys
rises_between cmp es xs ys zs h e = Rising.IsRising-left cmp ys zs (Rising.IsRising-right cmp xs (ys ++ zs) (subst (IsRising cmp) e h))

-- lists of the same pairs rise alike
pub level_from : {K V N : Type 0} {cmp : K → K → Ordering} {pairs : N → List (K × V)} {most : ℕ} (ns : List N) (es : List (K × V)) → IsRising cmp es → flat_map pairs ns ≡ es → AllNodes pairs most ns → IsLevel cmp pairs most ns
level_from {cmp} ns es h e all = record { rising = subst (IsRising cmp) (sym e) h; nodes = all }

-- ---- the lists that a change of one node makes

module _ {K V N : Type 0} {cmp : K → K → Ordering} (pairs : N → List (K × V)) (most : ℕ) {k : K} (ns : List N) {i : ℕ} {child node : N} (chosen : IsChosen cmp pairs k ns i) (is : child ≡ get_or ns i child) (value : node ≡ child) (list : List N) (first second : Option N) (same : list ≡ (take i ns) ++ option_to_list first ++ option_to_list second ++ (take (length ns - (i + 1)) (drop (i + 1) ns))) where
  pub with_spliced : (v : V) → pairs_of pairs first ++ pairs_of pairs second ≡ with_pair cmp k v (pairs node) → flat_map pairs list ≡ with_pair cmp k v (flat_map pairs ns)
  with_spliced v h =
      spliced_flat pairs most ns i (i + 1) list first second same
      ∙ ap (λ (r : List (K × V)). flat_map pairs (take i ns) ++ (r ++ flat_map pairs (drop (i + 1) ns))) h
      ∙ sym (with_in pairs most ns chosen is value v)

  pub without_spliced : pairs_of pairs first ++ pairs_of pairs second ≡ without_key cmp k (pairs node) → flat_map pairs list ≡ without_key cmp k (flat_map pairs ns)
  without_spliced h =
      spliced_flat pairs most ns i (i + 1) list first second same
      ∙ ap (λ (r : List (K × V)). flat_map pairs (take i ns) ++ (r ++ flat_map pairs (drop (i + 1) ns))) h
      ∙ sym (without_in pairs most ns chosen is value)

-- two neighbours in one have the same pairs
pub merged_spliced : {P N : Type 0} (pairs : N → List P) (most : ℕ) (ns : List N) (i : ℕ) (list : List N) (merged : Option N) (node next : N) (es : List P) → list ≡ (take i ns) ++ option_to_list merged ++ [] ++ (take (length ns - (i + 2)) (drop (i + 2) ns)) → pairs_of pairs merged ≡ pairs node ++ pairs next → es ≡ flat_map pairs (take i ns) ++ ((pairs node ++ pairs next) ++ flat_map pairs (drop (i + 2) ns)) → flat_map pairs list ≡ es
merged_spliced {P} pairs most ns i list merged node next es same both two =
    spliced_flat pairs most ns i (i + 2) list merged None same
    ∙ ap (λ (r : List P). flat_map pairs (take i ns) ++ (r ++ flat_map pairs (drop (i + 2) ns))) (append-nil (pairs_of pairs merged) ∙ both)
    ∙ sym two

-- one node of the list was taken out, and a and b were put in
pub length_changed : {N : Type 0} (ns list : List N) (i a b : ℕ) → i < length ns → length list ≡ length (take i ns) + a + b + length (take (length ns - (i + 1)) (drop (i + 1) ns)) → length list + 1 ≡ length ns + a + b
length_changed ns list i a b l h =
    ap (λ (n : ℕ). n + 1) h ∙ simp (take_rest, length-take, length-drop) (omega arith)
