-- Two traversals, one along the edges and one against them, find the strong classes.
use Rattle.std.proofs.Common.{◌≡◌, ℕ, ◌-◌, ◌<◌, ◌≤◌, ◌⊎◌, List, length, map, reverse, get_or, refl, sym, ◌∙◌, ap, subst, inl, inr, arith}
use Rattle.std.proofs.lemmas.Bool.{cases_lt}
use Rattle.std.proofs.lemmas.List.{get_or-reverse, get_or-map, length-map, length-reverse}
use Rattle.pj_reach.specs.Reach.{IsEdge, AreEdgesBelow, Reaches, edge, onward, InOneClass}
use Rattle.pj_reach.specs.Links.{source, target}
use Rattle.pj_reach.specs.Traversals.{Among, HasRoot}
use Rattle.pj_reach.specs.Forest.{IsForest}
use Rattle.pj_reach.specs.Classes.{turned_edge, IsCondensed}
use Rattle.pj_reach.proofs.Paths.{edge_place, place_edge, ends_below, edge_below, reaches_trans, reaches_edge}

-- ---- one class

pub one_class_sym : (edges : List (ℕ × ℕ)) (a b : ℕ) → InOneClass edges a b → InOneClass edges b a
one_class_sym edges a b h = elim h [ inl same ↦ inl (sym same) | inr both ↦ inr (both.1, both.0) ]

pub one_class_trans : (edges : List (ℕ × ℕ)) (a b c : ℕ) → InOneClass edges a b → InOneClass edges b c → InOneClass edges a c
one_class_trans edges a b c a_b b_c =
    elim a_b [
      | inl same ↦ subst (λ x. InOneClass edges x c) (sym same) b_c
      | inr there ↦ elim b_c [
        | inl same ↦ subst (λ x. InOneClass edges a x) same (inr there)
        | inr on ↦ inr (reaches_trans edges a b c there.0 on.0, reaches_trans edges c b a on.1 there.1)
      ]
    ]

-- ---- edges turned round

turned_place : (edges : List (ℕ × ℕ)) (e : ℕ) → e < length edges → get_or (map turned_edge edges) e (0, 0) ≡ (target edges e, source edges e)
turned_place edges e h = get_or-map turned_edge edges e (0, 0) (0, 0) h

pub edge_turned : (edges : List (ℕ × ℕ)) (a b : ℕ) → IsEdge edges a b → IsEdge (map turned_edge edges) b a
edge_turned edges a b h =
    let at = edge_place edges a b h in
    let turned = place_edge (map turned_edge edges) at.0 (omega (arith, at.1, length-map edges turned_edge)) in
    let place = turned_place edges at.0 at.1 in
    subst (λ x. IsEdge (map turned_edge edges) b x) at.2
    (subst (λ x. IsEdge (map turned_edge edges) x (source edges at.0)) at.3
    (subst (λ (x : ℕ × ℕ). IsEdge (map turned_edge edges) x.0 x.1) place turned))

pub turned_back : (edges : List (ℕ × ℕ)) (a b : ℕ) → IsEdge (map turned_edge edges) b a → IsEdge edges a b
turned_back edges a b h =
    let at = edge_place (map turned_edge edges) b a h in
    let e_in : at.0 < length edges = omega (arith, at.1, length-map edges turned_edge) in
    let place = turned_place edges at.0 e_in in
    let to : target edges at.0 ≡ b = sym (ap (λ x. x.0) place) ∙ at.2 in
    let from : source edges at.0 ≡ a = sym (ap (λ x. x.1) place) ∙ at.3 in
    subst (λ x. IsEdge edges a x) to (subst (λ x. IsEdge edges x (target edges at.0)) from (place_edge edges at.0 e_in))

pub graph_turned : (size : ℕ) (edges : List (ℕ × ℕ)) → AreEdgesBelow size edges → AreEdgesBelow size (map turned_edge edges)
graph_turned size edges graph e d h =
    let e_in : e < length edges = omega (arith, h, length-map edges turned_edge) in
    let place : get_or (map turned_edge edges) e d ≡ (target edges e, source edges e) = get_or-map turned_edge edges e (0, 0) d e_in in
    let ends = ends_below size edges graph e e_in in
    subst (λ (x : ℕ × ℕ). (x.0 < size) × (x.1 < size)) (sym place) (ends.1, ends.0)

path_turned_back : (edges : List (ℕ × ℕ)) (a b : ℕ) → Reaches (map turned_edge edges) b a → Reaches edges a b
path_turned_back edges a b (edge h) = edge (turned_back edges a b h)
path_turned_back edges a b (onward {b = x} h more) = reaches_edge edges a x b (path_turned_back edges a x more) (turned_back edges x b h)

-- ---- the trees of the second traversal

module _ (size : ℕ) (edges : List (ℕ × ℕ)) (graph : AreEdgesBelow size edges) (first_roots first_trees first tree_of finished : List ℕ) (along : IsForest size edges first_roots first_trees first) (against : IsForest size (map turned_edge edges) (reverse first) tree_of finished) where
  rising : (a b : ℕ) → IsEdge edges a b → get_or tree_of a 0 ≤ get_or tree_of b 0
  rising a b h = against.falling b a (edge_below size edges a b graph h).1 (edge_turned edges a b h)

  rising_path : (a b : ℕ) → Reaches edges a b → get_or tree_of a 0 ≤ get_or tree_of b 0
  rising_path a b (edge h) = rising a b h
  rising_path a b (onward {b = x} h more) = let here = rising a x h in let on = rising_path x b more in omega (arith, here, on)

  one_tree_from_class : (a b : ℕ) → InOneClass edges a b → get_or tree_of a 0 ≡ get_or tree_of b 0
  one_tree_from_class a b h = elim h [ inl same ↦ ap (λ x. get_or tree_of x 0) same | inr both ↦ let up = rising_path a b both.0 in let down = rising_path b a both.1 in omega (arith, up, down) ]

  -- r stands at place t of the first traversal, and what stands behind it is in lower trees
  record IsRootAt (t r : ℕ) : Type 0 where
    t_in : t < length first
    at : get_or first t 0 ≡ r
    later : (k : ℕ) → t < k → k < length first → get_or tree_of (get_or first k 0) 0 < get_or tree_of r 0

  -- what is in the root's tree was finished by the root's moment
  by_root : (t r : ℕ) → IsRootAt t r → (p : ℕ) → p < length first → get_or tree_of (get_or first p 0) 0 ≡ get_or tree_of r 0 → p ≤ t
  by_root t r is p p_in same = elim (cases_lt t p) [ inl behind ↦ let lower = is.later p behind p_in in absurd (omega (arith, lower, same)) | inr fine ↦ fine ]

  -- from the moment at which a vertex that reaches the root was finished, the root reaches all that was finished
  root_reaches : (u r : ℕ) → Reaches edges u r → (t : ℕ) → IsRootAt t r → get_or tree_of u 0 ≡ get_or tree_of r 0 → (p k : ℕ) → p ≤ k → k ≤ t → get_or first p 0 ≡ u → (r ≡ get_or first k 0) ⊎ Reaches edges r (get_or first k 0)
  root_reaches u r (edge h) t is same p k p_k k_t at =
      elim (along.late p k p_k (omega (arith, k_t, is.t_in)) r (subst (λ x. IsEdge edges x r) (sym at) h)) [
        | inl done ↦ elim (cases_lt done.0 t) [
          | inl before ↦ absurd (along.once done.0 t before is.t_in (done.2 ∙ sym is.at))
          | inr not_before ↦ let here : t ≡ k = omega (arith, done.1) in inl (sym is.at ∙ ap (λ i. get_or first i 0) here)
        ]
        | inr back ↦ inr back
      ]
  root_reaches u r (onward {b = x} h more) t is same p k p_k k_t at =
      let up = rising u x h in
      let on = rising_path x r more in
      let x_same : get_or tree_of x 0 ≡ get_or tree_of r 0 = omega (arith, up, on, same) in
      elim (along.late p k p_k (omega (arith, k_t, is.t_in)) x (subst (λ y. IsEdge edges y x) (sym at) h)) [
        | inl done ↦ root_reaches x r more t is x_same done.0 k done.1 k_t done.2
        | inr back ↦
            let place = along.all_finished x (edge_below size edges u x graph h).1 in
            let place_by : place.0 ≤ t = by_root t r is place.0 place.1 (ap (λ y. get_or tree_of y 0) place.2 ∙ x_same) in
            elim (root_reaches x r more t is x_same place.0 place.0 (omega arith) place_by place.2) [
              | inl is_x ↦ inr (subst (λ y. Reaches edges y (get_or first k 0)) (sym (is_x ∙ place.2)) back)
              | inr to_x ↦ inr (reaches_trans edges r x (get_or first k 0) (subst (λ y. Reaches edges r y) place.2 to_x) back)
            ]
      ]

  -- the root of the second traversal at place s
  root_at : (s r : ℕ) → s < length (reverse first) → get_or (reverse first) s 0 ≡ r → ((u : ℕ) → u < s → get_or tree_of (get_or (reverse first) u 0) 0 < get_or tree_of r 0) → IsRootAt (length first - 1 - s) r
  root_at s r s_in at earlier = record {
    t_in = omega (arith, s_in, length-reverse first);
    at = sym (get_or-reverse first s 0 (omega (arith, s_in, length-reverse first))) ∙ at;
    later = λ k behind k_in.
        let u_in : length first - 1 - k < length first = omega arith in
        let u_before : length first - 1 - k < s = omega (arith, s_in, length-reverse first) in
        let turned_to : get_or (reverse first) (length first - 1 - k) 0 ≡ get_or first k 0 = get_or-reverse first (length first - 1 - k) 0 u_in ∙ ap (λ i. get_or first i 0) (let e : length first - 1 - (length first - 1 - k) ≡ k = omega arith in e) in
        subst (λ x. get_or tree_of x 0 < get_or tree_of r 0) turned_to (earlier (length first - 1 - k) u_before);
  }

  -- a vertex is in one class with the root of its tree
  with_root : (v : ℕ) → v < size → (root : HasRoot (map turned_edge edges) (reverse first) (length (reverse first)) tree_of v) → InOneClass edges (get_or (reverse first) root.0 0) v
  with_root v v_in root =
      let r : ℕ = get_or (reverse first) root.0 0 in
      elim root.3 [
        | inl is_v ↦ inl is_v
        | inr against_path ↦
            let to_root : Reaches edges v (get_or (reverse first) root.0 0) = path_turned_back edges v (get_or (reverse first) root.0 0) against_path in
            let is : IsRootAt (length first - 1 - root.0) (get_or (reverse first) root.0 0) =
            root_at root.0 (get_or (reverse first) root.0 0) root.1 refl (λ u before. let lower = root.4 u before in omega (arith, lower, root.2)) in
            let place = along.all_finished v v_in in
            let place_by : place.0 ≤ length first - 1 - root.0 = by_root (length first - 1 - root.0) (get_or (reverse first) root.0 0) is place.0 place.1 (ap (λ y. get_or tree_of y 0) place.2 ∙ sym root.2) in
            elim (root_reaches v (get_or (reverse first) root.0 0) to_root (length first - 1 - root.0) is (sym root.2) place.0 place.0 (omega arith) place_by place.2) [
              | inl is_v ↦ inl (is_v ∙ place.2)
              | inr from_root ↦ inr (subst (λ y. Reaches edges (get_or (reverse first) root.0 0) y) place.2 from_root, to_root)
            ]
      ]

  one_class_from_tree : (a b : ℕ) → a < size → b < size → get_or tree_of a 0 ≡ get_or tree_of b 0 → InOneClass edges a b
  one_class_from_tree a b a_in b_in same =
      let a_root = against.rooted a a_in in
      let b_root = against.rooted b b_in in
      let one_place : b_root.0 ≡ a_root.0 = elim (cases_lt a_root.0 b_root.0) [
        | inl before ↦ let lower = b_root.4 a_root.0 before in absurd (omega (arith, lower, a_root.2, same))
        | inr not_before ↦ elim (cases_lt b_root.0 a_root.0) [
          | inl before ↦ let lower = a_root.4 b_root.0 before in absurd (omega (arith, lower, b_root.2, same))
          | inr not_behind ↦ omega arith
        ]
      ] in
      let to_b : InOneClass edges (get_or (reverse first) a_root.0 0) b = subst (λ s. InOneClass edges (get_or (reverse first) s 0) b) one_place (with_root b b_in b_root) in
      one_class_trans edges a (get_or (reverse first) a_root.0 0) b (one_class_sym edges (get_or (reverse first) a_root.0 0) a (with_root a a_in a_root)) to_b

  pub condensed : IsCondensed size edges tree_of finished
  condensed = record {
    tree_len = against.tree_len;
    one_tree = λ a b a_in b_in. (one_class_from_tree a b a_in b_in, one_tree_from_class a b);
    rising = rising;
    few = λ v v_in. let few = against.few v v_in in omega (arith, few, length-reverse first, along.finished_few);
    finished_in = against.finished_in;
    all_finished = against.all_finished;
    grouped = against.grouped;
  }

-- what stands in a list stands in it turned round
pub among_reverse : (xs : List ℕ) (v : ℕ) → Among xs v → Among (reverse xs) v
among_reverse xs v at =
    (length xs - 1 - at.0, omega (arith, at.1, length-reverse xs), get_or-reverse xs (length xs - 1 - at.0) 0 (omega (arith, at.1)) ∙ ap (λ i. get_or xs i 0) (let e : length xs - 1 - (length xs - 1 - at.0) ≡ at.0 = omega (arith, at.1) in e) ∙ at.2)
