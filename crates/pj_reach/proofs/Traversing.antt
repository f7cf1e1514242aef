-- A step of a depth-first traversal keeps it in order.
use Rattle.std.proofs.Common.{◌≡◌, ◌≢◌, ℕ, suc, ◌+◌, ◌<◌, ◌≤◌, ◌⊎◌, Bool, true, false, not, cond, Option, Some, None, List, [], ◌∷◌, ◌++◌, length, get_or, set, sym, ◌∙◌, ap, subst, inl, inr, arith, IfSome}
use Rattle.std.proofs.lemmas.Bool.{cases_lt, cases_eq}
use Rattle.std.proofs.lemmas.List.{get_or-set_same, get_or-set_other, get_or_read, length-set, length_push}
use Rattle.std.proofs.lemmas.List.Sums.{sum_by-set}
use Rattle.std.specs.List.{sum_by}
use Rattle.pj_reach.specs.Reach.{IsEdge, AreEdgesBelow, Reaches, edge}
use Rattle.pj_reach.specs.Links.{source, target, edges_up_to, IsLastLeaving, IsLinked}
use Rattle.pj_reach.specs.Traversals.{State, IsPlaced, HasCursors, IsDeepening, HasRoot, HasTrees, IsTraversal}
use Rattle.pj_reach.proofs.Pushes.{at_old, at_new, each_push, each_init, each_last, pairs_push, pairs_init, pairs_last, among_push_old, among_push_new, among_push_cases}
use Rattle.pj_reach.proofs.Paths.{edge_place, place_edge, ends_below, edge_below, reaches_edge}

abbrev pub state : List Bool → List ℕ → List (Option ℕ) → List ℕ → List ℕ → State
state seen tree_of next path finished = record { seen = seen; tree_of = tree_of; next = next; path = path; finished = finished }

-- ---- the last vertex of the path is finished

module _ (size : ℕ) (edges : List (ℕ × ℕ)) (seen : List Bool) (tree_of : List ℕ) (next : List (Option ℕ)) (path finished : List ℕ) (v : ℕ) where
  finish_placed : IsPlaced size (state seen tree_of next (path ++ v ∷ []) finished) → IsPlaced size (state seen tree_of next path (finished ++ v ∷ []))
  finish_placed was = record {
    seen_len = was.seen_len;
    tree_len = was.tree_len;
    next_len = was.next_len;
    path_in = each_init (λ u. (u < size) × (get_or seen u false ≡ true)) path v was.path_in;
    finished_in = each_push (λ u. (u < size) × (get_or seen u false ≡ true)) finished v was.finished_in (each_last (λ u. (u < size) × (get_or seen u false ≡ true)) path v was.path_in);
    placed = λ u in_size is_seen. elim (was.placed u in_size is_seen) [
      | inl done ↦ inl (among_push_old finished v u done)
      | inr open_yet ↦ elim (among_push_cases path v u open_yet) [ inl kept ↦ inr kept | inr here ↦ inl (among_push_new finished v u here) ]
    ];
    path_once = pairs_init (λ x y. x ≢ y) path v was.path_once;
    finished_once = pairs_push (λ x y. x ≢ y) finished v was.finished_once (λ p h. each_last (λ u. get_or finished p 0 ≢ u) path v (λ i hi. was.apart p i h hi));
    apart = λ p i hp hi. each_push (λ u. u ≢ get_or path i 0) finished v
        (λ q hq. each_init (λ u. get_or finished q 0 ≢ u) path v (λ j hj. was.apart q j hq hj) i hi)
        (λ e. pairs_last (λ x y. x ≢ y) path v was.path_once i hi (sym e))
        p hp;
    counted = omega (arith, was.counted, length_push path v, length_push finished v);
  }

  finish_cursors : HasCursors size edges (state seen tree_of next (path ++ v ∷ []) finished) → HasCursors size edges (state seen tree_of next path (finished ++ v ∷ []))
  finish_cursors was = record {
    next_is = was.next_is;
    passed = each_init (λ u. (e : ℕ) → e < length edges → source edges e ≡ u → edges_up_to (get_or next u None) ≤ e → get_or seen (target edges e) false ≡ true) path v was.passed;
    fresh = was.fresh;
  }

  -- each edge of a vertex that has no further edge to follow leads to a seen one
  last_closed : HasCursors size edges (state seen tree_of next (path ++ v ∷ []) finished) → get_or next v None ≡ None → (b : ℕ) → IsEdge edges v b → get_or seen b false ≡ true
  last_closed cursors no_more b h =
      let at = edge_place edges v b h in
      let passed = each_last (λ u. (e : ℕ) → e < length edges → source edges e ≡ u → edges_up_to (get_or next u None) ≤ e → get_or seen (target edges e) false ≡ true) path v cursors.passed in
      let none_left : edges_up_to (get_or next v None) ≡ 0 = ap edges_up_to no_more in
      ap (λ x. get_or seen x false) (sym at.3) ∙ passed at.0 at.1 at.2 (omega (arith, none_left))

  finish_closed : HasCursors size edges (state seen tree_of next (path ++ v ∷ []) finished) → IsDeepening edges (state seen tree_of next (path ++ v ∷ []) finished) → get_or next v None ≡ None → (p : ℕ) → p < length (finished ++ v ∷ []) → (b : ℕ) → IsEdge edges (get_or (finished ++ v ∷ []) p 0) b → get_or seen b false ≡ true
  finish_closed cursors was no_more = each_push (λ u. (b : ℕ) → IsEdge edges u b → get_or seen b false ≡ true) finished v was.closed (last_closed cursors no_more)

  -- what was seen when v is finished was finished by then, or reaches v
  seen_at_last : IsPlaced size (state seen tree_of next (path ++ v ∷ []) finished) → IsDeepening edges (state seen tree_of next (path ++ v ∷ []) finished) → (b : ℕ) → b < size → get_or seen b false ≡ true → ((q : ℕ) × (q ≤ length finished) × (get_or (finished ++ v ∷ []) q 0 ≡ b)) ⊎ Reaches edges b v
  seen_at_last placed was b in_size is_seen =
      elim (placed.placed b in_size is_seen) [
        | inl done ↦ inl (done.0, omega (arith, done.1), at_old finished v done.0 done.1 ∙ done.2)
        | inr open_yet ↦ elim (among_push_cases path v b open_yet) [
          | inl above ↦ inr (subst (λ x. Reaches edges x v) above.2 (pairs_last (Reaches edges) path v was.chain above.0 above.1))
          | inr here ↦ inl (length finished, omega arith, at_new finished v ∙ here)
        ]
      ]

  finish_late : AreEdgesBelow size edges → IsPlaced size (state seen tree_of next (path ++ v ∷ []) finished) → HasCursors size edges (state seen tree_of next (path ++ v ∷ []) finished) → IsDeepening edges (state seen tree_of next (path ++ v ∷ []) finished) → get_or next v None ≡ None → (p k : ℕ) → p ≤ k → k < length (finished ++ v ∷ []) → (b : ℕ) → IsEdge edges (get_or (finished ++ v ∷ []) p 0) b → ((q : ℕ) × (q ≤ k) × (get_or (finished ++ v ∷ []) q 0 ≡ b)) ⊎ Reaches edges b (get_or (finished ++ v ∷ []) k 0)
  finish_late graph placed cursors was no_more p k p_k h b to_b =
      elim (cases_lt k (length finished)) [
        | inl within ↦
            let p_in : p < length finished = omega arith in
            let to_b' : IsEdge edges (get_or finished p 0) b = subst (λ x. IsEdge edges x b) (at_old finished v p p_in) to_b in
            elim (was.late p k p_k within b to_b') [
              | inl done ↦ inl (done.0, done.1, (let q_in : done.0 < length finished = omega (arith, done.1) in at_old finished v done.0 q_in) ∙ done.2)
              | inr back ↦ inr (subst (λ x. Reaches edges b x) (sym (at_old finished v k within)) back)
            ]
        | inr past ↦
            let last : k ≡ length finished = omega (arith, length_push finished v) in
            let p_in : p < length (finished ++ v ∷ []) = omega (arith, length_push finished v) in
            let is_seen = finish_closed cursors was no_more p p_in b to_b in
            let found = seen_at_last placed was b (edge_below size edges (get_or (finished ++ v ∷ []) p 0) b graph to_b).1 is_seen in
            elim found [
              | inl done ↦ inl (done.0, omega (arith, done.1), done.2)
              | inr back ↦ inr (subst (λ x. Reaches edges b x) (sym (ap (λ i. get_or (finished ++ v ∷ []) i 0) last ∙ at_new finished v)) back)
            ]
      ]

  finish_deepening : AreEdgesBelow size edges → IsPlaced size (state seen tree_of next (path ++ v ∷ []) finished) → HasCursors size edges (state seen tree_of next (path ++ v ∷ []) finished) → IsDeepening edges (state seen tree_of next (path ++ v ∷ []) finished) → get_or next v None ≡ None → IsDeepening edges (state seen tree_of next path (finished ++ v ∷ []))
  finish_deepening graph placed cursors was no_more = record {
    chain = pairs_init (Reaches edges) path v was.chain;
    closed = finish_closed cursors was no_more;
    late = finish_late graph placed cursors was no_more;
  }

  pub finish_traversal : AreEdgesBelow size edges → IsTraversal size edges (state seen tree_of next (path ++ v ∷ []) finished) → get_or next v None ≡ None → IsTraversal size edges (state seen tree_of next path (finished ++ v ∷ []))
  finish_traversal graph was no_more = record {
    placed = finish_placed was.placed;
    cursors = finish_cursors was.cursors;
    deepening = finish_deepening graph was.placed was.cursors was.deepening no_more;
  }

  pub finish_trees : (roots : List ℕ) (tried grown : ℕ) → AreEdgesBelow size edges → IsTraversal size edges (state seen tree_of next (path ++ v ∷ []) finished) → get_or next v None ≡ None → HasTrees size edges roots tried grown (state seen tree_of next (path ++ v ∷ []) finished) → HasTrees size edges roots tried grown (state seen tree_of next path (finished ++ v ∷ []))
  finish_trees roots tried grown graph traversal no_more was =
      let newest : get_or tree_of v 0 + 1 ≡ grown = each_last (λ u. get_or tree_of u 0 + 1 ≡ grown) path v was.path_newest in
      record {
        grown_few = was.grown_few;
        roots_seen = was.roots_seen;
        grown_only = was.grown_only;
        path_newest = each_init (λ u. get_or tree_of u 0 + 1 ≡ grown) path v was.path_newest;
        falling = each_push (λ u. (b : ℕ) → IsEdge edges u b → get_or tree_of b 0 ≤ get_or tree_of u 0) finished v was.falling
            (λ b to_b. let small = was.grown_only b (edge_below size edges v b graph to_b).1 (last_closed traversal.cursors no_more b to_b) in omega (arith, small, newest));
        grouped = pairs_push (λ x y. get_or tree_of x 0 ≤ get_or tree_of y 0) finished v was.grouped
            (λ p h. let small = was.grown_only (get_or finished p 0) (traversal.placed.finished_in p h).0 (traversal.placed.finished_in p h).1 in omega (arith, small, newest));
        rooted = was.rooted;
      }

-- ---- the last vertex of the path follows an edge to a vertex that is seen

module _ (size : ℕ) (edges : List (ℕ × ℕ)) (seen : List Bool) (tree_of : List ℕ) (next : List (Option ℕ)) (path finished : List ℕ) (v e : ℕ) (link : Option ℕ) where
  -- the cursor of v goes on to the link behind the edge
  pass_cursors : IsPlaced size (state seen tree_of next path finished) → HasCursors size edges (state seen tree_of next path finished) → v < size → get_or seen v false ≡ true → get_or next v None ≡ Some e → IsLastLeaving edges (source edges e) e link → get_or seen (target edges e) false ≡ true → HasCursors size edges (state seen tree_of (set next v link) path finished)
  pass_cursors placed was v_in v_seen follows is_link target_seen =
      let here : get_or (set next v link) v None ≡ link = get_or-set_same next v link None (omega (arith, placed.next_len)) in
      let at = subst (λ (o : Option ℕ). IfSome o (λ f. (f < length edges) × (source edges f ≡ v))) follows (was.next_is v v_in) in
      record {
        next_is = λ u u_in. elim (cases_eq u v) [
          | inl same ↦ subst (λ (o : Option ℕ). IfSome o (λ f. (f < length edges) × (source edges f ≡ u))) (sym (ap (λ x. get_or (set next v link) x None) same ∙ here))
              (link_is at.0 (at.1 ∙ sym same) link is_link)
          | inr other ↦ subst (λ (o : Option ℕ). IfSome o (λ f. (f < length edges) × (source edges f ≡ u))) (sym (get_or-set_other next v u link None other)) (was.next_is u u_in)
        ];
        passed = λ i hi f f_in f_from f_passed. elim (cases_eq (get_or path i 0) v) [
          | inl same ↦
              let f_passed' : edges_up_to link ≤ f = subst (λ (o : Option ℕ). edges_up_to o ≤ f) (ap (λ x. get_or (set next v link) x None) same ∙ here) f_passed in
              elim (cases_lt f e) [
                | inl before ↦ let h = is_link.is_last f before (f_from ∙ same ∙ sym at.1) in absurd (omega (arith, h, f_passed'))
                | inr not_before ↦ elim (cases_eq f e) [
                  | inl this ↦ ap (λ x. get_or seen (target edges x) false) this ∙ target_seen
                  | inr later ↦ was.passed i hi f f_in f_from (let old : edges_up_to (get_or next (get_or path i 0) None) ≡ suc e = ap edges_up_to (ap (λ x. get_or next x None) same ∙ follows) in omega (arith, old))
                ]
              ]
          | inr other ↦ was.passed i hi f f_in f_from (subst (λ (o : Option ℕ). edges_up_to o ≤ f) (get_or-set_other next v (get_or path i 0) link None other) f_passed)
        ];
        fresh = λ u u_in unseen f f_in f_from.
            let other : u ≢ v = λ same. let seen_u : get_or seen u false ≡ true = ap (λ x. get_or seen x false) same ∙ v_seen in absurd (let no : ◌≡◌ {A = Bool} true false = sym seen_u ∙ unseen in cc) in
            subst (λ (o : Option ℕ). f < edges_up_to o) (sym (get_or-set_other next v u link None other)) (was.fresh u u_in unseen f f_in f_from);
      }
    where
      link_is : e < length edges → {u : ℕ} → source edges e ≡ u → (o : Option ℕ) → IsLastLeaving edges (source edges e) e o → IfSome o (λ f. (f < length edges) × (source edges f ≡ u))
      link_is e_in from None is = tt
      link_is e_in from (Some f) is = (omega (arith, is.is_one.0), is.is_one.1 ∙ from)

  pub pass_traversal : IsTraversal size edges (state seen tree_of next path finished) → v < size → get_or seen v false ≡ true → get_or next v None ≡ Some e → IsLastLeaving edges (source edges e) e link → get_or seen (target edges e) false ≡ true → IsTraversal size edges (state seen tree_of (set next v link) path finished)
  pass_traversal was v_in v_seen follows is_link target_seen = record {
    placed = record {
      seen_len = was.placed.seen_len;
      tree_len = was.placed.tree_len;
      next_len = length-set next v link ∙ was.placed.next_len;
      path_in = was.placed.path_in;
      finished_in = was.placed.finished_in;
      placed = was.placed.placed;
      path_once = was.placed.path_once;
      finished_once = was.placed.finished_once;
      apart = was.placed.apart;
      counted = was.placed.counted;
    };
    cursors = pass_cursors was.placed was.cursors v_in v_seen follows is_link target_seen;
    deepening = record { chain = was.deepening.chain; closed = was.deepening.closed; late = was.deepening.late };
  }

-- ---- a vertex that was not seen is put at the end of the path

module _ (size : ℕ) (edges : List (ℕ × ℕ)) (seen : List Bool) (tree_of : List ℕ) (next : List (Option ℕ)) (path finished : List ℕ) (u t : ℕ) (u_in : u < size) (unseen : get_or seen u false ≡ false) where
  other_than : (x : ℕ) → get_or seen x false ≡ true → x ≢ u
  other_than x is_seen same = let no : ◌≡◌ {A = Bool} true false = sym is_seen ∙ ap (λ y. get_or seen y false) same ∙ unseen in absurd (cc no)

  still_seen : (x : ℕ) → get_or seen x false ≡ true → get_or (set seen u true) x false ≡ true
  still_seen x is_seen = get_or-set_other seen u x true false (other_than x is_seen) ∙ is_seen

  same_tree : (x : ℕ) → get_or seen x false ≡ true → get_or (set tree_of u t) x 0 ≡ get_or tree_of x 0
  same_tree x is_seen = get_or-set_other tree_of u x t 0 (other_than x is_seen)

  seen_before : (x : ℕ) → x ≢ u → get_or (set seen u true) x false ≡ true → get_or seen x false ≡ true
  seen_before x other is_seen = sym (get_or-set_other seen u x true false other) ∙ is_seen

  enter_placed : IsPlaced size (state seen tree_of next path finished) → IsPlaced size (state (set seen u true) (set tree_of u t) next (path ++ u ∷ []) finished)
  enter_placed was =
      let now_seen : get_or (set seen u true) u false ≡ true = get_or-set_same seen u true false (omega (arith, was.seen_len)) in
      record {
        seen_len = length-set seen u true ∙ was.seen_len;
        tree_len = length-set tree_of u t ∙ was.tree_len;
        next_len = was.next_len;
        path_in = each_push (λ x. (x < size) × (get_or (set seen u true) x false ≡ true)) path u (λ i h. ((was.path_in i h).0, still_seen (get_or path i 0) (was.path_in i h).1)) (u_in, now_seen);
        finished_in = λ p h. ((was.finished_in p h).0, still_seen (get_or finished p 0) (was.finished_in p h).1);
        placed = λ x x_in is_seen. elim (cases_eq x u) [
          | inl same ↦ inr (among_push_new path u x (sym same))
          | inr other ↦ elim (was.placed x x_in (seen_before x other is_seen)) [ inl done ↦ inl done | inr on ↦ inr (among_push_old path u x on) ]
        ];
        path_once = pairs_push (λ x y. x ≢ y) path u was.path_once (λ i h. other_than (get_or path i 0) (was.path_in i h).1);
        finished_once = was.finished_once;
        apart = λ p i hp. each_push (λ y. get_or finished p 0 ≢ y) path u (λ j hj. was.apart p j hp hj) (other_than (get_or finished p 0) (was.finished_in p hp).1) i;
        counted =
            let counts = sum_by-set (λ b. cond (not b) 1 0) seen u true false (omega (arith, was.seen_len)) in
            let one : ◌≡◌ {A = ℕ} (cond (not (get_or seen u false)) 1 0) 1 = ap (λ b. cond (not b) 1 0) unseen in
            omega (arith, was.counted, length_push path u, counts, one);
      }

  enter_cursors : IsPlaced size (state seen tree_of next path finished) → HasCursors size edges (state seen tree_of next path finished) → HasCursors size edges (state (set seen u true) (set tree_of u t) next (path ++ u ∷ []) finished)
  enter_cursors placed was = record {
    next_is = was.next_is;
    passed = each_push (λ x. (e : ℕ) → e < length edges → source edges e ≡ x → edges_up_to (get_or next x None) ≤ e → get_or (set seen u true) (target edges e) false ≡ true) path u
        (λ i h e e_in from up. still_seen (target edges e) (was.passed i h e e_in from up))
        (λ e e_in from up. let left = was.fresh u u_in unseen e e_in from in absurd (omega (arith, left, up)));
    fresh = λ x x_in not_seen.
        let now_seen : get_or (set seen u true) u false ≡ true = get_or-set_same seen u true false (omega (arith, placed.seen_len)) in
        let other : x ≢ u = λ same. let no : ◌≡◌ {A = Bool} true false = sym now_seen ∙ sym (ap (λ y. get_or (set seen u true) y false) same) ∙ not_seen in absurd (cc no) in
        was.fresh x x_in (sym (get_or-set_other seen u x true false other) ∙ not_seen);
  }

  enter_deepening : IsDeepening edges (state seen tree_of next path finished) → ((i : ℕ) → i < length path → Reaches edges (get_or path i 0) u) → IsDeepening edges (state (set seen u true) (set tree_of u t) next (path ++ u ∷ []) finished)
  enter_deepening was reach = record {
    chain = pairs_push (Reaches edges) path u was.chain reach;
    closed = λ p h b to_b. still_seen b (was.closed p h b to_b);
    late = was.late;
  }

  pub enter_traversal : IsTraversal size edges (state seen tree_of next path finished) → ((i : ℕ) → i < length path → Reaches edges (get_or path i 0) u) → IsTraversal size edges (state (set seen u true) (set tree_of u t) next (path ++ u ∷ []) finished)
  enter_traversal was reach = record {
    placed = enter_placed was.placed;
    cursors = enter_cursors was.placed was.cursors;
    deepening = enter_deepening was.deepening reach;
  }

  -- a root stays the root of what it reached
  root_kept : (roots : List ℕ) (tried more : ℕ) → tried ≤ more → ((s : ℕ) → s < tried → (get_or roots s 0 < size) × (get_or seen (get_or roots s 0) false ≡ true)) → (x : ℕ) → get_or seen x false ≡ true → HasRoot edges roots tried tree_of x → HasRoot edges roots more (set tree_of u t) x
  root_kept roots tried more grows roots_seen x is_seen root = (
    root.0,
    omega (arith, root.1),
    same_tree (get_or roots root.0 0) (roots_seen root.0 root.1).1 ∙ root.2 ∙ sym (same_tree x is_seen),
    root.3,
    λ s before.
        let s_in : s < tried = omega (arith, root.1) in
        let a = same_tree (get_or roots s 0) (roots_seen s s_in).1 in
        let b = same_tree x is_seen in
        let c = root.4 s before in
        omega (arith, a, b, c),
  )

  -- from a vertex of the newest tree an edge leads to the new one
  pub enter_trees : (roots : List ℕ) (tried : ℕ) (v : ℕ) → v < size → get_or seen v false ≡ true → get_or tree_of v 0 ≡ t → IsEdge edges v u → IsTraversal size edges (state seen tree_of next path finished) → HasTrees size edges roots tried (t + 1) (state seen tree_of next path finished) → HasTrees size edges roots tried (t + 1) (state (set seen u true) (set tree_of u t) next (path ++ u ∷ []) finished)
  enter_trees roots tried v v_in v_seen v_newest to_u traversal was =
      let here : get_or (set tree_of u t) u 0 ≡ t = get_or-set_same tree_of u t 0 (omega (arith, traversal.placed.tree_len)) in
      record {
        grown_few = was.grown_few;
        roots_seen = λ s h. ((was.roots_seen s h).0, still_seen (get_or roots s 0) (was.roots_seen s h).1);
        grown_only = λ x x_in is_seen. elim (cases_eq x u) [
          | inl same ↦ let e = ap (λ y. get_or (set tree_of u t) y 0) same ∙ here in omega (arith, e)
          | inr other ↦ let old = seen_before x other is_seen in let e = same_tree x old in let h = was.grown_only x x_in old in omega (arith, e, h)
        ];
        path_newest = each_push (λ x. get_or (set tree_of u t) x 0 + 1 ≡ t + 1) path u
            (λ i h. ap (λ k. k + 1) (same_tree (get_or path i 0) (traversal.placed.path_in i h).1) ∙ was.path_newest i h)
            (ap (λ k. k + 1) here);
        falling = λ p h b to_b. let e = same_tree b (traversal.deepening.closed p h b to_b) in let f = same_tree (get_or finished p 0) (traversal.placed.finished_in p h).1 in let g = was.falling p h b to_b in omega (arith, e, f, g);
        grouped = λ p q p_q h. let p_in : p < length finished = omega arith in let e = same_tree (get_or finished p 0) (traversal.placed.finished_in p p_in).1 in let f = same_tree (get_or finished q 0) (traversal.placed.finished_in q h).1 in let g = was.grouped p q p_q h in omega (arith, e, f, g);
        rooted = λ x x_in is_seen. elim (cases_eq x u) [
          | inl same ↦ subst (λ y. HasRoot edges roots tried (set tree_of u t) y) (sym same) (child_root here)
          | inr other ↦ root_kept roots tried tried (omega arith) was.roots_seen x (seen_before x other is_seen) (was.rooted x x_in (seen_before x other is_seen))
        ];
      }
    where
      child_root : get_or (set tree_of u t) u 0 ≡ t → HasRoot edges roots tried (set tree_of u t) u
      child_root here =
          let root = root_kept roots tried tried (omega arith) was.roots_seen v v_seen (was.rooted v v_in v_seen) in
          let v_tree : get_or (set tree_of u t) v 0 ≡ get_or (set tree_of u t) u 0 = same_tree v v_seen ∙ v_newest ∙ sym here in
          (root.0, root.1, root.2 ∙ v_tree, inr (elim root.3 [ inl is_v ↦ edge (subst (λ x. IsEdge edges x u) (sym is_v) to_u) | inr path_v ↦ reaches_edge edges (get_or roots root.0 0) v u path_v to_u ]), λ s before. let h = root.4 s before in omega (arith, h, v_tree))

  -- a root begins a tree
  pub enter_root : (roots : List ℕ) (tried : ℕ) → get_or roots tried 0 ≡ u → path ≡ [] → IsTraversal size edges (state seen tree_of next path finished) → HasTrees size edges roots tried t (state seen tree_of next path finished) → HasTrees size edges roots (tried + 1) (t + 1) (state (set seen u true) (set tree_of u t) next (path ++ u ∷ []) finished)
  enter_root roots tried is_root at_rest traversal was =
      let here : get_or (set tree_of u t) u 0 ≡ t = get_or-set_same tree_of u t 0 (omega (arith, traversal.placed.tree_len)) in
      let now_seen : get_or (set seen u true) u false ≡ true = get_or-set_same seen u true false (omega (arith, traversal.placed.seen_len)) in
      record {
        grown_few = omega (arith, was.grown_few);
        roots_seen = λ s h. elim (cases_lt s tried) [
          | inl before ↦ ((was.roots_seen s before).0, still_seen (get_or roots s 0) (was.roots_seen s before).1)
          | inr past ↦
              let is : get_or roots s 0 ≡ u = (let e : s ≡ tried = omega arith in ap (λ k. get_or roots k 0) e) ∙ is_root in
              (omega (arith, is), ap (λ x. get_or (set seen u true) x false) is ∙ now_seen)
        ];
        grown_only = λ x x_in is_seen. elim (cases_eq x u) [
          | inl same ↦ let e = ap (λ y. get_or (set tree_of u t) y 0) same ∙ here in omega (arith, e)
          | inr other ↦ let old = seen_before x other is_seen in let e = same_tree x old in let h = was.grown_only x x_in old in omega (arith, e, h)
        ];
        path_newest = each_push (λ x. get_or (set tree_of u t) x 0 + 1 ≡ t + 1) path u
            (λ i h. let none : length path ≡ 0 = ap length at_rest in absurd (omega (arith, none)))
            (ap (λ k. k + 1) here);
        falling = λ p h b to_b. let e = same_tree b (traversal.deepening.closed p h b to_b) in let f = same_tree (get_or finished p 0) (traversal.placed.finished_in p h).1 in let g = was.falling p h b to_b in omega (arith, e, f, g);
        grouped = λ p q p_q h. let p_in : p < length finished = omega arith in let e = same_tree (get_or finished p 0) (traversal.placed.finished_in p p_in).1 in let f = same_tree (get_or finished q 0) (traversal.placed.finished_in q h).1 in let g = was.grouped p q p_q h in omega (arith, e, f, g);
        rooted = λ x x_in is_seen. elim (cases_eq x u) [
          | inl same ↦ subst (λ y. HasRoot edges roots (tried + 1) (set tree_of u t) y) (sym same) (
            tried,
            omega arith,
            ap (λ x. get_or (set tree_of u t) x 0) is_root,
            inl is_root,
            λ s before.
                let e = same_tree (get_or roots s 0) (was.roots_seen s before).1 in
                let h = was.grown_only (get_or roots s 0) (was.roots_seen s before).0 (was.roots_seen s before).1 in
                omega (arith, e, h, here),
          )
          | inr other ↦ root_kept roots tried (tried + 1) (omega arith) was.roots_seen x (seen_before x other is_seen) (was.rooted x x_in (seen_before x other is_seen))
        ];
      }

-- ---- what the code reads

-- what it means that a vertex follows an edge
pub record Follows (size : ℕ) (edges : List (ℕ × ℕ)) (next : List (Option ℕ)) (v e : ℕ) (link : Option ℕ) : Type 0 where
  pub v_in : v < size
  pub follows : get_or next v None ≡ Some e
  pub e_in : e < length edges
  pub from : source edges e ≡ v
  pub to_in : target edges e < size
  pub is_edge : IsEdge edges v (target edges e)
  pub is_link : IsLastLeaving edges (source edges e) e link

module _ (size : ℕ) (edges : List (ℕ × ℕ)) (seen : List Bool) (tree_of : List ℕ) (next : List (Option ℕ)) (path finished : List ℕ) (v : ℕ) (traversal : IsTraversal size edges (state seen tree_of next (path ++ v ∷ []) finished)) where
  pub last_in : v < size
  last_in = (each_last (λ u. (u < size) × (get_or seen u false ≡ true)) path v traversal.placed.path_in).0

  pub last_seen : get_or seen v false ≡ true
  last_seen = (each_last (λ u. (u < size) × (get_or seen u false ≡ true)) path v traversal.placed.path_in).1

  pub read_next : (read : Option ℕ) → read ≡ get_or next v read → get_or next v None ≡ read
  read_next read is = sym (get_or_read next v read (omega (arith, last_in, traversal.placed.next_len)) is None)

  pub read_follows : (last earlier : List (Option ℕ)) (e : ℕ) (read link : Option ℕ) → AreEdgesBelow size edges → IsLinked size edges last earlier → read ≡ get_or next v read → read ≡ Some e → link ≡ get_or earlier e link → Follows size edges next v e link
  read_follows last earlier e read link graph linked is_read is_some is_link =
      let follows : get_or next v None ≡ Some e = read_next read is_read ∙ is_some in
      let at = subst (λ (o : Option ℕ). IfSome o (λ f. (f < length edges) × (source edges f ≡ v))) follows (traversal.cursors.next_is v last_in) in
      record {
        v_in = last_in;
        follows = follows;
        e_in = at.0;
        from = at.1;
        to_in = (ends_below size edges graph e at.0).1;
        is_edge = subst (λ x. IsEdge edges x (target edges e)) at.1 (place_edge edges e at.0);
        is_link = subst (λ (o : Option ℕ). IsLastLeaving edges (source edges e) e o) (sym (get_or_read earlier e link (omega (arith, at.0, linked.earlier_len)) is_link None)) (linked.earlier_is e at.0);
      }

  pub read_seen : (x : ℕ) (read : Bool) → x < size → read ≡ get_or seen x read → get_or seen x false ≡ read
  read_seen x read x_in is = sym (get_or_read seen x read (omega (arith, x_in, traversal.placed.seen_len)) is false)

-- a link behind an edge is lower than the edge
pub link_falls : (edges : List (ℕ × ℕ)) (v e : ℕ) (link : Option ℕ) → IsLastLeaving edges v e link → edges_up_to link < suc e
link_falls edges v e None is = omega arith
link_falls edges v e (Some f) is = omega (arith, is.is_one.0)

pub follow_falls : (size : ℕ) (edges : List (ℕ × ℕ)) (next : List (Option ℕ)) (v e : ℕ) (link : Option ℕ) → length next ≡ size → Follows size edges next v e link → sum_by edges_up_to (set next v link) < sum_by edges_up_to next
follow_falls size edges next v e link len f =
    let sums = sum_by-set edges_up_to next v link None (omega (arith, len, f.v_in)) in
    let old : edges_up_to (get_or next v None) ≡ suc e = ap edges_up_to f.follows in
    let falls = link_falls edges (source edges e) e link f.is_link in
    omega (arith, sums, old, falls)

-- every vertex of the path reaches a vertex to which the last one has an edge
pub path_reaches : (edges : List (ℕ × ℕ)) (path : List ℕ) (v u : ℕ) → ((i j : ℕ) → i < j → j < length (path ++ v ∷ []) → Reaches edges (get_or (path ++ v ∷ []) i 0) (get_or (path ++ v ∷ []) j 0)) → IsEdge edges v u → (i : ℕ) → i < length (path ++ v ∷ []) → Reaches edges (get_or (path ++ v ∷ []) i 0) u
path_reaches edges path v u chain to_u = each_push (λ x. Reaches edges x u) path v (λ i h. reaches_edge edges (get_or path i 0) v u (pairs_last (Reaches edges) path v chain i h) to_u) (edge to_u)

-- a traversal whose path ends in v, read from a value and from its fields
pub reopened : (size : ℕ) (edges : List (ℕ × ℕ)) (v : ℕ) (fields value : State) → fields ≡ value → IsTraversal size edges (record value { path = value.path ++ v ∷ [] }) → IsTraversal size edges (record fields { path = fields.path ++ v ∷ [] })
reopened size edges v fields value is traversal = subst (λ s. IsTraversal size edges (record s { path = s.path ++ v ∷ [] })) (sym is) traversal

pub trees_reopened : (size : ℕ) (edges : List (ℕ × ℕ)) (roots : List ℕ) (tried grown v : ℕ) (fields value : State) → fields ≡ value → HasTrees size edges roots tried grown (record value { path = value.path ++ v ∷ [] }) → HasTrees size edges roots tried grown (record fields { path = fields.path ++ v ∷ [] })
trees_reopened size edges roots tried grown v fields value is trees = subst (λ s. HasTrees size edges roots tried grown (record s { path = s.path ++ v ∷ [] })) (sym is) trees

pub pass_trees : (size : ℕ) (edges : List (ℕ × ℕ)) (roots : List ℕ) (tried grown : ℕ) (seen : List Bool) (tree_of : List ℕ) (next after : List (Option ℕ)) (path finished : List ℕ) → HasTrees size edges roots tried grown (state seen tree_of next path finished) → HasTrees size edges roots tried grown (state seen tree_of after path finished)
pass_trees size edges roots tried grown seen tree_of next after path finished was = record {
  grown_few = was.grown_few;
  roots_seen = was.roots_seen;
  grown_only = was.grown_only;
  path_newest = was.path_newest;
  falling = was.falling;
  grouped = was.grouped;
  rooted = was.rooted;
}

module _ (size : ℕ) (edges : List (ℕ × ℕ)) (seen : List Bool) (tree_of : List ℕ) (next : List (Option ℕ)) (path finished : List ℕ) (v e t : ℕ) (link : Option ℕ) (traversal : IsTraversal size edges (state seen tree_of next (path ++ v ∷ []) finished)) (f : Follows size edges next v e link) where
  -- the edge leads to a seen vertex
  pub back_traversal : get_or seen (target edges e) false ≡ true → IsTraversal size edges (state seen tree_of (set next v link) (path ++ v ∷ []) finished)
  back_traversal target_seen = pass_traversal size edges seen tree_of next (path ++ v ∷ []) finished v e link traversal f.v_in (last_seen size edges seen tree_of next path finished v traversal) f.follows f.is_link target_seen

  -- the edge leads to a new vertex
  module _ (unseen : get_or seen (target edges e) false ≡ false) where
    deeper : IsTraversal size edges (state (set seen (target edges e) true) (set tree_of (target edges e) t) next (path ++ v ∷ [] ++ target edges e ∷ []) finished)
    deeper = enter_traversal size edges seen tree_of next (path ++ v ∷ []) finished (target edges e) t f.to_in unseen traversal (path_reaches edges path v (target edges e) traversal.deepening.chain f.is_edge)

    pub onward_traversal : IsTraversal size edges (state (set seen (target edges e) true) (set tree_of (target edges e) t) (set next v link) (path ++ v ∷ [] ++ target edges e ∷ []) finished)
    onward_traversal =
        pass_traversal size edges (set seen (target edges e) true) (set tree_of (target edges e) t) next (path ++ v ∷ [] ++ target edges e ∷ []) finished v e link deeper f.v_in
        (still_seen size edges seen tree_of next path finished (target edges e) t f.to_in unseen v (last_seen size edges seen tree_of next path finished v traversal))
        f.follows f.is_link
        (get_or-set_same seen (target edges e) true false (omega (arith, f.to_in, traversal.placed.seen_len)))

    pub onward_trees : (roots : List ℕ) (tried : ℕ) → HasTrees size edges roots tried (t + 1) (state seen tree_of next (path ++ v ∷ []) finished) → HasTrees size edges roots tried (t + 1) (state (set seen (target edges e) true) (set tree_of (target edges e) t) (set next v link) (path ++ v ∷ [] ++ target edges e ∷ []) finished)
    onward_trees roots tried was =
        let newest : get_or tree_of v 0 + 1 ≡ t + 1 = each_last (λ u. get_or tree_of u 0 + 1 ≡ t + 1) path v was.path_newest in
        pass_trees size edges roots tried (t + 1) (set seen (target edges e) true) (set tree_of (target edges e) t) next (set next v link) (path ++ v ∷ [] ++ target edges e ∷ []) finished
        (enter_trees size edges seen tree_of next (path ++ v ∷ []) finished (target edges e) t f.to_in unseen roots tried v f.v_in (last_seen size edges seen tree_of next path finished v traversal) (omega (arith, newest)) f.is_edge traversal was)
