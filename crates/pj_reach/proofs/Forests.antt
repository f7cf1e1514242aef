-- A traversal at its start and at its end.
use Rattle.std.proofs.Common.{◌≡◌, ℕ, ◌+◌, ◌<◌, ◌≤◌, Bool, true, false, not, cond, ◌*◌, Option, Some, None, List, [], length, get_or, replicate, sym, ◌∙◌, ap, subst, inl, inr, arith, IfSome}
use Rattle.std.proofs.lemmas.Bool.{cases_lt}
use Rattle.std.proofs.lemmas.List.{get_or-replicate, get_or_past, length-replicate}
use Rattle.std.proofs.lemmas.List.Folds.{sum_by-replicate}
use Rattle.std.specs.List.{count_by}
use Rattle.pj_reach.specs.Reach.{IsEdge}
use Rattle.pj_reach.specs.Links.{source, IsLastLeaving, IsLinked}
use Rattle.pj_reach.specs.Traversals.{State, Among, HasTrees, IsTraversal}
use Rattle.pj_reach.specs.Forest.{IsForest}
use Rattle.pj_reach.proofs.Pushes.{among_nil}
use Rattle.pj_reach.proofs.Traversing.{state}

-- ---- at the start

none_seen : (n v : ℕ) → get_or (replicate n false) v false ≡ false
none_seen n v =
    elim (cases_lt v n) [
      | inl within ↦ get_or-replicate n v false false within
      | inr past ↦ get_or_past (replicate n false) v false (omega (arith, length-replicate n false))
    ]

not_seen : {X : Type 0} (n v : ℕ) → get_or (replicate n false) v false ≡ true → X
not_seen n v h = let no : ◌≡◌ {A = Bool} true false = sym h ∙ none_seen n v in absurd (cc no)

module _ (size : ℕ) (edges : List (ℕ × ℕ)) (last earlier : List (Option ℕ)) (linked : IsLinked size edges last earlier) where
  first_link : (v : ℕ) (link : Option ℕ) → IsLastLeaving edges v (length edges) link → IfSome link (λ e. (e < length edges) × (source edges e ≡ v))
  first_link v None is = tt
  first_link v (Some e) is = is.is_one

  pub new_traversal : IsTraversal size edges (state (replicate size false) (replicate size 0) last [] [])
  new_traversal = record {
    placed = record {
      seen_len = length-replicate size false;
      tree_len = length-replicate {A = ℕ} size 0;
      next_len = linked.last_len;
      path_in = λ i h. absurd (omega (arith, h));
      finished_in = λ p h. absurd (omega (arith, h));
      placed = λ v v_in is_seen. not_seen size v is_seen;
      path_once = λ i j i_j h. absurd (omega (arith, h));
      finished_once = λ p q p_q h. absurd (omega (arith, h));
      apart = λ p i hp. absurd (omega (arith, hp));
      counted = let none : count_by not (replicate size false) ≡ size * 1 = sum_by-replicate (λ b. cond (not b) 1 0) size false in omega (arith, none);
    };
    cursors = record {
      next_is = λ v v_in. first_link v (get_or last v None) (linked.last_is v v_in);
      passed = λ i h. absurd (omega (arith, h));
      fresh = λ v v_in unseen e e_in from. (linked.last_is v v_in).is_last e e_in from;
    };
    deepening = record {
      chain = λ i j i_j h. absurd (omega (arith, h));
      closed = λ p h. absurd (omega (arith, h));
      late = λ p k p_k h. absurd (omega (arith, h));
    };
  }

  pub new_trees : (roots : List ℕ) → HasTrees size edges roots 0 0 (state (replicate size false) (replicate size 0) last [] [])
  new_trees roots = record {
    grown_few = omega arith;
    roots_seen = λ s h. absurd (omega (arith, h));
    grown_only = λ v v_in is_seen. not_seen size v is_seen;
    path_newest = λ i h. absurd (omega (arith, h));
    falling = λ p h. absurd (omega (arith, h));
    grouped = λ p q p_q h. absurd (omega (arith, h));
    rooted = λ v v_in is_seen. not_seen size v is_seen;
  }

-- ---- a root that was met before

pub root_seen : (size : ℕ) (edges : List (ℕ × ℕ)) (roots : List ℕ) (tried grown root : ℕ) (w : State) → get_or roots tried 0 ≡ root → root < size → get_or w.seen root false ≡ true → HasTrees size edges roots tried grown w → HasTrees size edges roots (tried + 1) grown w
root_seen size edges roots tried grown root w is_root root_in is_seen was = record {
  grown_few = omega (arith, was.grown_few);
  roots_seen = λ s h. elim (cases_lt s tried) [
    | inl before ↦ was.roots_seen s before
    | inr past ↦
        let is : get_or roots s 0 ≡ root = (let e : s ≡ tried = omega arith in ap (λ k. get_or roots k 0) e) ∙ is_root in
        (omega (arith, is, root_in), ap (λ x. get_or w.seen x false) is ∙ is_seen)
  ];
  grown_only = was.grown_only;
  path_newest = was.path_newest;
  falling = was.falling;
  grouped = was.grouped;
  rooted = λ v v_in v_seen. let root = was.rooted v v_in v_seen in (root.0, omega (arith, root.1), root.2, root.3, root.4);
}

-- ---- at the end

module _ (size : ℕ) (edges : List (ℕ × ℕ)) (roots : List ℕ) (grown : ℕ) (w : State) (each_is_root : (v : ℕ) → v < size → Among roots v) (traversal : IsTraversal size edges w) (at_rest : w.path ≡ []) (trees : HasTrees size edges roots (length roots) grown w) where
  all_seen : (v : ℕ) → v < size → get_or w.seen v false ≡ true
  all_seen v v_in =
      let at = each_is_root v v_in in
      ap (λ x. get_or w.seen x false) (sym at.2) ∙ (trees.roots_seen at.0 at.1).1

  all_finished : (v : ℕ) → v < size → Among w.finished v
  all_finished v v_in =
      elim (traversal.placed.placed v v_in (all_seen v v_in)) [
        | inl done ↦ done
        | inr on ↦ absurd (among_nil v (subst (λ xs. Among xs v) at_rest on))
      ]

  pub whole_forest : IsForest size edges roots w.tree_of w.finished
  whole_forest = record {
    tree_len = traversal.placed.tree_len;
    finished_few = omega (arith, traversal.placed.counted);
    finished_in = λ p h. (traversal.placed.finished_in p h).0;
    all_finished = all_finished;
    once = traversal.placed.finished_once;
    late = traversal.deepening.late;
    falling = λ a b a_in to_b.
        let at = all_finished a a_in in
        let falls = trees.falling at.0 at.1 b (subst (λ x. IsEdge edges x b) (sym at.2) to_b) in
        subst (λ x. get_or w.tree_of b 0 ≤ get_or w.tree_of x 0) at.2 falls;
    grouped = trees.grouped;
    rooted = λ v v_in. trees.rooted v v_in (all_seen v v_in);
    few = λ v v_in. let small = trees.grown_only v v_in (all_seen v v_in) in omega (arith, small, trees.grown_few);
  }
