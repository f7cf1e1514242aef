-- The rows of the order between classes, one edge after another.
use Rattle.std.proofs.Common.{◌≡◌, ◌≢◌, ℕ, suc, ◌+◌, ◌<◌, ◌≤◌, ◌⊎◌, Bool, true, false, Option, Some, None, List, length, get_or, refl, sym, ◌∙◌, ap, subst, inl, inr, arith, IfSome}
use Rattle.std.specs.Prelude.{◌||◌}
use Rattle.std.proofs.lemmas.Bool.{cases_lt, cases_eq, or_cases, or_left, or_right}
use Rattle.pj_bits.specs.Matrix.{bit}
use Rattle.pj_reach.specs.Reach.{AreEdgesBelow, Reaches, edge, onward, InOneClass}
use Rattle.pj_reach.specs.Links.{source, target, edges_up_to, IsLastLeaving}
use Rattle.pj_reach.specs.Classes.{IsCondensed}
use Rattle.pj_reach.specs.Orders.{HasClasses, IsSound, IsDone, IsOrdered}
use Rattle.pj_reach.proofs.Paths.{edge_place, place_edge, ends_below, reaches_trans}

-- ---- a row after one class was put into it, with all that lies behind that class

-- the row `class` has gained `other` and what the row `other` has, and no other row has changed
pub record Joined (class other : ℕ) (rows after : List (List Bool)) : Type 0 where
  pub cases : (r c : ℕ) → bit after r c ≡ true → (bit rows r c ≡ true) ⊎ ((r ≡ class) × ((c ≡ other) ⊎ (bit rows other c ≡ true)))
  pub kept : (r c : ℕ) → bit rows r c ≡ true → bit after r c ≡ true
  pub has : bit after class other ≡ true
  pub takes : (c : ℕ) → bit rows other c ≡ true → bit after class c ≡ true

pub joined : (class other : ℕ) (rows between after : List (List Bool)) → other ≢ class → bit between class other ≡ true → ((r c : ℕ) → (r ≢ class) ⊎ (c ≢ other) → bit between r c ≡ bit rows r c) → ((c : ℕ) → bit after class c ≡ (bit between class c || bit between other c)) → ((r c : ℕ) → r ≢ class → bit after r c ≡ bit between r c) → Joined class other rows after
joined class other rows between after apart here unset row others =
    let set_kept : (r c : ℕ) → bit rows r c ≡ true → bit between r c ≡ true =
    λ r c h. elim (cases_eq r class) [
      | inl r_is ↦ elim (cases_eq c other) [
        | inl c_is ↦ subst (λ x. bit between x c ≡ true) (sym r_is) (subst (λ x. bit between class x ≡ true) (sym c_is) here)
        | inr c_not ↦ unset r c (inr c_not) ∙ h
      ]
      | inr r_not ↦ unset r c (inl r_not) ∙ h
    ] in
    record {
      cases = λ r c h. elim (cases_eq r class) [
        | inl r_is ↦
            let in_row : (bit between class c || bit between other c) ≡ true = sym (row c) ∙ sym (ap (λ x. bit after x c) r_is) ∙ h in
            elim (or_cases (bit between class c) (bit between other c) in_row) [
              | inl old ↦ elim (cases_eq c other) [
                | inl c_is ↦ inr (r_is, inl c_is)
                | inr c_not ↦ inl (ap (λ x. bit rows x c) r_is ∙ sym (unset class c (inr c_not)) ∙ old)
              ]
              | inr behind ↦ inr (r_is, inr (sym (unset other c (inl apart)) ∙ behind))
            ]
        | inr r_not ↦ inl (sym (unset r c (inl r_not)) ∙ sym (others r c r_not) ∙ h)
      ];
      kept = λ r c h. elim (cases_eq r class) [
        | inl r_is ↦ ap (λ x. bit after x c) r_is ∙ row c ∙ or_left (bit between class c) (bit between other c) (set_kept class c (sym (ap (λ x. bit rows x c) r_is) ∙ h))
        | inr r_not ↦ others r c r_not ∙ set_kept r c h
      ];
      has = row other ∙ or_left (bit between class other) (bit between other other) here;
      takes = λ c h. row c ∙ or_right (bit between class c) (bit between other c) (unset other c (inl apart) ∙ h);
    }

-- ---- the next link of a chain

-- what holds of an edge and of those of its chain behind it holds of those behind the link before it
pub chain_step : (P : ℕ → Type 0) (edges : List (ℕ × ℕ)) (v e : ℕ) (link : Option ℕ) → source edges e ≡ v → IsLastLeaving edges (source edges e) e link → P e → ((f : ℕ) → f < length edges → source edges f ≡ v → suc e ≤ f → P f) → (f : ℕ) → f < length edges → source edges f ≡ v → edges_up_to link ≤ f → P f
chain_step P edges v e link from is here behind f f_in f_from up =
    elim (cases_lt f e) [
      | inl before ↦ let h = is.is_last f before (f_from ∙ sym from) in absurd (omega (arith, h, up))
      | inr not_before ↦ elim (cases_eq f e) [
        | inl this ↦ subst P (sym this) here
        | inr later ↦ behind f f_in f_from (omega arith)
      ]
    ]

-- ---- soundness, and what is done

-- one class after another
pub class_then_path : (edges : List (ℕ × ℕ)) (x a z : ℕ) → InOneClass edges x a → Reaches edges a z → Reaches edges x z
class_then_path edges x a z same path = elim same [ inl is ↦ subst (λ y. Reaches edges y z) (sym is) path | inr both ↦ reaches_trans edges x a z both.0 path ]

pub path_then_class : (edges : List (ℕ × ℕ)) (x z w : ℕ) → Reaches edges x z → InOneClass edges z w → Reaches edges x w
path_then_class edges x z w path same = elim same [ inl is ↦ subst (λ y. Reaches edges x y) is path | inr both ↦ reaches_trans edges x z w path both.0 ]

-- the edges of the vertices from a place on are done
abbrev pub DoneFrom : ℕ → List (ℕ × ℕ) → List ℕ → List ℕ → List (List Bool) → ℕ → Type 0
DoneFrom size edges class_of finished rows place = (p : ℕ) → place ≤ p → p < length finished → (e : ℕ) → e < length edges → source edges e ≡ get_or finished p 0 → IsDone size edges class_of rows e

module _ (size : ℕ) (edges : List (ℕ × ℕ)) (class_of : List ℕ) (classes : ℕ) (graph : AreEdgesBelow size edges) (has : HasClasses size edges class_of classes) where
  -- where each edge that leaves a class is done, the class's row is full
  pub row_full : (rows : List (List Bool)) (x b : ℕ) → Reaches edges x b → ((e : ℕ) → e < length edges → get_or class_of (source edges e) 0 ≡ get_or class_of x 0 → IsDone size edges class_of rows e) → b < size → get_or class_of x 0 ≢ get_or class_of b 0 → bit rows (get_or class_of x 0) (get_or class_of b 0) ≡ true
  row_full rows x b (edge h) done b_in apart =
      let at = edge_place edges x b h in
      let is_done = done at.0 at.1 (ap (λ y. get_or class_of y 0) at.2) in
      subst (λ y. bit rows (get_or class_of x 0) (get_or class_of y 0) ≡ true) at.3
      (subst (λ y. bit rows (get_or class_of y 0) (get_or class_of (target edges at.0) 0) ≡ true) at.2
      (is_done.direct (λ same. apart (sym (ap (λ y. get_or class_of y 0) at.2) ∙ same ∙ ap (λ y. get_or class_of y 0) at.3))))
  row_full rows x b (onward {b = y} h more) done b_in apart =
      let at = edge_place edges x y h in
      let is_done = done at.0 at.1 (ap (λ z. get_or class_of z 0) at.2) in
      elim (cases_eq (get_or class_of y 0) (get_or class_of x 0)) [
        | inl same ↦
            subst (λ k. bit rows k (get_or class_of b 0) ≡ true) same
            (row_full rows y b more (λ e e_in from. done e e_in (from ∙ same)) b_in (λ y_b. apart (sym same ∙ y_b)))
        | inr other ↦
            let leaves : get_or class_of (source edges at.0) 0 ≢ get_or class_of (target edges at.0) 0 =
            λ e. other (sym (ap (λ z. get_or class_of z 0) at.3) ∙ sym e ∙ ap (λ z. get_or class_of z 0) at.2) in
            elim (cases_eq (get_or class_of y 0) (get_or class_of b 0)) [
              | inl y_b ↦
                  subst (λ k. bit rows (get_or class_of x 0) k ≡ true) (ap (λ z. get_or class_of z 0) at.3 ∙ y_b)
                  (subst (λ z. bit rows (get_or class_of z 0) (get_or class_of (target edges at.0) 0) ≡ true) at.2 (is_done.direct leaves))
              | inr not_yet ↦
                  subst (λ z. bit rows (get_or class_of z 0) (get_or class_of b 0) ≡ true) at.2
                  (is_done.behind leaves b b_in (subst (λ z. Reaches edges z b) (sym at.3) more) (λ e. not_yet (sym (ap (λ z. get_or class_of z 0) at.3) ∙ e)))
            ]
      ]

  pub done_kept : (class other : ℕ) (rows after : List (List Bool)) → Joined class other rows after → (e : ℕ) → IsDone size edges class_of rows e → IsDone size edges class_of after e
  done_kept class other rows after join e was = record {
    direct = λ leaves. join.kept (get_or class_of (source edges e) 0) (get_or class_of (target edges e) 0) (was.direct leaves);
    behind = λ leaves b b_in path apart. join.kept (get_or class_of (source edges e) 0) (get_or class_of b 0) (was.behind leaves b b_in path apart);
  }

  -- an edge within a class adds nothing
  pub inner_done : (rows : List (List Bool)) (e : ℕ) → get_or class_of (source edges e) 0 ≡ get_or class_of (target edges e) 0 → IsDone size edges class_of rows e
  inner_done rows e same = record {
    direct = λ leaves. absurd (leaves same);
    behind = λ leaves. absurd (leaves same);
  }

  -- the edge e leads to another class, whose row is full
  module _ (e : ℕ) (e_in : e < length edges) (rows after : List (List Bool)) (join : Joined (get_or class_of (source edges e) 0) (get_or class_of (target edges e) 0) rows after) where
    pub edge_done : ((f : ℕ) → f < length edges → get_or class_of (source edges f) 0 ≡ get_or class_of (target edges e) 0 → IsDone size edges class_of rows f) → IsDone size edges class_of after e
    edge_done full = record {
      direct = λ leaves. join.has;
      behind = λ leaves b b_in path apart. join.takes (get_or class_of b 0) (row_full rows (target edges e) b path full b_in apart);
    }

    pub sound_kept : get_or class_of (target edges e) 0 ≢ get_or class_of (source edges e) 0 → IsSound size edges class_of rows → IsSound size edges class_of after
    sound_kept apart was p q p_in q_in is_set =
        let ends = ends_below size edges graph e e_in in
        let step : Reaches edges (source edges e) (target edges e) = edge (place_edge edges e e_in) in
        elim (join.cases (get_or class_of p 0) (get_or class_of q 0) is_set) [
          | inl old ↦ was p q p_in q_in old
          | inr new ↦
              let with_p : InOneClass edges p (source edges e) = (has.one_class p (source edges e) p_in ends.0).0 new.0 in
              elim new.1 [
                | inl is_other ↦ (
                  (λ same. apart (sym is_other ∙ sym same ∙ new.0)),
                  path_then_class edges p (target edges e) q (class_then_path edges p (source edges e) (target edges e) with_p step) ((has.one_class (target edges e) q ends.1 q_in).0 (sym is_other)),
                )
                | inr behind ↦
                    let on = was (target edges e) q ends.1 q_in behind in (
                      (λ same.
                          let back : Reaches edges (target edges e) (source edges e) = path_then_class edges (target edges e) q (source edges e) on.1 ((has.one_class q (source edges e) q_in ends.0).0 (sym same ∙ new.0)) in
                          apart (sym ((has.one_class (source edges e) (target edges e) ends.0 ends.1).1 (inr (step, back))))),
                      reaches_trans edges p (target edges e) q (class_then_path edges p (source edges e) (target edges e) with_p step) on.1,
                    )
              ]
        ]

  -- ---- tree by tree

  module _ (tree_of finished : List ℕ) (trees : IsCondensed size edges tree_of finished) where
    same_tree : (a b : ℕ) → a < size → b < size → get_or class_of a 0 ≡ get_or class_of b 0 → get_or tree_of a 0 ≡ get_or tree_of b 0
    same_tree a b a_in b_in same = (trees.one_tree a b a_in b_in).1 ((has.one_class a b a_in b_in).0 same)

    same_class : (a b : ℕ) → a < size → b < size → get_or tree_of a 0 ≡ get_or tree_of b 0 → get_or class_of a 0 ≡ get_or class_of b 0
    same_class a b a_in b_in same = (has.one_class a b a_in b_in).1 ((trees.one_tree a b a_in b_in).0 same)

    -- the classes to which the edges of a vertex lead have full rows once the later vertices are done
    pub later_full : (rows : List (List Bool)) (place : ℕ) → place < length finished → DoneFrom size edges class_of finished rows (place + 1) → (e f : ℕ) → e < length edges → source edges e ≡ get_or finished place 0 → f < length edges → get_or class_of (source edges f) 0 ≡ get_or class_of (target edges e) 0 → get_or class_of (source edges f) 0 ≢ get_or class_of (get_or finished place 0) 0 → IsDone size edges class_of rows f
    later_full rows place place_in done e f e_in from f_in same apart =
        let e_ends = ends_below size edges graph e e_in in
        let f_ends = ends_below size edges graph f f_in in
        let v_in : get_or finished place 0 < size = trees.finished_in place place_in in
        let at = trees.all_finished (source edges f) f_ends.0 in
        let up : get_or tree_of (get_or finished place 0) 0 ≤ get_or tree_of (target edges e) 0 = subst (λ x. get_or tree_of x 0 ≤ get_or tree_of (target edges e) 0) from (trees.rising (source edges e) (target edges e) (place_edge edges e e_in)) in
        let one = same_tree (source edges f) (target edges e) f_ends.0 e_ends.1 same in
        let other : get_or tree_of (source edges f) 0 ≢ get_or tree_of (get_or finished place 0) 0 = λ t. apart (same_class (source edges f) (get_or finished place 0) f_ends.0 v_in t) in
        let behind : place + 1 ≤ at.0 = elim (cases_lt place at.0) [
          | inl after ↦ omega arith
          | inr not_after ↦ elim (cases_eq at.0 place) [
            | inl here ↦ absurd (other (ap (λ x. get_or tree_of x 0) (sym at.2 ∙ ap (λ k. get_or finished k 0) here)))
            | inr before ↦
                let h : at.0 < place = omega arith in
                let low = trees.grouped at.0 place h place_in in
                let tree_at = ap (λ x. get_or tree_of x 0) at.2 in
                absurd (other (let e : get_or tree_of (source edges f) 0 ≡ get_or tree_of (get_or finished place 0) 0 = omega (arith, low, tree_at, one, up) in e))
          ]
        ] in
        done at.0 behind at.1 f f_in (sym at.2)

    pub all_ordered : (rows : List (List Bool)) → IsSound size edges class_of rows → DoneFrom size edges class_of finished rows 0 → IsOrdered size edges class_of rows
    all_ordered rows sound done a b a_in b_in = (
      sound a b a_in b_in,
      λ h. row_full rows a b h.1
          (λ e e_in from. let at = trees.all_finished (source edges e) (ends_below size edges graph e e_in).0 in done at.0 (omega arith) at.1 e e_in (sym at.2))
          b_in h.0,
    )

-- ---- along the chain of a vertex's edges

-- the edges of a vertex that stand behind the next one are done
pub record Following (size : ℕ) (edges : List (ℕ × ℕ)) (class_of : List ℕ) (classes vertex : ℕ) (start rows : List (List Bool)) (next : Option ℕ) : Type 0 where
  pub size_is : length rows ≡ classes
  pub next_is : IfSome next (λ e. (e < length edges) × (source edges e ≡ vertex))
  pub sound : IsSound size edges class_of rows
  pub kept : (e : ℕ) → IsDone size edges class_of start e → IsDone size edges class_of rows e
  pub done : (e : ℕ) → e < length edges → source edges e ≡ vertex → edges_up_to next ≤ e → IsDone size edges class_of rows e

pub link_leaves : (edges : List (ℕ × ℕ)) (vertex e : ℕ) (link : Option ℕ) → e < length edges → source edges e ≡ vertex → IsLastLeaving edges (source edges e) e link → IfSome link (λ f. (f < length edges) × (source edges f ≡ vertex))
link_leaves edges vertex e None e_in from is = tt
link_leaves edges vertex e (Some f) e_in from is = (omega (arith, is.is_one.0), is.is_one.1 ∙ from)

pub follow_step : (size : ℕ) (edges : List (ℕ × ℕ)) (class_of : List ℕ) (classes vertex : ℕ) (start rows after : List (List Bool)) (e : ℕ) (link : Option ℕ) → Following size edges class_of classes vertex start rows (Some e) → IsLastLeaving edges (source edges e) e link → length after ≡ classes → IsSound size edges class_of after → ((f : ℕ) → IsDone size edges class_of rows f → IsDone size edges class_of after f) → IsDone size edges class_of after e → Following size edges class_of classes vertex start after link
follow_step size edges class_of classes vertex start rows after e link was is size_is sound more here = record {
  size_is = size_is;
  next_is = link_leaves edges vertex e link was.next_is.0 was.next_is.1 is;
  sound = sound;
  kept = λ f h. more f (was.kept f h);
  done = chain_step (IsDone size edges class_of after) edges vertex e link was.next_is.1 is here (λ f f_in from up. more f (was.done f f_in from up));
}
