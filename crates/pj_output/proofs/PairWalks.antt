-- A walk over the targets of a live vertex, each of which gives at most one pair.
use Rattle.std.proofs.Common.{◌≡◌, ℕ, true, List, ◌++◌, Option, Some, None, map, refl, sym, ap, subst, inl, inr}
use Rattle.std.specs.Prelude.{◌⊎◌, IsTrue, Contains, is_some}
use Rattle.std.specs.Ordering.{is_lt}
use Rattle.std.specs.declared.cmp.Ordering.{Ordering}
use Rattle.std.specs.declared.cmp.Ordering.TheVariants.{Less, Equal, Greater}
use Rattle.std.proofs.lemmas.Option.{same_Some}
use Rattle.pj_change.specs.declared.point.Point.{Point}
use Rattle.pj_change.specs.declared.graph.Vertex.{Vertex}
use Rattle.pj_change.specs.declared.change.Record.{Record}
use Rattle.pj_change.specs.Gathers.{Gathers}
use Rattle.pj_change.specs.Graph.{point_cmp}
use Rattle.pj_change.specs.Vertices.{first_point, last_point}
use Rattle.pj_change.proofs.EqualNames.{point_tied}
use Rattle.pj_change.proofs.Gathering.{gathers_none, gathers_both, gathers_alike}
use Rattle.pj_change.proofs.LawfulLists.{first_part, second_part}
use Rattle.pj_change.proofs.OneCover.{less_is}
use Rattle.pj_change.proofs.Orders.{point_total}
use Rattle.pj_change.proofs.PickedMembers.{mapped}
use Rattle.pj_pmap.specs.Pairs.{value_at}
use Rattle.pj_pmap.proofs.Lookups.{value_contains}
use Rattle.pj_pmap.proofs.Order.{less_back}
use Rattle.pj_rows.specs.declared.values.Here.{Here}
use Rattle.pj_dead.specs.declared.row.PseudoRow.{PseudoRow}
use Rattle.pj_dead.specs.Pseudo.{row_cmp, HasRow}
use Rattle.pj_dead.proofs.RowKeys.{row_total, row_tied}
use Rattle.pj_view.specs.SetGraph.{graph_of}
use Rattle.pj_output.specs.Pairs.{IsPairOf, IsPairTo}
use Rattle.pj_output.specs.Targets.{LeadsTo, IsNext}
use Rattle.pj_output.proofs.NextPoints.{is_before, GoesUp}

-- ---- the loop

module _ (P : Point → Type 0) (live : List Vertex) (from : ℕ) where
  -- the pairs of the targets before the next one are added
  pub record IsWalked (old new : List (ℕ × ℕ)) (next : Option Point) : Type 0 where
    pub is : (p : Point) → next ≡ Some p → P p
    pub pairs : Gathers (IsPairOf (λ q. P q × IsTrue (is_before next q)) live from) old new

  next_is : (after next : Option Point) → IsNext P after next → (p : Point) → next ≡ Some p → P p
  next_is after None n p e = absurd (cc)
  next_is after (Some q) n p e = subst P (same_Some q p e) n.is

  none_before : (next : Option Point) → IsNext P None next → (q : Point) → P q → IsTrue (is_before next q) → ⊥
  none_before None n q h b = n q h refl
  none_before (Some p) n q h b = n.first q h refl (less_is (point_cmp q p) b)

  pub walk_starts : (list : List (ℕ × ℕ)) (next : Option Point) → IsNext P None next → IsWalked list list next
  walk_starts list next n = record {
    is = next_is None next n;
    pairs = gathers_none (IsPairOf (λ q. P q × IsTrue (is_before next q)) live from) list (λ x h. none_before next n h.target h.holds.0 h.holds.1);
  }

  pub goes_up : (p : Point) (next : Option Point) → IsNext P (Some p) next → GoesUp p next
  goes_up p None n r e = absurd (cc)
  goes_up p (Some q) n r e = less_is (point_cmp p r) (subst (λ x. is_lt (point_cmp p x) ≡ true) (same_Some q r e) n.above)

  -- what is below the next one is below this one, or is this one
  split : (p : Point) (next : Option Point) → IsNext P (Some p) next → (q : Point) → P q → IsTrue (is_before next q) → IsTrue (is_before (Some p) q) ⊎ (q ≡ p)
  split p next n q h b = by (point_cmp q p) refl
    where
      beyond : (next : Option Point) → IsNext P (Some p) next → IsTrue (is_before next q) → point_cmp q p ≡ Greater → ⊥
      beyond None n b e = n q h (ap is_lt (less_back_of q p e))
        where
          less_back_of : (q p : Point) → point_cmp q p ≡ Greater → point_cmp p q ≡ Less
          less_back_of q p e = less_back point_total q p e
      beyond (Some r) n b e = n.first q h (ap is_lt (less_back point_total q p e)) (less_is (point_cmp q r) b)

      by : (o : Ordering) → point_cmp q p ≡ o → IsTrue (is_before (Some p) q) ⊎ (q ≡ p)
      by Less e = inl (ap is_lt e)
      by Equal e = inr (point_tied q p e)
      by Greater e = absurd (beyond next n b e)

  -- what is below this one is below the next one, and so is this one
  still : (p : Point) (next : Option Point) → GoesUp p next → (q : Point) → IsTrue (is_before (Some p) q) → IsTrue (is_before next q)
  still p None up q b = refl
  still p (Some r) up q b = ap is_lt (point_total.trans q p r (less_is (point_cmp q p) b) (up r refl))

  this : (p : Point) (next : Option Point) → GoesUp p next → IsTrue (is_before next p)
  this p None up = refl
  this p (Some r) up = ap is_lt (up r refl)

  pub walk_goes : (old middle new : List (ℕ × ℕ)) (p : Point) (next : Option Point) → IsWalked old middle (Some p) → Gathers (IsPairTo live from p) middle new →
      IsNext P (Some p) next → IsWalked old new next
  walk_goes old middle new p next w add n = record {
    is = next_is (Some p) next n;
    pairs = gathers_both (IsPairOf (λ q. P q × IsTrue (is_before (Some p) q)) live from) (IsPairTo live from p) (IsPairOf (λ q. P q × IsTrue (is_before next q)) live from) old middle new
        (λ x h. elim (split p next n h.target h.holds.0 h.holds.1) [
          | inl b ↦ inl (record { target = h.target; holds = (h.holds.0, b); is = h.is })
          | inr e ↦ inr (subst (λ q. IsPairTo live from q x) e h.is)
        ])
        (λ x h. record { target = h.target; holds = (h.holds.0, still p next (goes_up p next n) h.target h.holds.1); is = h.is })
        (λ x h. record { target = p; holds = (w.is p refl, this p next (goes_up p next n)); is = h }) w.pairs add;
  }

  pub walk_ends : (old new : List (ℕ × ℕ)) → IsWalked old new None → Gathers (IsPairOf P live from) old new
  walk_ends old new w = gathers_alike (IsPairOf (λ q. P q × IsTrue (is_before None q)) live from) (IsPairOf P live from) old new
      (λ x h. record { target = h.target; holds = h.holds.0; is = h.is }) (λ x h. record { target = h.target; holds = (h.holds, refl); is = h.is }) w.pairs

-- ---- the bound

-- all points to which an edge leads from the vertex, or a row from any
abbrev pub all_targets : List Record → List (PseudoRow × Here) → Vertex → List Point
all_targets S rows u = (graph_of S).outs (first_point u) ++ map (λ e. e.0.target) rows

row_target : (rows : List (PseudoRow × Here)) (row : PseudoRow) → HasRow rows row → Contains (map (λ e. e.0.target) rows) row.target
row_target rows row h = by (value_at row_cmp row rows) refl h
  where
    by : (o : Option Here) → value_at row_cmp row rows ≡ o → is_some o ≡ true → Contains (map (λ e. e.0.target) rows) row.target
    by None e t = absurd (cc)
    by (Some v) e t =
        let p = value_contains row_cmp row_total row v rows e in
        let same : row ≡ p.0 = row_tied row p.0 p.1 in
        subst (λ (r : PseudoRow). Contains (map (λ (e : PseudoRow × Here). e.0.target) rows) r.target) (sym same) (mapped (λ (e : PseudoRow × Here). e.0.target) rows (p.0, v) p.2)

pub target_among : (S : List Record) (rows : List (PseudoRow × Here)) (u : Vertex) (q : Point) → LeadsTo S rows u q → Contains (all_targets S rows u) q
target_among S rows u q (inl m) = first_part ((graph_of S).outs (first_point u)) (map (λ e. e.0.target) rows) q m
target_among S rows u q (inr l) = second_part ((graph_of S).outs (first_point u)) (map (λ e. e.0.target) rows) q (row_target rows (record { source = last_point u; target = q; least = l.least }) l.there)
