-- The rows of one graph, without those of the dead sets that are touched and with those made anew, are the rows of the other.
use Rattle.std.proofs.Common.{◌≡◌, ◌↔◌, List, inl, inr, not, ◌&&◌, ◌||◌}
use Rattle.std.specs.Prelude.{Contains}
use Rattle.pj_change.specs.declared.point.Point.{Point}
use Rattle.pj_change.proofs.DeadPaths.{dead_trans}
use Rattle.pj_rows.specs.declared.values.Here.{Here}
use Rattle.pj_rows.specs.Keys.{has, is_among}
use Rattle.pj_dead.specs.declared.row.PseudoRow.{PseudoRow}
use Rattle.pj_dead.specs.PointGraphs.{PointGraph, IsWhole}
use Rattle.pj_dead.specs.DeadRows.{IsRow, IsRowAt}
use Rattle.pj_dead.specs.Pseudo.{row_cmp, HasRow, AreRowsOf}
use Rattle.pj_dead.specs.Touched.{IsTouched, IsKept, IsRowOfSome, IsAway}
use Rattle.pj_dead.proofs.EntryRows.{set_back, row_at, at_row, entry_dead}
use Rattle.pj_dead.proofs.KeptSets.{same_rows, still_away}
use Rattle.pj_dead.proofs.RowKeys.{among_or_not, had_more, more_made, more_kept, had_left, left_kept}

module _ (g : PointGraph) (touched : List Point) where
  -- the row is across a set that has a touched vertex
  abbrev pub IsOfTouched : PseudoRow → Type 0
  IsOfTouched = IsRowOfSome g (IsTouched g touched)

  -- a row across none of the touched sets is across a set that is away from the points
  far_away : (u : Point) (row : PseudoRow) → IsRowAt g u row → (IsOfTouched row → ⊥) → IsAway g touched u
  far_away u row r none v j t = none (record { one = v; is = t; of_set = record { entry = u; joined = set_back g j; is = r } })

  -- and the other way round
  away_far : (u : Point) (row : PseudoRow) → IsAway g touched u → IsRowAt g u row → IsOfTouched row → ⊥
  away_far u row far r o = far o.one (dead_trans r.least.member (set_back g (dead_trans o.of_set.joined o.of_set.is.least.member))) o.is

  -- such a row is one of the graph
  touched_row : (row : PseudoRow) → IsOfTouched row → IsRow g row
  touched_row row o = at_row g o.of_set.entry row o.of_set.is

module _ (g h : PointGraph) (lg : IsWhole g) (lh : IsWhole h) (touched : List Point) (there : IsKept g h touched) (back : IsKept h g touched)
    (old left new : List (PseudoRow × Here)) (gone made : List PseudoRow)
    (gone_are : (row : PseudoRow) → Contains gone row ↔ IsRowOfSome g (IsTouched g touched) row) (made_are : (row : PseudoRow) → Contains made row ↔ IsRowOfSome h (IsTouched h touched) row)
    (old_are : AreRowsOf g old)
    (left_is : (q : PseudoRow) → has row_cmp q left ≡ (not (is_among row_cmp q gone) && has row_cmp q old))
    (new_is : (q : PseudoRow) → has row_cmp q new ≡ (is_among row_cmp q made || has row_cmp q left)) where
  -- a row that was kept is one of the later graph
  kept_row : (row : PseudoRow) → HasRow left row → IsRow h row
  kept_row row k =
      let l = had_left old left gone left_is row k in
      let r = row_at g row ((old_are row).0 l.1) in
      let far = far_away g touched r.0 row r.1 (λ o. l.0 ((gone_are row).1 o)) in
      at_row h r.0 row (same_rows g h lg lh touched there back r.0 far (entry_dead g r.0 row r.1) row r.1)

  -- a row of the later graph that was not made was kept
  row_kept : (row : PseudoRow) → IsRow h row → (Contains made row → ⊥) → HasRow left row
  row_kept row k none =
      let r = row_at h row k in
      let far = far_away h touched r.0 row r.1 (λ o. none ((made_are row).1 o)) in
      let dead = entry_dead h r.0 row r.1 in
      let was = same_rows h g lh lg touched back there r.0 far dead row r.1 in
      let far_here = still_away h g lh lg touched back there r.0 far dead in
      left_kept old left gone left_is row (λ m. away_far g touched r.0 row far_here was ((gone_are row).0 m)) ((old_are row).1 (at_row g r.0 row was))

  pub rows_refreshed : AreRowsOf h new
  rows_refreshed row = (
    λ k. elim (had_more left new made new_is row k) [ inl m ↦ touched_row h touched row ((made_are row).0 m) | inr l ↦ kept_row row l ],
    λ k. elim (among_or_not row made) [ inl m ↦ more_made left new made new_is row m | inr n ↦ more_kept left new made new_is row (row_kept row k n) ],
  )
