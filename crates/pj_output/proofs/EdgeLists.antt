-- The edges of a set, read off the rows of its table in their order.
use Rattle.std.proofs.Common.{◌≡◌, ◌∙◌, true, List, [], ◌∷◌, ◌++◌, Option, Some, None, ◌<◌, length, map, refl, sym, ap, subst, append-nil, append_assoc, inl, inr, arith}
use Rattle.std.specs.Prelude.{Contains, is_some}
use Rattle.std.specs.List.Sorted.{IsStrictlySortedBy}
use Rattle.std.specs.declared.cmp.Ordering.TheVariants.{Less, Equal}
use Rattle.std.proofs.lemmas.Cmp.{tied_itself}
use Rattle.std.proofs.lemmas.List.{map-append}
use Rattle.pj_change.specs.declared.graph.Edge.{Edge}
use Rattle.pj_change.specs.declared.row.EdgeRow.{EdgeRow}
use Rattle.pj_change.specs.declared.change.Record.{Record}
use Rattle.pj_change.specs.EdgeRows.{row_of, with_status, row_status, IsEdgeRow}
use Rattle.pj_change.specs.Graph.{edge_cmp, Lists}
use Rattle.pj_change.specs.Lawful.{IsLawful}
use Rattle.pj_change.specs.RealEdges.{IsEdge}
use Rattle.pj_change.proofs.EdgesAndRows.{edge_by_row}
use Rattle.pj_change.proofs.EqualEdges.{edges_tied}
use Rattle.pj_change.proofs.LawfulLists.{set_of, append_cases}
use Rattle.pj_change.proofs.Members.{first_member, later_member, uncons, no_member, moved, from_each}
use Rattle.pj_change.proofs.PickedMembers.{image, mapped}
use Rattle.pj_pmap.specs.Pairs.{rest_after, value_at, IsRising}
use Rattle.pj_pmap.proofs.Lookups.{above_contains, contains_value, value_contains}
use Rattle.pj_rows.specs.declared.values.Here.{Here}
use Rattle.pj_edges.specs.declared.keys.OutRow.{OutRow}
use Rattle.pj_edges.specs.Orders.{out_cmp, out_row}
use Rattle.pj_edges.specs.OwnRows.{AreRowsOf}
use Rattle.pj_edges.specs.Rows.{Rows, has_out, has_row}
use Rattle.pj_edges.specs.Totals.{out_total}
use Rattle.pj_edges.proofs.RowOrder.{row_tied}
use Rattle.pj_edges.proofs.TablesOfSets.{edge_of_table}
use Rattle.pj_output.specs.Scans.{rows_from, HasAlso}

abbrev keys : List (OutRow × Here) → List OutRow
keys pairs = map (λ p. p.0) pairs

abbrev key_of : Edge → OutRow
key_of e = out_row (row_of e)

-- the edges of the rows before the next one
pub record AreScanned (S : List Record) (out : List (OutRow × Here)) (edges : List Edge) (next : Option EdgeRow) : Type 0 where
  pub rows : map key_of edges ++ keys (rows_from out next) ≡ keys out
  pub are : (e : Edge) → Contains edges e → IsEdge S e

-- ---- keys and rows

key_there : (out : List (OutRow × Here)) → IsRising out_cmp out → (row : EdgeRow) → Contains (keys out) (out_row row) → has_out out row ≡ true
key_there out rising row m =
    let p = image (λ (q : OutRow × Here). q.0) out (out_row row) m in
    let value = contains_value out_cmp out_total out p.it rising p.member in
    let here : value_at out_cmp (out_row row) out ≡ Some p.it.1 = subst (λ k. value_at out_cmp k out ≡ Some p.it.1) p.is value in
    ap is_some here

there_key : (out : List (OutRow × Here)) (row : EdgeRow) → has_out out row ≡ true → Contains (keys out) (out_row row)
there_key out row t = by (value_at out_cmp (out_row row) out) refl t
  where
    by : (o : Option Here) → value_at out_cmp (out_row row) out ≡ o → is_some o ≡ true → Contains (keys out) (out_row row)
    by None e h = absurd (cc)
    by (Some v) e h =
        let p = value_contains out_cmp out_total (out_row row) v out e in
        let same : row ≡ p.0.row = row_tied row p.0.row p.1 in
        subst (λ r. Contains (keys out) (out_row r)) (sym same) (mapped (λ (q : OutRow × Here). q.0) out (p.0, v) p.2)

-- edges with rising rows rise
edges_rise : (edges : List Edge) (out : List (OutRow × Here)) → map key_of edges ≡ keys out → IsRising out_cmp out → IsStrictlySortedBy edge_cmp edges
unfolding IsStrictlySortedBy
edges_rise [] out e rising = tt
edges_rise (x ∷ xs) [] e rising = absurd (cc)
edges_rise (x ∷ xs) (p ∷ ps) e rising =
    let first : key_of x ≡ p.0 = cc in
    let rest : map key_of xs ≡ keys ps = cc in (
      from_each (λ y. edge_cmp x y ≡ Less) xs (λ y m.
          let q = image (λ (r : OutRow × Here). r.0) ps (key_of y) (moved (key_of y) rest (mapped key_of xs y m)) in
          let less : out_cmp p.0 q.it.0 ≡ Less = above_contains out_cmp p.0 ps q.it rising.0 q.member in
          subst (λ k. out_cmp (key_of x) k ≡ Less) q.is (subst (λ k. out_cmp k q.it.0 ≡ Less) (sym first) less)),
      edges_rise xs ps rest rising.1,
    )

-- a row is that of an edge with its status
pub row_edge : (S : List Record) → IsLawful S → (row : EdgeRow) → IsEdgeRow S row → IsEdge S (with_status row (row_status S row))
row_edge S lawful row h = (edge_by_row S (set_of S lawful) (with_status row (row_status S row))).1 (h, refl)

module _ (S : List Record) (lawful : IsLawful S) (table : Rows) (of : AreRowsOf S table) (rising : IsRising out_cmp table.out) where
  -- the next row is one of an edge
  pub scanned_row : (edges : List Edge) (row : EdgeRow) → AreScanned S table.out edges (Some row) → IsEdgeRow S row
  scanned_row edges row a =
      (of row).0 (key_there table.out rising row (moved (out_row row) a.rows
      (second (map key_of edges) (keys (rows_from table.out (Some row))) (out_row row) (first_member (out_row row) _))))
    where
      second : (xs ys : List OutRow) (x : OutRow) → Contains ys x → Contains (xs ++ ys) x
      second [] ys x m = m
      second (z ∷ zs) ys x m = later_member z (zs ++ ys) x (second zs ys x m)

  pub scan_starts : (next : Option EdgeRow) → rows_from table.out next ≡ table.out → AreScanned S table.out [] next
  scan_starts next e = record { rows = ap keys e; are = λ e m. absurd (no_member e m) }

  pub scan_goes : (edges new : List Edge) (row : EdgeRow) (next : Option EdgeRow) → AreScanned S table.out edges (Some row) → HasAlso (IsEdge S) row edges new →
      rows_from table.out next ≡ rest_after out_cmp (out_row row) table.out → AreScanned S table.out new next
  scan_goes edges new row next a also e = record {
    rows = ap (λ l. map key_of l ++ keys (rows_from table.out next)) also.added
        ∙ ap (λ l. l ++ keys (rows_from table.out next)) (map-append key_of edges (also.one ∷ []))
        ∙ append_assoc (map key_of edges) (key_of also.one ∷ []) (keys (rows_from table.out next))
        ∙ ap (λ r. map key_of edges ++ (out_row r ∷ keys (rows_from table.out next))) also.rows
        ∙ ap (λ l. map key_of edges ++ (out_row row ∷ keys l)) e
        ∙ a.rows;
    are = λ x m. elim (append_cases edges (also.one ∷ []) x (moved x also.added m)) [
      | inl k ↦ a.are x k
      | inr k ↦ elim (uncons also.one [] x k) [ inl s ↦ subst (IsEdge S) s also.is | inr n ↦ absurd (no_member x n) ]
    ];
  }

  pub scan_less : (row : EdgeRow) (next : Option EdgeRow) → rows_from table.out next ≡ rest_after out_cmp (out_row row) table.out →
      length (rows_from table.out next) < length (rows_from table.out (Some row))
  scan_less row next e = rw e (omega arith)

  pub scan_ends : (edges : List Edge) → AreScanned S table.out edges None → Lists edge_cmp (IsEdge S) edges
  scan_ends edges a =
      let all : map key_of edges ≡ keys table.out = sym (append-nil (map key_of edges)) ∙ a.rows in
      record {
        sorted = edges_rise edges table.out all rising;
        only = a.are;
        all = λ e i.
            let there : has_row table (row_of e) ≡ true = ((edge_of_table S (set_of S lawful) table of e).0 i).0 in
            let m = image key_of edges (key_of e) (moved (key_of e) (sym all) (there_key table.out (row_of e) there)) in
            let tie : edge_cmp m.it e ≡ Equal = subst (λ k. out_cmp (key_of m.it) k ≡ Equal) m.is (tied_itself out_total (key_of m.it)) in
            subst (Contains edges) (edges_tied S lawful m.it e (a.are m.it m.member) i tie) m.member;
      }
