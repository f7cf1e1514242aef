-- The edges of a lawful list, read off its rows and their statuses.
use Rattle.std.proofs.Common.{◌≡◌, refl, true, List, Option, Some, None}
use Rattle.std.specs.Option.{option_map}
use Rattle.pj_change.specs.declared.point.Point.{Point}
use Rattle.pj_change.specs.declared.point.Place.{Place}
use Rattle.pj_change.specs.declared.graph.Edge.{Edge}
use Rattle.pj_change.specs.declared.row.EdgeRow.{EdgeRow}
use Rattle.pj_change.specs.declared.change.Record.{Record}
use Rattle.pj_change.specs.EdgeRows.{row_of, with_status, row_status}
use Rattle.pj_change.specs.Graph.{edge_cmp}
use Rattle.pj_change.specs.Lawful.{IsLawful}
use Rattle.pj_change.specs.RealEdges.{IsEdge}
use Rattle.pj_change.proofs.LawfulLists.{set_of}
use Rattle.pj_edges.specs.Rows.{Rows, has_row, IsOutAfter, IsIntoAfter, IsNextOut, IsNextInto, NoneOut, NoneInto}
use Rattle.pj_edges.specs.OwnRows.{AreRowsOf}
use Rattle.pj_edges.proofs.TablesOfSets.{edge_of_table}
use Rattle.pj_tables.specs.NextEdges.{into_cmp, IsEdgeOut, IsEdgeInto, IsNext, NoneAfter}

-- ---- the row after which one looks

-- ---- edges and rows

module _ (S : List Record) (lawful : IsLawful S) (e : Rows) (of : AreRowsOf S e) where
  -- a row that is there is that of an edge with its status
  pub edge_there : (row : EdgeRow) → has_row e row ≡ true → IsEdge S (with_status row (row_status S row))
  edge_there row h = (edge_of_table S (set_of S lawful) e of (with_status row (row_status S row))).1 (h, refl)

  -- the row of an edge is there
  pub row_there : (edge : Edge) → IsEdge S edge → has_row e (row_of edge) ≡ true
  row_there edge i = ((edge_of_table S (set_of S lawful) e of edge).0 i).0

  -- ---- out of a place

  pub next_out : (source : Place) (after : Option Edge) (row : EdgeRow) → IsNextOut e source (IsOutAfter (option_map row_of after)) row →
      IsNext edge_cmp (IsEdgeOut S source) after (with_status row (row_status S row))
  next_out source None row n = record {
    is = record { edge = edge_there row n.there; from = n.of_source };
    later = tt;
    first = λ f p later. n.first (row_of f) (row_there f p.edge) p.from tt;
  }
  next_out source (Some d) row n = record {
    is = record { edge = edge_there row n.there; from = n.of_source };
    later = n.after;
    first = λ f p later. n.first (row_of f) (row_there f p.edge) p.from later;
  }

  pub none_out : (source : Place) (after : Option Edge) → NoneOut e source (IsOutAfter (option_map row_of after)) → NoneAfter edge_cmp (IsEdgeOut S source) after
  none_out source None n f p later = n (row_of f) (row_there f p.edge) p.from tt
  none_out source (Some d) n f p later = n (row_of f) (row_there f p.edge) p.from later

  -- ---- into a point

  pub next_into : (target : Point) (after : Option Edge) (row : EdgeRow) → IsNextInto e target (IsIntoAfter (option_map row_of after)) row →
      IsNext into_cmp (IsEdgeInto S target) after (with_status row (row_status S row))
  next_into target None row n = record {
    is = record { edge = edge_there row n.there; to = n.of_target };
    later = tt;
    first = λ f p later. n.first (row_of f) (row_there f p.edge) p.to tt;
  }
  next_into target (Some d) row n = record {
    is = record { edge = edge_there row n.there; to = n.of_target };
    later = n.after;
    first = λ f p later. n.first (row_of f) (row_there f p.edge) p.to later;
  }

  pub none_into : (target : Point) (after : Option Edge) → NoneInto e target (IsIntoAfter (option_map row_of after)) → NoneAfter into_cmp (IsEdgeInto S target) after
  none_into target None n f p later = n (row_of f) (row_there f p.edge) p.to tt
  none_into target (Some d) n f p later = n (row_of f) (row_there f p.edge) p.to later
