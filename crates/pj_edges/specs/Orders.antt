-- The two orders of rows.
use Rattle.std.specs.Prelude.{Bool}
use Rattle.std.specs.Ordering.{on, then_cmp, nat_cmp, is_eq}
use Rattle.std.specs.declared.cmp.Ordering.{Ordering}
use Rattle.pj_name.specs.Name.{name_cmp, no_name}
use Rattle.pj_change.specs.declared.point.Point.{Point}
use Rattle.pj_change.specs.declared.point.Place.{Place}
use Rattle.pj_change.specs.declared.point.Place.TheVariants as placed
use Rattle.pj_change.specs.declared.graph.Label.TheVariants as label
use Rattle.pj_change.specs.declared.row.EdgeRow.{EdgeRow}
use Rattle.pj_change.specs.Graph.{point_cmp, place_cmp, label_rank}
use Rattle.pj_edges.specs.declared.keys.OutRow.{OutRow}
use Rattle.pj_edges.specs.declared.keys.IntoRow.{IntoRow}

-- by source, target, label and introducer
abbrev pub out_cmp : OutRow → OutRow → Ordering
out_cmp =
    then_cmp (on (λ k. k.row.source) place_cmp)
    (then_cmp (on (λ k. k.row.target) point_cmp) (then_cmp (on (λ k. label_rank k.row.label) nat_cmp) (on (λ k. k.row.introducer) name_cmp)))

-- by target, source, label and introducer
abbrev pub into_cmp : IntoRow → IntoRow → Ordering
into_cmp =
    then_cmp (on (λ k. k.row.target) point_cmp)
    (then_cmp (on (λ k. k.row.source) place_cmp) (then_cmp (on (λ k. label_rank k.row.label) nat_cmp) (on (λ k. k.row.introducer) name_cmp)))

-- the row as a key of the order by source
abbrev pub out_row : EdgeRow → OutRow
out_row r = record { row = r }

-- the row as a key of the order by target
abbrev pub into_row : EdgeRow → IntoRow
into_row r = record { row = r }

-- equal in each field
abbrev pub same_row : EdgeRow → EdgeRow → Bool
same_row a b = is_eq (out_cmp (out_row a) (out_row b))

-- ---- the least rows

-- below each other point
abbrev pub least_point : Point
least_point = record { change = no_name; offset = 0 }

-- below each row of the source, or equal to it
abbrev pub least_out : Place → EdgeRow
least_out source = record { source = source; target = least_point; label = label.Block; introducer = no_name }

-- below each row of the target, or equal to it
abbrev pub least_into : Point → EdgeRow
least_into target = record { source = placed.Root; target = target; label = label.Block; introducer = no_name }
