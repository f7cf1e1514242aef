-- The graph of no change has no row.
use Rattle.std.proofs.Common.{◌≡◌, true, false, []}
use Rattle.pj_change.proofs.Members.{no_member}
use Rattle.pj_view.specs.Apart.{known_distinct}
use Rattle.pj_view.specs.Laws.{NoChangeHasNoRow}
use Rattle.pj_view.specs.SetGraph.{graph_of}
use Rattle.pj_view.specs.ShownGraph.{graph_whole}

pub no_row : NoChangeHasNoRow
unfolding graph_of known_distinct
no_row row = (
  λ there. absurd (let e : false ≡ true = there in cc),
  λ is. absurd (no_member is.from ((graph_whole []).few is.from is.from_source.vertex)),
)
