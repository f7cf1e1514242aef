use Rattle.pj_change.specs.Vertices.{IsVertex}
use Rattle.pj_change.proofs.Gathering.{gathered}
use Rattle.pj_change.proofs.GatheredVertices.{vertices_listed}
use Rattle.pj_change.proofs.LawfulLists.{set_of}
use Rattle.pj_change.proofs.OneVertex.{vertices_tied}
use Rattle.pj_output.proofs.vertices.vertices_of.Goals as goal

pub list_vertices-requires : goal.list_vertices-requires
list_vertices-requires c =
    let S = c.args.tables.now in
    let of_set = gathered (IsVertex S) c.in_ok-vertices.vertices.items c.in_ok-vertices.ensures in
    λ v w m n e. vertices_tied S (set_of S c.list-list.ensures.lawful) v w (of_set v m) (of_set w n) e

pub returns : goal.returns
returns c = vertices_listed c.args.tables.now c.in_ok-vertices.vertices.items c.list_vertices.new.vertices.items c.in_ok-vertices.ensures c.list_vertices.ensures
