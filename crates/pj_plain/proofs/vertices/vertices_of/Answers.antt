use Rattle.std.proofs.Common.{◌≡◌, List, [], length, sym, subst, arith}
use Rattle.pj_change.specs.declared.graph.Vertex.{Vertex}
use Rattle.pj_change.specs.Vertices.{IsVertex}
use Rattle.pj_change.specs.Gathers.{Gathers, IsOfOne}
use Rattle.pj_change.specs.GraphParts.{IsVertexOf}
use Rattle.pj_change.specs.Shared.{records}
use Rattle.pj_change.proofs.Gathering.{of_none, gathers_none, gathered}
use Rattle.pj_plain.proofs.Gathering.{of_more_shared, of_all_shared}
use Rattle.pj_change.proofs.GatheredVertices.{vertices_gathered, vertices_listed}
use Rattle.pj_change.proofs.LawfulLists.{set_of}
use Rattle.pj_change.proofs.OneVertex.{vertices_tied}
use Rattle.pj_plain.proofs.vertices.vertices_of.Goals as goal

pub loop-owner-init : goal.loop-owner-init
loop-owner-init c =
    let S = records c.args.changes.now in
    subst (λ (l : List Vertex). Gathers (IsOfOne (IsVertexOf S) []) [] l) (sym c.new-vertices.ensures.items) (gathers_none (IsOfOne (IsVertexOf S) []) [] (of_none (IsVertexOf S)))

pub loop-owner-preserved : goal.loop-owner-preserved
loop-owner-preserved c =
    of_more_shared (IsVertexOf (records c.args.changes.now)) c.args.changes.now c.loop-owner.owner-index c.owner-item.result c.deref.result.now
    c.loop-owner-test.true c.owner-item.is c.deref.ensures [] c.loop-owner.vertices.items c.add_vertices.new.vertices.items c.loop-owner.invariant c.in_ok-add_vertices.ensures

pub list_vertices-requires : goal.list_vertices-requires
list_vertices-requires c =
    let S = records c.args.changes.now in
    let new = c.loop-owner.vertices.items in
    let all : length c.args.changes.now ≡ c.loop-owner.owner-index = omega arith in
    let of_set = gathered (IsVertex S) new (vertices_gathered S new (of_all_shared (IsVertexOf S) c.args.changes.now c.loop-owner.owner-index all [] new c.loop-owner.invariant)) in
    λ v w m n e. vertices_tied S (set_of S c.requires) v w (of_set v m) (of_set w n) e

pub returns : goal.returns
returns c =
    let S = records c.args.changes.now in
    let new = c.loop-owner.vertices.items in
    let all : length c.args.changes.now ≡ c.loop-owner.owner-index = omega arith in
    vertices_listed S new c.list_vertices.new.vertices.items (vertices_gathered S new (of_all_shared (IsVertexOf S) c.args.changes.now c.loop-owner.owner-index all [] new c.loop-owner.invariant)) c.list_vertices.ensures
