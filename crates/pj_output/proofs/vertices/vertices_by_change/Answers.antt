use Rattle.std.proofs.Common.{◌≡◌, [], ◌∷◌, rules}
use Rattle.std.specs.Prelude.{Some}
use Rattle.pj_apply.specs.Walks.{remaining}
use Rattle.pj_output.proofs.ChangeWalks.{before_more, before_none}
use Rattle.pj_output.proofs.VertexLists.{all_vertices, IsOf}
use Rattle.pj_output.proofs.vertices.vertices_by_change.Goals as goal

pub loop-change-preserved : goal.loop-change-preserved
loop-change-preserved c =
    let S = c.args.tables.now in
    let r = c.deref.result.now in
    let goes : remaining S c.loop-change.after ≡ r ∷ remaining S (Some r.name) = search rules in
    before_more (IsOf S) S (remaining S c.loop-change.after) (remaining S (Some r.name)) r c.loop-change.vertices.items c.add_vertices.new.vertices.items c.loop-change.invariant goes c.in_ok-add_vertices.ensures

pub returns : goal.returns
returns c =
    let S = c.args.tables.now in
    let ends : remaining S c.loop-change.after ≡ [] = search rules in
    all_vertices S c.loop-change.vertices.items (before_none (IsOf S) S (remaining S c.loop-change.after) c.loop-change.vertices.items c.loop-change.invariant ends)
