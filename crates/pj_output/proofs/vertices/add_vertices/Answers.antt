use Rattle.std.proofs.Common.{◌++◌, rules}
use Rattle.std.specs.Prelude.{◌≡◌}
use Rattle.pj_tables.specs.VerticesIn.{IsVertexIn}
use Rattle.pj_output.proofs.VertexLists.{listed_added}
use Rattle.pj_output.proofs.vertices.add_vertices.Goals as goal

pub returns : goal.returns
returns c =
    let old = c.args.vertices.now.items in
    let added : c.extend_from_slice.new.self.items ≡ old ++ c.in_ok-more.more = search rules in
    listed_added (IsVertexIn c.args.tables.now c.args.change) c.in_ok-more.more old c.extend_from_slice.new.self.items c.in_ok-more.ensures added
