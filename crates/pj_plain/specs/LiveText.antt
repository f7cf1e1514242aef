-- Which text of a set S is live.
use Rattle.std.specs.Prelude.{Bool, true, false, ◌&&◌, List}
use Rattle.std.specs.List.{list_any}
use Rattle.pj_name.specs.Name.{same_name}
use Rattle.pj_change.specs.declared.point.Point.{Point}
use Rattle.pj_change.specs.declared.point.Place.TheVariants as placed
use Rattle.pj_change.specs.declared.graph.Status.{Status}
use Rattle.pj_change.specs.declared.graph.Status.TheVariants.{Alive, Zombie}
use Rattle.pj_change.specs.declared.graph.Vertex.{Vertex}
use Rattle.pj_change.specs.declared.graph.VertexKind.{VertexKind}
use Rattle.pj_change.specs.declared.graph.VertexKind.TheVariants as vertex_kind
use Rattle.pj_change.specs.declared.change.Record.{Record}
use Rattle.pj_change.specs.Context.{file_at, is_some_place}
use Rattle.pj_change.specs.Vertices.{first_point}

-- a vertex of this kind and status is live text
abbrev pub is_live : VertexKind → Status → Bool
is_live vertex_kind.Text Alive = true
is_live vertex_kind.Text Zombie = true
is_live kind status = false

-- the byte of S at the point is of the file with this inode
abbrev pub is_of_file : List Record → Point → Point → Bool
is_of_file S inode p = list_any (λ r. same_name r.name p.change && is_some_place (placed.At inode) (file_at r p.offset)) S

-- the vertex is live text of the file with this inode
abbrev pub is_live_in : List Record → Point → Vertex → Bool
is_live_in S inode v = is_live v.kind v.status && is_of_file S inode (first_point v)
