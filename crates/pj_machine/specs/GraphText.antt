-- The body of `graph`: a line for each vertex, and then a line for each edge, as the graph lists them.
use Rattle.std.specs.Prelude.{ℕ, List, [], ◌∷◌, ◌++◌, codes, decimal}
use Rattle.std.specs.List.{flat_map}
use Rattle.pj_name.specs.Name.{hex}
use Rattle.pj_change.specs.declared.point.Place.{Place}
use Rattle.pj_change.specs.declared.point.Place.TheVariants as placed
use Rattle.pj_change.specs.declared.graph.Status.{Status}
use Rattle.pj_change.specs.declared.graph.Status.TheVariants.{Alive, Dead, Zombie}
use Rattle.pj_change.specs.declared.graph.Label.{Label}
use Rattle.pj_change.specs.declared.graph.Label.TheVariants as label
use Rattle.pj_change.specs.declared.graph.VertexKind.{VertexKind}
use Rattle.pj_change.specs.declared.graph.VertexKind.TheVariants as kind
use Rattle.pj_change.specs.declared.graph.Vertex.{Vertex}
use Rattle.pj_change.specs.declared.graph.Edge.{Edge}
use Rattle.pj_change.specs.declared.graph.Graph.{Graph}
use Rattle.pj_change.specs.Text.{line}
use Rattle.pj_change.specs.Children.{point_text}

-- ---- words

-- the word for the kind of a vertex
abbrev pub kind_text : VertexKind → List ℕ
kind_text kind.Name = codes "name"
kind_text kind.ExecName = codes "xname"
kind_text kind.File = codes "file"
kind_text kind.Dir = codes "dir"
kind_text kind.Text = codes "text"

-- the word for a status
abbrev pub status_text : Status → List ℕ
status_text Alive = codes "alive"
status_text Dead = codes "dead"
status_text Zombie = codes "zombie"

-- the word for the label of an edge
abbrev pub label_text : Label → List ℕ
label_text label.Block = codes "block"
label_text label.Folder = codes "folder"
label_text label.Order = codes "order"

-- the root, or a point
abbrev pub place_text : Place → List ℕ
place_text placed.Root = codes "root"
place_text (placed.At p) = point_text p

-- the positions from start up to and without end
abbrev pub positions_text : Vertex → List ℕ
positions_text v = hex v.change.bytes ++ codes "." ++ decimal v.start ++ codes "-" ++ decimal v.end

-- ---- lines

-- the line of a vertex: its positions, its kind and its status
abbrev pub vertex_line : Vertex → List ℕ
vertex_line v = line (codes "vertex" ∷ positions_text v ∷ kind_text v.kind ∷ status_text v.status ∷ [])

-- the line of an edge: from where to where it leads, its label, its status, and the change that introduced it
abbrev pub edge_line : Edge → List ℕ
edge_line e = line (codes "edge" ∷ place_text e.source ∷ point_text e.target ∷ label_text e.label ∷ status_text e.status ∷ hex e.introducer.bytes ∷ [])

-- the lines of the vertices, and then those of the edges
abbrev pub graph_text : Graph → List ℕ
graph_text g = flat_map vertex_line g.vertices ++ flat_map edge_line g.edges
