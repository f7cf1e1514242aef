-- The laws of trees of lists. Each is the contract of a function in the module `laws`.
use Rattle.std.specs.Prelude.{◌≡◌, Bool, true, List, [], ◌↔◌}
use Rattle.pj_change.specs.declared.point.Point.{Point}
use Rattle.pj_change.specs.declared.graph.Vertex.{Vertex}
use Rattle.pj_change.specs.declared.change.Record.{Record}
use Rattle.pj_change.specs.Status.{status_of}
use Rattle.pj_change.specs.FileText.{IsLiveIn}
use Rattle.pj_change.specs.Lawful.{IsLawful}
use Rattle.pj_change.specs.Sets.{HaveSameMembers}
use Rattle.pj_tree.specs.Rows.{Listing}
use Rattle.pj_tree.specs.Namespace.{namespace}
use Rattle.pj_tree.specs.NamespaceOf.{IsNamespaceOf}
use Rattle.pj_tree.specs.TreeOf.{IsTreeOf}

-- the tree of no change has no name and no inode
abbrev pub TreeOfNone : Type 0
TreeOfNone = IsTreeOf [] (record { rows = []; inodes = [] })

-- the tree of a lawful list is its namespace, with the statuses of the list and with what inodes have live text
abbrev pub NamespaceOfTree : Type 0
NamespaceOfTree =
    (list : List Record) → IsLawful list → (tree : Listing) → IsTreeOf list tree →
    (live : Point → Bool) → ((inode : Point) → (live inode ≡ true) ↔ ((v : Vertex) × IsLiveIn list inode v)) →
    IsNamespaceOf list (namespace tree (status_of list) live)

-- the order of a list decides nothing
abbrev pub TreeOfMembers : Type 0
TreeOfMembers = (S T : List Record) → HaveSameMembers S T → (tree : Listing) → IsTreeOf S tree → IsTreeOf T tree
