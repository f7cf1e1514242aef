-- In a lawful set before is, in each file, the closure of edges and rows between live text.
use Rattle.std.proofs.Common.{◌≡◌, List, inl, inr}
use Rattle.std.specs.Prelude.{◌⊎◌, ◌↔◌}
use Rattle.pj_change.specs.declared.point.Point.{Point}
use Rattle.pj_change.specs.declared.point.Place.{Place}
use Rattle.pj_change.specs.declared.point.Place.TheVariants as placed
use Rattle.pj_change.specs.declared.graph.Status.TheVariants.{Dead}
use Rattle.pj_change.specs.declared.graph.Vertex.{Vertex}
use Rattle.pj_change.specs.declared.change.Record.{Record}
use Rattle.pj_change.specs.Lawful.{IsLawfulSet}
use Rattle.pj_change.specs.Vertices.{IsVertex, first_point, last_point}
use Rattle.pj_change.specs.Graph.{vertex_cmp}
use Rattle.pj_change.specs.AcrossDead.{IsPath, one, more, IsAcross, IsAmong}
use Rattle.pj_change.specs.DeadSets.{IsLeastMember}
use Rattle.pj_change.specs.Before.{Leads, IsBefore, IsDeadText, IsLiveText}
use Rattle.pj_change.specs.PseudoRows.{IsLive, HasEdgeOrRow}
use Rattle.pj_change.specs.FileText.{IsLiveIn}
use Rattle.pj_change.specs.JoinedText.{IsJoinedAcross, IsJoinedByRow}
use Rattle.pj_change.proofs.PathsAcross.{path_map, across_path, paths_across}
use Rattle.pj_change.proofs.Decided.{known_status}
use Rattle.pj_change.proofs.KnownEdges.{known_leads, known_dead}
use Rattle.pj_change.proofs.TextVertices.{all_texts, dead_listed}
use Rattle.pj_change.proofs.Orders.{vertex_total}
use Rattle.pj_change.proofs.OneVertex.{same_first, same_last}
use Rattle.pj_change.proofs.FileEdges.{IsFilePoint, leads_to_text, leads_in_file}
use Rattle.pj_change.proofs.LeastDead.{least_there}
use Rattle.pj_change.proofs.AcrossSets.{across_rows, among_rows}

-- ---- across dead text

-- an edge leads to dead or to live text
pub dead_or_live : (S : List Record) → IsLawfulSet S → (u v : Vertex) → Leads S u v → IsDeadText S v ⊎ IsLiveText S v
dead_or_live S set u v l =
    let text = leads_to_text S set u v l in
    elim (known_status v.status Dead) [
      | inl e ↦ inl (record { vertex = l.target; text = text; dead = e })
      | inr n ↦ inr (record { vertex = l.target; text = text; live = n })
    ]

-- before is the closure of edges and paths across dead text
pub before_across : (S : List Record) → IsLawfulSet S → (u v : Vertex) → IsLiveText S u → IsLiveText S v → IsBefore S u v ↔ IsPath (IsAmong (IsLiveText S) (IsAcross (Leads S) (IsDeadText S))) u v
before_across S set = paths_across (Leads S) (IsDeadText S) (IsLiveText S) (dead_or_live S set)

-- ---- by rows

-- a connected set of dead text has a least vertex
pub least_text : (S : List Record) (u : Vertex) → IsDeadText S u → (least : Vertex) × IsLeastMember (Leads S) (IsDeadText S) vertex_cmp u least
least_text S = least_there (Leads S) (IsDeadText S) (known_leads S) (known_dead S) (all_texts S) (dead_listed S) vertex_cmp vertex_total

-- live text, or a file's inode, is a vertex
pub live_vertex : (S : List Record) (v : Vertex) → IsLive S v → IsVertex S v
live_vertex S v (inl t) = t.vertex
live_vertex S v (inr f) = f.0

module _ (S : List Record) (set : IsLawfulSet S) where
  -- what may begin a row and has the last point of live text is that text
  pub source_one : (x u : Vertex) → IsLive S x → IsLiveText S u → last_point x ≡ last_point u → x ≡ u
  source_one x u a b e = same_last S set x u (live_vertex S x a) b.vertex e

  -- live text that has the first point of live text is that text
  pub target_one : (x v : Vertex) → IsLiveText S x → IsLiveText S v → first_point x ≡ first_point v → x ≡ v
  target_one x v a b e = same_first S set x v a.vertex b.vertex e

  -- what leads across dead text is an edge or a row
  pub across_text_rows : (u v : Vertex) → IsLiveText S u → IsLiveText S v → IsAcross (Leads S) (IsDeadText S) u v ↔ HasEdgeOrRow S u v
  across_text_rows =
      across_rows (Leads S) (IsDeadText S) vertex_cmp (least_text S) (IsLiveText S) (IsLive S) (IsLiveText S) first_point last_point (λ u a. inl a) (λ v a. a) source_one target_one

-- ---- in one file

-- what is before stays in the file
pub before_in_file : (S : List Record) → IsLawfulSet S → {u v : Vertex} → IsBefore S u v → (file : Place) → IsFilePoint S file (first_point u) → IsFilePoint S file (first_point v)
before_in_file S set (one {u} {v} l) file a = leads_in_file S set u v l file a
before_in_file S set (more {u} {v} l b) file a = before_in_file S set b file (leads_in_file S set u v l file a)

-- live text of a file is text of it at its first point
pub file_point : (S : List Record) (inode : Point) (v : Vertex) → IsLiveIn S inode v → IsFilePoint S (placed.At inode) (first_point v)
file_point S inode v h = record { owner = h.owner; member = h.member; name = h.name; of_file = h.of_file }

-- and live text with text of a file at its first point is live text of it
pub live_in : (S : List Record) (inode : Point) (v : Vertex) → IsLiveText S v → IsFilePoint S (placed.At inode) (first_point v) → IsLiveIn S inode v
live_in S inode v l p = record { live = l; owner = p.owner; member = p.member; name = p.name; of_file = p.of_file }

-- a path over live text that begins in a file stays in it
path_in_file : (S : List Record) → IsLawfulSet S → (inode : Point) → {u v : Vertex} → IsLiveIn S inode u →
    IsPath (IsAmong (IsLiveText S) (IsAcross (Leads S) (IsDeadText S))) u v → IsPath (IsJoinedAcross S inode) u v
path_in_file S set inode a (one {u} {v} j) = one (a, live_in S inode v j.1 (before_in_file S set (across_path j.2) (placed.At inode) (file_point S inode u a)), j.2)
path_in_file S set inode a (more {u} {v} j p) =
    let b = live_in S inode v j.1 (before_in_file S set (across_path j.2) (placed.At inode) (file_point S inode u a)) in
    more (a, b, j.2) (path_in_file S set inode b p)

-- in a file before is the closure of edges and paths across dead text
pub before_across_in_file : (S : List Record) → IsLawfulSet S → (inode : Point) (u v : Vertex) → IsLiveIn S inode u → IsLiveIn S inode v →
    IsBefore S u v ↔ IsPath (IsJoinedAcross S inode) u v
before_across_in_file S set inode u v a b =
    let same = before_across S set u v a.live b.live in (
      λ p. path_in_file S set inode a (same.0 p),
      λ p. same.1 (path_map (IsJoinedAcross S inode) (IsAmong (IsLiveText S) (IsAcross (Leads S) (IsDeadText S))) (λ x y j. (j.0.live, j.1.live, j.2)) p),
    )

-- and the closure of edges and rows
pub before_rows_in_file : (S : List Record) → IsLawfulSet S → (inode : Point) (u v : Vertex) → IsLiveIn S inode u → IsLiveIn S inode v →
    IsBefore S u v ↔ IsPath (IsJoinedByRow S inode) u v
before_rows_in_file S set inode u v a b =
    let across = before_across_in_file S set inode u v a b in
    let rows = among_rows (Leads S) (IsDeadText S) vertex_cmp (least_text S) (IsLiveText S) (IsLive S) (IsLiveText S) first_point last_point (λ u a. inl a) (λ v a. a) (source_one S set) (target_one S set)
    (IsLiveIn S inode) (λ x h. h.live) u v in
    (λ p. rows.0 (across.0 p), λ p. across.1 (rows.1 p))
