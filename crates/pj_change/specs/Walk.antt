-- The walk of a set S: the entries of its print in their order, without their texts.
use Rattle.std.specs.Prelude.{◌≡◌, ◌≢◌, ℕ, Bool, true, false, List, [], ◌∷◌, ◌++◌, codes, ◌⊎◌}
use Rattle.std.specs.List.{list_any}
use Rattle.std.specs.declared.cmp.Ordering.TheVariants.{Less}
use Rattle.pj_change.specs.declared.point.Point.{Point}
use Rattle.pj_change.specs.declared.point.Place.{Place}
use Rattle.pj_change.specs.declared.point.Place.TheVariants as placed
use Rattle.pj_change.specs.declared.graph.Vertex.{Vertex}
use Rattle.pj_change.specs.declared.print.Step.{Step}
use Rattle.pj_change.specs.declared.print.StepKind.{StepKind}
use Rattle.pj_change.specs.declared.print.StepKind.TheVariants as step_kind
use Rattle.pj_change.specs.declared.print.StepWord.{StepWord}
use Rattle.pj_change.specs.declared.print.StepWord.TheVariants as word
use Rattle.pj_change.specs.declared.change.Record.{Record}
use Rattle.pj_change.specs.Positions.{same_point}
use Rattle.pj_change.specs.Graph.{Lists, point_cmp}
use Rattle.pj_change.specs.Children.{Child, IsChild, IsInode, IsNamed, IsParent, child_cmp, part_of, lost_path}
use Rattle.pj_change.specs.FileText.{IsLiveIn}

-- ---- children

-- the inode is one of these, which have had an entry
abbrev pub is_seen : List Point → Point → Bool
is_seen seen p = list_any (same_point p) seen

-- the path of a child: its part behind what stands before the parts of all children
abbrev pub path_of : List ℕ → List Child → Child → List ℕ
path_of prefix all c = prefix ++ part_of all c

-- what stands before the parts of the children of a directory with this path
abbrev pub inside : List ℕ → List ℕ
inside path = path ++ codes "/"

-- the entry of a child
abbrev pub step_of : StepKind → List ℕ → List Child → Child → Bool → Step
step_of kind prefix all c exec = record { kind = kind; word = c.word; inode = c.inode; path = path_of prefix all c; exec = exec }

mutual
  -- The children in turn, out of all those of their parent. `seen` are the inodes that have had an entry before, `after` those that have had one then.
  pub data Visits (S : List Record) : List ℕ → List Child → List Child → List Point → List Step → List Point → Type 0 where
    done : {prefix : List ℕ} {all : List Child} {seen : List Point} → Visits S prefix all [] seen [] seen
    -- an inode that has had an entry
    again : {prefix : List ℕ} {all rest : List Child} {c : Child} {seen after : List Point} {steps : List Step} →
        is_seen seen c.inode ≡ true → Visits S prefix all rest seen steps after →
        Visits S prefix all (c ∷ rest) seen (step_of step_kind.Same prefix all c false ∷ steps) after
    -- a file
    file : {prefix : List ℕ} {all rest : List Child} {c : Child} {seen after : List Point} {steps : List Step} →
        is_seen seen c.inode ≡ false → IsInode S c.inode false → Visits S prefix all rest (c.inode ∷ seen) steps after →
        Visits S prefix all (c ∷ rest) seen (step_of step_kind.File prefix all c c.exec ∷ steps) after
    -- a directory, which is walked before the next child
    dir : {prefix : List ℕ} {all rest : List Child} {c : Child} {seen between after : List Point} {inner steps : List Step} →
        is_seen seen c.inode ≡ false → IsInode S c.inode true →
        Walks S (inside (path_of prefix all c)) (placed.At c.inode) (c.inode ∷ seen) inner between →
        Visits S prefix all rest between steps after →
        Visits S prefix all (c ∷ rest) seen (step_of step_kind.Dir prefix all c false ∷ (inner ++ steps)) after

  -- the walk of the root or of a directory: all its children by name and inode
  pub data Walks (S : List Record) : List ℕ → Place → List Point → List Step → List Point → Type 0 where
    walk : {prefix : List ℕ} {parent : Place} {all : List Child} {seen after : List Point} {steps : List Step} →
        Lists child_cmp (IsChild S parent) all → Visits S prefix all all seen steps after → Walks S prefix parent seen steps after

-- ---- inodes that no walk from the root reaches

-- there is live text in it, or it is the parent of a name that is not dead
abbrev pub HasContent : List Record → Point → Type 0
HasContent S inode = ((v : Vertex) × IsLiveIn S inode v) ⊎ IsParent S inode

-- it has content, and no name that is not dead
pub record IsOrphan (S : List Record) (inode : Point) : Type 0 where
  pub dir : Bool
  pub is : IsInode S inode dir
  pub unnamed : IsNamed S inode → ⊥
  pub content : HasContent S inode

-- it has a name that is not dead, and has had no entry
pub record IsAdrift (S : List Record) (seen : List Point) (inode : Point) : Type 0 where
  pub dir : Bool
  pub is : IsInode S inode dir
  pub named : IsNamed S inode
  pub fresh : is_seen seen inode ≡ false

-- the entry of an inode that no walk from the root reaches
abbrev pub lost_step : StepKind → StepWord → Point → Step
lost_step kind word inode = record { kind = kind; word = word; inode = inode; path = lost_path inode; exec = false }

-- its entry by itself, and its walk
pub data Enters (S : List Record) (word : StepWord) (inode : Point) (seen : List Point) : List Step → List Point → Type 0 where
  lost_file : IsInode S inode false → Enters S word inode seen (lost_step step_kind.File word inode ∷ []) (inode ∷ seen)
  lost_dir : {steps : List Step} {after : List Point} → IsInode S inode true →
      Walks S (inside (lost_path inode)) (placed.At inode) (inode ∷ seen) steps after →
      Enters S word inode seen (lost_step step_kind.Dir word inode ∷ steps) after

-- the inodes in turn: those that are orphans and have had no entry by then
pub data VisitsOrphans (S : List Record) : List Point → List Point → List Step → List Point → Type 0 where
  done : {seen : List Point} → VisitsOrphans S [] seen [] seen
  passed : {p : Point} {ps seen after : List Point} {steps : List Step} →
      (is_seen seen p ≡ true) ⊎ (IsOrphan S p → ⊥) → VisitsOrphans S ps seen steps after → VisitsOrphans S (p ∷ ps) seen steps after
  orphan : {p : Point} {ps seen between after : List Point} {inner steps : List Step} →
      is_seen seen p ≡ false → IsOrphan S p → Enters S word.Orphan p seen inner between → VisitsOrphans S ps between steps after →
      VisitsOrphans S (p ∷ ps) seen (inner ++ steps) after

-- while an inode with a name that is not dead has had no entry, the least of them
pub data VisitsAdrift (S : List Record) : List Point → List Step → Type 0 where
  done : {seen : List Point} → ((p : Point) → IsAdrift S seen p → ⊥) → VisitsAdrift S seen []
  least : {p : Point} {seen between : List Point} {inner steps : List Step} →
      IsAdrift S seen p → ((q : Point) → IsAdrift S seen q → point_cmp q p ≢ Less) →
      Enters S word.Adrift p seen inner between → VisitsAdrift S between steps →
      VisitsAdrift S seen (inner ++ steps)

-- ---- the walk

-- the root; then the orphans by their points; then what is adrift
pub record IsWalk (S : List Record) (walk : List Step) : Type 0 where
  pub named : List Step
  pub seen : List Point
  pub from_root : Walks S [] placed.Root [] named seen
  pub inodes : List Point
  pub inodes_are : Lists point_cmp (λ p. (dir : Bool) × IsInode S p dir) inodes
  pub orphans : List Step
  pub seen_then : List Point
  pub then_orphans : VisitsOrphans S inodes seen orphans seen_then
  pub adrift : List Step
  pub then_adrift : VisitsAdrift S seen_then adrift
  pub is : walk ≡ named ++ orphans ++ adrift
