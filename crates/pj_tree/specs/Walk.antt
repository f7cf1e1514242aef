-- The walk of a namespace: the entries of its print in their order, without their texts.
use Rattle.std.specs.Prelude.{◌≡◌, ◌≢◌, ℕ, Bool, true, false, List, [], ◌∷◌, ◌++◌, ◌⊎◌}
use Rattle.std.specs.declared.cmp.Ordering.TheVariants.{Less}
use Rattle.pj_change.specs.declared.point.Point.{Point}
use Rattle.pj_change.specs.declared.point.Place.{Place}
use Rattle.pj_change.specs.declared.point.Place.TheVariants as placed
use Rattle.pj_change.specs.declared.print.Step.{Step}
use Rattle.pj_change.specs.declared.print.StepKind.TheVariants as step_kind
use Rattle.pj_change.specs.declared.print.StepWord.{StepWord}
use Rattle.pj_change.specs.declared.print.StepWord.TheVariants as word
use Rattle.pj_change.specs.Graph.{Lists, point_cmp}
use Rattle.pj_change.specs.Children.{Child, child_cmp, lost_path}
use Rattle.pj_change.specs.Walk.{is_seen, path_of, inside, step_of, lost_step}
use Rattle.pj_tree.specs.Namespace.{Namespace, IsInode, IsNamed, IsParent, IsChild}

mutual
  -- The children in turn, out of all those of their parent. `seen` are the inodes that have had an entry before, `after` those that have had one then.
  pub data Visits (N : Namespace) : List ℕ → List Child → List Child → List Point → List Step → List Point → Type 0 where
    -- no child is left
    done : {prefix : List ℕ} {all : List Child} {seen : List Point} → Visits N prefix all [] seen [] seen
    -- an inode that has had an entry
    again : {prefix : List ℕ} {all rest : List Child} {c : Child} {seen after : List Point} {steps : List Step} →
        is_seen seen c.inode ≡ true → Visits N prefix all rest seen steps after →
        Visits N prefix all (c ∷ rest) seen (step_of step_kind.Same prefix all c false ∷ steps) after
    -- a file
    file : {prefix : List ℕ} {all rest : List Child} {c : Child} {seen after : List Point} {steps : List Step} →
        is_seen seen c.inode ≡ false → IsInode N c.inode false → Visits N prefix all rest (c.inode ∷ seen) steps after →
        Visits N prefix all (c ∷ rest) seen (step_of step_kind.File prefix all c c.exec ∷ steps) after
    -- a directory, which is walked before the next child
    dir : {prefix : List ℕ} {all rest : List Child} {c : Child} {seen between after : List Point} {inner steps : List Step} →
        is_seen seen c.inode ≡ false → IsInode N c.inode true →
        Walks N (inside (path_of prefix all c)) (placed.At c.inode) (c.inode ∷ seen) inner between →
        Visits N prefix all rest between steps after →
        Visits N prefix all (c ∷ rest) seen (step_of step_kind.Dir prefix all c false ∷ (inner ++ steps)) after

  -- the walk of the root or of a directory: all its children by name and inode
  pub data Walks (N : Namespace) : List ℕ → Place → List Point → List Step → List Point → Type 0 where
    walk : {prefix : List ℕ} {parent : Place} {all : List Child} {seen after : List Point} {steps : List Step} →
        Lists child_cmp (IsChild N parent) all → Visits N prefix all all seen steps after → Walks N prefix parent seen steps after

-- ---- inodes that no walk from the root reaches

-- there is live text in it, or it is the parent of a name that is not dead
abbrev pub HasContent : Namespace → Point → Type 0
HasContent N inode = (N.live inode ≡ true) ⊎ IsParent N inode

-- it has content, and no name that is not dead
pub record IsOrphan (N : Namespace) (inode : Point) : Type 0 where
  pub dir : Bool
  pub is : IsInode N inode dir
  pub unnamed : IsNamed N inode → ⊥
  pub content : HasContent N inode

-- it has a name that is not dead, and has had no entry
pub record IsAdrift (N : Namespace) (seen : List Point) (inode : Point) : Type 0 where
  pub dir : Bool
  pub is : IsInode N inode dir
  pub named : IsNamed N inode
  pub fresh : is_seen seen inode ≡ false

-- its entry by itself, and its walk
pub data Enters (N : Namespace) (word : StepWord) (inode : Point) (seen : List Point) : List Step → List Point → Type 0 where
  lost_file : IsInode N inode false → Enters N word inode seen (lost_step step_kind.File word inode ∷ []) (inode ∷ seen)
  lost_dir : {steps : List Step} {after : List Point} → IsInode N inode true →
      Walks N (inside (lost_path inode)) (placed.At inode) (inode ∷ seen) steps after →
      Enters N word inode seen (lost_step step_kind.Dir word inode ∷ steps) after

-- the inodes in turn: those that are orphans and have had no entry by then
pub data VisitsOrphans (N : Namespace) : List Point → List Point → List Step → List Point → Type 0 where
  done : {seen : List Point} → VisitsOrphans N [] seen [] seen
  passed : {p : Point} {ps seen after : List Point} {steps : List Step} →
      (is_seen seen p ≡ true) ⊎ (IsOrphan N p → ⊥) → VisitsOrphans N ps seen steps after → VisitsOrphans N (p ∷ ps) seen steps after
  orphan : {p : Point} {ps seen between after : List Point} {inner steps : List Step} →
      is_seen seen p ≡ false → IsOrphan N p → Enters N word.Orphan p seen inner between → VisitsOrphans N ps between steps after →
      VisitsOrphans N (p ∷ ps) seen (inner ++ steps) after

-- while an inode with a name that is not dead has had no entry, the least of them
pub data VisitsAdrift (N : Namespace) : List Point → List Step → Type 0 where
  done : {seen : List Point} → ((p : Point) → IsAdrift N seen p → ⊥) → VisitsAdrift N seen []
  least : {p : Point} {seen between : List Point} {inner steps : List Step} →
      IsAdrift N seen p → ((q : Point) → IsAdrift N seen q → point_cmp q p ≢ Less) →
      Enters N word.Adrift p seen inner between → VisitsAdrift N between steps →
      VisitsAdrift N seen (inner ++ steps)

-- ---- the walk

-- the root; then the orphans by their points; then what is adrift
pub record IsWalk (N : Namespace) (walk : List Step) : Type 0 where
  pub named : List Step
  pub seen : List Point
  pub from_root : Walks N [] placed.Root [] named seen
  pub inodes : List Point
  pub inodes_are : Lists point_cmp (λ p. (dir : Bool) × IsInode N p dir) inodes
  pub orphans : List Step
  pub seen_then : List Point
  pub then_orphans : VisitsOrphans N inodes seen orphans seen_then
  pub adrift : List Step
  pub then_adrift : VisitsAdrift N seen_then adrift
  pub is : walk ≡ named ++ orphans ++ adrift
