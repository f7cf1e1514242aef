-- The first wide file of a set S: the first file entry of its walk with more live vertices than a limit.
use Rattle.std.specs.Prelude.{◌≡◌, ℕ, ◌<◌, List, [], ◌∷◌, length, Option, Some, None, ◌⊎◌}
use Rattle.pj_change.specs.declared.point.Point.{Point}
use Rattle.pj_change.specs.declared.graph.Vertex.{Vertex}
use Rattle.pj_change.specs.declared.print.Step.{Step}
use Rattle.pj_change.specs.declared.print.StepKind.TheVariants as step_kind
use Rattle.pj_change.specs.declared.change.Record.{Record}
use Rattle.pj_change.specs.FileText.{IsLiveList}
use Rattle.pj_change.specs.Walk.{IsWalk}

-- a file entry, executable or not, with more live text vertices than the limit
pub record IsWide (S : List Record) (limit : ℕ) (s : Step) : Type 0 where
  pub file : s.kind ≡ step_kind.File
  pub live : List Vertex
  pub live_are : IsLiveList S s.inode live
  pub more : limit < length live

-- the inode of the first of the entries that is wide, if one is
abbrev pub IsFirstWideOf : List Record → ℕ → List Step → Option Point → Type 0
IsFirstWideOf S limit [] found = found ≡ None
IsFirstWideOf S limit (s ∷ steps) found =
    (IsWide S limit s × (found ≡ Some s.inode)) ⊎ ((IsWide S limit s → ⊥) × IsFirstWideOf S limit steps found)

-- the first wide file of S, if it has one
pub record IsFirstWide (S : List Record) (limit : ℕ) (found : Option Point) : Type 0 where
  pub walk : List Step
  pub is_walk : IsWalk S walk
  pub first : IsFirstWideOf S limit walk found
