-- A walk that is under way: what has had an entry, and what is left of the directories that are being walked.
use Rattle.std.specs.Prelude.{◌≡◌, ℕ, suc, ◌+◌, ◌-◌, ◌*◌, ◌<◌, ◌≤◌, slice_index_or, Bool, true, false, List, [], ◌∷◌, ◌++◌, map, drop, length, sum_by, Contains, if◌then◌else◌, Option, Some, None, option_to_list, ◌↔◌, reverse}
use Rattle.std.specs.List.{list_any}
use Rattle.std.specs.List.Sorted.{IsStrictlySortedBy}
use Rattle.pj_change.specs.declared.point.Point.{Point}
use Rattle.pj_change.specs.declared.point.Place.{Place}
use Rattle.pj_change.specs.declared.point.Place.TheVariants as placed
use Rattle.pj_change.specs.declared.print.StepWord.{StepWord}
use Rattle.pj_change.specs.Positions.{same_point}
use Rattle.pj_change.specs.declared.print.Step.{Step}
use Rattle.pj_change.specs.declared.print.StepKind.{StepKind}
use Rattle.pj_change.specs.declared.print.StepKind.TheVariants as step_kind
use Rattle.pj_change.specs.Graph.{Lists}
use Rattle.pj_change.specs.Children.{Child, child_cmp}
use Rattle.pj_change.specs.Walk.{is_seen, inside}
use Rattle.pj_tree.specs.declared.row.Inode.{Inode}
use Rattle.pj_tree.specs.declared.pairings.Pairing.{Pairing}
use Rattle.pj_tree.specs.declared.walker.Frame.{Frame}
use Rattle.pj_tree.specs.declared.walker.Guide.{Guide}
use Rattle.pj_tree.specs.declared.walker.Progress.{Progress}
use Rattle.pj_tree.specs.Rows.{inode_cmp}
use Rattle.pj_tree.specs.Pairings.{child_of, pairing_cmp, is_in, pairings_in, children_in}
use Rattle.pj_tree.specs.Namespace.{Namespace, IsNamed, IsParent, IsChild}
use Rattle.pj_tree.specs.Walk.{Visits, Enters, VisitsOrphans, VisitsAdrift}

-- ---- inodes that have had an entry

-- after this entry
abbrev pub seen_by : StepKind → Point → List Point → List Point
seen_by step_kind.Same p seen = seen
seen_by step_kind.File p seen = p ∷ seen
seen_by step_kind.Dir p seen = p ∷ seen

-- after these entries
abbrev pub seen_after : List Point → List Step → List Point
seen_after seen [] = seen
seen_after seen (s ∷ steps) = seen_after (seen_by s.kind s.inode seen) steps

-- whether each inode has had one
abbrev pub marks : List Point → List Inode → List Bool
marks seen inodes = map (λ i. is_seen seen i.at) inodes

-- how many have had none
abbrev pub unseen : List Bool → ℕ
unseen [] = 0
unseen (true ∷ flags) = unseen flags
unseen (false ∷ flags) = suc (unseen flags)

-- the kind of the next entry of an inode
abbrev pub kind_of : List Point → Inode → StepKind
kind_of seen i = if is_seen seen i.at then step_kind.Same else if i.dir then step_kind.Dir else step_kind.File

-- whether the entry is executable, where its pair is
abbrev pub exec_of : StepKind → Bool → Bool
exec_of step_kind.File exec = exec
exec_of step_kind.Dir exec = false
exec_of step_kind.Same exec = false

-- the inodes that have had an entry, after these entries of a walk
abbrev pub seen_of : List Step → List Point
seen_of steps = seen_after [] steps

-- a walk has marked the inodes that have had an entry
abbrev pub IsMarked : List Inode → Progress → Type 0
IsMarked inodes p = p.seen.items ≡ marks (seen_of p.steps.items) inodes

-- ---- what a walk goes by

-- both are in order, and each child is an inode
pub record IsSound (p : Guide) : Type 0 where
  pub pairings : IsStrictlySortedBy pairing_cmp p.pairings.now
  pub inodes : IsStrictlySortedBy inode_cmp p.inodes.now
  pub kinds : (e : Pairing) → Contains p.pairings.now e → Contains p.inodes.now (record { at = e.row.now.child; dir = e.row.now.dir })

-- a pairing has this child
abbrev pub has_name : List Pairing → Point → Bool
has_name pairings p = list_any (λ e. same_point p e.row.now.child) pairings

-- a pairing has this parent
abbrev pub has_child : List Pairing → Point → Bool
has_child pairings p = list_any (is_in (placed.At p)) pairings

-- the pairings and inodes are those of the namespace
pub record IsGuideOf (N : Namespace) (p : Guide) : Type 0 where
  pub inodes : p.inodes.now ≡ N.inodes
  pub children : (parent : Place) → Lists child_cmp (IsChild N parent) (children_in parent p.pairings.now)
  pub named : (inode : Point) → IsNamed N inode ↔ (has_name p.pairings.now inode ≡ true)
  pub parents : (inode : Point) → IsParent N inode ↔ (has_child p.pairings.now inode ≡ true)

-- ---- directories that are being walked

-- the children of the directory
abbrev pub children_of : Frame → List Child
children_of f = map child_of f.children.now

-- the children that are still to be visited
abbrev pub left_of : Frame → List Child
left_of f = drop f.next (children_of f)

-- its children are those of a parent
pub record IsFrame (pairings : List Pairing) (f : Frame) : Type 0 where
  pub parent : Place
  pub are : f.children.now ≡ pairings_in parent pairings
  pub within : f.next ≤ length f.children.now

-- the walk of a directory, before its first child
pub record IsBegun (pairings : List Pairing) (at : Point) (path : List ℕ) (f : Frame) : Type 0 where
  pub prefix : f.prefix.items ≡ inside path
  pub are : f.children.now ≡ pairings_in (placed.At at) pairings
  pub first : f.next ≡ 0

-- where the entry is of a directory, its walk
abbrev pub IsInner : List Pairing → StepKind → Point → List ℕ → Option Frame → Type 0
IsInner pairings step_kind.Dir at path inner = (f : Frame) × (inner ≡ Some f) × IsBegun pairings at path f
IsInner pairings step_kind.File at path inner = inner ≡ None
IsInner pairings step_kind.Same at path inner = inner ≡ None

-- what is left of the frames, the last one first, gives these entries
pub data Rest (N : Namespace) : List Frame → List Point → List Step → List Point → Type 0 where
  ended : {seen : List Point} → Rest N [] seen [] seen
  under : {f : Frame} {fs : List Frame} {seen between after : List Point} {inner steps : List Step} →
      Visits N f.prefix.items (children_of f) (left_of f) seen inner between → Rest N fs between steps after →
      Rest N (f ∷ fs) seen (inner ++ steps) after

-- an entry of the walk leads from these frames to those
abbrev pub LeadsTo : Namespace → List Frame → List Point → Step → List Frame → Type 0
LeadsTo N fs seen s gs = (steps : List Step) (after : List Point) → Rest N gs (seen_by s.kind s.inode seen) steps after → Rest N fs seen (s ∷ steps) after

-- the frame with its next child behind it
abbrev pub advanced : Frame → Frame
advanced f = record { prefix = f.prefix; children = f.children; next = f.next + 1 }

-- one child of the frame f is visited: `inner` is to be walked before the others, of which f' has the rest
pub record IsTurn (guide : Guide) (f f' : Frame) (inner : Option Frame) (old new : List Step) : Type 0 where
  pub step : Step
  pub is : new ≡ old ++ step ∷ []
  pub leads : (N : Namespace) → IsGuideOf N guide → (fs : List Frame) → LeadsTo N (f ∷ fs) (seen_of old) step (option_to_list inner ++ f' ∷ fs)

-- what is left of a frame is visited
pub record IsVisited (guide : Guide) (f : Frame) (old new : List Step) : Type 0 where
  pub steps : List Step
  pub is : new ≡ old ++ steps
  pub visits : (N : Namespace) → IsGuideOf N guide → Visits N f.prefix.items (children_of f) (left_of f) (seen_of old) steps (seen_of new)

-- an inode has its entry by itself, and its walk
pub record IsEntered (guide : Guide) (word : StepWord) (at : Point) (old new : List Step) : Type 0 where
  pub steps : List Step
  pub is : new ≡ old ++ steps
  pub enters : (N : Namespace) → IsGuideOf N guide → Enters N word at (seen_of old) steps (seen_of new)
  pub seen : is_seen (seen_of new) at ≡ true

-- the orphans are visited
pub record AreOrphans (guide : Guide) (live : Point → Bool) (old new : List Step) : Type 0 where
  pub steps : List Step
  pub is : new ≡ old ++ steps
  pub visits : (N : Namespace) → IsGuideOf N guide → N.live ≡ live → VisitsOrphans N (map (λ i. i.at) guide.inodes.now) (seen_of old) steps (seen_of new)

-- what is adrift is visited
pub record AreAdrift (guide : Guide) (old new : List Step) : Type 0 where
  pub steps : List Step
  pub is : new ≡ old ++ steps
  pub visits : (N : Namespace) → IsGuideOf N guide → VisitsAdrift N (seen_of old) steps

-- ---- the measure

-- one where an inode has its first entry
abbrev pub fresh : StepKind → ℕ
fresh step_kind.Same = 0
fresh step_kind.File = 1
fresh step_kind.Dir = 1

-- how many children are still to be visited, and one more
abbrev pub left_count : Frame → ℕ
left_count f = suc (length f.children.now - f.next)

-- what is left to do: all pairings and two for each inode that has had no entry, and what is left of each frame
abbrev pub work_left : List Pairing → List Bool → List Frame → ℕ
work_left pairings flags frames = unseen flags * (length pairings + 2) + sum_by left_count frames

-- ---- a walk that is under way

-- the frames, the last one first
abbrev pub stack : List Frame → List Frame
stack frames = reverse frames

-- from `old`, what is left of f was walked down to these frames
pub record IsUnderway (guide : Guide) (f : Frame) (frames : List Frame) (old new : List Step) : Type 0 where
  pub steps : List Step
  pub is : new ≡ old ++ steps
  pub frame : (g : Frame) → Contains frames g → IsFrame guide.pairings.now g
  pub leads : (N : Namespace) → IsGuideOf N guide → (more : List Step) (after : List Point) → Rest N (stack frames) (seen_of new) more after →
      Visits N f.prefix.items (children_of f) (left_of f) (seen_of old) (steps ++ more) after

-- the inodes before an index were looked at as orphans: what is left of the others completes the visit
pub record IsAmongOrphans (guide : Guide) (live : Point → Bool) (index : ℕ) (old new : List Step) : Type 0 where
  pub steps : List Step
  pub is : new ≡ old ++ steps
  pub leads : (N : Namespace) → IsGuideOf N guide → N.live ≡ live → (more : List Step) (after : List Point) →
      VisitsOrphans N (drop index (map (λ i. i.at) guide.inodes.now)) (seen_of new) more after →
      VisitsOrphans N (map (λ i. i.at) guide.inodes.now) (seen_of old) (steps ++ more) after

-- the inodes before an index are not adrift, and what is adrift then completes the visit
pub record IsAmongAdrift (guide : Guide) (index : ℕ) (old new : List Step) : Type 0 where
  pub steps : List Step
  pub is : new ≡ old ++ steps
  pub settled : (k : ℕ) (d : Inode) → k < index → has_name guide.pairings.now (slice_index_or guide.inodes.now k d).at ≡ true → is_seen (seen_of new) (slice_index_or guide.inodes.now k d).at ≡ true
  pub leads : (N : Namespace) → IsGuideOf N guide → (more : List Step) → VisitsAdrift N (seen_of new) more → VisitsAdrift N (seen_of old) (steps ++ more)
