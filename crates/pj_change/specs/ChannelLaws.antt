-- The laws of channels, over the lists that they hold. Each is the contract of a function in the module `channel_laws`.
use Rattle.std.specs.Prelude.{◌≡◌, ℕ, false, List, [], ◌∷◌, ◌++◌, map, Contains, ◌↔◌, ◌⊎◌, Result, Err}
use Rattle.std.specs.Arc.{arc_value}
use Rattle.std.specs.declared.alloc.Global.{Global}
use Rattle.std.specs.declared.sync.Arc.{Arc}
use Rattle.pj_name.specs.declared.name.Name.{Name}
use Rattle.pj_change.specs.declared.change.Record.{Record}
use Rattle.pj_change.specs.declared.graph.Graph.{Graph}
use Rattle.pj_change.specs.declared.refusals.PrintRefusal.{PrintRefusal}
use Rattle.pj_change.specs.declared.refusals.PrintRefusal.TheVariants.{Memory}
use Rattle.pj_change.specs.Graph.{IsGraph}
use Rattle.pj_change.specs.Lawful.{is_held, IsLawful}
use Rattle.pj_change.specs.Sets.{HaveSameMembers, HaveOneText}
use Rattle.pj_change.specs.Union.{union}
use Rattle.pj_change.specs.Uproot.{IsUprooted}
use Rattle.pj_change.specs.declared.operation.Operation.{Operation}
use Rattle.pj_change.specs.declared.operation.Operation.TheVariants.{Apply, Unrecord}
use Rattle.pj_change.specs.Printing.{IsPrintAnswer}
use Rattle.pj_change.specs.Runs.{IsRun, PullLawful, brought}
use Rattle.pj_change.specs.Shared.{records}
use Rattle.pj_change.specs.Unrecord.{MayLeave, without}

-- ---- graphs and prints of two lists

-- the lists have one graph
abbrev pub HaveOneGraph : List Record → List Record → Type 0
HaveOneGraph S T = (g h : Graph) → IsGraph S g → IsGraph T h → g ≡ h

-- they have one answer to a print with the same limit, be it the bytes or a wide file, but for want of memory
abbrev pub HaveOnePrint : List Record → List Record → Type 0
HaveOnePrint S T =
    (limit : ℕ) (x y : Result (List ℕ) PrintRefusal) → IsPrintAnswer S limit x → IsPrintAnswer T limit y → (x ≡ Err Memory) ⊎ ((y ≡ Err Memory) ⊎ (x ≡ y))

-- the answer to a print depends on the set alone
abbrev pub SetsHaveOnePrint : Type 0
SetsHaveOnePrint = (S T : List Record) → HaveOneText S → HaveSameMembers S T → HaveOnePrint S T

-- what answers a print of a list answers one of each list with the same members
abbrev pub PrintAnswerIsShared : Type 0
PrintAnswerIsShared =
    (S T : List Record) → HaveSameMembers S T → (limit : ℕ) (x : Result (List ℕ) PrintRefusal) → IsPrintAnswer S limit x → IsPrintAnswer T limit x

-- records of a lawful list with equal names have equal texts
abbrev pub LawfulHasOneText : Type 0
LawfulHasOneText = (list : List Record) → IsLawful list → HaveOneText list

-- ---- runs

-- a run leaves at most one list
abbrev pub OneListLeft : Type 0
OneListLeft = (list : List Record) (operations : List (Operation (List Record))) (a b : List Record) → IsRun list operations a → IsRun list operations b → a ≡ b

-- from a lawful list a run leaves a lawful list
abbrev pub RunsAreLawful : Type 0
RunsAreLawful =
    (list : List Record) (operations : List (Operation (List Record))) (after : List Record) →
    IsLawful list → PullLawful operations → HaveOneText (list ++ brought operations) → IsRun list operations after → IsLawful after

-- each change that a run leaves was there, or the run brought it
abbrev pub NothingIsMadeUp : Type 0
NothingIsMadeUp =
    (list : List Record) (operations : List (Operation (List Record))) (after : List Record) → IsRun list operations after →
    (r : Record) → Contains after r → Contains (list ++ brought operations) r

-- to apply the changes of a lawful list, one after the other, leaves the list
abbrev pub ListsAreRuns : Type 0
ListsAreRuns = (changes : List (Arc Record Global)) → IsLawful (records changes) → IsRun [] (map Apply changes) (records changes)

-- the applications of the same changes in any two lawful orders leave lists with one graph and one answer to a print
abbrev pub OrdersAgree : Type 0
OrdersAgree =
    (a b : List (Arc Record Global)) (S T : List Record) →
    IsLawful (records a) → IsLawful (records b) → HaveSameMembers (records a) (records b) → IsRun [] (map Apply a) S → IsRun [] (map Apply b) T →
    HaveOneGraph S T × HaveOnePrint S T

-- ---- unrecord

-- a change that is applied and taken out again leaves no trace, whether it was refused or not
abbrev pub NoTrace : Type 0
NoTrace =
    (list : List Record) (change : Arc Record Global) (after : List Record) → IsLawful list → is_held list (arc_value change).name ≡ false →
    IsRun list (Apply change ∷ Unrecord (arc_value change).name ∷ []) after → after ≡ list

-- nor does one that is taken out after others, where none of them needs it: the others alone leave the same list
abbrev pub AsNeverApplied : Type 0
AsNeverApplied =
    (before : List (Arc Record Global)) (change : Arc Record Global) (after : List (Arc Record Global)) (left : List Record) →
    IsLawful (records (before ++ change ∷ after)) → MayLeave (records (before ++ change ∷ after)) (arc_value change).name →
    IsRun [] (map Apply (before ++ change ∷ after) ++ Unrecord (arc_value change).name ∷ []) left → IsRun [] (map Apply (before ++ after)) left

-- a lawful list without a change that may leave is lawful
abbrev pub UnrecordedIsLawful : Type 0
UnrecordedIsLawful = (list : List Record) (name : Name) → IsLawful list → MayLeave list name → IsLawful (without list name)

-- and has the graph of every list with the other members
abbrev pub SmallerSetsGraph : Type 0
SmallerSetsGraph =
    (list S : List Record) (name : Name) → ((r : Record) → Contains S r ↔ (Contains list r × (r.name ≡ name → ⊥))) → HaveOneGraph (without list name) S

-- and one answer to a print with each such list
abbrev pub SmallerSetsPrint : Type 0
SmallerSetsPrint =
    (list S : List Record) (name : Name) → HaveOneText list → ((r : Record) → Contains S r ↔ (Contains list r × (r.name ≡ name → ⊥))) →
    HaveOnePrint (without list name) S

-- ---- uproot

-- where no change needs it, an uproot takes out the change alone
abbrev pub UprootsOneAlone : Type 0
UprootsOneAlone = (list : List Record) (name : Name) → MayLeave list name → IsUprooted list name (without list name)

-- ---- pull

-- to pull twice is to pull once
abbrev pub PullsOnce : Type 0
PullsOnce = (a b : List Record) → union (union a b) b ≡ union a b

-- a channel pulled into itself stays
abbrev pub PullsItself : Type 0
PullsItself = (a : List Record) → union a a ≡ a

-- pull is associative, on lists
abbrev pub PullAssociates : Type 0
PullAssociates = (a b c : List Record) → union (union a b) c ≡ union a (union b c)

-- and commutative, on sets
abbrev pub PullCommutes : Type 0
PullCommutes = (a b : List Record) → HaveOneText (a ++ b) → HaveSameMembers (union a b) (union b a)

-- so also on graphs
abbrev pub PullGraphCommutes : Type 0
PullGraphCommutes = (a b : List Record) → HaveOneText (a ++ b) → HaveOneGraph (union a b) (union b a)

-- and on the answers to a print
abbrev pub PullPrintCommutes : Type 0
PullPrintCommutes = (a b : List Record) → HaveOneText (a ++ b) → HaveOnePrint (union a b) (union b a)
