-- The laws over the definitions. Each is the contract of a function in the module `laws`.
use Rattle.std.specs.Prelude.{◌≡◌, ℕ, ◌<◌, ◌≤◌, Bool, false, IsTrue, List, ◌∷◌, ◌++◌, Contains, ◌⊎◌, ◌↔◌, Option}
use Rattle.pj_name.specs.declared.name.Name.{Name}
use Rattle.pj_change.specs.declared.point.Point.{Point}
use Rattle.pj_change.specs.declared.graph.Vertex.{Vertex}
use Rattle.pj_change.specs.declared.graph.Graph.{Graph}
use Rattle.pj_change.specs.declared.print.Step.{Step}
use Rattle.pj_change.specs.declared.change.Record.{Record}
use Rattle.pj_change.specs.Sets.{HaveSameMembers, HaveOneText}
use Rattle.pj_change.specs.Lawful.{IsLawful, IsLawfulSet, IsInOrder}
use Rattle.pj_change.specs.Union.{union}
use Rattle.pj_change.specs.Uproot.{IsUprooted}
use Rattle.pj_change.specs.Versions.{has_version, survives}
use Rattle.pj_change.specs.Status.{status_of}
use Rattle.pj_change.specs.Vertices.{IsVertex}
use Rattle.pj_change.specs.Graph.{IsGraph}
use Rattle.pj_change.specs.Before.{Leads, IsBefore, IsDeadText, IsLiveText}
use Rattle.pj_change.specs.AcrossDead.{IsPath, IsAcross, IsAmong}
use Rattle.pj_change.specs.PseudoRows.{HasEdgeOrRow}
use Rattle.pj_change.specs.JoinedText.{IsJoinedAcross, IsJoinedByRow}
use Rattle.pj_change.specs.Layout.{Shape, IsStrictOrder, IsLayout}
use Rattle.pj_change.specs.FileText.{IsLiveIn, IsFileText}
use Rattle.pj_change.specs.Walk.{IsWalk}
use Rattle.pj_change.specs.Print.{IsPrint}
use Rattle.pj_change.specs.FirstWide.{IsFirstWide}

-- ---- uniqueness

-- a set has at most one graph
abbrev pub AtMostOneGraph : Type 0
AtMostOneGraph = (S : List Record) (g h : Graph) → IsGraph S g → IsGraph S h → g ≡ h

-- Under a strict order, which a test tells, a set of classes has at most one layout; so it has one marked text, which is a fold over that.
abbrev pub AtMostOneLayout : Type 0
AtMostOneLayout =
    (before : ℕ → ℕ → Bool) → IsStrictOrder (λ x y. IsTrue (before x y)) → (depth : ℕ) (X : List ℕ) (s t : Shape) →
    IsLayout (λ x y. IsTrue (before x y)) depth X s → IsLayout (λ x y. IsTrue (before x y)) depth X t → s ≡ t

-- a file has at most one text
abbrev pub AtMostOneText : Type 0
AtMostOneText = (S : List Record) → HaveOneText S → (inode : Point) (s t : List ℕ) → IsFileText S inode s → IsFileText S inode t → s ≡ t

-- a set has at most one walk
abbrev pub AtMostOneWalk : Type 0
AtMostOneWalk = (S : List Record) → HaveOneText S → (s t : List Step) → IsWalk S s → IsWalk S t → s ≡ t

-- a set has at most one print
abbrev pub AtMostOnePrint : Type 0
AtMostOnePrint = (S : List Record) → HaveOneText S → (a b : List ℕ) → IsPrint S a → IsPrint S b → a ≡ b

-- a set has at most one first wide file
abbrev pub AtMostOneFirstWide : Type 0
AtMostOneFirstWide = (S : List Record) → HaveOneText S → (limit : ℕ) (p q : Option Point) → IsFirstWide S limit p → IsFirstWide S limit q → p ≡ q

-- ---- order

-- two lists with the same members have one graph
abbrev pub SameGraph : Type 0
SameGraph = (S T : List Record) → HaveSameMembers S T → (g h : Graph) → IsGraph S g → IsGraph T h → g ≡ h

-- one walk
abbrev pub SameWalk : Type 0
SameWalk = (S T : List Record) → HaveSameMembers S T → HaveOneText S → (s t : List Step) → IsWalk S s → IsWalk T t → s ≡ t

-- one print
abbrev pub SamePrint : Type 0
SamePrint = (S T : List Record) → HaveSameMembers S T → HaveOneText S → (a b : List ℕ) → IsPrint S a → IsPrint T b → a ≡ b

-- and one first wide file
abbrev pub SameFirstWide : Type 0
SameFirstWide =
    (S T : List Record) → HaveSameMembers S T → HaveOneText S →
    (limit : ℕ) (p q : Option Point) → IsFirstWide S limit p → IsFirstWide T limit q → p ≡ q

-- what is the graph of a list is the graph of each list with the same members
abbrev pub GraphIsShared : Type 0
GraphIsShared = (S T : List Record) → HaveSameMembers S T → (g : Graph) → IsGraph S g → IsGraph T g

-- so it is with the walk
abbrev pub WalkIsShared : Type 0
WalkIsShared = (S T : List Record) → HaveSameMembers S T → (s : List Step) → IsWalk S s → IsWalk T s

-- with the print
abbrev pub PrintIsShared : Type 0
PrintIsShared = (S T : List Record) → HaveSameMembers S T → (bytes : List ℕ) → IsPrint S bytes → IsPrint T bytes

-- and with the first wide file
abbrev pub FirstWideIsShared : Type 0
FirstWideIsShared = (S T : List Record) → HaveSameMembers S T → (limit : ℕ) (found : Option Point) → IsFirstWide S limit found → IsFirstWide T limit found

-- ---- statuses

-- in a lawful set each point has a version that survives
abbrev pub SomeVersionSurvives : Type 0
SomeVersionSurvives =
    (S : List Record) → IsLawfulSet S → (p : Point) → (name : Name) × IsTrue (has_version S name p) × IsTrue (survives S name p)

-- in a lawful set all points of a vertex have the status of the vertex
abbrev pub OneStatus : Type 0
OneStatus =
    (S : List Record) → IsLawfulSet S → (v : Vertex) → IsVertex S v →
    (offset : ℕ) → v.start ≤ offset → offset < v.end → status_of S (record { change = v.change; offset = offset }) ≡ v.status

-- ---- before

-- Over steps that a test tells, and things of which a test tells the dead, a path between live things is a path of live things,
-- each joined to the next across dead ones alone.
abbrev pub PathsAcrossDead : Type 0
PathsAcrossDead =
    (step : ℕ → ℕ → Bool) (dead : ℕ → Bool) (u v : ℕ) → dead u ≡ false → dead v ≡ false →
    IsPath (λ x y. IsTrue (step x y)) u v ↔
    IsPath (IsAmong (λ x. dead x ≡ false) (IsAcross (λ x y. IsTrue (step x y)) (λ x. IsTrue (dead x)))) u v

-- In a lawful set live text of a file is before live text of it exactly where live text of it leads there,
-- each joined to the next by an edge or across dead text alone.
abbrev pub BeforeAcrossDead : Type 0
BeforeAcrossDead =
    (S : List Record) → IsLawfulSet S → (inode : Point) (u v : Vertex) → IsLiveIn S inode u → IsLiveIn S inode v →
    IsBefore S u v ↔ IsPath (IsJoinedAcross S inode) u v

-- in a lawful set an edge or a path across dead text alone joins live text exactly where an edge or a row does
abbrev pub JoinedByRow : Type 0
JoinedByRow =
    (S : List Record) → IsLawfulSet S → (u v : Vertex) → IsLiveText S u → IsLiveText S v →
    IsAcross (Leads S) (IsDeadText S) u v ↔ HasEdgeOrRow S u v

-- so in a lawful set before is, in each file, the closure of the edges and the rows between live text
abbrev pub BeforeByRows : Type 0
BeforeByRows =
    (S : List Record) → IsLawfulSet S → (inode : Point) (u v : Vertex) → IsLiveIn S inode u → IsLiveIn S inode v →
    IsBefore S u v ↔ IsPath (IsJoinedByRow S inode) u v

-- ---- lawful lists

-- a list without repeats of changes of a lawful set, in which needs stand first, is lawful
abbrev pub PartsAreLawful : Type 0
PartsAreLawful = (S list : List Record) → IsLawfulSet S → ((r : Record) → Contains list r → Contains S r) → IsInOrder list → IsLawful list

-- a lawful list without a change that no member needs is lawful
abbrev pub OthersAreLawful : Type 0
OthersAreLawful =
    (before : List Record) (c : Record) (after : List Record) → IsLawful (before ++ c ∷ after) →
    ((r : Record) → Contains (before ++ c ∷ after) r → Contains r.change.needs c.name → ⊥) → IsLawful (before ++ after)

-- the union of two lawful lists is lawful
abbrev pub UnionIsLawful : Type 0
UnionIsLawful = (a b : List Record) → HaveOneText (a ++ b) → IsLawful a → IsLawful b → IsLawful (union a b)

-- its members are those of the two
abbrev pub UnionHasBoth : Type 0
UnionHasBoth = (a b : List Record) → HaveOneText (a ++ b) → (r : Record) → Contains (union a b) r ↔ (Contains a r ⊎ Contains b r)

-- a lawful list without a change and all that reach it by needs is lawful
abbrev pub UprootedIsLawful : Type 0
UprootedIsLawful = (list : List Record) (name : Name) (rest : List Record) → IsLawful list → IsUprooted list name rest → IsLawful rest

-- and there is at most one such list
abbrev pub AtMostOneUprooted : Type 0
AtMostOneUprooted = (list : List Record) (name : Name) (rest rest' : List Record) → IsUprooted list name rest → IsUprooted list name rest' → rest ≡ rest'
