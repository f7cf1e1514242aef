-- The children, the walk and the texts of a set do not see the order of its list.
use Rattle.std.proofs.Common.{◌≡◌, ℕ, List, [], ◌∷◌, inl, inr, Bool, true, false}
use Rattle.std.specs.Prelude.{◌⊎◌, ◌↔◌, Option, IsTrue}
use Rattle.std.specs.List.{AllZip}
use Rattle.std.proofs.lemmas.List.Elements.{All-weaker}
use Rattle.pj_change.specs.declared.point.Point.{Point}
use Rattle.pj_change.specs.declared.point.Place.{Place}
use Rattle.pj_change.specs.declared.graph.Vertex.{Vertex}
use Rattle.pj_change.specs.declared.graph.Status.{Status}
use Rattle.pj_change.specs.declared.graph.Status.TheVariants.{Alive, Zombie}
use Rattle.pj_change.specs.declared.print.Step.{Step}
use Rattle.pj_change.specs.declared.print.StepKind.{StepKind}
use Rattle.pj_change.specs.declared.print.StepKind.TheVariants as step_kind
use Rattle.pj_change.specs.declared.print.StepWord.{StepWord}
use Rattle.pj_change.specs.declared.print.StepWord.TheVariants as word
use Rattle.pj_change.specs.declared.change.Record.{Record}
use Rattle.pj_change.specs.Sets.{HaveSameMembers}
use Rattle.pj_change.specs.Graph.{Lists, point_cmp, vertex_cmp}
use Rattle.pj_change.specs.MarkedText.{Class, Piece}
use Rattle.pj_change.specs.Children.{HasExecName, Child, IsChildBy, IsChild, IsInode, child_cmp}
use Rattle.pj_change.specs.FileText.{IsLiveIn, IsLiveList, AreAlike, IsClass, AreClasses, IsClassBefore, IsPiece, IsWritten, IsFileText}
use Rattle.pj_change.specs.Walk.{is_seen, Visits, Walks, done, again, file, dir, walk, HasContent, IsOrphan, IsAdrift, Enters, lost_file, lost_dir, VisitsOrphans, passed, orphan, VisitsAdrift, least, IsWalk}
use Rattle.pj_change.specs.Print.{IsEntryBy, AreEntries, IsPrint}
use Rattle.pj_change.specs.FirstWide.{IsWide, IsFirstWideOf, IsFirstWide}
use Rattle.pj_change.proofs.Listings.{same_listing}
use Rattle.pj_change.proofs.SameLayouts.{layout-same}
use Rattle.pj_change.proofs.SameSets.{back_again, before-same, live_in-same, inode-same, named-same, parent-same, has_name-same, has_exec_name-same}

module _ (S T : List Record) (same : HaveSameMembers S T) where
  exec-same : (parent : Place) (c : Child) (status : Status) →
      IsTrue c.exec ↔ HasExecName S parent c.bytes c.inode status → IsTrue c.exec ↔ HasExecName T parent c.bytes c.inode status
  exec-same parent c status h =
      (λ x. has_exec_name-same S T same parent c.bytes c.inode status (h.0 x), λ n. h.1 (has_exec_name-same T S (back_again S T same) parent c.bytes c.inode status n))

  child_by-same : (parent : Place) (c : Child) (w : StepWord) → IsChildBy S parent c w → IsChildBy T parent c w
  child_by-same parent c word.Alive h = (has_name-same S T same parent c.bytes c.inode Alive h.0, exec-same parent c Alive h.1)
  child_by-same parent c word.Zombie h =
      (has_name-same S T same parent c.bytes c.inode Zombie h.0, λ n. h.1 (has_name-same T S (back_again S T same) parent c.bytes c.inode Alive n), exec-same parent c Zombie h.2)
  child_by-same parent c word.Orphan h = h
  child_by-same parent c word.Adrift h = h

  pub child-same : (parent : Place) (c : Child) → IsChild S parent c → IsChild T parent c
  child-same parent c h = record { by = child_by-same parent c c.word h.by }

  content-same : (p : Point) → HasContent S p → HasContent T p
  content-same p h = elim h [ inl l ↦ inl (l.0, live_in-same S T same p l.0 l.1) | inr k ↦ inr (parent-same S T same p k) ]

  pub orphan-same : (p : Point) → IsOrphan S p → IsOrphan T p
  orphan-same p h = record {
    dir = h.dir;
    is = inode-same S T same p h.dir h.is;
    unnamed = λ n. h.unnamed (named-same T S (back_again S T same) p n);
    content = content-same p h.content;
  }

  pub adrift-same : (seen : List Point) (p : Point) → IsAdrift S seen p → IsAdrift T seen p
  adrift-same seen p h = record { dir = h.dir; is = inode-same S T same p h.dir h.is; named = named-same S T same p h.named; fresh = h.fresh }

  pub alike-same : (u v : Vertex) → AreAlike S u v → AreAlike T u v
  alike-same u v h = elim h [ inl e ↦ inl e | inr b ↦ inr (before-same S T same b.0, before-same S T same b.1) ]

  pub class_before-same : (classes : List (List Vertex)) (i j : ℕ) → IsClassBefore S classes i j → IsClassBefore T classes i j
  class_before-same classes i j h = record { apart = h.apart; u = h.u; v = h.v; u_in = h.u_in; v_in = h.v_in; before = before-same S T same h.before }

  piece-same : (v : Vertex) (p : Piece) → IsPiece S v p → IsPiece T v p
  piece-same v p h = record { zombie = h.zombie; owner = h.owner; member = same.there h.owner h.member; name = h.name; bytes = h.bytes }

  pub pieces-same : (vs : List Vertex) (ps : List Piece) → AllZip (IsPiece S) vs ps → AllZip (IsPiece T) vs ps
  pieces-same [] [] h = h
  pieces-same [] (p ∷ ps) h = h
  pieces-same (v ∷ vs) [] h = h
  pieces-same (v ∷ vs) (p ∷ ps) h = (piece-same v p h.0, pieces-same vs ps h.1)

module _ (S T : List Record) (same : HaveSameMembers S T) where
  children-same : (parent : Place) (all : List Child) → Lists child_cmp (IsChild S parent) all → Lists child_cmp (IsChild T parent) all
  children-same parent all h = same_listing child_cmp (IsChild S parent) (IsChild T parent) (child-same S T same parent) (child-same T S (back_again S T same) parent) all h

  mutual
    visits-same : {prefix : List ℕ} {all rest : List Child} {seen after : List Point} {steps : List Step} →
        Visits S prefix all rest seen steps after → Visits T prefix all rest seen steps after
    visits-same done = done
    visits-same (again h v) = again h (visits-same v)
    visits-same (file {c = c} h i v) = file h (inode-same S T same c.inode false i) (visits-same v)
    visits-same (dir {c = c} h i w v) = dir h (inode-same S T same c.inode true i) (walks-same w) (visits-same v)

    walks-same : {prefix : List ℕ} {parent : Place} {seen after : List Point} {steps : List Step} →
        Walks S prefix parent seen steps after → Walks T prefix parent seen steps after
    walks-same (walk {parent = parent} {all = all} l v) = walk (children-same parent all l) (visits-same v)

  enters-same : {w : StepWord} {p : Point} {seen after : List Point} {steps : List Step} → Enters S w p seen steps after → Enters T w p seen steps after
  enters-same {p = p} (lost_file i) = lost_file (inode-same S T same p false i)
  enters-same {p = p} (lost_dir i w) = lost_dir (inode-same S T same p true i) (walks-same w)

  orphans-same : {ps seen after : List Point} {steps : List Step} → VisitsOrphans S ps seen steps after → VisitsOrphans T ps seen steps after
  orphans-same done = done
  orphans-same (passed {p = p} {seen = seen} h v) =
      let there : (is_seen seen p ≡ true) ⊎ (IsOrphan T p → ⊥) = elim h [ inl s ↦ inl s | inr n ↦ inr (λ o. n (orphan-same T S (back_again S T same) p o)) ] in
      passed there (orphans-same v)
  orphans-same (orphan {p = p} h o e v) = orphan h (orphan-same S T same p o) (enters-same e) (orphans-same v)

  drifts-same : {seen : List Point} {steps : List Step} → VisitsAdrift S seen steps → VisitsAdrift T seen steps
  drifts-same (done {seen = seen} h) = done (λ p a. h p (adrift-same T S (back_again S T same) seen p a))
  drifts-same (least {p = p} {seen = seen} a b e v) =
      least (adrift-same S T same seen p a) (λ q k. b q (adrift-same T S (back_again S T same) seen q k)) (enters-same e) (drifts-same v)

  pub walk-same : (steps : List Step) → IsWalk S steps → IsWalk T steps
  walk-same steps h = record {
    named = h.named;
    seen = h.seen;
    from_root = walks-same h.from_root;
    inodes = h.inodes;
    inodes_are = same_listing point_cmp (λ p. (dir : Bool) × IsInode S p dir) (λ p. (dir : Bool) × IsInode T p dir)
        (λ p i. (i.0, inode-same S T same p i.0 i.1)) (λ p i. (i.0, inode-same T S (back_again S T same) p i.0 i.1)) h.inodes h.inodes_are;
    orphans = h.orphans;
    seen_then = h.seen_then;
    then_orphans = orphans-same h.then_orphans;
    adrift = h.adrift;
    then_adrift = drifts-same h.then_adrift;
    is = h.is;
  }

  -- ---- texts

  pub live_list-same : (inode : Point) (live : List Vertex) → IsLiveList S inode live → IsLiveList T inode live
  live_list-same inode live h = same_listing vertex_cmp (IsLiveIn S inode) (IsLiveIn T inode) (live_in-same S T same inode) (live_in-same T S (back_again S T same) inode) live h

  class-same : (live class : List Vertex) → IsClass S live class → IsClass T live class
  class-same live class h = record {
    nonempty = h.nonempty;
    sorted = h.sorted;
    among = h.among;
    alike = λ u v m n. (λ k. alike-same S T same u v ((h.alike u v m n).0 k), λ a. (h.alike u v m n).1 (alike-same T S (back_again S T same) u v a));
  }

  classes-same : (live : List Vertex) (classes : List (List Vertex)) → AreClasses S live classes → AreClasses T live classes
  classes-same live classes h = record { each = All-weaker (IsClass S live) (IsClass T live) (class-same live) classes h.each; all = h.all; rising = h.rising }

  written-same : (class : List Vertex) (w : Class) → IsWritten S class w → IsWritten T class w
  written-same class w h = record {
    cyclic = (λ x. (let f = h.cyclic.0 x in (f.0, f.1, before-same S T same f.2)), λ f. h.cyclic.1 (f.0, f.1, before-same T S (back_again S T same) f.2));
    pieces = pieces-same S T same class w.pieces h.pieces;
  }

  writtens-same : (classes : List (List Vertex)) (ws : List Class) → AllZip (IsWritten S) classes ws → AllZip (IsWritten T) classes ws
  writtens-same [] [] h = h
  writtens-same [] (w ∷ ws) h = h
  writtens-same (c ∷ cs) [] h = h
  writtens-same (c ∷ cs) (w ∷ ws) h = (written-same c w h.0, writtens-same cs ws h.1)

  pub text-same : (inode : Point) (text : List ℕ) → IsFileText S inode text → IsFileText T inode text
  text-same inode text h = record {
    live = h.live;
    live_are = live_list-same inode h.live h.live_are;
    classes = h.classes;
    classes_are = classes-same h.live h.classes h.classes_are;
    written = h.written;
    written_are = writtens-same h.classes h.written h.written_are;
    shape = h.shape;
    layout = layout-same (IsClassBefore S h.classes) (IsClassBefore T h.classes)
        (class_before-same S T same h.classes) (class_before-same T S (back_again S T same) h.classes) 0 _ h.shape h.layout;
    is = h.is;
  }

  entry-same : (s : Step) (bytes : List ℕ) (k : StepKind) → IsEntryBy S s bytes k → IsEntryBy T s bytes k
  entry-same s bytes step_kind.Dir h = h
  entry-same s bytes step_kind.Same h = h
  entry-same s bytes step_kind.File h = (h.0, text-same s.inode h.0 h.1, h.2)

  entries-same : (steps : List Step) (bytes : List ℕ) → AreEntries S steps bytes → AreEntries T steps bytes
  entries-same [] bytes h = h
  entries-same (s ∷ steps) bytes h = (h.0, h.1, h.2, entry-same s h.0 s.kind h.3, entries-same steps h.1 h.4)

  -- the print of one list is that of the other
  pub print-same : (bytes : List ℕ) → IsPrint S bytes → IsPrint T bytes
  print-same bytes h = record { walk = h.walk; is_walk = walk-same h.walk h.is_walk; entries = entries-same h.walk bytes h.entries }

  pub wide-same : (limit : ℕ) (s : Step) → IsWide S limit s → IsWide T limit s
  wide-same limit s h = record { file = h.file; live = h.live; live_are = live_list-same s.inode h.live h.live_are; more = h.more }

module _ (S T : List Record) (same : HaveSameMembers S T) where
  first_of-same : (limit : ℕ) (steps : List Step) (found : Option Point) → IsFirstWideOf S limit steps found → IsFirstWideOf T limit steps found
  first_of-same limit [] found h = h
  first_of-same limit (s ∷ steps) found h = elim h [
    | inl w ↦ inl (wide-same S T same limit s w.0, w.1)
    | inr w ↦ inr (λ k. w.0 (wide-same T S (back_again S T same) limit s k), first_of-same limit steps found w.1)
  ]

  -- so is the first wide file
  pub first_wide-same : (limit : ℕ) (found : Option Point) → IsFirstWide S limit found → IsFirstWide T limit found
  first_wide-same limit found h = record { walk = h.walk; is_walk = walk-same S T same h.walk h.is_walk; first = first_of-same limit h.walk found h.first }
