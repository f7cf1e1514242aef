-- The walk of the namespace of a set of changes is the walk of the set.
use Rattle.std.proofs.Common.{◌≡◌, ℕ, List, sym, ap, ◌∙◌, inl, inr, ◌⊎◌, Bool, true, false}
use Rattle.pj_change.specs.declared.point.Point.{Point}
use Rattle.pj_change.specs.declared.point.Place.{Place}
use Rattle.pj_change.specs.declared.point.Place.TheVariants as placed
use Rattle.pj_change.specs.declared.graph.Status.{Status}
use Rattle.pj_change.specs.declared.graph.Status.TheVariants.{Alive, Zombie}
use Rattle.pj_change.specs.declared.print.Step.{Step}
use Rattle.pj_change.specs.declared.print.StepWord.{StepWord}
use Rattle.pj_change.specs.declared.print.StepWord.TheVariants as word
use Rattle.pj_change.specs.declared.change.Record.{Record}
use Rattle.pj_change.specs.Graph.{Lists, point_cmp}
use Rattle.pj_change.specs.Status.{status_of}
use Rattle.pj_change.specs.Children as set
use Rattle.pj_change.specs.Children.{Child, child_cmp}
use Rattle.pj_change.specs.Walk as set_walk
use Rattle.pj_change.specs.Walk.{is_seen}
use Rattle.pj_change.proofs.Listings.{same_listing}
use Rattle.pj_tree.specs.Namespace.{Namespace, IsInode, IsNamed, IsParent, HasName, HasExecName, IsChildBy, IsChild}
use Rattle.pj_tree.specs.NamespaceOf.{naming, IsNamespaceOf}
use Rattle.pj_tree.specs.Walk.{Visits, Walks, done, again, file, dir, walk, IsOrphan, IsAdrift, Enters, lost_file, lost_dir, VisitsOrphans, passed, orphan, VisitsAdrift, least, IsWalk}
use Rattle.pj_change.proofs.EqualNames.{at_is}

module _ (S : List Record) (N : Namespace) (of : IsNamespaceOf S N) where
  -- ---- names and inodes

  named-there : (p : Point) → IsNamed N p → set.IsNamed S p
  named-there p h = record {
    naming = naming h.row;
    is = of.rows h.row h.there;
    child = ap placed.At h.child;
    live = λ d. h.live (of.status h.row h.there ∙ d);
  }

  named-back : (p : Point) → set.IsNamed S p → IsNamed N p
  named-back p h =
      let w = of.all_rows h.naming h.is in
      record {
        row = w.row;
        there = w.there;
        child = at_is w.row.child p (ap (λ n. n.child) w.is ∙ h.child);
        live = λ d. h.live (ap (λ n. status_of S n.at) (sym w.is) ∙ sym (of.status w.row w.there) ∙ d);
      }

  parent-there : (p : Point) → IsParent N p → set.IsParent S p
  parent-there p h = record { naming = naming h.row; is = of.rows h.row h.there; parent = h.parent; live = λ d. h.live (of.status h.row h.there ∙ d) }

  parent-back : (p : Point) → set.IsParent S p → IsParent N p
  parent-back p h =
      let w = of.all_rows h.naming h.is in
      record {
        row = w.row;
        there = w.there;
        parent = ap (λ n. n.parent) w.is ∙ h.parent;
        live = λ d. h.live (ap (λ n. status_of S n.at) (sym w.is) ∙ sym (of.status w.row w.there) ∙ d);
      }

  inode-there : (p : Point) (d : Bool) → IsInode N p d → set.IsInode S p d
  inode-there p d h = of.inodes (record { at = p; dir = d }) h

  -- ---- children

  name-there : (parent : Place) (bytes : List ℕ) (inode : Point) (status : Status) → HasName N parent bytes inode status → set.HasName S parent bytes inode status
  name-there parent bytes inode status h = (
    naming h.0,
    record {
      is = of.rows h.0 h.1.there;
      in_parent = h.1.in_parent;
      of_bytes = h.1.of_bytes;
      of_child = ap placed.At h.1.of_child;
      of_status = sym (of.status h.0 h.1.there) ∙ h.1.of_status;
    },
  )

  name-back : (parent : Place) (bytes : List ℕ) (inode : Point) (status : Status) → set.HasName S parent bytes inode status → HasName N parent bytes inode status
  name-back parent bytes inode status h =
      let w = of.all_rows h.0 h.1.is in (
        w.row,
        record {
          there = w.there;
          in_parent = ap (λ n. n.parent) w.is ∙ h.1.in_parent;
          of_bytes = ap (λ n. n.bytes) w.is ∙ h.1.of_bytes;
          of_child = at_is w.row.child inode (ap (λ n. n.child) w.is ∙ h.1.of_child);
          of_status = of.status w.row w.there ∙ ap (λ n. status_of S n.at) w.is ∙ h.1.of_status;
        },
      )

  exec-there : (parent : Place) (bytes : List ℕ) (inode : Point) (status : Status) → HasExecName N parent bytes inode status → set.HasExecName S parent bytes inode status
  unfolding name-there
  exec-there parent bytes inode status h = let n = name-there parent bytes inode status (h.0, h.1) in (n.0, n.1, h.2)

  exec-back : (parent : Place) (bytes : List ℕ) (inode : Point) (status : Status) → set.HasExecName S parent bytes inode status → HasExecName N parent bytes inode status
  unfolding name-back
  exec-back parent bytes inode status h =
      let w = of.all_rows h.0 h.1.is in
      let n = name-back parent bytes inode status (h.0, h.1) in
      (n.0, n.1, ap (λ n. n.exec) w.is ∙ h.2)

  child_by-there : (parent : Place) (c : Child) (w : StepWord) → IsChildBy N parent c w → set.IsChildBy S parent c w
  child_by-there parent c word.Alive h =
      (name-there parent c.bytes c.inode Alive h.0, (λ x. exec-there parent c.bytes c.inode Alive (h.1.0 x), λ x. h.1.1 (exec-back parent c.bytes c.inode Alive x)))
  child_by-there parent c word.Zombie h = (
    name-there parent c.bytes c.inode Zombie h.0,
    λ n. h.1 (name-back parent c.bytes c.inode Alive n),
    (λ x. exec-there parent c.bytes c.inode Zombie (h.2.0 x), λ x. h.2.1 (exec-back parent c.bytes c.inode Zombie x)),
  )
  child_by-there parent c word.Orphan h = h
  child_by-there parent c word.Adrift h = h

  child_by-back : (parent : Place) (c : Child) (w : StepWord) → set.IsChildBy S parent c w → IsChildBy N parent c w
  child_by-back parent c word.Alive h =
      (name-back parent c.bytes c.inode Alive h.0, (λ x. exec-back parent c.bytes c.inode Alive (h.1.0 x), λ x. h.1.1 (exec-there parent c.bytes c.inode Alive x)))
  child_by-back parent c word.Zombie h = (
    name-back parent c.bytes c.inode Zombie h.0,
    λ n. h.1 (name-there parent c.bytes c.inode Alive n),
    (λ x. exec-back parent c.bytes c.inode Zombie (h.2.0 x), λ x. h.2.1 (exec-there parent c.bytes c.inode Zombie x)),
  )
  child_by-back parent c word.Orphan h = h
  child_by-back parent c word.Adrift h = h

  children-there : (parent : Place) (all : List Child) → Lists child_cmp (IsChild N parent) all → Lists child_cmp (set.IsChild S parent) all
  children-there parent all h = same_listing child_cmp (IsChild N parent) (set.IsChild S parent)
      (λ c k. record { by = child_by-there parent c c.word k.by }) (λ c k. record { by = child_by-back parent c c.word k.by }) all h

  -- ---- walks

  mutual
    visits-there : {prefix : List ℕ} {all rest : List Child} {seen after : List Point} {steps : List Step} →
        Visits N prefix all rest seen steps after → set_walk.Visits S prefix all rest seen steps after
    visits-there done = set_walk.done
    visits-there (again h v) = set_walk.again h (visits-there v)
    visits-there (file {c = c} h i v) = set_walk.file h (inode-there c.inode false i) (visits-there v)
    visits-there (dir {c = c} h i w v) = set_walk.dir h (inode-there c.inode true i) (walks-there w) (visits-there v)

    walks-there : {prefix : List ℕ} {parent : Place} {seen after : List Point} {steps : List Step} →
        Walks N prefix parent seen steps after → set_walk.Walks S prefix parent seen steps after
    walks-there (walk {parent = parent} {all = all} l v) = set_walk.walk (children-there parent all l) (visits-there v)

  -- ---- inodes that no walk from the root reaches

  orphan-there : (p : Point) → IsOrphan N p → set_walk.IsOrphan S p
  orphan-there p h = record {
    dir = h.dir;
    is = inode-there p h.dir h.is;
    unnamed = λ n. h.unnamed (named-back p n);
    content = elim h.content [ inl l ↦ inl ((of.live (record { at = p; dir = h.dir }) h.is).0 l) | inr k ↦ inr (parent-there p k) ];
  }

  orphan-back : (p : Point) → set_walk.IsOrphan S p → IsOrphan N p
  orphan-back p h =
      let i : IsInode N p h.dir = of.all_inodes p h.dir h.is in
      record {
        dir = h.dir;
        is = i;
        unnamed = λ n. h.unnamed (named-there p n);
        content = elim h.content [ inl l ↦ inl ((of.live (record { at = p; dir = h.dir }) i).1 l) | inr k ↦ inr (parent-back p k) ];
      }

  adrift-there : (seen : List Point) (p : Point) → IsAdrift N seen p → set_walk.IsAdrift S seen p
  adrift-there seen p h = record { dir = h.dir; is = inode-there p h.dir h.is; named = named-there p h.named; fresh = h.fresh }

  adrift-back : (seen : List Point) (p : Point) → set_walk.IsAdrift S seen p → IsAdrift N seen p
  adrift-back seen p h = record { dir = h.dir; is = of.all_inodes p h.dir h.is; named = named-back p h.named; fresh = h.fresh }

  enters-there : {w : StepWord} {p : Point} {seen after : List Point} {steps : List Step} → Enters N w p seen steps after → set_walk.Enters S w p seen steps after
  enters-there {p = p} (lost_file i) = set_walk.lost_file (inode-there p false i)
  enters-there {p = p} (lost_dir i w) = set_walk.lost_dir (inode-there p true i) (walks-there w)

  orphans-there : {ps seen after : List Point} {steps : List Step} → VisitsOrphans N ps seen steps after → set_walk.VisitsOrphans S ps seen steps after
  orphans-there done = set_walk.done
  orphans-there (passed {p = p} {seen = seen} h v) =
      let there : (is_seen seen p ≡ true) ⊎ (set_walk.IsOrphan S p → ⊥) = elim h [ inl s ↦ inl s | inr n ↦ inr (λ o. n (orphan-back p o)) ] in
      set_walk.passed there (orphans-there v)
  orphans-there (orphan {p = p} h o e v) = set_walk.orphan h (orphan-there p o) (enters-there e) (orphans-there v)

  drifts-there : {seen : List Point} {steps : List Step} → VisitsAdrift N seen steps → set_walk.VisitsAdrift S seen steps
  drifts-there (done {seen = seen} h) = set_walk.done (λ p a. h p (adrift-back seen p a))
  drifts-there (least {p = p} {seen = seen} a b e v) =
      set_walk.least (adrift-there seen p a) (λ q k. b q (adrift-back seen q k)) (enters-there e) (drifts-there v)

  pub walk-there : (steps : List Step) → IsWalk N steps → set_walk.IsWalk S steps
  walk-there steps h = record {
    named = h.named;
    seen = h.seen;
    from_root = walks-there h.from_root;
    inodes = h.inodes;
    inodes_are = same_listing point_cmp (λ p. (dir : Bool) × IsInode N p dir) (λ p. (dir : Bool) × set.IsInode S p dir)
        (λ p i. (i.0, inode-there p i.0 i.1)) (λ p i. (i.0, of.all_inodes p i.0 i.1)) h.inodes h.inodes_are;
    orphans = h.orphans;
    seen_then = h.seen_then;
    then_orphans = orphans-there h.then_orphans;
    adrift = h.adrift;
    then_adrift = drifts-there h.then_adrift;
    is = h.is;
  }
