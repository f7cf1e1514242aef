-- The walk of a whole tree.
use Rattle.std.proofs.Common.{◌≡◌, Bool, List, [], ◌∷◌, ◌++◌, map, drop, sym, ap, ◌∙◌, subst, Contains}
use Rattle.std.specs.List.{AllByRecursion}
use Rattle.std.specs.List.Sorted.{IsStrictlySortedBy}
use Rattle.std.specs.declared.cmp.Ordering.TheVariants.{Less}
use Rattle.pj_change.specs.declared.point.Point.{Point}
use Rattle.pj_change.specs.declared.point.Place.TheVariants as placed
use Rattle.pj_change.specs.declared.graph.Status.{Status}
use Rattle.pj_change.specs.declared.print.Step.{Step}
use Rattle.pj_change.specs.Graph.{Lists, point_cmp}
use Rattle.pj_change.proofs.PickedMembers.{image, mapped}
use Rattle.pj_tree.specs.declared.row.Inode.{Inode}
use Rattle.pj_tree.specs.declared.pairings.Pairing.{Pairing}
use Rattle.pj_tree.specs.declared.walker.Frame.{Frame}
use Rattle.pj_tree.specs.declared.walker.Guide.{Guide}
use Rattle.pj_tree.specs.Rows.{inode_cmp, Listing, IsWhole}
use Rattle.pj_tree.specs.Pairings.{child_of, pairings_in, children_in, ArePairings}
use Rattle.pj_tree.specs.Namespace.{Namespace, IsInode}
use Rattle.pj_tree.specs.Walk.{Visits, walk, IsWalk}
use Rattle.pj_tree.specs.Frames.{seen_of, children_of, left_of, IsGuideOf, IsSound, IsVisited, AreOrphans, AreAdrift}

-- each child is an inode
pub kinds_of : (l : Listing) → IsWhole l → (status : Point → Status) (pairings : List Pairing) → ArePairings status l.rows pairings →
    (e : Pairing) → Contains pairings e → Contains l.inodes (record { at = e.row.now.child; dir = e.row.now.dir })
kinds_of l whole status pairings are e m = whole e.row.now (are.each e m).there

-- the points of the inodes in order
points_sorted : (inodes : List Inode) → IsStrictlySortedBy inode_cmp inodes → IsStrictlySortedBy point_cmp (map (λ i. i.at) inodes)
unfolding IsStrictlySortedBy
points_sorted [] s = tt
points_sorted (x ∷ inodes) s = (all inodes s.0, points_sorted inodes s.1)
  where
    all : (is : List Inode) → AllByRecursion (λ y. inode_cmp x y ≡ Less) is → AllByRecursion (λ p. point_cmp x.at p ≡ Less) (map (λ i. i.at) is)
    all [] h = tt
    all (y ∷ is) h = (h.0, all is h.1)

points_are : (N : Namespace) (guide : Guide) → IsSound guide → IsGuideOf N guide → Lists point_cmp (λ p. (dir : Bool) × IsInode N p dir) (map (λ i. i.at) guide.inodes.now)
points_are N guide sound of = record {
  sorted = points_sorted guide.inodes.now sound.inodes;
  only = λ p m. let g = image (λ (i : Inode). i.at) guide.inodes.now p m in (g.it.dir, subst (λ q. IsInode N q g.it.dir) g.is (subst (λ is. Contains is g.it) of.inodes g.member));
  all = λ p i. mapped (λ (i : Inode). i.at) guide.inodes.now (record { at = p; dir = i.0 }) (subst (λ is. Contains is (record { at = p; dir = i.0 })) (sym of.inodes) i.1);
}

-- the three parts are the walk
pub whole_walk : (N : Namespace) (guide : Guide) → IsSound guide → IsGuideOf N guide → (live : Point → Bool) → N.live ≡ live → (root : Frame) (named orphans adrift : List Step) →
    root.prefix.items ≡ [] → root.children.now ≡ pairings_in placed.Root guide.pairings.now → root.next ≡ 0 →
    IsVisited guide root [] named → AreOrphans guide live named orphans → AreAdrift guide orphans adrift → IsWalk N adrift
whole_walk N guide sound of live same root named orphans adrift prefix children first v o a = record {
  named = v.steps;
  seen = seen_of named;
  from_root = walk (of.children placed.Root) onto;
  inodes = map (λ i. i.at) guide.inodes.now;
  inodes_are = points_are N guide sound of;
  orphans = o.steps;
  seen_then = seen_of orphans;
  then_orphans = o.visits N of same;
  adrift = a.steps;
  then_adrift = a.visits N of;
  is = a.is ∙ ap (λ l. l ++ a.steps) (o.is ∙ ap (λ l. l ++ o.steps) v.is);
}
  where
    all : children_of root ≡ children_in placed.Root guide.pairings.now
    all = ap (map child_of) children

    left : left_of root ≡ children_of root
    left = ap (λ n. drop n (children_of root)) first

    onto : Visits N [] (children_in placed.Root guide.pairings.now) (children_in placed.Root guide.pairings.now) [] v.steps (seen_of named)
    onto = subst (λ p. Visits N p (children_in placed.Root guide.pairings.now) (children_in placed.Root guide.pairings.now) [] v.steps (seen_of named)) prefix
        (subst (λ l. Visits N root.prefix.items l l [] v.steps (seen_of named)) all
        (subst (λ l. Visits N root.prefix.items (children_of root) l [] v.steps (seen_of named)) left (v.visits N of)))
