-- A lawful list has a walk.
use Rattle.std.proofs.Common.{◌≡◌, ℕ, zero, suc, ◌+◌, ◌<◌, ◌≤◌, List, [], ◌∷◌, ◌++◌, refl, sym, ◌∙◌, ap, subst, inl, inr, arith, Bool, true, false}
use Rattle.std.specs.Prelude.{Contains, ◌⊎◌}
use Rattle.std.specs.declared.cmp.Ordering.TheVariants.{Less}
use Rattle.std.specs.List.Sorted.{IsStrictlySortedBy}
use Rattle.std.proofs.lemmas.Bool.{or_left, or_right}
use Rattle.pj_change.specs.declared.point.Point.{Point}
use Rattle.pj_change.specs.declared.point.Place.{Place}
use Rattle.pj_change.specs.declared.point.Place.TheVariants as placed
use Rattle.pj_change.specs.declared.print.Step.{Step}
use Rattle.pj_change.specs.declared.print.StepKind.TheVariants as step_kind
use Rattle.pj_change.specs.declared.print.StepWord.{StepWord}
use Rattle.pj_change.specs.declared.print.StepWord.TheVariants as word
use Rattle.pj_change.specs.declared.change.Record.{Record}
use Rattle.pj_change.specs.Children.{Child, lost_path}
use Rattle.pj_change.specs.Graph.{Lists, point_cmp}
use Rattle.pj_change.specs.Lawful.{IsLawful}
use Rattle.pj_change.specs.Positions.{same_point}
use Rattle.pj_change.specs.Walk.{is_seen, path_of, inside, step_of, lost_step, Visits, Walks, done, again, file, dir, walk, IsOrphan, IsAdrift, Enters, lost_file, lost_dir, VisitsOrphans, passed, orphan, VisitsAdrift, least, IsWalk}
use Rattle.pj_change.proofs.Decided.{Known, known_as, known_three, known_test}
use Rattle.pj_change.proofs.EqualNames.{same_point_itself, point_tied}
use Rattle.pj_change.proofs.Listings.{IsRelated, not_both}
use Rattle.pj_change.proofs.Members.{uncons, first_member, later_member, no_member, each}
use Rattle.pj_change.proofs.Orders.{point_total}
use Rattle.pj_answers.proofs.Finite as finite
use Rattle.pj_answers.proofs.Namings.{HasInode, known_inode, known_named, known_orphan, inodes}
use Rattle.pj_answers.proofs.Children.{child_list, is_inode}

-- ---- how many inodes have had no entry

-- what has had an entry has had one still
abbrev Grows : List Point → List Point → Type 0
Grows old new = (p : Point) → is_seen old p ≡ true → is_seen new p ≡ true

-- one more inode has had an entry
grows_by : (q : Point) (seen : List Point) → Grows seen (q ∷ seen)
grows_by q seen p e = or_right (same_point p q) (is_seen seen p) e

-- the last one has had one
seen_first : (p : Point) (seen : List Point) → is_seen (p ∷ seen) p ≡ true
seen_first p seen = or_left (same_point p p) (is_seen seen p) (same_point_itself p)

-- one where it has had none
abbrev count : Bool → ℕ
count true = 0
count false = 1

-- what holds more often is missing less often
count_falls : (a b : Bool) → (a ≡ true → b ≡ true) → count b ≤ count a
count_falls true true f = omega arith
count_falls true false f = absurd (let e : false ≡ true = f refl in cc)
count_falls false true f = omega arith
count_falls false false f = omega arith

-- where one is found, fewer are missing
count_less : (a b : Bool) → a ≡ false → b ≡ true → count b < count a
count_less true b e f = absurd (cc)
count_less false true e f = omega arith
count_less false false e f = absurd (cc)

-- how many of these have had no entry
abbrev unseen : List Point → List Point → ℕ
unseen [] seen = 0
unseen (p ∷ ps) seen = count (is_seen seen p) + unseen ps seen

-- as more have had an entry, no more have had none
unseen_falls : (ps old new : List Point) → Grows old new → unseen ps new ≤ unseen ps old
unseen_falls [] old new g = omega arith
unseen_falls (p ∷ ps) old new g = (let a = count_falls (is_seen old p) (is_seen new p) (g p) in let b = unseen_falls ps old new g in omega arith)

-- where a further one has, fewer have had none
unseen_less : (ps old new : List Point) → Grows old new → (p : Point) → Contains ps p → is_seen old p ≡ false → is_seen new p ≡ true →
    unseen ps new < unseen ps old
unseen_less [] old new g p m e f = absurd (no_member p m)
unseen_less (q ∷ ps) old new g p m e f = elim (uncons q ps p m) [
  | inl s ↦
      let a = count_less (is_seen old q) (is_seen new q) (ap (is_seen old) s ∙ e) (ap (is_seen new) s ∙ f) in
      let b = unseen_falls ps old new g in
      omega arith
  | inr n ↦
      let a = count_falls (is_seen old q) (is_seen new q) (g q) in
      let b = unseen_less ps old new g p n e f in
      omega arith
]

-- ---- the first of some

-- the first of which P holds
abbrev HasFirst : (Point → Type 0) → List Point → Type 0
HasFirst P ps = (p : Point) × Contains ps p × (P p × ((q : Point) → Contains ps q → P q → point_cmp q p ≡ Less → ⊥))

-- of those in order the first, or none
first_of : (P : Point → Type 0) → ((p : Point) → Known (P p)) → (ps : List Point) → IsRelated (λ p q. point_cmp p q ≡ Less) ps →
    HasFirst P ps ⊎ ((p : Point) → Contains ps p → P p → ⊥)
first_of P known [] s = inr (λ p m h. no_member p m)
first_of P known (p ∷ ps) s = by (known p) (first_of P known ps s.1)
  where
    by : Known (P p) → HasFirst P ps ⊎ ((q : Point) → Contains ps q → P q → ⊥) → HasFirst P (p ∷ ps) ⊎ ((q : Point) → Contains (p ∷ ps) q → P q → ⊥)
    by (inl h) rest = inl (
      p,
      first_member p ps,
      (
        h,
        λ q m k l. elim (uncons p ps q m) [
          | inl e ↦ not_both point_cmp point_total p p (subst (λ x. point_cmp x p ≡ Less) (sym e) l) (subst (λ x. point_cmp x p ≡ Less) (sym e) l)
          | inr n ↦ not_both point_cmp point_total p q (s.0 q n) l
        ],
      ),
    )
    by (inr n) (inl f) = inl (
      f.0,
      later_member p ps f.0 f.1,
      (f.2.0, λ q m k l. elim (uncons p ps q m) [ inl e ↦ n (subst P (sym e) k) | inr j ↦ f.2.1 q j k l ]),
    )
    by (inr n) (inr none) = inr (λ q m k. elim (uncons p ps q m) [ inl e ↦ n (subst P (sym e) k) | inr j ↦ none q j k ])

-- a list in order, each member with the later ones
point_related : (xs : List Point) → IsStrictlySortedBy point_cmp xs → IsRelated (λ u v. point_cmp u v ≡ Less) xs
unfolding IsStrictlySortedBy
point_related [] s = tt
point_related (x ∷ xs) s = (λ y m. each (λ y. point_cmp x y ≡ Less) xs s.0 y m, point_related xs s.1)

-- ---- walks

-- a walk from a parent
record Walked (S : List Record) (prefix : List ℕ) (parent : Place) (seen : List Point) : Type 0 where
  steps : List Step
  after : List Point
  walks : Walks S prefix parent seen steps after
  grows : Grows seen after

-- the entries of some children
record Visited (S : List Record) (prefix : List ℕ) (all rest : List Child) (seen : List Point) : Type 0 where
  steps : List Step
  after : List Point
  visits : Visits S prefix all rest seen steps after
  grows : Grows seen after

-- the entries of an inode by itself
record Entered (S : List Record) (w : StepWord) (p : Point) (seen : List Point) : Type 0 where
  steps : List Step
  after : List Point
  enters : Enters S w p seen steps after
  grows : Grows seen after
  has : is_seen after p ≡ true

-- the entries of the orphans
record Orphaned (S : List Record) (ps seen : List Point) : Type 0 where
  steps : List Step
  after : List Point
  visits : VisitsOrphans S ps seen steps after
  grows : Grows seen after

module _ (S : List Record) (lawful : IsLawful S) (all_inodes : List Point) (lists : Lists point_cmp (HasInode S) all_inodes) where
  -- how many inodes have had no entry
  abbrev left : List Point → ℕ
  left seen = unseen all_inodes seen

  -- an entry of a further inode leaves fewer
  fewer : (p : Point) → HasInode S p → (old new : List Point) → Grows old new → is_seen old p ≡ false → is_seen new p ≡ true → left new < left old
  fewer p i old new g e f = unseen_less all_inodes old new g p (lists.all p i) e f

  -- a walk where fewer than n have had no entry
  abbrev IsWalkable : ℕ → Type 0
  IsWalkable n = (prefix : List ℕ) (parent : Place) (seen : List Point) → left seen < n → Walked S prefix parent seen

  module _ (n : ℕ) (walkable : IsWalkable n) (prefix : List ℕ) (all : List Child) where
    -- the children of a parent have their entries
    visit : (rest : List Child) → ((c : Child) → Contains rest c → HasInode S c.inode) → (seen : List Point) → left seen < suc n →
        Visited S prefix all rest seen
    visit [] inode seen low = record { steps = []; after = seen; visits = done; grows = λ p e. e }
    visit (c ∷ rest) inode seen low =
        by (is_seen seen c.inode) refl (inode c (first_member c rest)) (λ seen low. visit rest (λ d m. inode d (later_member c rest d m)) seen low)
      where
        by : (b : Bool) → is_seen seen c.inode ≡ b → HasInode S c.inode →
            ((seen : List Point) → left seen < suc n → Visited S prefix all rest seen) → Visited S prefix all (c ∷ rest) seen
        by true e i next =
            let v = next seen low in
            record { steps = step_of step_kind.Same prefix all c false ∷ v.steps; after = v.after; visits = again e v.visits; grows = v.grows }
        by false e (false, i) next =
            let less = fewer c.inode (false, i) seen (c.inode ∷ seen) (grows_by c.inode seen) e (seen_first c.inode seen) in
            let v = next (c.inode ∷ seen) (omega (arith, less, low)) in
            record {
              steps = step_of step_kind.File prefix all c c.exec ∷ v.steps;
              after = v.after;
              visits = file e i v.visits;
              grows = λ p h. v.grows p (grows_by c.inode seen p h);
            }
        by false e (true, i) next =
            let less = fewer c.inode (true, i) seen (c.inode ∷ seen) (grows_by c.inode seen) e (seen_first c.inode seen) in
            let w = walkable (inside (path_of prefix all c)) (placed.At c.inode) (c.inode ∷ seen) (omega (arith, less, low)) in
            let falls = unseen_falls all_inodes (c.inode ∷ seen) w.after w.grows in
            let v = next w.after (omega (arith, less, low, falls)) in
            record {
              steps = step_of step_kind.Dir prefix all c false ∷ (w.steps ++ v.steps);
              after = v.after;
              visits = dir e i w.walks v.visits;
              grows = λ p h. v.grows p (w.grows p (grows_by c.inode seen p h));
            }

  -- so each parent has a walk
  walkable : (n : ℕ) → IsWalkable n
  walkable zero prefix parent seen low = absurd (omega (arith, low))
  walkable (suc n) prefix parent seen low =
      let cs = child_list S parent in
      let is = cs.1 in
      let v = visit n (walkable n) prefix cs.0 cs.0 (λ c m. is_inode S parent lawful c (is.only c m)) seen low in
      record { steps = v.steps; after = v.after; walks = walk is v.visits; grows = v.grows }

  -- whatever has had an entry
  walked : (prefix : List ℕ) (parent : Place) (seen : List Point) → Walked S prefix parent seen
  walked prefix parent seen = walkable (suc (left seen)) prefix parent seen (omega arith)

  -- an inode that no walk reaches has its entries
  enter : (w : StepWord) (p : Point) → HasInode S p → (seen : List Point) → Entered S w p seen
  enter w p (false, i) seen = record {
    steps = lost_step step_kind.File w p ∷ [];
    after = p ∷ seen;
    enters = lost_file i;
    grows = grows_by p seen;
    has = seen_first p seen;
  }
  enter w p (true, i) seen =
      let k = walked (inside (lost_path p)) (placed.At p) (p ∷ seen) in
      record {
        steps = lost_step step_kind.Dir w p ∷ k.steps;
        after = k.after;
        enters = lost_dir i k.walks;
        grows = λ q e. k.grows q (grows_by p seen q e);
        has = k.grows p (seen_first p seen);
      }

  -- ---- what no walk from the root reaches

  -- so have the orphans
  orphans : (ps seen : List Point) → Orphaned S ps seen
  orphans [] seen = record { steps = []; after = seen; visits = done; grows = λ p e. e }
  orphans (p ∷ ps) seen = by (is_seen seen p) refl (known_orphan S p) (λ seen. orphans ps seen)
    where
      pass : (is_seen seen p ≡ true) ⊎ (IsOrphan S p → ⊥) → Orphaned S ps seen → Orphaned S (p ∷ ps) seen
      pass why o = record { steps = o.steps; after = o.after; visits = passed why o.visits; grows = o.grows }

      by : (b : Bool) → is_seen seen p ≡ b → Known (IsOrphan S p) → ((seen : List Point) → Orphaned S ps seen) → Orphaned S (p ∷ ps) seen
      by true e k next = pass (inl e) (next seen)
      by false e (inr n) next = pass (inr n) (next seen)
      by false e (inl o) next =
          let k = enter word.Orphan p (o.dir, o.is) seen in
          let r = next k.after in
          record { steps = k.steps ++ r.steps; after = r.after; visits = orphan e o k.enters r.visits; grows = λ q h. r.grows q (k.grows q h) }

  -- whether an inode is adrift
  known_adrift : (seen : List Point) (p : Point) → Known (IsAdrift S seen p)
  known_adrift seen p = known_as (λ h. record { dir = h.0.0; is = h.0.1; named = h.1; fresh = h.2 }) (λ a. ((a.dir, a.is), a.named, a.fresh))
      (known_three (known_inode S p) (known_named S p) (known_test (is_seen seen p) false))

  -- so have those that are adrift
  drift : (n : ℕ) (seen : List Point) → left seen < n → (steps : List Step) × VisitsAdrift S seen steps
  drift zero seen low = absurd (omega (arith, low))
  drift (suc n) seen low = by (first_of (IsAdrift S seen) (known_adrift seen) all_inodes (point_related all_inodes lists.sorted)) (λ seen low. drift n seen low)
    where
      by : HasFirst (IsAdrift S seen) all_inodes ⊎ ((p : Point) → Contains all_inodes p → IsAdrift S seen p → ⊥) →
          ((seen : List Point) → left seen < n → (steps : List Step) × VisitsAdrift S seen steps) → (steps : List Step) × VisitsAdrift S seen steps
      by (inr none) next = ([], done (λ p a. none p (lists.all p (a.dir, a.is)) a))
      by (inl (p, m, (a, below))) next =
          let k = enter word.Adrift p (a.dir, a.is) seen in
          let less = fewer p (a.dir, a.is) seen k.after k.grows a.fresh k.has in
          let r = next k.after (omega (arith, less, low)) in
          (k.steps ++ r.0, least a (λ q b l. below q (lists.all q (b.dir, b.is)) b l) k.enters r.1)

-- ---- the walk

-- a lawful list has a walk
pub walk_there : (S : List Record) → IsLawful S → (steps : List Step) × IsWalk S steps
walk_there S lawful =
    let all = finite.listed point_cmp point_total (HasInode S) (inodes S) (λ p q a b e. point_tied p q e) in
    let root = walked S lawful all.0 all.1 [] placed.Root [] in
    let o = orphans S lawful all.0 all.1 all.0 root.after in
    let d = drift S lawful all.0 all.1 (suc (left S lawful all.0 all.1 o.after)) o.after (omega arith) in
    let steps : List Step = root.steps ++ o.steps ++ d.0 in (
      steps,
      record {
        named = root.steps;
        seen = root.after;
        from_root = root.walks;
        inodes = all.0;
        inodes_are = all.1;
        orphans = o.steps;
        seen_then = o.after;
        then_orphans = o.visits;
        adrift = d.0;
        then_adrift = d.1;
        is = refl {a = steps};
      },
    )
