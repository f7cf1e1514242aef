-- A set has at most one walk.
use Rattle.std.proofs.Common.{◌≡◌, ℕ, List, ◌∷◌, ◌++◌, refl, sym, ◌∙◌, ap, subst, inl, inr, Bool, true, false}
use Rattle.std.specs.Prelude.{◌≢◌}
use Rattle.std.specs.declared.cmp.Ordering.{Ordering}
use Rattle.std.specs.declared.cmp.Ordering.TheVariants.{Less, Equal, Greater}
use Rattle.std.specs.Ordering.{ordering_reverse}
use Rattle.std.proofs.lemmas.Bool.{both_ways}
use Rattle.pj_change.specs.declared.point.Point.{Point}
use Rattle.pj_change.specs.declared.point.Place.{Place}
use Rattle.pj_change.specs.declared.print.Step.{Step}
use Rattle.pj_change.specs.declared.print.StepWord.{StepWord}
use Rattle.pj_change.specs.declared.print.StepWord.TheVariants as word
use Rattle.pj_change.specs.declared.print.StepKind.TheVariants as step_kind
use Rattle.pj_change.specs.declared.change.Change.{Change}
use Rattle.pj_change.specs.declared.change.Record.{Record}
use Rattle.pj_change.specs.Positions.{kind_at}
use Rattle.pj_change.specs.Context.{is_file_inode}
use Rattle.pj_change.specs.Graph.{point_cmp}
use Rattle.pj_change.specs.Children.{Child, IsChild, IsInode, child_cmp}
use Rattle.pj_change.specs.Walk.{step_of, Visits, Walks, done, again, file, dir, walk, IsAdrift, Enters, lost_file, lost_dir, VisitsOrphans, passed, orphan, VisitsAdrift, least, IsWalk}
use Rattle.pj_change.proofs.Listings.{one_list}
use Rattle.pj_change.proofs.Orders.{child_total, point_total}
use Rattle.pj_change.proofs.EqualNames.{point_tied}
use Rattle.pj_change.proofs.OneText.{HaveOneChange}
use Rattle.pj_change.proofs.NamedInodes.{not_both}

-- the same steps, and the same inodes that have had an entry
abbrev Agree : List Step → List Step → List Point → List Point → Type 0
Agree steps steps' after after' = (steps ≡ steps') × (after ≡ after')

more_steps : (s : Step) {steps steps' : List Step} {after after' : List Point} → Agree steps steps' after after' → Agree (s ∷ steps) (s ∷ steps') after after'
more_steps s a = (ap (λ l. s ∷ l) a.0, a.1)

module _ (S : List Record) (unique : HaveOneChange S) where
  -- an inode is of a file or of a directory
  one_kind : (p : Point) → IsInode S p false → IsInode S p true → ⊥
  one_kind p f d =
      let c : f.owner.change ≡ d.owner.change = unique f.owner d.owner f.member d.member (f.name ∙ sym d.name) in
      let k : is_file_inode (kind_at d.owner.change.hunks p.offset) ≡ true = subst (λ (c : Change). is_file_inode (kind_at c.hunks p.offset) ≡ true) c f.is in
      not_both (kind_at d.owner.change.hunks p.offset) k d.is

  mutual
    visits_one : {prefix : List ℕ} {all rest : List Child} {seen : List Point} {steps steps' : List Step} {after after' : List Point} →
        Visits S prefix all rest seen steps after → Visits S prefix all rest seen steps' after' → Agree steps steps' after after'
    visits_one done done = (refl, refl)
    visits_one (again {c = c} h v) (again g w) = more_steps _ (visits_one v w)
    visits_one (again {c = c} h v) (file g i w) = absurd (both_ways _ g h)
    visits_one (again {c = c} h v) (dir g i k w) = absurd (both_ways _ g h)
    visits_one (file h i v) (again g w) = absurd (both_ways _ h g)
    visits_one (file h i v) (file g j w) = more_steps _ (visits_one v w)
    visits_one (file {c = c} h i v) (dir g j k w) = absurd (one_kind c.inode i j)
    visits_one (dir h i k v) (again g w) = absurd (both_ways _ h g)
    visits_one (dir {c = c} h i k v) (file g j w) = absurd (one_kind c.inode j i)
    visits_one (dir {prefix = prefix} {all = all} {rest = rest} {c = c} {inner = inner} {steps = steps} h i k v) (dir {after = after'} {inner = inner'} {steps = steps'} g j l w) =
        let a = walks_one k l in
        let w' : Visits S prefix all rest _ steps' after' = subst (λ seen. Visits S prefix all rest seen steps' after') (sym a.1) w in
        let b = visits_one v w' in
        (λ n. step_of step_kind.Dir prefix all c false ∷ (a.0 n ++ b.0 n), b.1)

    walks_one : {prefix : List ℕ} {parent : Place} {seen : List Point} {steps steps' : List Step} {after after' : List Point} →
        Walks S prefix parent seen steps after → Walks S prefix parent seen steps' after' → Agree steps steps' after after'
    walks_one (walk {prefix = prefix} {parent = parent} {all = all} {seen = seen} l v) (walk {all = all'} {after = after'} {steps = steps'} m w) =
        let e : all ≡ all' = one_list child_cmp child_total (IsChild S parent) (IsChild S parent) (λ c h. h) (λ c h. h) all all' l m in
        let w' : Visits S prefix all all seen steps' after' = subst (λ all. Visits S prefix all all seen steps' after') (sym e) w in
        visits_one v w'

  enters_one : {w : StepWord} {p : Point} {seen : List Point} {steps steps' : List Step} {after after' : List Point} →
      Enters S w p seen steps after → Enters S w p seen steps' after' → Agree steps steps' after after'
  enters_one (lost_file i) (lost_file j) = (refl, refl)
  enters_one {p = p} (lost_file i) (lost_dir j w) = absurd (one_kind p i j)
  enters_one {p = p} (lost_dir i v) (lost_file j) = absurd (one_kind p j i)
  enters_one (lost_dir i v) (lost_dir j w) = more_steps _ (walks_one v w)

  orphans_one : {ps seen : List Point} {steps steps' : List Step} {after after' : List Point} →
      VisitsOrphans S ps seen steps after → VisitsOrphans S ps seen steps' after' → Agree steps steps' after after'
  orphans_one done done = (refl, refl)
  orphans_one (passed h v) (passed g w) = orphans_one v w
  orphans_one (passed h v) (orphan g o e w) = absurd (elim h [ inl s ↦ both_ways _ g s | inr n ↦ n o ])
  orphans_one (orphan h o e v) (passed g w) = absurd (elim g [ inl s ↦ both_ways _ h s | inr n ↦ n o ])
  orphans_one (orphan {ps = ps} {inner = inner} {steps = steps} h o e v) (orphan {after = after'} {inner = inner'} {steps = steps'} g q f w) =
      let a = enters_one e f in
      let w' : VisitsOrphans S ps _ steps' after' = subst (λ seen. VisitsOrphans S ps seen steps' after') (sym a.1) w in
      let b = orphans_one v w' in
      (λ n. a.0 n ++ b.0 n, b.1)

  least_one : (seen : List Point) (p q : Point) → IsAdrift S seen p → ((r : Point) → IsAdrift S seen r → point_cmp r p ≢ Less) →
      IsAdrift S seen q → ((r : Point) → IsAdrift S seen r → point_cmp r q ≢ Less) → p ≡ q
  least_one seen p q a b c d = go (point_cmp p q) refl
    where
      go : (o : Ordering) → point_cmp p q ≡ o → p ≡ q
      go Less h = absurd (d p a h)
      go Equal h = point_tied p q h
      go Greater h = absurd (b q c (point_total.antisymm q p ∙ ap ordering_reverse h))

  drifts_one : {seen : List Point} {steps steps' : List Step} → VisitsAdrift S seen steps → VisitsAdrift S seen steps' → steps ≡ steps'
  drifts_one (done h) (done g) = refl
  drifts_one (done h) (least {p = q} b c f w) = absurd (h q b)
  drifts_one (least {p = p} a b e v) (done g) = absurd (g p a)
  drifts_one (least {p = p} {seen = seen} {between = between} {inner = inner} {steps = steps} a b e v) (least {p = q} {between = between'} {inner = inner'} {steps = steps'} c d f w) =
      let same : p ≡ q = least_one seen p q a b c d in
      let f' : Enters S word.Adrift p seen inner' between' = subst (λ r. Enters S word.Adrift r seen inner' between') (sym same) f in
      let k = enters_one e f' in
      let w' : VisitsAdrift S between steps' = subst (λ seen. VisitsAdrift S seen steps') (sym k.1) w in
      let l = drifts_one v w' in
      λ n. k.0 n ++ l n

  pub walk_one : (steps steps' : List Step) → IsWalk S steps → IsWalk S steps' → steps ≡ steps'
  walk_one steps steps' a b =
      let r = walks_one a.from_root b.from_root in
      let i : a.inodes ≡ b.inodes = one_list point_cmp point_total (λ p. (dir : Bool) × IsInode S p dir) (λ p. (dir : Bool) × IsInode S p dir)
      (λ p h. h) (λ p h. h) a.inodes b.inodes a.inodes_are b.inodes_are in
      let o : VisitsOrphans S a.inodes b.seen b.orphans b.seen_then = subst (λ ps. VisitsOrphans S ps b.seen b.orphans b.seen_then) (sym i) b.then_orphans in
      let o' : VisitsOrphans S a.inodes a.seen b.orphans b.seen_then = subst (λ seen. VisitsOrphans S a.inodes seen b.orphans b.seen_then) (sym r.1) o in
      let s = orphans_one a.then_orphans o' in
      let d : VisitsAdrift S a.seen_then b.adrift = subst (λ seen. VisitsAdrift S seen b.adrift) (sym s.1) b.then_adrift in
      let t = drifts_one a.then_adrift d in
      let all : a.named ++ a.orphans ++ a.adrift ≡ b.named ++ b.orphans ++ b.adrift = λ n. r.0 n ++ s.0 n ++ t n in
      a.is ∙ all ∙ sym b.is
