-- The marks of the inodes that have had an entry.
use Rattle.std.proofs.Common.{◌≡◌, ℕ, zero, suc, ◌+◌, ◌<◌, Bool, true, false, ◌||◌, List, [], ◌∷◌, ◌++◌, length, get_or, set, refl, sym, ap, ◌∙◌, subst, arith}
use Rattle.std.specs.List.{AllByRecursion}
use Rattle.std.specs.List.Sorted.{IsStrictlySortedBy}
use Rattle.std.specs.Ordering.{is_eq, ordering_reverse}
use Rattle.std.specs.declared.cmp.Ordering.TheVariants.{Less}
use Rattle.std.proofs.Math.Bool.{or-true}
use Rattle.std.proofs.lemmas.List.{get_or-map}
use Rattle.pj_change.specs.declared.point.Point.{Point}
use Rattle.pj_change.specs.declared.print.Step.{Step}
use Rattle.pj_change.specs.declared.print.StepKind.{StepKind}
use Rattle.pj_change.specs.declared.print.StepKind.TheVariants as step_kind
use Rattle.pj_change.specs.Positions.{same_point}
use Rattle.pj_change.specs.Graph.{point_cmp}
use Rattle.pj_change.specs.Walk.{is_seen}
use Rattle.pj_change.proofs.Orders.{point_total}
use Rattle.pj_change.proofs.Members.{each}
use Rattle.pj_change.proofs.EqualNames.{same_point_itself}
use Rattle.pj_tree.specs.declared.row.Inode.{Inode}
use Rattle.pj_tree.specs.Rows.{inode_cmp}
use Rattle.pj_tree.specs.Frames.{marks, unseen, seen_by, seen_after, seen_of}
use Rattle.pj_tree.proofs.Ties.{same_point-is_eq}

-- ---- flags

pub unseen_set : (flags : List Bool) (k : ℕ) (d : Bool) → k < length flags → get_or flags k d ≡ false → unseen (set flags k true) + 1 ≡ unseen flags
unseen_set [] k d l e = absurd (omega arith)
unseen_set (true ∷ flags) zero d l e = absurd (cc)
unseen_set (false ∷ flags) zero d l e = omega arith
unseen_set (true ∷ flags) (suc k) d l e = unseen_set flags k d (omega arith) e
unseen_set (false ∷ flags) (suc k) d l e = let h = unseen_set flags k d (omega arith) e in omega arith

-- ---- marks

pub not_same : (p q : Point) → point_cmp p q ≡ Less → same_point p q ≡ false
not_same p q h = same_point-is_eq p q ∙ ap is_eq h

pub not_same_back : (p q : Point) → point_cmp q p ≡ Less → same_point p q ≡ false
not_same_back p q h = same_point-is_eq p q ∙ ap is_eq (point_total.antisymm p q ∙ ap ordering_reverse h)

-- the marks of the later inodes stay
marks_after : (x : Inode) (inodes : List Inode) (seen : List Point) → AllByRecursion (λ y. inode_cmp x y ≡ Less) inodes → marks (x.at ∷ seen) inodes ≡ marks seen inodes
marks_after x [] seen above = refl
marks_after x (y ∷ inodes) seen above =
    (λ i. (not_same_back y.at x.at above.0 i || is_seen seen y.at) ∷ marks_after x inodes seen above.1 i)

-- an inode that has an entry is marked
pub marks_set : (inodes : List Inode) (k : ℕ) (inode : Inode) (seen : List Point) → IsStrictlySortedBy inode_cmp inodes → k < length inodes → get_or inodes k inode ≡ inode →
    marks (inode.at ∷ seen) inodes ≡ set (marks seen inodes) k true
unfolding IsStrictlySortedBy
marks_set [] k inode seen sorted l e = absurd (omega arith)
marks_set (x ∷ inodes) zero inode seen sorted l e =
    let first : same_point x.at inode.at ≡ true = subst (λ y. same_point x.at y.at ≡ true) e (same_point_itself x.at) in
    let rest : marks (inode.at ∷ seen) inodes ≡ marks seen inodes = subst (λ y. marks (y.at ∷ seen) inodes ≡ marks seen inodes) e (marks_after x inodes seen sorted.0) in
    λ i. (first i || is_seen seen x.at) ∷ rest i
marks_set (x ∷ inodes) (suc k) inode seen sorted l e =
    let low : point_cmp x.at inode.at ≡ Less = subst (λ y. inode_cmp x y ≡ Less) e (each (λ y. inode_cmp x y ≡ Less) inodes sorted.0 (get_or inodes k inode) (k, omega arith, ap (λ d. get_or inodes k d) e)) in
    λ i. (not_same x.at inode.at low i || is_seen seen x.at) ∷ marks_set inodes k inode seen sorted.1 (omega arith) e i

pub mark_at : (inodes : List Inode) (k : ℕ) (inode : Inode) (seen : List Point) (d : Bool) → k < length inodes → get_or inodes k inode ≡ inode → get_or (marks seen inodes) k d ≡ is_seen seen inode.at
mark_at inodes k inode seen d l e = get_or-map (λ i. is_seen seen i.at) inodes k inode d l ∙ ap (λ i. is_seen seen i.at) e

-- ---- entries in turn

pub seen-append : (seen : List Point) (steps more : List Step) → seen_after seen (steps ++ more) ≡ seen_after (seen_after seen steps) more
seen-append seen [] more = refl
seen-append seen (s ∷ steps) more = seen-append (seen_by s.kind s.inode seen) steps more

pub seen_more : (steps : List Step) (s : Step) → seen_of (steps ++ s ∷ []) ≡ seen_by s.kind s.inode (seen_of steps)
seen_more steps s = seen-append [] steps (s ∷ [])

-- after one more entry
pub marked_after : (inodes : List Inode) (flags : List Bool) (old new : List Step) (s : Step) → new ≡ old ++ s ∷ [] → flags ≡ marks (seen_by s.kind s.inode (seen_of old)) inodes →
    flags ≡ marks (seen_of new) inodes
marked_after inodes flags old new s e h = h ∙ ap (λ seen. marks seen inodes) (sym (ap seen_of e ∙ seen_more old s))

-- ---- what has had an entry keeps it

kept_by : (k : StepKind) (p q : Point) (seen : List Point) → is_seen seen q ≡ true → is_seen (seen_by k p seen) q ≡ true
kept_by step_kind.Same p q seen h = h
kept_by step_kind.File p q seen h = ap (λ b. same_point q p || b) h ∙ or-true (same_point q p)
kept_by step_kind.Dir p q seen h = ap (λ b. same_point q p || b) h ∙ or-true (same_point q p)

kept_after : (steps : List Step) (q : Point) (seen : List Point) → is_seen seen q ≡ true → is_seen (seen_after seen steps) q ≡ true
kept_after [] q seen h = h
kept_after (s ∷ steps) q seen h = kept_after steps q (seen_by s.kind s.inode seen) (kept_by s.kind s.inode q seen h)

pub kept : (old steps new : List Step) (q : Point) → new ≡ old ++ steps → is_seen (seen_of old) q ≡ true → is_seen (seen_of new) q ≡ true
kept old steps new q e h = subst (λ l. is_seen (seen_of l) q ≡ true) (sym e) (subst (λ s. is_seen s q ≡ true) (sym (seen-append [] old steps)) (kept_after steps q (seen_of old) h))
