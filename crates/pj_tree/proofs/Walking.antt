-- The loop of a walk.
use Rattle.std.proofs.Common.{◌≡◌, List, [], ◌∷◌, ◌++◌, length, sym, ap, ◌∙◌, subst, arith, Some, None, Option, option_to_list, append_assoc, append-nil, Contains, inl, inr, IfSome}
use Rattle.std.proofs.lemmas.List.{reverse-append, drop_all, length-map}
use Rattle.std.proofs.lemmas.List.Elements.{Contains-append_left, Contains-append_cases}
use Rattle.pj_change.specs.declared.point.Point.{Point}
use Rattle.pj_change.specs.declared.print.Step.{Step}
use Rattle.pj_change.proofs.Members.{uncons, no_member}
use Rattle.pj_tree.specs.declared.walker.Frame.{Frame}
use Rattle.pj_tree.specs.declared.walker.Guide.{Guide}
use Rattle.pj_tree.specs.Namespace.{Namespace}
use Rattle.pj_tree.specs.Walk.{Visits, done}
use Rattle.pj_tree.specs.Frames.{seen_by, seen_of, children_of, left_of, IsFrame, Rest, ended, under, IsTurn, IsUnderway, IsVisited, stack}
use Rattle.pj_tree.proofs.Marks.{seen_more}

-- ---- the start and the end

pub walk_starts : (guide : Guide) (f : Frame) (steps : List Step) → IsFrame guide.pairings.now f → IsUnderway guide f (f ∷ []) steps steps
walk_starts guide f steps frame = record {
  steps = [];
  is = sym (append-nil steps);
  frame = λ g m. elim (uncons f [] g m) [ inl e ↦ subst (IsFrame guide.pairings.now) e frame | inr n ↦ absurd (no_member g n) ];
  leads = λ N of more after r. alone N more after r;
}
  where
    alone : (N : Namespace) (more : List Step) (after : List Point) → Rest N (f ∷ []) (seen_of steps) more after → Visits N f.prefix.items (children_of f) (left_of f) (seen_of steps) more after
    alone N more after (under {inner = inner} v ended) = subst (λ l. Visits N f.prefix.items (children_of f) (left_of f) (seen_of steps) l after) (sym (append-nil inner)) v

pub walk_ends : (guide : Guide) (f : Frame) (old new : List Step) → IsUnderway guide f [] old new → IsVisited guide f old new
walk_ends guide f old new u = record {
  steps = u.steps;
  is = u.is;
  visits = λ N of. subst (λ l. Visits N f.prefix.items (children_of f) (left_of f) (seen_of old) l (seen_of new)) (append-nil u.steps) (u.leads N of [] (seen_of new) ended);
}

-- ---- a frame of which nothing is left

pub walk_leaves : (guide : Guide) (f top : Frame) (frames : List Frame) (old new : List Step) → top.next ≡ length top.children.now → IsUnderway guide f (frames ++ top ∷ []) old new → IsUnderway guide f frames old new
walk_leaves guide f top frames old new e u = record {
  steps = u.steps;
  is = u.is;
  frame = λ g m. u.frame g (Contains-append_left frames (top ∷ []) g m);
  leads = λ N of more after r.
      let r' : Rest N (top ∷ stack frames) (seen_of new) more after = under (nothing N) r in
      u.leads N of more after (subst (λ s. Rest N s (seen_of new) more after) (sym (reverse-append frames (top ∷ []))) r');
}
  where
    none : left_of top ≡ []
    none = drop_all top.next (children_of top) (let h : length (children_of top) ≡ length top.children.now = simp length-map in omega arith)

    nothing : (N : Namespace) → Visits N top.prefix.items (children_of top) (left_of top) (seen_of new) [] (seen_of new)
    nothing N = subst (λ l. Visits N top.prefix.items (children_of top) l (seen_of new) [] (seen_of new)) (sym none) done

-- ---- a child is visited

stack_is : (frames : List Frame) (top : Frame) (inner : Option Frame) → stack (frames ++ top ∷ option_to_list inner) ≡ option_to_list inner ++ top ∷ stack frames
stack_is frames top None = reverse-append frames (top ∷ [])
stack_is frames top (Some g) = reverse-append frames (top ∷ g ∷ [])

pub walk_turns : (guide : Guide) (f top top' : Frame) (inner : Option Frame) (frames : List Frame) (old mid new : List Step) →
    IsUnderway guide f (frames ++ top ∷ []) old mid → IsTurn guide top top' inner mid new → IsFrame guide.pairings.now top' → IfSome inner (IsFrame guide.pairings.now) →
    IsUnderway guide f (frames ++ top' ∷ option_to_list inner) old new
walk_turns guide f top top' inner frames old mid new u t frame_top frame_inner = record {
  steps = u.steps ++ t.step ∷ [];
  is = t.is ∙ ap (λ l. l ++ t.step ∷ []) u.is ∙ append_assoc old u.steps (t.step ∷ []);
  frame = kept;
  leads = λ N of more after r.
      let r1 : Rest N (option_to_list inner ++ top' ∷ stack frames) (seen_of new) more after = subst (λ s. Rest N s (seen_of new) more after) (stack_is frames top' inner) r in
      let r2 : Rest N (option_to_list inner ++ top' ∷ stack frames) (seen_by t.step.kind t.step.inode (seen_of mid)) more after =
      subst (λ s. Rest N (option_to_list inner ++ top' ∷ stack frames) s more after) (ap seen_of t.is ∙ seen_more mid t.step) r1 in
      let r3 : Rest N (top ∷ stack frames) (seen_of mid) (t.step ∷ more) after = t.leads N of (stack frames) more after r2 in
      let r4 : Rest N (stack (frames ++ top ∷ [])) (seen_of mid) (t.step ∷ more) after = subst (λ s. Rest N s (seen_of mid) (t.step ∷ more) after) (sym (reverse-append frames (top ∷ []))) r3 in
      subst (λ l. Visits N f.prefix.items (children_of f) (left_of f) (seen_of old) l after) (sym (append_assoc u.steps (t.step ∷ []) more)) (u.leads N of (t.step ∷ more) after r4);
}
  where
    of_inner : (o : Option Frame) → IfSome o (IsFrame guide.pairings.now) → (g : Frame) → Contains (option_to_list o) g → IsFrame guide.pairings.now g
    of_inner None h g m = absurd (no_member g m)
    of_inner (Some i) h g m = elim (uncons i [] g m) [ inl e ↦ subst (IsFrame guide.pairings.now) e h | inr n ↦ absurd (no_member g n) ]

    kept : (g : Frame) → Contains (frames ++ top' ∷ option_to_list inner) g → IsFrame guide.pairings.now g
    kept g m = elim (Contains-append_cases frames (top' ∷ option_to_list inner) g m) [
      | inl h ↦ u.frame g (Contains-append_left frames (top ∷ []) g h)
      | inr h ↦ elim (uncons top' (option_to_list inner) g h) [ inl e ↦ subst (IsFrame guide.pairings.now) e frame_top | inr n ↦ of_inner inner frame_inner g n ]
    ]
