-- The entry of an inode that no walk from the root reaches.
use Rattle.std.proofs.Common.{◌≡◌, ℕ, Bool, true, false, List, [], ◌∷◌, ◌++◌, refl, sym, ap, ◌∙◌, subst, Some, None, append_assoc, Contains, if◌then◌else◌, ◌||◌}
use Rattle.pj_change.specs.declared.point.Point.{Point}
use Rattle.pj_change.specs.declared.point.Place.TheVariants as placed
use Rattle.pj_change.specs.declared.print.Step.{Step}
use Rattle.pj_change.specs.declared.print.StepKind.{StepKind}
use Rattle.pj_change.specs.declared.print.StepKind.TheVariants as step_kind
use Rattle.pj_change.specs.declared.print.StepWord.{StepWord}
use Rattle.pj_change.specs.Children.{lost_path}
use Rattle.pj_change.specs.Walk.{is_seen, inside, lost_step}
use Rattle.pj_change.proofs.EqualNames.{same_point_itself}
use Rattle.pj_tree.specs.declared.row.Inode.{Inode}
use Rattle.pj_tree.specs.declared.walker.Frame.{Frame}
use Rattle.pj_tree.specs.declared.walker.Guide.{Guide}
use Rattle.pj_tree.specs.Namespace.{Namespace, IsInode}
use Rattle.pj_tree.specs.Walk.{Enters, lost_file, lost_dir, Walks}
use Rattle.pj_tree.specs.Frames.{seen_of, kind_of, IsGuideOf, IsBegun, IsInner, IsVisited, IsEntered}
use Rattle.pj_tree.proofs.Marks.{seen_more, kept}
use Rattle.pj_tree.proofs.Turns.{begun_walk}

-- the entry as it is written
abbrev pub written : StepKind → StepWord → Point → List ℕ → Step
written kind word at path = record { kind = kind; word = word; inode = at; path = path; exec = false }

fresh_kind : (seen : List Point) (inode : Inode) (kind : StepKind) → is_seen seen inode.at ≡ false → kind ≡ kind_of seen inode → kind ≡ (if inode.dir then step_kind.Dir else step_kind.File)
fresh_kind seen inode kind new is = is ∙ ap (λ b. if b then step_kind.Same else if inode.dir then step_kind.Dir else step_kind.File) new

module _ (guide : Guide) (word : StepWord) (inode : Inode) (kind : StepKind) (path : List ℕ) (old : List Step) (there : Contains guide.inodes.now inode)
    (new_inode : is_seen (seen_of old) inode.at ≡ false) (kind_is : kind ≡ kind_of (seen_of old) inode) (path_is : path ≡ lost_path inode.at) where
  is_inode : (N : Namespace) → IsGuideOf N guide → (b : Bool) → inode.dir ≡ b → IsInode N inode.at b
  is_inode N of b h = subst (λ is. Contains is (record { at = inode.at; dir = b })) of.inodes (subst (λ d. Contains guide.inodes.now (record { at = inode.at; dir = d })) h there)

  step_is : (b : Bool) → inode.dir ≡ b → kind ≡ (if b then step_kind.Dir else step_kind.File)
  step_is b h = fresh_kind (seen_of old) inode kind new_inode kind_is ∙ ap (λ d. if d then step_kind.Dir else step_kind.File) h

  first : (new : List Step) → seen_of new ≡ inode.at ∷ seen_of old → is_seen (seen_of new) inode.at ≡ true
  first new e = ap (λ s. is_seen s inode.at) e ∙ ap (λ b. b || is_seen (seen_of old) inode.at) (same_point_itself inode.at)

  pub entered_file : (new : List Step) → IsInner guide.pairings.now kind inode.at path None → new ≡ old ++ written kind word inode.at path ∷ [] → IsEntered guide word inode.at old new
  entered_file new inner pushed = by inode.dir refl
    where
      by : (b : Bool) → inode.dir ≡ b → IsEntered guide word inode.at old new
      by true h =
          let f : IsInner guide.pairings.now step_kind.Dir inode.at path None = subst (λ k. IsInner guide.pairings.now k inode.at path None) (step_is true h) inner in
          absurd (let g = f.1 in cc)
      by false h =
          let s : written kind word inode.at path ≡ lost_step step_kind.File word inode.at = λ i. written (step_is false h i) word inode.at (path_is i) in
          let is : new ≡ old ++ lost_step step_kind.File word inode.at ∷ [] = pushed ∙ ap (λ x. old ++ x ∷ []) s in
          let after : seen_of new ≡ inode.at ∷ seen_of old = ap seen_of is ∙ seen_more old (lost_step step_kind.File word inode.at) in
          record {
            steps = lost_step step_kind.File word inode.at ∷ [];
            is = is;
            enters = λ N of. subst (λ a. Enters N word inode.at (seen_of old) (lost_step step_kind.File word inode.at ∷ []) a) (sym after) (lost_file (is_inode N of false h));
            seen = first new after;
          }

  pub entered_dir : (g : Frame) (mid new : List Step) → IsInner guide.pairings.now kind inode.at path (Some g) → mid ≡ old ++ written kind word inode.at path ∷ [] → IsVisited guide g mid new →
      IsEntered guide word inode.at old new
  entered_dir g mid new inner pushed visited = by inode.dir refl
    where
      some_is : (f : Frame) → Some g ≡ Some f → f ≡ g
      some_is f h = cc

      by : (b : Bool) → inode.dir ≡ b → IsEntered guide word inode.at old new
      by false h =
          let f : IsInner guide.pairings.now step_kind.File inode.at path (Some g) = subst (λ k. IsInner guide.pairings.now k inode.at path (Some g)) (step_is false h) inner in
          absurd (cc)
      by true h =
          let f : IsInner guide.pairings.now step_kind.Dir inode.at path (Some g) = subst (λ k. IsInner guide.pairings.now k inode.at path (Some g)) (step_is true h) inner in
          let begun : IsBegun guide.pairings.now inode.at (lost_path inode.at) g = subst (λ p. IsBegun guide.pairings.now inode.at p g) path_is (subst (IsBegun guide.pairings.now inode.at path) (some_is f.0 f.1) f.2) in
          let s : written kind word inode.at path ≡ lost_step step_kind.Dir word inode.at = λ i. written (step_is true h i) word inode.at (path_is i) in
          let is : mid ≡ old ++ lost_step step_kind.Dir word inode.at ∷ [] = pushed ∙ ap (λ x. old ++ x ∷ []) s in
          let between : seen_of mid ≡ inode.at ∷ seen_of old = ap seen_of is ∙ seen_more old (lost_step step_kind.Dir word inode.at) in
          record {
            steps = lost_step step_kind.Dir word inode.at ∷ visited.steps;
            is = visited.is ∙ ap (λ l. l ++ visited.steps) is ∙ append_assoc old (lost_step step_kind.Dir word inode.at ∷ []) visited.steps;
            enters = λ N of.
                let w : Walks N (inside (lost_path inode.at)) (placed.At inode.at) (seen_of mid) visited.steps (seen_of new) =
                begun_walk N guide of inode.at (lost_path inode.at) g begun (seen_of mid) (seen_of new) visited.steps (visited.visits N of) in
                lost_dir (is_inode N of true h) (subst (λ seen. Walks N (inside (lost_path inode.at)) (placed.At inode.at) seen visited.steps (seen_of new)) between w);
            seen = kept mid visited.steps new inode.at visited.is (first mid between);
          }
