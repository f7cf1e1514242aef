-- A child is visited: what the entry leads to.
use Rattle.std.proofs.Common.{◌≡◌, ℕ, ◌+◌, ◌*◌, ◌<◌, ◌≤◌, Bool, true, false, List, [], ◌∷◌, ◌++◌, length, get_or, drop, map, refl, sym, ap, ◌∙◌, subst, arith, Option, option_to_list, append_assoc, Contains, if◌then◌else◌, ◌⊎◌, inl, inr}
use Rattle.std.specs.Prelude.{sum_by}
use Rattle.std.proofs.lemmas.List.{drop-map}
use Rattle.std.proofs.lemmas.List.Sums.{sum_by-cons}
use Rattle.pj_change.specs.declared.point.Point.{Point}
use Rattle.pj_change.specs.declared.point.Place.TheVariants as placed
use Rattle.pj_change.specs.declared.print.Step.{Step}
use Rattle.pj_change.specs.declared.print.StepKind.{StepKind}
use Rattle.pj_change.specs.declared.print.StepKind.TheVariants as step_kind
use Rattle.pj_change.specs.Walk.{is_seen, path_of, inside}
use Rattle.pj_change.proofs.PickedMembers.{passed}
use Rattle.pj_tree.specs.declared.row.Inode.{Inode}
use Rattle.pj_tree.specs.declared.pairings.Pairing.{Pairing}
use Rattle.pj_tree.specs.declared.walker.Frame.{Frame}
use Rattle.pj_tree.specs.declared.walker.Guide.{Guide}
use Rattle.pj_tree.specs.Pairings.{child_of, pairings_in, children_in}
use Rattle.pj_tree.specs.Namespace.{Namespace, IsInode}
use Rattle.pj_tree.specs.Walk.{Visits, Walks, again, file, dir, walk}
use Rattle.pj_tree.specs.Frames.{seen_of, kind_of, exec_of, fresh, unseen, IsGuideOf, children_of, left_of, left_count, work_left, IsBegun, IsInner, IsFrame, IsSound, Rest, under, LeadsTo, advanced, IsTurn}
use Rattle.pj_tree.proofs.Siblings.{filter-le, drop_next}

abbrev pub inode_of : Pairing → Inode
inode_of e = record { at = e.row.now.child; dir = e.row.now.dir }

-- the step of the next child
abbrev pub turn_step : Frame → Pairing → List Point → Step
turn_step f e seen = record {
  kind = kind_of seen (inode_of e);
  word = e.word;
  inode = e.row.now.child;
  path = path_of f.prefix.items (children_of f) (child_of e);
  exec = exec_of (kind_of seen (inode_of e)) e.exec;
}

-- it is the first that is left
pub left_next : (f : Frame) (e : Pairing) → f.next < length f.children.now → get_or f.children.now f.next e ≡ e → left_of f ≡ child_of e ∷ left_of (advanced f)
left_next f e l is =
    drop-map child_of f.next f.children.now
    ∙ ap (map child_of) (drop_next f.children.now f.next e l)
    ∙ (λ i. child_of (is i) ∷ sym (drop-map child_of (f.next + 1) f.children.now) i)

-- a directory begins with all its children
pub begun_walk : (N : Namespace) (guide : Guide) → IsGuideOf N guide → (at : Point) (path : List ℕ) (g : Frame) → IsBegun guide.pairings.now at path g →
    (seen after : List Point) (steps : List Step) → Visits N g.prefix.items (children_of g) (left_of g) seen steps after →
    Walks N (inside path) (placed.At at) seen steps after
begun_walk N guide of at path g b seen after steps v =
    let all : children_of g ≡ children_in (placed.At at) guide.pairings.now = ap (map child_of) b.are in
    let left : left_of g ≡ children_of g = ap (λ n. drop n (children_of g)) b.first in
    let w : Visits N g.prefix.items (children_of g) (children_of g) seen steps after = subst (λ l. Visits N g.prefix.items (children_of g) l seen steps after) left v in
    let x : Visits N (inside path) (children_of g) (children_of g) seen steps after = subst (λ p. Visits N p (children_of g) (children_of g) seen steps after) b.prefix w in
    walk (of.children (placed.At at)) (subst (λ l. Visits N (inside path) l l seen steps after) all x)

module _ (N : Namespace) (guide : Guide) (of : IsGuideOf N guide) (f : Frame) (e : Pairing) (inside_f : f.next < length f.children.now) (is : get_or f.children.now f.next e ≡ e)
    (there : Contains guide.inodes.now (inode_of e)) (fs : List Frame) (seen : List Point) where
  abbrev path : List ℕ
  path = path_of f.prefix.items (children_of f) (child_of e)

  abbrev step : StepKind → Step
  step kind = record { kind = kind; word = e.word; inode = e.row.now.child; path = path; exec = exec_of kind e.exec }

  is_inode : (b : Bool) → e.row.now.dir ≡ b → IsInode N e.row.now.child b
  is_inode b h = subst (λ i. Contains i (record { at = e.row.now.child; dir = b })) of.inodes (subst (λ d. Contains guide.inodes.now (record { at = e.row.now.child; dir = d })) h there)

  -- a visit of what is left of the frame begins with its next child
  onto : (seen after : List Point) (steps : List Step) → Visits N f.prefix.items (children_of f) (child_of e ∷ left_of (advanced f)) seen steps after →
      Visits N f.prefix.items (children_of f) (left_of f) seen steps after
  onto seen after steps v = subst (λ l. Visits N f.prefix.items (children_of f) l seen steps after) (sym (left_next f e inside_f is)) v

  leads_same : is_seen seen e.row.now.child ≡ true → LeadsTo N (f ∷ fs) seen (step step_kind.Same) (advanced f ∷ fs)
  leads_same h steps after (under {between = between} {inner = inner} v r) =
      under (onto seen between (step step_kind.Same ∷ inner) (again h v)) r

  leads_file : is_seen seen e.row.now.child ≡ false → e.row.now.dir ≡ false → LeadsTo N (f ∷ fs) seen (step step_kind.File) (advanced f ∷ fs)
  leads_file h d steps after (under {between = between} {inner = inner} v r) =
      under (onto seen between (step step_kind.File ∷ inner) (file h (is_inode false d) v)) r

  leads_dir : (g : Frame) → IsBegun guide.pairings.now e.row.now.child path g → is_seen seen e.row.now.child ≡ false → e.row.now.dir ≡ true →
      LeadsTo N (f ∷ fs) seen (step step_kind.Dir) (g ∷ advanced f ∷ fs)
  leads_dir g b h d steps after (under {between = middle} {inner = deeper} w (under {between = between} {inner = inner} {steps = rest} v r)) =
      let walked = begun_walk N guide of e.row.now.child path g b (e.row.now.child ∷ seen) middle deeper w in
      let visited = onto seen between (step step_kind.Dir ∷ (deeper ++ inner)) (dir h (is_inode true d) walked v) in
      subst (λ l. Rest N (f ∷ fs) seen (step step_kind.Dir ∷ l) after) (append_assoc deeper inner rest) (under visited r)

  pub leads : (inner : Option Frame) → IsInner guide.pairings.now (kind_of seen (inode_of e)) e.row.now.child path inner →
      LeadsTo N (f ∷ fs) seen (turn_step f e seen) (option_to_list inner ++ advanced f ∷ fs)
  leads inner h = by (is_seen seen e.row.now.child) refl e.row.now.dir refl h
    where
      kind : Bool → Bool → StepKind
      kind s d = if s then step_kind.Same else if d then step_kind.Dir else step_kind.File

      by : (s : Bool) → is_seen seen e.row.now.child ≡ s → (d : Bool) → e.row.now.dir ≡ d → IsInner guide.pairings.now (kind s d) e.row.now.child path inner →
          LeadsTo N (f ∷ fs) seen (step (kind s d)) (option_to_list inner ++ advanced f ∷ fs)
      by true a d b none = subst (λ o. LeadsTo N (f ∷ fs) seen (step step_kind.Same) (option_to_list o ++ advanced f ∷ fs)) (sym none) (leads_same a)
      by false a true b some = subst (λ o. LeadsTo N (f ∷ fs) seen (step step_kind.Dir) (option_to_list o ++ advanced f ∷ fs)) (sym some.1) (leads_dir some.0 some.2 a b)
      by false a false b none = subst (λ o. LeadsTo N (f ∷ fs) seen (step step_kind.File) (option_to_list o ++ advanced f ∷ fs)) (sym none) (leads_file a b)

-- ---- the frames

pub frame_pairing : (guide : Guide) (f : Frame) (e : Pairing) → IsFrame guide.pairings.now f → f.next < length f.children.now → get_or f.children.now f.next e ≡ e → Contains guide.pairings.now e
frame_pairing guide f e frame l is =
    let c : Contains (pairings_in frame.parent guide.pairings.now) e = subst (λ xs. Contains xs e) frame.are (f.next, l, is) in
    (passed _ guide.pairings.now e c).member

-- ---- the measure

less_same : (u v k a b : ℕ) → u + 0 ≡ v → a < b → u * k + a < v * k + b
less_same u v k a b e l = let f : u ≡ v = omega arith in subst (λ w. u * k + a < w * k + b) f (omega arith)

less_fewer : (u v k a b : ℕ) → u + 1 ≡ v → a < k + b → u * k + a < v * k + b
less_fewer u v k a b e l = subst (λ w. u * k + a < w * k + b) e (omega arith)

one_frame : (f : Frame) → sum_by left_count (f ∷ []) ≡ left_count f
one_frame f = let h = sum_by-cons left_count f [] in omega arith

two_frames : (g f : Frame) → sum_by left_count (g ∷ f ∷ []) ≡ left_count g + left_count f
two_frames g f = let h = sum_by-cons left_count g (f ∷ []) in let k = one_frame f in omega arith

pub work_less : (pairings : List Pairing) (kind : StepKind) (at : Point) (path : List ℕ) (inner : Option Frame) (f : Frame) (new old : List Bool) →
    IsInner pairings kind at path inner → f.next < length f.children.now → unseen new + fresh kind ≡ unseen old →
    work_left pairings new (option_to_list inner ++ advanced f ∷ []) < work_left pairings old (f ∷ [])
work_less pairings kind at path inner f new old h l e = by kind h e
  where
    k : ℕ
    k = length pairings + 2

    falls : left_count (advanced f) + 1 ≡ left_count f
    falls = omega arith

    alone : (u : ℕ) → (u ≡ 0) ⊎ (u ≡ 1) → unseen new + u ≡ unseen old → work_left pairings new (advanced f ∷ []) < work_left pairings old (f ∷ [])
    alone u (inl z) s = rw (one_frame f, one_frame (advanced f)) (less_same (unseen new) (unseen old) k (left_count (advanced f)) (left_count f) (subst (λ w. unseen new + w ≡ unseen old) z s) (let q = falls in omega arith))
    alone u (inr z) s = rw (one_frame f, one_frame (advanced f)) (less_fewer (unseen new) (unseen old) k (left_count (advanced f)) (left_count f) (subst (λ w. unseen new + w ≡ unseen old) z s) (let q = falls in omega arith))

    with_inner : (g : Frame) → IsBegun pairings at path g → unseen new + 1 ≡ unseen old → work_left pairings new (g ∷ advanced f ∷ []) < work_left pairings old (f ∷ [])
    with_inner g b s =
        let few : length g.children.now ≤ length pairings = subst (λ xs. length xs ≤ length pairings) (sym b.are) (filter-le _ pairings) in
        let q = falls in
        rw (one_frame f, two_frames g (advanced f)) (less_fewer (unseen new) (unseen old) k (left_count g + left_count (advanced f)) (left_count f) s (omega arith))

    by : (k : StepKind) → IsInner pairings k at path inner → unseen new + fresh k ≡ unseen old → work_left pairings new (option_to_list inner ++ advanced f ∷ []) < work_left pairings old (f ∷ [])
    by step_kind.Same i s = subst (λ o. work_left pairings new (option_to_list o ++ advanced f ∷ []) < work_left pairings old (f ∷ [])) (sym i) (alone 0 (inl refl) s)
    by step_kind.File i s = subst (λ o. work_left pairings new (option_to_list o ++ advanced f ∷ []) < work_left pairings old (f ∷ [])) (sym i) (alone 1 (inr refl) s)
    by step_kind.Dir i s = subst (λ o. work_left pairings new (option_to_list o ++ advanced f ∷ []) < work_left pairings old (f ∷ [])) (sym i.1) (with_inner i.0 i.2 s)

-- ---- in all

pub turn : (guide : Guide) (f : Frame) (e : Pairing) (kind : StepKind) (path : List ℕ) (exec : Bool) (inner : Option Frame) (old new : List Step) →
    IsSound guide → IsFrame guide.pairings.now f → f.next < length f.children.now → get_or f.children.now f.next e ≡ e →
    kind ≡ kind_of (seen_of old) (inode_of e) → path ≡ path_of f.prefix.items (children_of f) (child_of e) → exec ≡ exec_of kind e.exec →
    IsInner guide.pairings.now kind e.row.now.child path inner →
    new ≡ old ++ record { kind = kind; word = e.word; inode = e.row.now.child; path = path; exec = exec } ∷ [] → IsTurn guide f (advanced f) inner old new
turn guide f e kind path exec inner old new sound frame left is kind_is path_is exec_is begun pushed =
    let x : exec ≡ exec_of (kind_of (seen_of old) (inode_of e)) e.exec = exec_is ∙ ap (λ k. exec_of k e.exec) kind_is in
    let there : Contains guide.inodes.now (inode_of e) = sound.kinds e (frame_pairing guide f e frame left is) in
    let step_is : record { kind = kind; word = e.word; inode = e.row.now.child; path = path; exec = exec } ≡ turn_step f e (seen_of old) =
    λ i. record { kind = kind_is i; word = e.word; inode = e.row.now.child; path = path_is i; exec = x i } in
    let b : IsInner guide.pairings.now (kind_of (seen_of old) (inode_of e)) e.row.now.child (path_of f.prefix.items (children_of f) (child_of e)) inner =
    subst (λ p. IsInner guide.pairings.now (kind_of (seen_of old) (inode_of e)) e.row.now.child p inner) path_is (subst (λ k. IsInner guide.pairings.now k e.row.now.child path inner) kind_is begun) in
    record {
      step = turn_step f e (seen_of old);
      is = pushed ∙ ap (λ s. old ++ s ∷ []) step_is;
      leads = λ N of fs. leads N guide of f e left is there fs (seen_of old) inner b;
    }
