-- Flags of the inodes, one for each.
use Rattle.std.proofs.Common.{◌≡◌, ℕ, zero, suc, ◌+◌, ◌<◌, Bool, true, false, not, ◌||◌, ◌==◌, List, [], ◌∷◌, ◌++◌, length, get_or, set, map, take, drop, filter, replicate, refl, sym, ap, ◌∙◌, subst, arith, Bor, cond, ne_eqb}
use Rattle.std.specs.List.{AllByRecursion, list_any}
use Rattle.std.specs.List.Sorted.{IsStrictlySortedBy}
use Rattle.std.specs.declared.cmp.Ordering.TheVariants.{Less}
use Rattle.std.proofs.Math.Bool.{or-false, or-true}
use Rattle.std.proofs.lemmas.List.{take_more, map-append, take-append-drop}
use Rattle.pj_change.specs.Positions.{same_point}
use Rattle.pj_change.specs.Graph.{point_cmp}
use Rattle.pj_change.proofs.Members.{each}
use Rattle.pj_change.proofs.EqualNames.{same_point_itself}
use Rattle.pj_tree.specs.declared.row.NameRow.{NameRow}
use Rattle.pj_tree.specs.declared.row.Inode.{Inode}
use Rattle.pj_tree.specs.declared.pairings.Pairing.{Pairing}
use Rattle.pj_tree.specs.Rows.{inode_cmp, row_cmp}
use Rattle.pj_tree.specs.Frames.{marks, seen_of, has_name}
use Rattle.pj_tree.proofs.Marks.{not_same, not_same_back}
use Rattle.pj_tree.proofs.Naming.{any_push, sorted_left}

-- ---- at first

pub none_seen : (inodes : List Inode) → replicate (length inodes) false ≡ marks (seen_of []) inodes
none_seen [] = refl
none_seen (i ∷ inodes) = ap (λ l. false ∷ l) (none_seen inodes)

pub none_named : (inodes : List Inode) → replicate (length inodes) false ≡ map (λ i. has_name [] i.at) inodes
none_named [] = refl
none_named (i ∷ inodes) = ap (λ l. false ∷ l) (none_named inodes)

-- ---- one more

module _ (f : Inode → Bool) where
  others_stay : (x : Inode) (inodes : List Inode) → AllByRecursion (λ y. inode_cmp x y ≡ Less) inodes → map (λ i. f i || same_point i.at x.at) inodes ≡ map f inodes
  others_stay x [] above = refl
  others_stay x (y ∷ inodes) above = λ i. ((ap (λ b. f y || b) (not_same_back y.at x.at above.0) ∙ or-false (f y)) i) ∷ others_stay x inodes above.1 i

  pub set_where : (inodes : List Inode) (k : ℕ) (inode : Inode) → IsStrictlySortedBy inode_cmp inodes → k < length inodes → get_or inodes k inode ≡ inode →
      map (λ i. f i || same_point i.at inode.at) inodes ≡ set (map f inodes) k true
  unfolding IsStrictlySortedBy
  set_where [] k inode sorted l e = absurd (omega arith)
  set_where (x ∷ inodes) zero inode sorted l e =
      let first : (f x || same_point x.at inode.at) ≡ true =
      ap (λ b. f x || b) (subst (λ (y : Inode). same_point x.at y.at ≡ true) e (same_point_itself x.at)) ∙ or-true (f x) in
      let rest : map (λ i. f i || same_point i.at inode.at) inodes ≡ map f inodes = subst (λ (y : Inode). map (λ i. f i || same_point i.at y.at) inodes ≡ map f inodes) e (others_stay x inodes sorted.0) in
      λ i. first i ∷ rest i
  set_where (x ∷ inodes) (suc k) inode sorted l e =
      let low : point_cmp x.at inode.at ≡ Less = subst (λ y. inode_cmp x y ≡ Less) e (each (λ y. inode_cmp x y ≡ Less) inodes sorted.0 (get_or inodes k inode) (k, omega arith, ap (λ d. get_or inodes k d) e)) in
      let first : (f x || same_point x.at inode.at) ≡ f x = ap (λ b. f x || b) (not_same x.at inode.at low) ∙ or-false (f x) in
      λ i. first i ∷ set_where inodes k inode sorted.1 (omega arith) e i

pub named_more : (inodes : List Inode) (es : List Pairing) (e : Pairing) (k : ℕ) → IsStrictlySortedBy inode_cmp inodes → k < length inodes →
    get_or inodes k (record { at = e.row.now.child; dir = e.row.now.dir }) ≡ record { at = e.row.now.child; dir = e.row.now.dir } →
    set (map (λ i. has_name es i.at) inodes) k true ≡ map (λ i. has_name (es ++ e ∷ []) i.at) inodes
named_more inodes es e k sorted l is =
    sym (set_where (λ i. has_name es i.at) inodes k (record { at = e.row.now.child; dir = e.row.now.dir }) sorted l is)
    ∙ maps inodes
  where
    maps : (is : List Inode) → map (λ i. has_name es i.at || same_point i.at e.row.now.child) is ≡ map (λ i. has_name (es ++ e ∷ []) i.at) is
    maps [] = refl
    maps (i ∷ is) = λ j. sym (any_push (λ d. same_point i.at d.row.now.child) es e) j ∷ maps is j

-- ---- a test of what a filter leaves

pub any_left : {X : Type 0} (p : X → Bool) (xs : List X) → list_any p xs ≡ not (length (filter p xs) == 0)
any_left p [] = refl
any_left {X} p (x ∷ xs) = by (any_left p xs) (p x)
  where
    by : list_any p xs ≡ not (length (filter p xs) == 0) → (b : Bool) → (b || list_any p xs) ≡ not (length (cond b (x ∷ filter p xs) (filter p xs)) == 0)
    by rest true = ap not (sym (ne_eqb (suc (length (filter p xs))) 0 (λ e. omega arith)))
    by rest false = rest

-- ---- the rows so far

pub taken : {X Y : Type 0} (f : X → Y) (xs : List X) (i : ℕ) (x : X) → i < length xs → get_or xs i x ≡ x → map f (take (i + 1) xs) ≡ map f (take i xs) ++ f x ∷ []
taken f xs i x l e = ap (map f) (take_more xs i x l) ∙ map-append f (take i xs) (get_or xs i x ∷ []) ∙ ap (λ y. map f (take i xs) ++ f y ∷ []) e

pub taken_sorted : (rows : List (Bor NameRow)) (i : ℕ) (row : Bor NameRow) → IsStrictlySortedBy row_cmp (map (λ r. r.now) rows) → i < length rows → get_or rows i row ≡ row →
    IsStrictlySortedBy row_cmp (map (λ r. r.now) (take i rows) ++ row.now ∷ [])
taken_sorted rows i row sorted l e =
    let cut : map (λ (r : Bor NameRow). r.now) rows ≡ (map (λ r. r.now) (take i rows) ++ row.now ∷ []) ++ map (λ r. r.now) (drop (i + 1) rows) =
    ap (map (λ r. r.now)) (sym (take-append-drop (i + 1) rows)) ∙ map-append (λ r. r.now) (take (i + 1) rows) (drop (i + 1) rows)
    ∙ ap (λ l. l ++ map (λ r. r.now) (drop (i + 1) rows)) (taken (λ r. r.now) rows i row l e) in
    sorted_left row_cmp (map (λ r. r.now) (take i rows) ++ row.now ∷ []) (map (λ r. r.now) (drop (i + 1) rows)) (subst (IsStrictlySortedBy row_cmp) cut sorted)
