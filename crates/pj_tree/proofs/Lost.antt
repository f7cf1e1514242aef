-- The inodes that no walk from the root reaches, in turn.
use Rattle.std.proofs.Common.{◌≡◌, ◌≢◌, ℕ, ◌+◌, ◌<◌, ◌≤◌, Bool, true, false, not, ◌&&◌, ◌||◌, List, [], ◌∷◌, ◌++◌, length, get_or, drop, map, refl, sym, ap, ◌∙◌, subst, inl, inr, ◌⊎◌, arith, Contains, append_assoc, append-nil}
use Rattle.std.specs.declared.cmp.Ordering.TheVariants.{Less, Greater}
use Rattle.std.specs.Ordering.{ordering_reverse}
use Rattle.std.proofs.lemmas.List.{drop_all, length-map, get_or-map, get_or_default}
use Rattle.std.proofs.lemmas.Cmp.{tied_itself}
use Rattle.pj_change.specs.declared.point.Point.{Point}
use Rattle.pj_change.specs.declared.print.Step.{Step}
use Rattle.pj_change.specs.declared.print.StepWord.TheVariants as word
use Rattle.pj_change.specs.Graph.{point_cmp}
use Rattle.pj_change.specs.Walk.{is_seen}
use Rattle.pj_change.proofs.Orders.{point_total}
use Rattle.pj_tree.specs.declared.row.Inode.{Inode}
use Rattle.pj_tree.specs.declared.walker.Guide.{Guide}
use Rattle.pj_tree.specs.Rows.{inode_cmp}
use Rattle.pj_tree.specs.Namespace.{Namespace}
use Rattle.pj_tree.specs.Walk.{HasContent, IsOrphan, IsAdrift, VisitsOrphans, done, passed, orphan, VisitsAdrift, least}
use Rattle.pj_tree.specs.Frames.{seen_of, has_name, has_child, IsGuideOf, IsSound, IsEntered, IsAmongOrphans, IsAmongAdrift, AreOrphans, AreAdrift}
use Rattle.pj_tree.proofs.Marks.{kept}
use Rattle.pj_tree.proofs.SortedLists.{sorted_at, which}
use Rattle.pj_tree.proofs.Siblings.{drop_next}
use Rattle.std.proofs.lemmas.Bool.{cases_lt, not-true, both_ways, or_cases, or_parts, and_parts}

-- ---- orphans

pub orphans_end : (guide : Guide) (live : Point → Bool) (index : ℕ) (old new : List Step) → length guide.inodes.now ≤ index → IsAmongOrphans guide live index old new → AreOrphans guide live old new
orphans_end guide live index old new whole a = record {
  steps = a.steps;
  is = a.is;
  visits = λ N of l.
      let none : drop index (map (λ (i : Inode). i.at) guide.inodes.now) ≡ [] = drop_all index (map (λ i. i.at) guide.inodes.now) (let h : length (map (λ (i : Inode). i.at) guide.inodes.now) ≡ length guide.inodes.now = simp length-map in omega arith) in
      subst (λ s. VisitsOrphans N (map (λ i. i.at) guide.inodes.now) (seen_of old) s (seen_of new)) (append-nil a.steps)
      (a.leads N of l [] (seen_of new) (subst (λ ps. VisitsOrphans N ps (seen_of new) [] (seen_of new)) (sym none) done));
}

points_next : (inodes : List Inode) (index : ℕ) (inode : Inode) → index < length inodes → get_or inodes index inode ≡ inode →
    drop index (map (λ i. i.at) inodes) ≡ inode.at ∷ drop (index + 1) (map (λ i. i.at) inodes)
points_next inodes index inode l e =
    let inside : index < length (map (λ (i : Inode). i.at) inodes) = (let h : length (map (λ (i : Inode). i.at) inodes) ≡ length inodes = simp length-map in omega arith) in
    drop_next (map (λ i. i.at) inodes) index inode.at inside ∙ ap (λ p. p ∷ drop (index + 1) (map (λ (i : Inode). i.at) inodes)) (get_or-map (λ i. i.at) inodes index inode inode.at l ∙ ap (λ i. i.at) e)

not_and : (a b : Bool) → (not a && b) ≡ false → (a ≡ true) ⊎ (b ≡ false)
not_and true b h = inl refl
not_and false b h = inr h

-- an inode that is no orphan, or has had an entry
pub orphans_pass : (guide : Guide) (live : Point → Bool) (index : ℕ) (inode : Inode) (old new : List Step) → index < length guide.inodes.now → get_or guide.inodes.now index inode ≡ inode →
    (not (is_seen (seen_of new) inode.at) && (not (has_name guide.pairings.now inode.at) && (live inode.at || has_child guide.pairings.now inode.at))) ≡ false →
    IsAmongOrphans guide live index old new → IsAmongOrphans guide live (index + 1) old new
orphans_pass guide live index inode old new l e test a = record {
  steps = a.steps;
  is = a.is;
  leads = λ N of m more after v. a.leads N of m more after (subst (λ ps. VisitsOrphans N ps (seen_of new) more after) (sym (points_next guide.inodes.now index inode l e)) (passed (no_orphan N of m) v));
}
  where
    no_orphan : (N : Namespace) → IsGuideOf N guide → N.live ≡ live → (is_seen (seen_of new) inode.at ≡ true) ⊎ (IsOrphan N inode.at → ⊥)
    no_orphan N of m = elim (not_and (is_seen (seen_of new) inode.at) _ test) [
      | inl s ↦ inl s
      | inr t ↦ inr (λ o. elim (not_and (has_name guide.pairings.now inode.at) _ t) [
        | inl n ↦ o.unnamed ((of.named inode.at).1 n)
        | inr c ↦ empty o.content c
      ])
    ]
      where
        empty : HasContent N inode.at → (live inode.at || has_child guide.pairings.now inode.at) ≡ false → ⊥
        empty (inl x) c = both_ways (live inode.at) (or_parts _ _ c).0 (subst (λ f. f inode.at ≡ true) m x)
        empty (inr x) c = both_ways (has_child guide.pairings.now inode.at) (or_parts _ _ c).1 ((of.parents inode.at).0 x)

-- an orphan has its entry
pub orphans_enter : (guide : Guide) (live : Point → Bool) (index : ℕ) (inode : Inode) (old mid new : List Step) → index < length guide.inodes.now → get_or guide.inodes.now index inode ≡ inode →
    (not (is_seen (seen_of mid) inode.at) && (not (has_name guide.pairings.now inode.at) && (live inode.at || has_child guide.pairings.now inode.at))) ≡ true →
    IsAmongOrphans guide live index old mid → IsEntered guide word.Orphan inode.at mid new → IsAmongOrphans guide live (index + 1) old new
orphans_enter guide live index inode old mid new l e test a en = record {
  steps = a.steps ++ en.steps;
  is = en.is ∙ ap (λ s. s ++ en.steps) a.is ∙ append_assoc old a.steps en.steps;
  leads = λ N of m more after v.
      let w : VisitsOrphans N (inode.at ∷ drop (index + 1) (map (λ i. i.at) guide.inodes.now)) (seen_of mid) (en.steps ++ more) after = orphan fresh (is_orphan N of m) (en.enters N of) v in
      subst (λ s. VisitsOrphans N (map (λ i. i.at) guide.inodes.now) (seen_of old) s after) (sym (append_assoc a.steps en.steps more))
      (a.leads N of m (en.steps ++ more) after (subst (λ ps. VisitsOrphans N ps (seen_of mid) (en.steps ++ more) after) (sym (points_next guide.inodes.now index inode l e)) w));
}
  where
    parts : (not (is_seen (seen_of mid) inode.at) ≡ true) × ((not (has_name guide.pairings.now inode.at) && (live inode.at || has_child guide.pairings.now inode.at)) ≡ true)
    parts = and_parts (not (is_seen (seen_of mid) inode.at)) _ test

    fresh : is_seen (seen_of mid) inode.at ≡ false
    fresh = not-true (is_seen (seen_of mid) inode.at) parts.0

    rest : (not (has_name guide.pairings.now inode.at) ≡ true) × ((live inode.at || has_child guide.pairings.now inode.at) ≡ true)
    rest = and_parts (not (has_name guide.pairings.now inode.at)) _ parts.1

    is_orphan : (N : Namespace) → IsGuideOf N guide → N.live ≡ live → IsOrphan N inode.at
    is_orphan N of m = record {
      dir = inode.dir;
      is = subst (λ is. Contains is inode) of.inodes (index, l, e);
      unnamed = λ n. both_ways (has_name guide.pairings.now inode.at) (not-true (has_name guide.pairings.now inode.at) rest.0) ((of.named inode.at).0 n);
      content = elim (or_cases (live inode.at) (has_child guide.pairings.now inode.at) rest.1) [ inl x ↦ inl (subst (λ f. f inode.at ≡ true) (sym m) x) | inr x ↦ inr ((of.parents inode.at).1 x) ];
    }

-- ---- what is adrift

-- what is adrift is not among those that were looked at
not_before : (guide : Guide) (N : Namespace) → IsGuideOf N guide → (index : ℕ) (seen : List Point) →
    ((k : ℕ) (d : Inode) → k < index → has_name guide.pairings.now (get_or guide.inodes.now k d).at ≡ true → is_seen seen (get_or guide.inodes.now k d).at ≡ true) →
    (q : Point) → (a : IsAdrift N seen q) → (k : ℕ) × (index ≤ k) × (k < length guide.inodes.now) × (get_or guide.inodes.now k (record { at = q; dir = a.dir }) ≡ record { at = q; dir = a.dir })
not_before guide N of index seen settled q a =
    let m : Contains guide.inodes.now (record { at = q; dir = a.dir }) = subst (λ is. Contains is (record { at = q; dir = a.dir })) (sym of.inodes) a.is in
    (m.0, late m.0 m.2, m.1, m.2)
  where
    late : (k : ℕ) → get_or guide.inodes.now k (record { at = q; dir = a.dir }) ≡ record { at = q; dir = a.dir } → index ≤ k
    late k e = elim (cases_lt k index) [
      | inl l ↦
          let at_k : (get_or guide.inodes.now k (record { at = q; dir = a.dir })).at ≡ q = ap (λ (i : Inode). i.at) e in
          let name : has_name guide.pairings.now (get_or guide.inodes.now k (record { at = q; dir = a.dir })).at ≡ true = ap (has_name guide.pairings.now) at_k ∙ (of.named q).0 a.named in
          absurd (both_ways (is_seen seen q) a.fresh (sym (ap (is_seen seen) at_k) ∙ settled k (record { at = q; dir = a.dir }) l name))
      | inr l ↦ l
    ]

pub adrift_end : (guide : Guide) (index : ℕ) (old new : List Step) → length guide.inodes.now ≤ index → IsAmongAdrift guide index old new → AreAdrift guide old new
adrift_end guide index old new whole a = record {
  steps = a.steps;
  is = a.is;
  visits = λ N of. subst (VisitsAdrift N (seen_of old)) (append-nil a.steps) (a.leads N of [] (done (λ p x. none N of p x)));
}
  where
    none : (N : Namespace) → IsGuideOf N guide → (p : Point) → IsAdrift N (seen_of new) p → ⊥
    none N of p x = let k = not_before guide N of index (seen_of new) a.settled p x in let low = k.1 in let high = k.2 in omega arith

settled_more : (guide : Guide) (index : ℕ) (inode : Inode) (seen : List Point) → get_or guide.inodes.now index inode ≡ inode →
    ((k : ℕ) (d : Inode) → k < index → has_name guide.pairings.now (get_or guide.inodes.now k d).at ≡ true → is_seen seen (get_or guide.inodes.now k d).at ≡ true) →
    (has_name guide.pairings.now inode.at ≡ true → is_seen seen inode.at ≡ true) → index < length guide.inodes.now →
    (k : ℕ) (d : Inode) → k < index + 1 → has_name guide.pairings.now (get_or guide.inodes.now k d).at ≡ true → is_seen seen (get_or guide.inodes.now k d).at ≡ true
settled_more guide index inode seen e settled here inside k d l n = elim (which k index (omega arith)) [
  | inl low ↦ settled k d low n
  | inr same ↦
      let at : get_or guide.inodes.now k d ≡ inode = ap (λ j. get_or guide.inodes.now j d) same ∙ get_or_default guide.inodes.now index d inode inside ∙ e in
      subst (λ (i : Inode). is_seen seen i.at ≡ true) (sym at) (here (subst (λ (i : Inode). has_name guide.pairings.now i.at ≡ true) at n))
]

pub adrift_pass : (guide : Guide) (index : ℕ) (inode : Inode) (old new : List Step) → index < length guide.inodes.now → get_or guide.inodes.now index inode ≡ inode →
    (has_name guide.pairings.now inode.at ≡ true → is_seen (seen_of new) inode.at ≡ true) → IsAmongAdrift guide index old new → IsAmongAdrift guide (index + 1) old new
adrift_pass guide index inode old new l e here a = record { steps = a.steps; is = a.is; settled = settled_more guide index inode (seen_of new) e a.settled here l; leads = a.leads }

pub adrift_enter : (guide : Guide) (index : ℕ) (inode : Inode) (old mid new : List Step) → IsSound guide → index < length guide.inodes.now → get_or guide.inodes.now index inode ≡ inode →
    has_name guide.pairings.now inode.at ≡ true → is_seen (seen_of mid) inode.at ≡ false → IsAmongAdrift guide index old mid → IsEntered guide word.Adrift inode.at mid new →
    IsAmongAdrift guide (index + 1) old new
adrift_enter guide index inode old mid new sound l e named fresh a en = record {
  steps = a.steps ++ en.steps;
  is = en.is ∙ ap (λ s. s ++ en.steps) a.is ∙ append_assoc old a.steps en.steps;
  settled = settled_more guide index inode (seen_of new) e (λ k d low n. kept mid en.steps new (get_or guide.inodes.now k d).at en.is (a.settled k d low n)) (λ n. en.seen) l;
  leads = λ N of more v.
      subst (VisitsAdrift N (seen_of old)) (sym (append_assoc a.steps en.steps more)) (a.leads N of (en.steps ++ more) (least (is_adrift N of) (none_less N of) (en.enters N of) v));
}
  where
    is_adrift : (N : Namespace) → IsGuideOf N guide → IsAdrift N (seen_of mid) inode.at
    is_adrift N of = record { dir = inode.dir; is = subst (λ is. Contains is inode) of.inodes (index, l, e); named = (of.named inode.at).1 named; fresh = fresh }

    none_less : (N : Namespace) → IsGuideOf N guide → (q : Point) → IsAdrift N (seen_of mid) q → point_cmp q inode.at ≢ Less
    none_less N of q x low =
        let k = not_before guide N of index (seen_of mid) a.settled q x in
        elim (which index k.0 k.1) [
          | inl m ↦
              let up : inode_cmp (get_or guide.inodes.now index inode) (get_or guide.inodes.now k.0 inode) ≡ Less = sorted_at inode_cmp guide.inodes.now index k.0 inode sound.inodes m k.2 in
              let at_k : get_or guide.inodes.now k.0 inode ≡ record { at = q; dir = x.dir } = get_or_default guide.inodes.now k.0 inode (record { at = q; dir = x.dir }) k.2 ∙ k.3 in
              let above : point_cmp inode.at q ≡ Less = subst (λ (i : Inode). inode_cmp inode i ≡ Less) at_k (subst (λ (i : Inode). inode_cmp i (get_or guide.inodes.now k.0 inode) ≡ Less) e up) in
              (let f : point_cmp inode.at q ≡ Greater = point_total.antisymm inode.at q ∙ ap ordering_reverse low in let g = sym f ∙ above in cc)
          | inr same ↦
              let at_k : inode ≡ record { at = q; dir = x.dir } = sym e ∙ ap (λ j. get_or guide.inodes.now j inode) same ∙ get_or_default guide.inodes.now k.0 inode (record { at = q; dir = x.dir }) k.2 ∙ k.3 in
              let p : inode.at ≡ q = ap (λ (i : Inode). i.at) at_k in
              (let f : point_cmp q q ≡ Less = subst (λ r. point_cmp q r ≡ Less) p low in let g = sym f ∙ tied_itself point_total q in cc)
        ]

-- ---- the test

pub is_named : (a b : Bool) → (a && not b) ≡ true → a ≡ true
is_named a b h = (and_parts a (not b) h).0

pub is_fresh : (a b : Bool) → (a && not b) ≡ true → b ≡ false
is_fresh a b h = not-true b (and_parts a (not b) h).1

pub is_settled : (a b : Bool) → (a && not b) ≡ false → a ≡ true → b ≡ true
is_settled true true h t = refl
is_settled true false h t = absurd (cc)
is_settled false b h t = absurd (cc)
