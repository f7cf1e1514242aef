-- A layout names the classes of its set.
use Rattle.std.proofs.Common.{ℕ, suc, ◌<◌, List, [], ◌∷◌, All, nat_eq, get_or, not, subst, arith}
use Rattle.std.specs.Prelude.{filter}
use Rattle.std.proofs.lemmas.List.Elements.{All-contains, All-cons, All-filter, Contains-get_or}
use Rattle.pj_change.specs.Layout.{Shape, Shapes, One, Series, Sides, Tangle, none, more, AreLinkedSets, IsTangle, IsLayout, AreLayouts}
use Rattle.pj_marks.specs.Names.{NamesBelow, NameBelow}

module _ (before : ℕ → ℕ → Type 0) (n : ℕ) where
  -- each class of the set is below n
  abbrev AreBelow : List ℕ → Type 0
  AreBelow X = All (λ x. x < n) X

  parts_below : (link : ℕ → ℕ → Type 0) (X : List ℕ) (parts : List (List ℕ)) → AreLinkedSets link X parts → AreBelow X → All AreBelow parts
  parts_below link X parts sets below k d lt i e inner =
      let part = Contains-get_or parts k d lt in
      let class = Contains-get_or (get_or parts k d) i e inner in
      All-contains (λ x. x < n) X _ below ((sets.members _).1 (part.0, get_or parts k d, part.1, part.2, class))

  tangle_below : (X xs : List ℕ) → AreBelow X → IsTangle before X xs → AreBelow xs
  tangle_below X [] below tangle = λ k d lt. absurd (omega (arith, lt))
  tangle_below X (x ∷ xs) below tangle =
      All-cons (λ y. y < n) x xs (All-contains (λ y. y < n) X x below tangle.0.member)
      (tangle_below (filter (λ y. not (nat_eq x y)) X) xs (All-filter (λ y. not (nat_eq x y)) (λ y. y < n) X below) tangle.2)

  mutual
    pub layout_below : (depth : ℕ) (X : List ℕ) (shape : Shape) → AreBelow X → IsLayout before depth X shape → NamesBelow n shape
    layout_below depth X (One x) below layout = subst AreBelow layout below 0 0 (omega arith)
    layout_below depth X (Series none) below layout = tt
    layout_below depth X (Series (more s ss)) below layout = layouts_below (suc depth) layout.1 (more s ss) (parts_below _ X layout.1 layout.2 below) layout.4
    layout_below depth X (Sides ss) below layout = layouts_below (suc depth) layout.2 ss (parts_below _ X layout.2 layout.3 below) layout.5
    layout_below depth X (Tangle xs) below layout = tangle_below X xs below layout.2

    layouts_below : (depth : ℕ) (parts : List (List ℕ)) (shapes : Shapes) → All AreBelow parts → AreLayouts before depth parts shapes → NameBelow n shapes
    layouts_below depth parts none below layouts = tt
    layouts_below depth parts (more s ss) below layouts =
        let all : All AreBelow (layouts.0 ∷ layouts.1) = subst (All AreBelow) layouts.2 below in
        (layout_below depth layouts.0 s (all 0 [] (omega arith)) layouts.3, layouts_below depth layouts.1 ss (λ k d lt. all (suc k) d (omega (arith, lt))) layouts.4)
