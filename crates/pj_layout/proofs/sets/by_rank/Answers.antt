use Rattle.std.proofs.Common.{rules, ◌≡◌, ◌<◌, ℕ, List, [], ◌∷◌, map, take, length, All, slice_index, Vec, Global, subst, sym, ◌∙◌, arith}
use Rattle.std.specs.List.Sorted.{IsPermutation, IsNonDecreasingBy}
use Rattle.std.proofs.lemmas.Iterator.{items_from_collect, YieldsList-from_slice, YieldsList-from_map}
use Rattle.std.proofs.lemmas.List.{get_or-map, length-map, take_all}
use Rattle.std.proofs.lemmas.List.Sorted.{IsPermutation-map, All-permutation, IsNonDecreasingBy-from_sort_by_key}
use Rattle.std.proofs.lemmas.Result.{IfOk-weaker}
use Rattle.pj_layout.specs.declared.sets.Ranked.{Ranked}
use Rattle.pj_layout.proofs.sets.by_rank.Goals as goal

-- the classes rise by the ranks that stand beside them
rising_classes : (ranks : List ℕ) (rs : List Ranked) → All (λ r. r.rank ≡ slice_index ranks r.class) rs → IsNonDecreasingBy (λ r. r.rank) rs → IsNonDecreasingBy (λ class. slice_index ranks class) (map (λ r. r.class) rs)
rising_classes ranks [] beside up i j d le lt = absurd (omega (arith, lt))
rising_classes ranks (r ∷ rs) beside up i j d le lt =
    let high : j < length (r ∷ rs) = omega (arith, lt, length-map (r ∷ rs) (λ (s : Ranked). s.class)) in
    let low : i < length (r ∷ rs) = omega (arith, le, high) in
    rw (get_or-map (λ (s : Ranked). s.class) (r ∷ rs) i r d low, get_or-map (λ (s : Ranked). s.class) (r ∷ rs) j r d high, ← beside i r low, ← beside j r high) (up i j r le high)

pub returns-clause-same : goal.returns-clause-same
returns-clause-same c =
    let sorted = c.sort_by_key.new.self.items in
    let whole : take c.loop-class.class-index c.args.classes.now ≡ c.args.classes.now = take_all c.loop-class.class-index c.args.classes.now (omega (arith, c.loop-class-test.false)) in
    let moved : IsPermutation c.args.classes.now (map (λ r. r.class) sorted) =
    subst (λ l. IsPermutation l (map (λ (r : Ranked). r.class) sorted)) (c.loop-class.invariant.0 ∙ whole) (IsPermutation-map (λ (r : Ranked). r.class) _ sorted c.sort_by_key.ensures.permutation) in
    IfOk-weaker _ _ _ (λ v is. subst (IsPermutation c.args.classes.now) (sym is) moved)
    (items_from_collect _ c.collect.ensures.ran (YieldsList-from_map _ (λ (r : Ranked). r.class) (YieldsList-from_slice sorted cc) c.map.ensures.closure (λ x r q k. search rules)))

pub returns-clause-rising : goal.returns-clause-rising
returns-clause-rising c =
    let sorted = c.sort_by_key.new.self.items in
    let up : IsNonDecreasingBy (λ class. slice_index c.args.ranks.now class) (map (λ r. r.class) sorted) =
    rising_classes c.args.ranks.now sorted (All-permutation (λ (r : Ranked). r.rank ≡ slice_index c.args.ranks.now r.class) _ sorted c.sort_by_key.ensures.permutation c.loop-class.invariant.1)
    (IsNonDecreasingBy-from_sort_by_key (λ (r : Ranked). r.rank) _ c.in_ok-sort_by_key.ensures.sorted (λ a r q k. search rules)) in
    IfOk-weaker c.collect.result (λ (v : Vec ℕ Global). v.items ≡ map (λ r. r.class) sorted) (λ (v : Vec ℕ Global). IsNonDecreasingBy (λ class. slice_index c.args.ranks.now class) v.items)
    (λ v is. subst (IsNonDecreasingBy (λ class. slice_index c.args.ranks.now class)) (sym is) up)
    (items_from_collect _ c.collect.ensures.ran (YieldsList-from_map _ (λ (r : Ranked). r.class) (YieldsList-from_slice sorted cc) c.map.ensures.closure (λ x r q k. search rules)))
