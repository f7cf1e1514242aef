-- What is found above a point in a rising list is its least member above the point.
use Rattle.std.proofs.Common.{◌≡◌, ◌∙◌, sym, ap, subst, refl, Bool, true, false, List, [], ◌∷◌, Option, Some, None, inl, inr}
use Rattle.std.specs.Prelude.{◌≢◌, ◌⊎◌, IsTrue, Contains}
use Rattle.std.specs.List.Sorted.{IsStrictlySortedBy}
use Rattle.std.specs.declared.cmp.Ordering.TheVariants.{Less}
use Rattle.pj_change.specs.declared.point.Point.{Point}
use Rattle.pj_change.specs.Graph.{point_cmp}
use Rattle.pj_change.proofs.Members.{uncons, no_member, first_member, later_member, each}
use Rattle.pj_dead.specs.PointGraphs.{is_above, next_above}

pub next_some : (xs : List Point) (after : Option Point) (q : Point) → IsStrictlySortedBy point_cmp xs → Contains xs q → IsTrue (is_above after q) →
    ((r : Point) → Contains xs r → IsTrue (is_above after r) → point_cmp r q ≢ Less) → next_above xs after ≡ Some q
unfolding IsStrictlySortedBy
next_some [] after q s m above least = absurd (no_member q m)
next_some (x ∷ xs) after q s m above least = by (is_above after x) refl (next_some xs after q s.1) (uncons x xs q m)
  where
    by : (b : Bool) → is_above after x ≡ b →
        (Contains xs q → IsTrue (is_above after q) → ((r : Point) → Contains xs r → IsTrue (is_above after r) → point_cmp r q ≢ Less) → next_above xs after ≡ Some q) →
        (x ≡ q) ⊎ Contains xs q → next_above (x ∷ xs) after ≡ Some q
    by true e rest (inl same) = rw e (ap Some same)
    by true e rest (inr n) = absurd (least x (first_member x xs) e (each (λ y. point_cmp x y ≡ Less) xs s.0 q n))
    by false e rest (inl same) = absurd (let k : is_above after x ≡ true = subst (λ z. is_above after z ≡ true) (sym same) above in let c : false ≡ true = sym e ∙ k in cc)
    by false e rest (inr n) = rw e (rest n above (λ r k. least r (later_member x xs r k)))

pub next_none : (xs : List Point) (after : Option Point) → ((r : Point) → Contains xs r → IsTrue (is_above after r) → ⊥) → next_above xs after ≡ None
next_none [] after none = refl
next_none (x ∷ xs) after none = by (is_above after x) refl (next_none xs after (λ r k. none r (later_member x xs r k)))
  where
    by : (b : Bool) → is_above after x ≡ b → next_above xs after ≡ None → next_above (x ∷ xs) after ≡ None
    by true e rest = absurd (none x (first_member x xs) e)
    by false e rest = rw e rest
