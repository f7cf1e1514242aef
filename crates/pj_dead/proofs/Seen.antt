-- A list of points and the set of its members.
use Rattle.std.proofs.Common.{◌≡◌, ◌∙◌, sym, ap, subst, refl, inl, inr, Bool, true, false, List, [], ◌∷◌, ◌++◌, cond, length, ◌<◌, arith}
use Rattle.std.specs.Prelude.{Contains, ◌≢◌, not}
use Rattle.std.specs.BTreeSet.{BTreeSet, contains, IsLowerBound}
use Rattle.std.specs.Ordering.{is_eq, is_gt, ordering_reverse}
use Rattle.std.specs.declared.cmp.Ordering.{Ordering}
use Rattle.std.specs.declared.cmp.Ordering.TheVariants.{Less, Equal, Greater}
use Rattle.std.proofs.lemmas.Cmp.{tied_itself}
use Rattle.std.proofs.lemmas.List.Elements.{Contains-append_left, Contains-push, Contains-push_cases}
use Rattle.pj_change.specs.declared.point.Point.{Point}
use Rattle.pj_change.specs.Graph.{point_cmp}
use Rattle.pj_change.proofs.Members.{first_member}
use Rattle.pj_change.proofs.Orders.{point_total}
use Rattle.pj_change.proofs.EqualNames.{point_tied}
use Rattle.pj_dead.specs.Searches.{AreSeen, GoesOn}
use Rattle.pj_dead.proofs.Searching.{goes_nowhere, goes_by_one}

pub equal_is : (o : Ordering) → is_eq o ≡ true → o ≡ Equal
equal_is Less h = absurd (cc)
equal_is Equal h = refl
equal_is Greater h = absurd (cc)

pub seen_more : (list : List Point) (old new : BTreeSet Point) (p : Point) → AreSeen list old → ((q : Point) → contains point_cmp new q ≡ cond (is_eq (point_cmp p q)) true (contains point_cmp old q)) → AreSeen (list ++ p ∷ []) new
seen_more list old new p are update q = by (is_eq (point_cmp p q)) refl (update q)
  where
    by : (b : Bool) → is_eq (point_cmp p q) ≡ b → contains point_cmp new q ≡ cond (is_eq (point_cmp p q)) true (contains point_cmp old q) → (contains point_cmp new q ≡ true → Contains (list ++ p ∷ []) q) × (Contains (list ++ p ∷ []) q → contains point_cmp new q ≡ true)
    by true e u = (
      λ h. subst (Contains (list ++ p ∷ [])) (point_tied p q (equal_is (point_cmp p q) e)) (Contains-push list p),
      λ m. (rw e at u),
    )
    by false e u =
        let f : contains point_cmp new q ≡ contains point_cmp old q = rw e at u in (
          λ h. Contains-append_left list (p ∷ []) q ((are q).0 (sym f ∙ h)),
          λ m. elim (Contains-push_cases list p q m) [
            | inl o ↦ f ∙ (are q).1 o
            | inr s ↦ absurd (let t : is_eq (point_cmp p q) ≡ true = subst (λ z. is_eq (point_cmp p z) ≡ true) s (ap is_eq (tied_itself point_total p)) in cc)
          ],
        )

-- ---- the least point

pub none_seen : (list : List Point) (seen : BTreeSet Point) → AreSeen list seen → (0 < length seen.keys → ⊥) → list ≡ []
none_seen [] seen are none = refl
none_seen (x ∷ xs) seen are none = absurd (by seen.keys refl)
  where
    by : (keys : List Point) → seen.keys ≡ keys → ⊥
    by [] e = (let t = (are x).1 (first_member x xs) in let f : contains point_cmp seen x ≡ false = rw e refl in cc)
    by (k ∷ ks) e = none (let l = ap length e in omega arith)

module _ (list : List Point) (seen : BTreeSet Point) (are : AreSeen list seen) (least : Point) (there : contains point_cmp seen least ≡ true) (lower : IsLowerBound point_cmp seen least) where
  pub least_seen : Contains list least × ((p : Point) → Contains list p → point_cmp p least ≢ Less)
  least_seen = (
    (are least).0 there,
    λ p m less.
        let g : is_gt (point_cmp least p) ≡ true = ap is_gt (point_total.antisymm least p ∙ ap ordering_reverse less) in
        let f : is_gt (point_cmp least p) ≡ false = lower p ((are p).1 m) in
        cc,
  )

-- ---- one point more

module _ (list : List Point) (seen : BTreeSet Point) (are : AreSeen list seen) (p : Point) where
  pub goes_seen : contains point_cmp seen p ≡ true → GoesOn (λ q. p ≡ q) list list
  goes_seen h = goes_nowhere (λ q. p ≡ q) list (λ q e. subst (Contains list) e ((are p).0 h))

  pub goes_new : contains point_cmp seen p ≡ false → GoesOn (λ q. p ≡ q) list (list ++ p ∷ [])
  goes_new h = goes_by_one (λ q. p ≡ q) list p refl (λ q e. e) (λ m. (let t = (are p).1 m in let f : true ≡ false = sym t ∙ h in cc))

pub was_there : (b c : Bool) → b ≡ not c → b ≡ false → c ≡ true
was_there b true e h = refl
was_there b false e h = absurd (let f : true ≡ false = sym e ∙ h in cc)

pub was_new : (b c : Bool) → b ≡ not c → b ≡ true → c ≡ false
was_new b true e h = absurd (let f : false ≡ true = sym e ∙ h in cc)
was_new b false e h = refl
