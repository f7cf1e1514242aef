-- What `surviving` answers is the next of the list of the set.
use Rattle.std.proofs.Common.{◌≡◌, ◌∙◌, sym, ap, refl, Bool, true, false, ◌⊎◌, inl, inr, List, [], ◌∷◌, Option, Some, None, find}
use Rattle.std.specs.Prelude.{Contains, MatchOption}
use Rattle.std.specs.Ordering.{is_lt}
use Rattle.std.specs.declared.cmp.Ordering.{Ordering}
use Rattle.std.specs.declared.cmp.Ordering.TheVariants.{Less}
use Rattle.std.specs.List.Sorted.{IsStrictlySortedBy}
use Rattle.pj_change.specs.declared.point.Point.{Point}
use Rattle.pj_change.specs.declared.version.Version.{Version}
use Rattle.pj_change.specs.declared.change.Record.{Record}
use Rattle.pj_change.specs.SurvivingVersions.{version_cmp, AreSurvivors}
use Rattle.pj_change.proofs.Members.{uncons, first_member, later_member, no_member, each}
use Rattle.pj_pmap.specs.Pairs.{IsRising}
use Rattle.pj_ranges.specs.Units.{hunk_cmp}
use Rattle.pj_states.specs.Rows.{Rows}
use Rattle.pj_states.specs.Survivals.{comes_after, IsSurvivorIn, IsNextSurvivor}
use Rattle.pj_states.specs.OfSets.{AreVersionsOf}
use Rattle.pj_states.proofs.OfSets.{survivor_of_set, survivor_in_table}

module _ {X : Type 0} (test : X → Bool) where
  none_found : (xs : List X) → ((y : X) → Contains xs y → test y ≡ true → ⊥) → find test xs ≡ None
  none_found [] none = refl
  none_found (x ∷ xs) none = by (none_found xs (λ y m. none y (later_member x xs y m))) (test x) refl
    where
      by : find test xs ≡ None → (b : Bool) → test x ≡ b → find test (x ∷ xs) ≡ None
      by rest true f = absurd (none x (first_member x xs) f)
      by rest false f = rw f rest

  -- the first that passes is the least that does
  least_found : (cmp : X → X → Ordering) (xs : List X) → IsStrictlySortedBy cmp xs → (v : X) → Contains xs v → test v ≡ true →
      ((w : X) → Contains xs w → test w ≡ true → is_lt (cmp w v) ≡ false) → find test xs ≡ Some v
  unfolding IsStrictlySortedBy
  least_found cmp [] s v m t first = absurd (no_member v m)
  least_found cmp (x ∷ xs) s v m t first = by (least_found cmp xs s.1 v) (uncons x xs v m) (test x) refl
    where
      by : (Contains xs v → test v ≡ true → ((w : X) → Contains xs w → test w ≡ true → is_lt (cmp w v) ≡ false) → find test xs ≡ Some v) →
          (x ≡ v) ⊎ Contains xs v → (b : Bool) → test x ≡ b → find test (x ∷ xs) ≡ Some v
      by rest (inl same) true f = rw f (ap Some same)
      by rest (inl same) false f = absurd (let c : false ≡ true = sym f ∙ ap test same ∙ t in cc)
      by rest (inr later) true f = absurd (
          let low : cmp x v ≡ Less = each (λ y. cmp x y ≡ Less) xs s.0 v later in
          let c : true ≡ false = sym (ap is_lt low) ∙ first x (first_member x xs) f in
          cc)
      by rest (inr later) false f = rw f (rest later t (λ w n. first w (later_member x xs w n)))

module _ (S : List Record) (rows : Rows) (rising : IsRising hunk_cmp rows) (of : AreVersionsOf S rows) (p : Point) (after : Option Version) where
  pub next_listed : (r : Option Version) → MatchOption r ((v : Version) → IsSurvivorIn rows p v → comes_after after v ≡ true → ⊥) (IsNextSurvivor rows p after) →
      (versions : List Version) → AreSurvivors S p versions → r ≡ find (comes_after after) versions
  next_listed None a versions l = sym (none_found (comes_after after) versions (λ v m up. a v (survivor_in_table S rows rising of p v (l.only v m)) up))
  next_listed (Some v) a versions l =
      sym (least_found (comes_after after) version_cmp versions l.sorted v (l.all v (survivor_of_set S rows rising of p v a.one)) a.above
      (λ w m up. a.first w (survivor_in_table S rows rising of p w (l.only w m)) up))
