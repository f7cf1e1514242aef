-- The touched vertices that are dead, and the rows across their dead sets.
use Rattle.std.proofs.Common.{◌≡◌, ◌↔◌, Bool, ℕ, ◌+◌, ◌<◌, ◌≤◌, List, [], ◌∷◌, ◌++◌, length, get_or, take, sym, ap, ◌∙◌, subst, inl, inr}
use Rattle.std.specs.Prelude.{Contains, Some, IsTrue}
use Rattle.std.proofs.lemmas.List.{take_more, take_all}
use Rattle.std.proofs.lemmas.List.Elements.{Contains-append_left, Contains-push, Contains-push_cases}
use Rattle.pj_change.specs.declared.point.Point.{Point}
use Rattle.pj_change.specs.Gathers.{Gathers, IsOfOne}
use Rattle.pj_change.proofs.DeadPaths.{start_dead, dead_trans}
use Rattle.pj_change.proofs.Gathering.{gathers_alike}
use Rattle.pj_dead.specs.declared.row.PseudoRow.{PseudoRow}
use Rattle.pj_dead.specs.PointGraphs.{PointGraph, IsDead, IsWhole}
use Rattle.pj_dead.specs.DeadRows.{AreOfOneSet, IsRowOfSet}
use Rattle.pj_dead.specs.Touched.{HasPoint, IsTouched, IsRowOfSome}
use Rattle.pj_dead.specs.Searches.{GoesOn, AreRowsOfSets}
use Rattle.pj_dead.proofs.KeptSets.{first_there}
use Rattle.pj_dead.proofs.Searching.{goes_cases}

-- ---- dead vertices that have touched points

-- the vertex has the point, and is dead
abbrev pub IsDeadAt : PointGraph → Point → Point → Type 0
IsDeadAt g p v = HasPoint g p v × IsDead g v

-- the vertex that has the point is gathered if it is dead
pub dead_one : (g : PointGraph) → IsWhole g → (p at : Point) → g.first p ≡ Some at → (b : Bool) → b ≡ g.dead at → (old new : List Point) → Gathers (λ v. IsTrue b × (at ≡ v)) old new → Gathers (IsDeadAt g p) old new
dead_one g lawful p at has b is old new h = gathers_alike (λ v. IsTrue b × (at ≡ v)) (IsDeadAt g p) old new
    (λ v k. (has ∙ ap Some k.1, subst (IsDead g) k.1 (record { vertex = first_there g lawful p at has; dead = sym is ∙ k.0 })))
    (λ v d. (let same : at ≡ v = (let e = sym has ∙ d.0 in cc) in (is ∙ ap g.dead same ∙ d.1.dead, same)))
    h

-- a dead vertex that has one of the points is a touched one, and the other way round
pub touched_dead : (g : PointGraph) (touched : List Point) (v : Point) → IsOfOne (IsDeadAt g) touched v ↔ (IsTouched g touched v × IsDead g v)
touched_dead g touched v = (
  λ o. (record { point = o.one; member = o.member; first = o.is.0 }, o.is.1),
  λ t. record { one = t.0.point; member = t.0.member; is = (t.0.first, t.1) },
)

-- ---- dead sets, each once

module _ (g : PointGraph) where
  set_dead : (s : Point) (row : PseudoRow) → IsRowOfSet g s row → IsDead g s
  set_dead s row r = start_dead r.joined

  module _ (starts seen : List Point) (rows : List PseudoRow) (are : AreRowsOfSets g starts seen rows) (at : Point) where
    more_start : (row : PseudoRow) → IsRowOfSome g (Contains starts) row → IsRowOfSome g (Contains (starts ++ at ∷ [])) row
    more_start row r = record { one = r.one; is = Contains-append_left starts (at ∷ []) r.one r.is; of_set = r.of_set }

    -- the set of this one adds no row
    sets_same : ((row : PseudoRow) → IsRowOfSet g at row → IsRowOfSome g (Contains starts) row) → AreRowsOfSets g (starts ++ at ∷ []) seen rows
    sets_same covered = record {
      rows_are = λ row. (
        λ m. more_start row ((are.rows_are row).0 m),
        λ r. elim (Contains-push_cases starts at r.one r.is) [
          | inl o ↦ (are.rows_are row).1 (record { one = r.one; is = o; of_set = r.of_set })
          | inr e ↦ (are.rows_are row).1 (covered row (subst (λ z. IsRowOfSet g z row) (sym e) r.of_set))
        ],
      );
      seen_are = λ v m. (let k = are.seen_are v m in (k.0, Contains-append_left starts (at ∷ []) k.0 k.1, k.2));
    }

    -- its set was seen
    pub sets_seen : Contains seen at → AreRowsOfSets g (starts ++ at ∷ []) seen rows
    sets_seen m = sets_same (λ row r. (let k = are.seen_are at m in record { one = k.0; is = k.1; of_set = record { entry = r.entry; joined = dead_trans k.2 r.joined; is = r.is } }))

    -- its set is new
    pub sets_more : (set seen_now : List Point) (rows_now : List PseudoRow) → ((v : Point) → Contains set v ↔ AreOfOneSet g at v) → Gathers (IsRowOfSet g at) rows rows_now → GoesOn (Contains set) seen seen_now →
        AreRowsOfSets g (starts ++ at ∷ []) seen_now rows_now
    sets_more set seen_now rows_now of_set made found = record {
      rows_are = λ row. (
        λ m. elim (made.only row m) [
          | inl o ↦ more_start row ((are.rows_are row).0 o)
          | inr r ↦ record { one = at; is = Contains-push starts at; of_set = r }
        ],
        λ r. elim (Contains-push_cases starts at r.one r.is) [
          | inl o ↦ made.kept row ((are.rows_are row).1 (record { one = r.one; is = o; of_set = r.of_set }))
          | inr e ↦ made.all row (subst (λ z. IsRowOfSet g z row) (sym e) r.of_set)
        ],
      );
      seen_are = λ v m. elim (goes_cases (Contains set) seen seen_now found v m) [
        | inl o ↦ (let k = are.seen_are v o in (k.0, Contains-append_left starts (at ∷ []) k.0 k.1, k.2))
        | inr n ↦ (at, Contains-push starts at, (of_set v).0 n)
      ];
    }

  -- ---- all of them

  pub sets_next : (starts seen : List Point) (rows : List PseudoRow) (i : ℕ) (at d : Point) → i < length starts → at ≡ get_or starts i d → AreRowsOfSets g (take i starts ++ at ∷ []) seen rows → AreRowsOfSets g (take (i + 1) starts) seen rows
  sets_next starts seen rows i at d low is are = subst (λ l. AreRowsOfSets g l seen rows) (ap (λ z. take i starts ++ z ∷ []) is ∙ sym (take_more starts i d low)) are

  pub sets_all : (starts seen : List Point) (rows : List PseudoRow) (i : ℕ) → length starts ≤ i → AreRowsOfSets g (take i starts) seen rows → (P : Point → Type 0) → ((v : Point) → Contains starts v ↔ (P v × IsDead g v)) →
      (row : PseudoRow) → Contains rows row ↔ IsRowOfSome g P row
  sets_all starts seen rows i l are P same row =
      let all : AreRowsOfSets g starts seen rows = subst (λ z. AreRowsOfSets g z seen rows) (take_all i starts l) are in (
        λ m. (let r = (all.rows_are row).0 m in record { one = r.one; is = ((same r.one).0 r.is).0; of_set = r.of_set }),
        λ r. (all.rows_are row).1 (record { one = r.one; is = (same r.one).1 (r.is, set_dead r.one row r.of_set); of_set = r.of_set }),
      )
