-- The walk for the hunk with the least name whose version survives.
use Rattle.std.proofs.Common.{◌≡◌, ◌∙◌, sym, ap, refl, Bool, true, false, ◌&&◌, ◌⊎◌, inl, inr, List, Option, Some, None}
use Rattle.std.specs.Prelude.{MatchOption}
use Rattle.std.proofs.lemmas.Bool.{and_parts}
use Rattle.pj_name.specs.declared.name.Name.{Name}
use Rattle.pj_name.specs.Name.{name_below}
use Rattle.pj_change.specs.declared.point.Point.{Point}
use Rattle.pj_change.proofs.LeastNames.{not_below_itself}
use Rattle.pj_rows.specs.declared.values.Here.{Here}
use Rattle.pj_ranges.specs.declared.range.HunkAt.{HunkAt}
use Rattle.pj_ranges.specs.declared.range.RangeAt.{RangeAt}
use Rattle.pj_ranges.specs.Over.{IsOver}
use Rattle.pj_ranges.proofs.Walked.{IsStep}
use Rattle.pj_states.specs.declared.deletion.Deletion.{Deletion}
use Rattle.pj_states.specs.Rows.{Rows}
use Rattle.pj_states.specs.Survivals.{survives_in, is_name_after, is_before, SurvivesIn, IsNextHunk}
use Rattle.pj_states.specs.Index.{range_by, AreIndexed}
use Rattle.pj_states.proofs.HunkOrder.{not_below_lower}
use Rattle.pj_states.proofs.Walked.{IsHere, IsToCome, here_after, to_come_first, to_come_then, over_said, said_over}

module _ (rows : Rows) (es : List (RangeAt × Here)) (p : Point) (after : Option Name) where
  -- the hunk covers the point, its version survives, and its name is above the bound
  abbrev pub IsFound : Option HunkAt → Type 0
  IsFound None = Unit {0}
  IsFound (Some k) = (d : Deletion) × SurvivesIn rows p k d × (is_name_after after k.change ≡ true)

  -- it is the least of those before the next range
  pub record IsNearest (next : Option RangeAt) (found : Option HunkAt) : Type 0 where
    pub here : IsHere es p next
    pub one : IsFound found
    pub seen :
        (q : RangeAt) → IsOver es p None q → survives_in rows q.by.change p ≡ true → is_name_after after q.by.change ≡ true →
        (is_before q.by.change found ≡ false) ⊎ IsToCome es p next q

  pub nearest_starts : (n : Option RangeAt) → IsStep es p None n → IsNearest n None
  nearest_starts n s = record { here = here_after es p None n s; one = tt; seen = λ q o a b. inr (to_come_first es p n s q o) }

  -- a name that is not before the hunk that was found is not before a lesser one
  not_before_lower : (found : Option HunkAt) (n r : Name) → is_before n found ≡ false → is_before r found ≡ true → name_below n r ≡ false
  not_before_lower None n r h low = absurd (let c : true ≡ false = h in cc)
  not_before_lower (Some k) n r h low = not_below_lower n k.change r h low

  module _ (x : AreIndexed rows es) (r : RangeAt) (n : Option RangeAt) (found : Option HunkAt) (w : IsNearest (Some r) found) (s : IsStep es p (Some r) n) where
    abbrev test : Bool
    test = is_name_after after r.by.change && is_before r.by.change found && survives_in rows r.by.change p

    pub nearest_taken : test ≡ true → IsNearest n (Some r.by)
    nearest_taken t =
        let a = and_parts (is_name_after after r.by.change && is_before r.by.change found) (survives_in rows r.by.change p) t in
        let b = and_parts (is_name_after after r.by.change) (is_before r.by.change found) a.0 in
        let said = over_said rows es x p r w.here in
        record {
          here = here_after es p (Some r) n s;
          one = (said.0, record { there = said.1; covered = said.2; survives_it = a.1 }, b.0);
          seen = λ q o sv up. elim (w.seen q o sv up) [
            | inl h ↦ inl (not_before_lower found q.by.change r.by.change h b.1)
            | inr k ↦ elim (to_come_then es p r n s q o k) [
              | inl same ↦ inl (ap (λ (y : RangeAt). name_below y.by.change r.by.change) same ∙ not_below_itself r.by.change)
              | inr later ↦ inr later
            ]
          ];
        }

    pub nearest_left : test ≡ false → IsNearest n found
    nearest_left t = record {
      here = here_after es p (Some r) n s;
      one = w.one;
      seen = λ q o sv up. elim (w.seen q o sv up) [
        | inl h ↦ inl h
        | inr k ↦ elim (to_come_then es p r n s q o k) [
          | inl same ↦ inl (ap (λ (y : RangeAt). is_before y.by.change found) same
              ∙ passed (ap (λ (y : RangeAt). is_name_after after y.by.change) (sym same) ∙ up) (ap (λ (y : RangeAt). survives_in rows y.by.change p) (sym same) ∙ sv))
          | inr later ↦ inr later
        ]
      ];
    }
      where
        passed : is_name_after after r.by.change ≡ true → survives_in rows r.by.change p ≡ true → is_before r.by.change found ≡ false
        passed a b = by (is_before r.by.change found) refl
          where
            by : (v : Bool) → is_before r.by.change found ≡ v → is_before r.by.change found ≡ false
            by true f = absurd (let g : test ≡ true = rw (a, f, b) refl in let c : true ≡ false = sym g ∙ t in cc)
            by false f = f

  pub nearest_ends : AreIndexed rows es → (found : Option HunkAt) → IsNearest None found →
      MatchOption found ((k : HunkAt) (d : Deletion) → SurvivesIn rows p k d → is_name_after after k.change ≡ true → ⊥) (IsNextHunk rows p after)
  nearest_ends x None w = λ k d s up. elim (w.seen (range_by k d) (said_over rows es x p k d s.there s.covered) s.survives_it up) [ inl h ↦ (let c : true ≡ false = h in cc) | inr none ↦ none ]
  nearest_ends x (Some k) w = record {
    deletion = w.one.0;
    one = w.one.1;
    above = w.one.2;
    first = λ j d s up. elim (w.seen (range_by j d) (said_over rows es x p j d s.there s.covered) s.survives_it up) [ inl h ↦ h | inr none ↦ absurd none ];
  }
