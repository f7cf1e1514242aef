-- What a decoder has looked at of the bytes left over.
use Rattle.std.proofs.Common.{◌≡◌, ℕ, List, ◌++◌, length, take, drop, Some, sym, ◌∙◌, ap, subst, arith, append_assoc}
use Rattle.std.specs.Prelude.{◌↔◌}
use Rattle.std.proofs.lemmas.List.{take-append-drop, take_all}
use Rattle.pj_wire.specs.declared.stage.Stage.{Stage}
use Rattle.pj_wire.specs.declared.stage.TheConstants.{START}
use Rattle.pj_wire.specs.Requests.{IsPart}
use Rattle.pj_wire.specs.Stages.{Completes, Rest, Moves, IsSeen}
use Rattle.pj_wire.proofs.BehindVerbs.{may_end}

-- nothing was looked at
pub not_seen : (left : List ℕ) → IsSeen left 0 START
not_seen left = record { within = omega arith; allowed = omega arith; to_come = λ more. (λ h. h, λ h. h) }

module _ (left fresh : List ℕ) (seen : ℕ) (stage : Stage) (is : fresh ≡ drop seen left) (known : IsSeen left seen stage) where
  -- what completes the bytes comes behind those that were not looked at
  whole : (more : List ℕ) → take seen left ++ (fresh ++ more) ≡ left ++ more
  whole more =
      ap (λ (s : List ℕ). take seen left ++ (s ++ more)) is ∙ sym (append_assoc (take seen left) (drop seen left) more) ∙ ap (λ (s : List ℕ). s ++ more) (take-append-drop seen left)

  behind : (more : List ℕ) → Completes left more → Rest stage (fresh ++ more)
  behind more h = (known.to_come (fresh ++ more)).0 (h.0, h.1, whole more ∙ h.2)

  back : (more : List ℕ) → Rest stage (fresh ++ more) → Completes left more
  back more r = let h = (known.to_come (fresh ++ more)).1 r in (h.0, h.1, sym (whole more) ∙ h.2)

  -- now all was looked at
  pub looked_on : (next : Stage) → Moves (λ more. Rest stage (fresh ++ more)) (Some next) → IsSeen left (length left) next
  looked_on next moves = record {
    within = omega arith;
    allowed = moves.0;
    to_come = subst (λ (s : List ℕ). (more : List ℕ) → Completes s more ↔ Rest next more) (sym (take_all (length left) left (omega arith)))
        (λ more. (λ h. (moves.1 more).0 (behind more h), λ r. back more ((moves.1 more).1 r)));
  }

  -- and is less than a request
  pub is_part : (next : Stage) → Moves (λ more. Rest stage (fresh ++ more)) (Some next) → IsPart left
  is_part next moves =
      let end = may_end next moves.0 in
      let h = back end.0 ((moves.1 end.0).1 end.1) in
      record { value = h.0; allowed = h.1; missing = end.0; whole = h.2; some = end.2 }
