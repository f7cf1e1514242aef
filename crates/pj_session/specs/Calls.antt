-- Commands that were answered one after the other.
use Rattle.std.specs.Prelude.{◌≡◌, List, [], ◌∷◌}
use Rattle.pj_machine.specs.declared.command.Command.{Command}
use Rattle.pj_machine.specs.declared.limits.Limits.{Limits}
use Rattle.pj_machine.specs.declared.reply.Numbered.{Numbered}
use Rattle.pj_machine.specs.Answered.{Answered}
use Rattle.pj_machine.specs.Call.{PassView}

-- from one state to another these commands had these results, one after the other
abbrev pub Chain : {T : Type 0} → (T → Command → Numbered → T → Type 0) → T → List Command → List Numbered → T → Type 0
Chain {T} Link before [] [] after = after ≡ before
Chain {T} Link before (x ∷ xs) (r ∷ rs) after = (middle : T) × Link before x r middle × Chain Link middle xs rs after
Chain {T} Link before [] (r ∷ rs) after = ⊥
Chain {T} Link before (x ∷ xs) [] after = ⊥

-- these calls of a pass had these results
abbrev pub Calls : Limits → PassView → List Command → List Numbered → PassView → Type 0
Calls limits = Chain (λ a x r b. Answered limits a b x r)
