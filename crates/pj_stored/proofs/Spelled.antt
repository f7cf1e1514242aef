-- Strings that spell no request with a reply.
use Rattle.std.proofs.Common.{◌≡◌, ◌≢◌, ◌⊎◌, ℕ, List, [], ◌++◌, sym, ◌∙◌, append-nil, ⊎_elim}
use Rattle.pj_machine.specs.declared.command.Command.{Command}
use Rattle.pj_machine.specs.declared.command.Command.TheVariants.{Quit}
use Rattle.pj_wire.specs.Requests.{spelling, IsRequest, HasNone}
use Rattle.pj_wire.proofs.OneRequest.{one_request}
use Rattle.pj_stored.specs.Answered.{SpellsNoCall}

-- no request stands at its beginning
pub spells_none : (string : List ℕ) → HasNone string → SpellsNoCall string
spells_none string none x call e = none x [] call.allowed (e ∙ sym (append-nil (spelling x)))

-- the request at its beginning is the one to quit, or is not all of it
pub spells_other : (string left : List ℕ) (x : Command) → IsRequest x → string ≡ spelling x ++ left → (x ≡ Quit) ⊎ (left ≢ []) → SpellsNoCall string
spells_other string left x allowed taken either y call e =
    let same = one_request x y left [] allowed call.allowed (sym taken ∙ e ∙ sym (append-nil (spelling y))) in
    ⊎_elim (λ quit. call.replied (sym same.0 ∙ quit)) (λ more. more same.1) either
