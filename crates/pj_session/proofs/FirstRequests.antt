-- Requests with which bytes begin are the first ones of all.
use Rattle.std.proofs.Common.{◌≡◌, ℕ, Bool, true, false, List, [], ◌∷◌, ◌++◌, All, refl, sym, ◌∙◌, ap, append_assoc, append-nil}
use Rattle.std.proofs.lemmas.List.Elements.{All-head, All-tail}
use mathlib.Core.List.{IsPrefix}
use Rattle.pj_machine.specs.declared.command.Command.{Command}
use Rattle.pj_machine.specs.declared.command.Command.TheVariants.{Quit}
use Rattle.pj_wire.specs.Requests.{spelling, spellings, quitting, IsCall, HasNone, Begins, HasRequests}
use Rattle.pj_wire.proofs.OneRequest.{one_request}

from_spellings : (xs ys : List Command) (quit : Bool) (rest left : List ℕ) → All IsCall xs → All IsCall ys → (quit ≡ false → HasNone left)
    → spellings xs ++ rest ≡ spellings ys ++ (quitting quit ++ left) → IsPrefix xs ys
from_spellings [] ys quit rest left calls others none e = (ys, refl)
from_spellings (x ∷ xs) [] true rest left calls others none e =
    let call = All-head IsCall x xs calls in
    absurd (call.replied (one_request x Quit (spellings xs ++ rest) left call.allowed tt (sym (append_assoc (spelling x) (spellings xs) rest) ∙ e)).0)
from_spellings (x ∷ xs) [] false rest left calls others none e =
    absurd (none refl x (spellings xs ++ rest) (All-head IsCall x xs calls).allowed (sym e ∙ append_assoc (spelling x) (spellings xs) rest))
from_spellings (x ∷ xs) (y ∷ ys) quit rest left calls others none e =
    let same = one_request x y (spellings xs ++ rest) (spellings ys ++ (quitting quit ++ left)) (All-head IsCall x xs calls).allowed (All-head IsCall y ys others).allowed
    (sym (append_assoc (spelling x) (spellings xs) rest) ∙ e ∙ append_assoc (spelling y) (spellings ys) (quitting quit ++ left)) in
    let more = from_spellings xs ys quit rest left (All-tail IsCall x xs calls) (All-tail IsCall y ys others) none same.1 in
    (more.0, ap (λ z. z ∷ (xs ++ more.0)) same.0 ∙ ap (λ t. y ∷ t) more.1)

pub first_requests : (bytes rest left : List ℕ) (xs ys : List Command) (quit : Bool) → Begins bytes xs false rest → HasRequests bytes ys quit left → IsPrefix xs ys
first_requests bytes rest left xs ys quit b h = from_spellings xs ys quit rest left b.each h.begins.each h.no_more
    (ap (λ t. t ++ rest) (sym (append-nil (spellings xs))) ∙ sym b.whole ∙ h.begins.whole ∙ append_assoc (spellings ys) (quitting quit) left)
