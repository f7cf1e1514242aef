-- What two functions make of the members of a list.
use Rattle.std.proofs.Common.{List, [], ◌∷◌, map}
use Rattle.std.specs.Prelude.{Contains}
use Rattle.std.specs.List.{AllZip}
use Rattle.pj_change.proofs.Members.{first_member, later_member}

-- two functions of one list
pub zipped : {X Y Z : Type 0} (R : Y → Z → Type 0) (f : X → Y) (g : X → Z) (xs : List X) → ((x : X) → Contains xs x → R (f x) (g x)) → AllZip R (map f xs) (map g xs)
zipped R f g [] each = tt
zipped R f g (x ∷ xs) each = (each x (first_member x xs), zipped R f g xs (λ y m. each y (later_member x xs y m)))
