-- Members of a list of one, of the front of a list, and of what the rows of a list have.
use Rattle.std.proofs.Common.{◌≡◌, Bool, true, false, ⊎_elim, List, [], ◌∷◌, Option, Some, refl, sym, ap, ◌∙◌, subst}
use Rattle.std.specs.Prelude.{Contains, flat_map, option_to_list}
use Rattle.std.specs.List.{take_while}
use Rattle.pj_change.proofs.Members.{no_member, uncons, first_member, later_member}
use Rattle.pj_change.proofs.PickedMembers.{flat_there}
use Rattle.pj_rows.proofs.Scanned.{while_yes}

pub one_member : {X : Type 0} (x y : X) → Contains (x ∷ []) y → x ≡ y
one_member x y m = ⊎_elim (λ (e : x ≡ y). e) (λ (n : Contains [] y). absurd (no_member y n)) (uncons x [] y m)

pub while_from : {X : Type 0} (p : X → Bool) (xs : List X) (x : X) → Contains (take_while p xs) x → Contains xs x × (p x ≡ true)
while_from p [] x m = absurd (no_member x m)
while_from {X} p (y ∷ ys) x m = by (while_from p ys x) (p y) refl
  where
    by : (Contains (take_while p ys) x → Contains ys x × (p x ≡ true)) → (b : Bool) → p y ≡ b → Contains (y ∷ ys) x × (p x ≡ true)
    by rest true f = ⊎_elim (λ (e : y ≡ x). (subst (Contains (y ∷ ys)) e (first_member y ys), ap p (sym e) ∙ f)) (λ (n : Contains (take_while p ys) x). let r = rest n in (later_member y ys x r.0, r.1)) (uncons y (take_while p ys) x (subst (λ zs. Contains zs x) (while_yes p y ys f) m))
    by rest false f = absurd (no_member x (rw f at m))

-- what the rows of a list have
pub named_there : {X Y : Type 0} (f : X → Option Y) (rows : List X) (m : X) (q : Y) → Contains rows m → f m ≡ Some q → Contains (flat_map (λ r. option_to_list (f r)) rows) q
named_there {X} {Y} f rows m q c e = flat_there (λ (r : X). option_to_list (f r)) rows m q c (subst (λ (o : Option Y). Contains (option_to_list o) q) (sym e) (first_member q []))
