-- What was found for eight lines stands in a list of eight.
use Rattle.std.proofs.Common.{◌≡◌, ℕ, zero, suc, ◌<◌, List, [], ◌∷◌, length, get_or, ap, arith}
use Rattle.std.proofs.lemmas.List.{get_or_default}
use Rattle.pj_gen.specs.declared.telling.Found.{Found}
use Rattle.pj_load.specs.declared.seeing.Printed.{Printed}

pub found_at : (prints : List Printed) (k : ℕ) (d r : Printed) → k < length prints → (get_or prints k d).found ≡ (get_or prints k r).found
found_at prints k d r lt = ap (λ (p : Printed). p.found) (get_or_default prints k d r lt)

pub eight_found : (P : ℕ → Found → Type 0) (a b c d e f g h m : Found) → P 0 a → P 1 b → P 2 c → P 3 d → P 4 e → P 5 f → P 6 g → P 7 h
    → (l : ℕ) → l < 8 → P l (get_or (a ∷ b ∷ c ∷ d ∷ e ∷ f ∷ g ∷ h ∷ []) l m)
eight_found P a b c d e f g h m pa pb pc pd pe pf pg ph zero lt = pa
eight_found P a b c d e f g h m pa pb pc pd pe pf pg ph (suc zero) lt = pb
eight_found P a b c d e f g h m pa pb pc pd pe pf pg ph (suc (suc zero)) lt = pc
eight_found P a b c d e f g h m pa pb pc pd pe pf pg ph (suc (suc (suc zero))) lt = pd
eight_found P a b c d e f g h m pa pb pc pd pe pf pg ph (suc (suc (suc (suc zero)))) lt = pe
eight_found P a b c d e f g h m pa pb pc pd pe pf pg ph (suc (suc (suc (suc (suc zero))))) lt = pf
eight_found P a b c d e f g h m pa pb pc pd pe pf pg ph (suc (suc (suc (suc (suc (suc zero)))))) lt = pg
eight_found P a b c d e f g h m pa pb pc pd pe pf pg ph (suc (suc (suc (suc (suc (suc (suc zero))))))) lt = ph
eight_found P a b c d e f g h m pa pb pc pd pe pf pg ph (suc (suc (suc (suc (suc (suc (suc (suc l)))))))) lt = absurd (omega (arith, lt))
