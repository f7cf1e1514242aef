-- What a reader answers, against what stands at the front of its bytes.
use Rattle.std.specs.Prelude.{◌≡◌, List, ℕ, Option, Some, None, Result, Ok, Err}
use Rattle.pj_text.specs.declared.refusal.ReadRefusal.{ReadRefusal}
use Rattle.pj_text.specs.declared.refusal.ReadRefusal.TheVariants.{Malformed, Memory}

-- It answers and leaves just what was found, and Malformed where nothing was, unless memory runs out.
abbrev pub Gives : {X : Type 0} → Result X ReadRefusal → List ℕ → Option (X × List ℕ) → Type 0
Gives (Ok x) left found = found ≡ Some (x, left)
Gives (Err Malformed) left found = found ≡ None
Gives (Err Memory) left found = Unit {0}
