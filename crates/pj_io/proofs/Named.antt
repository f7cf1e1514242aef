-- What stands under a name, in a map and in the list of its entries.
use Rattle.std.proofs.Common.{◌≡◌, ◌∙◌, ℕ, Bool, true, false, cond, List, [], ◌∷◌, map, Option, Some, refl, ap}
use Rattle.std.specs.Option.{option_map}
use Rattle.std.specs.Map.{lookup}
use Rattle.std.specs.Ordering.{is_eq, nat_cmp}
use Rattle.std.specs.Cmp.Lexicographic.{slice_cmp}
use Rattle.std.specs.Str.{bytes_eq}
use Rattle.std.specs.Prelude.{String, string_bytes}
use Rattle.std.proofs.lemmas.Map.Text.{is_eq-slice_cmp}
use Rattle.pj_io.specs.Plan.{named}

cond-map : {X Y : Type 0} (f : X → Y) (b : Bool) (x : X) (o : Option X)
    → cond b (Some (f x)) (option_map f o) ≡ option_map f (cond b (Some x) o)
cond-map f true x o = refl
cond-map f false x o = refl

-- the entries of a map, seen as lists of bytes, hold what the map holds
pub named-map : {A X Y : Type 0} (f : X → Y) (name : List ℕ) (entries : List (String A × X))
    → named name (map (λ entry. (string_bytes entry.0, f entry.1)) entries)
    ≡ option_map f (lookup (λ key. is_eq (slice_cmp nat_cmp name (string_bytes key))) entries)
named-map f name [] = refl
named-map f name (entry ∷ entries) =
    rw (is_eq-slice_cmp name (string_bytes entry.0))
    (ap (λ rest. cond (bytes_eq name (string_bytes entry.0)) (Some (f entry.1)) rest) (named-map f name entries)
    ∙ cond-map f (bytes_eq name (string_bytes entry.0)) entry.1 _)
