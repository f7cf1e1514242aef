-- Shared records as lists: their names, and one more at the end.
use Rattle.std.proofs.Common.{◌≡◌, ℕ, ◌+◌, ◌<◌, List, [], ◌∷◌, ◌++◌, refl, ◌∙◌, ap, arith, map, take, drop, zero, suc, length, get_or, Option, Some, None}
use Rattle.std.specs.Prelude.{Bool, ◌&&◌, slice_get}
use Rattle.std.specs.List.{filter_map, list_all}
use Rattle.std.specs.Arc.{arc_value}
use Rattle.std.specs.declared.sync.Arc.{Arc}
use Rattle.std.proofs.lemmas.List.{map-append}
use Rattle.std.proofs.lemmas.List.Elements.{filter_map-append}
use Rattle.pj_change.specs.declared.change.Record.{Record}
use Rattle.pj_change.specs.Shared.{records}
use Rattle.pj_change.proofs.TakenLists.{taken_more, taken_split}

pub map-records : {Y Z : Type 0} (f : Record → Y) (shared : List (Arc Record Z)) → map (λ (a : Arc Record Z). f (arc_value a)) shared ≡ map f (records shared)
map-records f [] = refl
map-records f (a ∷ shared) = ap (λ l. f (arc_value a) ∷ l) (map-records f shared)

pub all-records : {Z : Type 0} (p : Record → Bool) (shared : List (Arc Record Z)) → list_all (λ (a : Arc Record Z). p (arc_value a)) shared ≡ list_all p (records shared)
all-records p [] = refl
all-records p (a ∷ shared) = ap (λ b. p (arc_value a) && b) (all-records p shared)

module _ {X Y : Type 0} (h : X → Option Y) (xs : List X) (i : ℕ) (x : X) (low : i < length xs) (is : x ≡ get_or xs i x) where
  pub filter_map_more : (y : Y) → h x ≡ Some y → filter_map h (take (i + 1) xs) ≡ filter_map h (take i xs) ++ y ∷ []
  filter_map_more y e = ap (filter_map h) (taken_more xs i x low is) ∙ filter_map-append h (take i xs) (x ∷ []) ∙ ap (λ l. filter_map h (take i xs) ++ l) (let k : filter_map h (x ∷ []) ≡ y ∷ [] = rw e refl in k)

  pub filter_map_same : h x ≡ None → filter_map h (take (i + 1) xs) ≡ filter_map h (take i xs) ++ []
  filter_map_same e = ap (filter_map h) (taken_more xs i x low is) ∙ filter_map-append h (take i xs) (x ∷ []) ∙ ap (λ l. filter_map h (take i xs) ++ l) (let k : filter_map h (x ∷ []) ≡ [] = rw e refl in k)

-- one shared record more from the front
module _ {Z : Type 0} (shared : List (Arc Record Z)) (i : ℕ) (a : Arc Record Z) (low : i < length shared) (is : a ≡ get_or shared i a) where
  pub records_more : records (take (i + 1) shared) ≡ records (take i shared) ++ arc_value a ∷ []
  records_more = ap records (taken_more shared i a low is) ∙ map-append arc_value (take i shared) (a ∷ [])

  pub records_split : records shared ≡ records (take i shared) ++ arc_value a ∷ records (drop (suc i) shared)
  records_split = ap records (taken_split shared i a low is) ∙ map-append arc_value (take i shared) (a ∷ drop (suc i) shared)

-- the record at a place of shared ones
pub record_at : {Z : Type 0} (pointers : List (Arc Record Z)) (k : ℕ) (d : Arc Record Z) → k < length pointers → slice_get (records pointers) k ≡ Some (arc_value (get_or pointers k d))
record_at [] k d low = absurd (omega arith)
record_at (p ∷ ps) zero d low = refl
record_at (p ∷ ps) (suc k) d low = record_at ps k d (omega arith)
