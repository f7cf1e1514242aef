-- Tests and look-ups over shared records are those over the records.
use Rattle.std.proofs.Common.{◌≡◌, List, [], ◌∷◌, refl, sym, ap, Bool, true, false, Bor}
use Rattle.std.specs.Prelude.{◌||◌, find, Option, Some, None, MatchOption}
use Rattle.std.specs.Option.{option_map}
use Rattle.std.specs.List.{list_any, AllZip}
use Rattle.std.specs.Arc.{arc_value}
use Rattle.std.specs.declared.sync.Arc.{Arc}
use Rattle.pj_change.specs.declared.change.Record.{Record}
use Rattle.pj_change.specs.Shared.{records}

pub any-records : {Z : Type 0} (p : Record → Bool) (shared : List (Arc Record Z)) → list_any (λ (a : Arc Record Z). p (arc_value a)) shared ≡ list_any p (records shared)
any-records p [] = refl
any-records p (a ∷ shared) = ap (λ b. p (arc_value a) || b) (any-records p shared)

found_first : {Z : Type 0} (p : Record → Bool) (a : Arc Record Z) (shared : List (Arc Record Z)) (b : Bool) → p (arc_value a) ≡ b →
    option_map arc_value (find (λ (s : Arc Record Z). p (arc_value s)) shared) ≡ find p (records shared) →
    option_map arc_value (find (λ (s : Arc Record Z). p (arc_value s)) (a ∷ shared)) ≡ find p (records (a ∷ shared))
found_first p a shared true e rest = rw e refl
found_first p a shared false e rest = rw e rest

pub find-records : {Z : Type 0} (p : Record → Bool) (shared : List (Arc Record Z)) →
    option_map arc_value (find (λ (a : Arc Record Z). p (arc_value a)) shared) ≡ find p (records shared)
find-records p [] = refl
find-records p (a ∷ shared) = found_first p a shared (p (arc_value a)) refl (find-records p shared)

-- what a look-up gives, by cases
pub found_cases : {Z : Type 0} (o : Option (Bor (Arc Record Z))) (m : Option Record) → option_map arc_value (option_map (λ (r : Bor (Arc Record Z)). r.now) o) ≡ m →
    MatchOption o (m ≡ None) (λ r. m ≡ Some (arc_value r.now))
found_cases None m e = sym e
found_cases (Some r) m e = sym e

-- a clone shares the same record
pub shared_clones : {Z : Type 0} (list clones : List (Arc Record Z)) → AllZip (λ a b. arc_value b ≡ arc_value a) list clones → records clones ≡ records list
shared_clones [] [] h = refl
shared_clones [] (b ∷ clones) h = absurd h
shared_clones (a ∷ list) [] h = absurd h
shared_clones (a ∷ list) (b ∷ clones) h = λ i. h.0 i ∷ shared_clones list clones h.1 i
