-- Runs, step by step, and the changes that they bring.
use Rattle.std.proofs.Common.{◌≡◌, ℕ, ◌<◌, List, [], ◌∷◌, ◌++◌, refl, sym, ◌∙◌, ap, subst, inl, inr, take, drop, suc, length, get_or}
use Rattle.std.specs.Prelude.{Contains, not}
use Rattle.std.specs.Arc.{arc_value}
use Rattle.std.proofs.lemmas.Grind.{flat_map-append}
use Rattle.pj_name.specs.Name.{same_name}
use Rattle.pj_change.specs.declared.change.Record.{Record}
use Rattle.pj_change.specs.Lawful.{is_held}
use Rattle.pj_change.specs.Union.{union}
use Rattle.pj_change.specs.Uproot.{Reaches}
use Rattle.pj_change.proofs.Members.{moved}
use Rattle.pj_change.proofs.LawfulLists.{append_cases, first_part, second_part}
use Rattle.pj_change.specs.declared.operation.Operation.{Operation}
use Rattle.pj_change.specs.declared.operation.Operation.TheVariants.{Apply, Pull, Unrecord, Uproot}
use Rattle.pj_change.specs.Runs.{Leaves, IsRun, brought_by, brought}
use Rattle.pj_change.proofs.PickedMembers.{passed}
use Rattle.pj_change.proofs.TakenLists.{taken_split}
use Rattle.pj_change.proofs.Without.{without_within}

-- one operation more
pub run_push : (list : List Record) (operations : List (Operation (List Record))) (mid : List Record) (operation : Operation (List Record)) (after : List Record) →
    IsRun list operations mid → Leaves mid operation after → IsRun list (operations ++ operation ∷ []) after
run_push list [] mid operation after r l = (after, subst (λ (z : List Record). Leaves z operation after) r l, refl)
run_push list (o ∷ operations) mid operation after r l = (r.0, r.1, run_push r.0 operations mid operation after r.2 l)

-- ---- the changes that are brought

pub union_within : (a b : List Record) (r : Record) → Contains (union a b) r → Contains (a ++ b) r
union_within a b r m = elim (append_cases a _ r m) [
  | inl k ↦ first_part a b r k
  | inr k ↦ second_part a b r (passed (λ c. not (is_held a c.name)) b r k).member
]

-- each change that an operation leaves was there, or the operation brought it
pub leaves_within : (list : List Record) (operation : Operation (List Record)) (after : List Record) → Leaves list operation after → (r : Record) → Contains after r → Contains (list ++ brought_by operation) r
leaves_within list (Apply change) after l r m = elim l [
  | inl k ↦ moved r k.1 m
  | inr k ↦ first_part list (arc_value change ∷ []) r (moved r k.1 m)
]
leaves_within list (Pull other) after l r m = union_within list other r (moved r l m)
leaves_within list (Unrecord name) after l r m = first_part list [] r (elim l [
  | inl k ↦ (passed (λ s. not (same_name s.name name)) list r (moved r k.1 m)).member
  | inr k ↦ moved r k.1 m
])
leaves_within list (Uproot name) after l r m = first_part list [] r (without_within (Reaches list name) list after l r m)

-- each change that a run leaves was there, or the run brought it
pub run_within : (list : List Record) (operations : List (Operation (List Record))) (after : List Record) → IsRun list operations after → (r : Record) → Contains after r → Contains (list ++ brought operations) r
run_within list [] after run r m = first_part list [] r (moved r run m)
run_within list (o ∷ operations) after run r m = elim (append_cases run.0 (brought operations) r (run_within run.0 operations after run.2 r m)) [
  | inl k ↦ elim (append_cases list (brought_by o) r (leaves_within list o run.0 run.1 r k)) [
    | inl j ↦ first_part list (brought_by o ++ brought operations) r j
    | inr j ↦ second_part list (brought_by o ++ brought operations) r (first_part (brought_by o) (brought operations) r j)
  ]
  | inr k ↦ second_part list (brought_by o ++ brought operations) r (second_part (brought_by o) (brought operations) r k)
]

-- ---- at one operation of a list

module _ (operations : List (Operation (List Record))) (i : ℕ) (operation : Operation (List Record)) (low : i < length operations) (is : operation ≡ get_or operations i operation) where
  brought_whole : brought operations ≡ brought (take i operations) ++ (brought_by operation ++ brought (drop (suc i) operations))
  brought_whole = ap brought (taken_split operations i operation low is) ∙ flat_map-append brought_by (take i operations) (operation ∷ drop (suc i) operations)

  -- what a run has and the next operation brings is among all that is brought
  pub brought_within : (channel : List Record) → IsRun [] (take i operations) channel → (r : Record) → Contains (channel ++ brought_by operation) r → Contains (brought operations) r
  brought_within channel run r m = moved r (sym brought_whole) (elim (append_cases channel (brought_by operation) r m) [
    | inl k ↦ first_part (brought (take i operations)) _ r (run_within [] (take i operations) channel run r k)
    | inr k ↦ second_part (brought (take i operations)) _ r (first_part (brought_by operation) (brought (drop (suc i) operations)) r k)
  ])
