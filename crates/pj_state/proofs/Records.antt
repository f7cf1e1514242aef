-- Look-ups in a store of changes.
use Rattle.std.proofs.Common.{◌≡◌, ◌+◌, ℕ, List, [], ◌∷◌, ◌++◌, refl, sym, ◌∙◌, ap, Bool, true, false, cond}
use Rattle.std.specs.Prelude.{Option, Some, None, Result, Ok, Err, IfOk, if◌then◌else◌}
use Rattle.std.specs.Option.{option_map, option_or, is_some}
use Rattle.std.specs.Result.{is_err}
use Rattle.std.specs.HashMap.{HashMap, Updates, get}
use Rattle.std.specs.declared.sync.Arc.{Arc}
use Rattle.std.specs.Arc.{arc_value}
use Rattle.std.proofs.lemmas.List.Folds.{find-append}
use Rattle.pj_name.specs.declared.name.Name.{Name}
use Rattle.pj_name.specs.Name.{same_name}
use Rattle.pj_name.proofs.Names.{same_name-decides}
use Rattle.pj_change.specs.declared.change.Record.{Record}
use Rattle.pj_change.specs.Lawful.{record_of}
use Rattle.pj_state.specs.Records.{record_in}

choose : {Z : Type 0} (b : Bool) (a : Arc Record Z) (o : Option (Arc Record Z)) → option_map arc_value (cond b (Some a) o) ≡ cond b (Some (arc_value a)) (option_map arc_value o)
choose true a o = refl
choose false a o = refl

-- where a record is put under its name
pub record_with : {Z S : Type 0} (k : Name) (a : Arc Record Z) (old new : HashMap Name (Arc Record Z) S) → Updates same_name old new k (Some a) → (name : Name) →
    record_in new.entries name ≡ cond (same_name k name) (Some (arc_value a)) (record_in old.entries name)
record_with k a old new updates name =
    ap (option_map arc_value) (updates.0 name)
    ∙ choose (same_name k name) a (get same_name old name)

-- no record of the name is no value under it
pub no_value : {A B : Type 0} (f : A → B) (o : Option A) → option_map f o ≡ None → o ≡ None
no_value f None e = refl
no_value f (Some a) e = absurd (cc)

-- what was put under a name that had no value is one more
pub one_more : {A E : Type 0} (r : Result (Option A) E) (n m : ℕ) (before : Option A) → IfOk r (λ old. n ≡ m + (if is_some old then 0 else 1)) → IfOk r (λ old. old ≡ before) →
    before ≡ None → is_err r ≡ false → n ≡ m + 1
one_more (Ok old) n m before more was none well = more ∙ ap (λ o. m + (if is_some o then 0 else 1)) (was ∙ none)
one_more (Err x) n m before more was none well = absurd (cc)

-- after one more record
pub record_push : (store : List Record) (r : Record) (name : Name) → record_of store r.name ≡ None → record_of (store ++ r ∷ []) name ≡ cond (same_name r.name name) (Some r) (record_of store name)
record_push store r name none = find-append (λ x. same_name x.name name) store (r ∷ []) ∙ go (same_name r.name name) refl
  where
    at_end : (b : Bool) → same_name r.name name ≡ b → record_of (r ∷ []) name ≡ cond b (Some r) None
    at_end true h = rw h refl
    at_end false h = rw h refl

    or_none : (o : Option Record) → option_or o None ≡ o
    or_none None = refl
    or_none (Some x) = refl

    go : (b : Bool) → same_name r.name name ≡ b → option_or (record_of store name) (record_of (r ∷ []) name) ≡ cond (same_name r.name name) (Some r) (record_of store name)
    go true h =
        let is : r.name ≡ name = (same_name-decides r.name name).0 h in
        let gone : record_of store name ≡ None = ap (record_of store) (sym is) ∙ none in
        ap (option_or (record_of store name)) (at_end true h) ∙ ap (λ o. option_or o (Some r)) gone ∙ sym (ap (λ b. cond b (Some r) (record_of store name)) h)
    go false h =
        ap (option_or (record_of store name)) (at_end false h) ∙ or_none (record_of store name) ∙ sym (ap (λ b. cond b (Some r) (record_of store name)) h)
