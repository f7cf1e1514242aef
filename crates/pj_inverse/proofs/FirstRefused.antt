-- The first hunk without an inverse, and that there is none.
use Rattle.std.proofs.Common.{◌≡◌, ℕ, suc, ◌<◌, List, length, take, sym, ◌∙◌, ap, subst, arith}
use Rattle.std.specs.Prelude.{Some, slice_get, OnOk, Result, Ok, Err}
use Rattle.std.proofs.lemmas.Option.{slice_get_within, same_Some}
use Rattle.pj_name.specs.declared.name.Name.{Name}
use Rattle.pj_name.specs.Name.{name_cmp}
use Rattle.pj_name.proofs.Names.{name_cmp-total}
use Rattle.pj_change.specs.declared.hunk.Hunk.{Hunk}
use Rattle.pj_change.specs.declared.change.Record.{Record}
use Rattle.pj_change.specs.Inverse.{IsInverseNeed, AreInverseNeeds, IsUndoable, HasInverse, IsFirstWithoutInverse}
use Rattle.pj_change.proofs.Listings.{one_list}

-- these are the needs of the hunks, and of no others
pub needs_one : (c : Record) (hs : List Hunk) (ms ns : List Name) → AreInverseNeeds c hs ms → AreInverseNeeds c hs ns → ms ≡ ns
needs_one c hs ms ns a b = one_list name_cmp name_cmp-total (IsInverseNeed c hs) (IsInverseNeed c hs) (λ n h. h) (λ n h. h) ms ns a b

-- the hunk cannot be undone
pub first_not_undoable : (c : Record) (k : ℕ) (h : Hunk) → slice_get c.change.hunks k ≡ Some h → (IsUndoable h → ⊥) → ((j : ℕ) → j < k → HasInverse c j) → IsFirstWithoutInverse c k
first_not_undoable c k h there not_so before = record {
  within = slice_get_within c.change.hunks k h there;
  without = λ has. (let same : has.hunk ≡ h = same_Some has.hunk h (sym has.there ∙ there) in not_so (subst (λ (g : Hunk). IsUndoable g) same has.undoable));
  before = before;
}

-- with the hunk there are too many needs
pub first_too_many : (c : Record) (k : ℕ) (h : Hunk) (needs : List Name) → slice_get c.change.hunks k ≡ Some h → AreInverseNeeds c (take (suc k) c.change.hunks) needs → 256 < length needs →
    ((j : ℕ) → j < k → HasInverse c j) → IsFirstWithoutInverse c k
first_too_many c k h needs there are many before = record {
  within = slice_get_within c.change.hunks k h there;
  without = λ has. (let e = ap length (needs_one c (take (suc k) c.change.hunks) has.needs needs has.needs_are are) in let f = has.few in omega (arith, e, f));
  before = before;
}

-- what holds whatever was answered
pub on_ok : {T E : Type 0} (r : Result T E) (P : Type 0) → P → OnOk r P
on_ok (Ok v) P p = p
on_ok (Err e) P p = tt
