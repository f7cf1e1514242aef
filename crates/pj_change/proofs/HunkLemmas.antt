-- Each hunk of a change keeps its rules at the place where it stands, and what that says of the numbers of its references.
use Rattle.std.proofs.Common.{◌≡◌, ℕ, ◌+◌, ◌<◌, ◌≤◌, ◌^◌, true, List, length, take, get_or, refl, sym, ap, ◌∙◌, arith, nat_lt}
use Rattle.std.specs.Prelude.{Contains, sum_by}
use Rattle.std.specs.List.{list_all}
use Rattle.std.proofs.lemmas.Bool.{and_parts}
use Rattle.std.proofs.lemmas.Bool.Decides.{nat_tests}
use Rattle.std.proofs.lemmas.List.Folds.{list_all-append}
use Rattle.pj_change.specs.declared.point.Ref.{Ref}
use Rattle.pj_change.specs.declared.point.Ref.TheVariants as ref
use Rattle.pj_change.specs.declared.hunk.Hunk.{Hunk}
use Rattle.pj_change.specs.declared.hunk.Hunk.TheVariants.{File, Dir, NameOf, Insert, Order, Delete, Revive}
use Rattle.pj_change.specs.Text.{Parts}
use Rattle.pj_change.specs.Rules.{IsChange, position_count, is_hunk, are_refs, is_ref, is_range, are_owners, is_need, rising}
use Rattle.pj_change.specs.Positions.{place, IsNumbered}
pub use Rattle.pj_change.specs.Weight.{refs_of}
use Rattle.pj_change.proofs.RuleLemmas.{are_hunks_more, are_hunks-take}
use Rattle.pj_change.proofs.Members.{all_member}

-- hunk k of a change keeps its rules at its place
pub hunk_rule_at : (p : Parts) → IsChange p → (k : ℕ) (h : Hunk) → k < length p.hunks → h ≡ get_or p.hunks k h → is_hunk (length p.needs) (place p.hunks k) h ≡ true
hunk_rule_at p c k h low is =
    let first = sym (are_hunks_more (length p.needs) 0 p.hunks k h low) ∙ are_hunks-take (length p.needs) 0 p.hunks (k + 1) c.hunks in
    let from : 0 + sum_by position_count (take k p.hunks) ≡ place p.hunks k = omega arith in
    ap (is_hunk (length p.needs) (place p.hunks k)) is ∙ sym (ap (λ n. is_hunk (length p.needs) n (get_or p.hunks k h)) from) ∙ (and_parts _ _ first).1

-- a hunk of a change keeps its rules at some place
pub hunk_rule : (p : Parts) → IsChange p → (h : Hunk) → Contains p.hunks h → (first : ℕ) × (is_hunk (length p.needs) first h ≡ true)
hunk_rule p c h (k, low, is) = (place p.hunks k, hunk_rule_at p c k h low (sym is))

-- ---- references

-- each reference of a hunk keeps the rule of one
pub refs_rule : (needs first : ℕ) (h : Hunk) → is_hunk needs first h ≡ true → list_all (is_ref needs first) (refs_of h) ≡ true
unfolding is_hunk are_refs
refs_rule needs first (File parent name exec) h = grind (arith, h)
refs_rule needs first (Dir parent name) h = grind (arith, h)
refs_rule needs first (NameOf parent child name exec) h = grind (arith, h)
refs_rule needs first (Insert file ups downs bytes) h = grind (arith, h, list_all-append (is_ref needs first) ups downs)
refs_rule needs first (Order file source target) h = grind (arith, h)
refs_rule needs first (Delete owner start end by) h = refl
refs_rule needs first (Revive owner start end by) h = refl

-- the number of a reference is at most the number of needs
pub ref_numbered : (needs first : ℕ) (at : Ref) → is_ref needs first at ≡ true → IsNumbered needs at
unfolding is_ref
ref_numbered needs first ref.Root h = tt
ref_numbered needs first (ref.At owner offset) h = grind (arith, nat_tests)

-- an offset is below 2 ^ 32
pub ref_offset : (needs first owner offset : ℕ) → is_ref needs first (ref.At owner offset) ≡ true → offset < 2 ^ 32
unfolding is_ref
ref_offset needs first owner offset h = grind (arith, nat_tests)

-- the references of a change's hunks can be resolved
pub refs_numbered : (p : Parts) → IsChange p → (h : Hunk) (at : Ref) → Contains p.hunks h → Contains (refs_of h) at → IsNumbered (length p.needs) at
refs_numbered p c h at there in_hunk =
    let (first, rule) = hunk_rule p c h there in
    ref_numbered (length p.needs) first at (all_member (is_ref (length p.needs) first) (refs_of h) at (refs_rule (length p.needs) first h rule) in_hunk)

-- ---- ranges

-- what the rules say of a range that is deleted or revived
pub record RangeRules (needs owner start end : ℕ) (by : List ℕ) : Type 0 where
  pub owner_from : 1 ≤ owner
  pub owner_upto : owner ≤ needs
  pub nonempty : start < end
  pub small : end < 2 ^ 32
  pub some_by : 1 ≤ length by
  pub few_by : length by ≤ 64
  pub by_rise : rising nat_lt by ≡ true
  pub by_needs : list_all (is_need needs) by ≡ true

pub range_rules : (needs owner start end : ℕ) (by : List ℕ) → is_range needs owner start end by ≡ true → RangeRules needs owner start end by
unfolding is_range are_owners is_need
range_rules needs owner start end by h = record {
  owner_from = grind (arith, nat_tests);
  owner_upto = grind (arith, nat_tests);
  nonempty = grind (arith, nat_tests);
  small = grind (arith, nat_tests);
  some_by = grind (arith, nat_tests);
  few_by = grind (arith, nat_tests);
  by_rise = grind (arith, h);
  by_needs = grind (arith, h);
}

pub delete_rules : (needs first owner start end : ℕ) (by : List ℕ) → is_hunk needs first (Delete owner start end by) ≡ true → RangeRules needs owner start end by
unfolding is_hunk
delete_rules needs first owner start end by h = range_rules needs owner start end by h

pub revive_rules : (needs first owner start end : ℕ) (by : List ℕ) → is_hunk needs first (Revive owner start end by) ≡ true → RangeRules needs owner start end by
unfolding is_hunk
revive_rules needs first owner start end by h = range_rules needs owner start end by h

-- the number of a need is from 1 to the number of needs
pub need_numbered : (needs k : ℕ) → is_need needs k ≡ true → (1 ≤ k) × (k ≤ needs)
unfolding is_need
need_numbered needs k h = (grind (arith, nat_tests), grind (arith, nat_tests))
