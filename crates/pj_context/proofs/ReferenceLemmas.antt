-- The hunks of a change keep to its needs.
use Rattle.std.proofs.Common.{◌≡◌, ℕ, ◌<◌, ◌≤◌, true, List, [], ◌∷◌, ◌++◌, length, get_or, sym, subst}
use Rattle.std.specs.Prelude.{Contains, All}
use Rattle.std.specs.List.{list_all}
use Rattle.std.proofs.lemmas.List.Elements.{Contains-get_or, Contains-append_left, Contains-append_right}
use Rattle.pj_change.specs.declared.point.Ref.{Ref}
use Rattle.pj_change.specs.declared.hunk.Hunk.{Hunk}
use Rattle.pj_change.specs.declared.hunk.Hunk.TheVariants.{File, Dir, NameOf, Insert, Order, Delete, Revive}
use Rattle.pj_change.specs.declared.change.Record.{Record}
use Rattle.pj_change.specs.Rules.{is_need}
use Rattle.pj_change.specs.Parts.{parts_of}
use Rattle.pj_change.specs.Positions.{IsNumbered}
use Rattle.pj_change.proofs.HunkLemmas.{RangeRules, hunk_rule, need_numbered, refs_of, refs_numbered, delete_rules, revive_rules}
use Rattle.pj_change.proofs.Members.{first_member, later_member, all_member}
use Rattle.pj_context.specs.References.{RefersWithin}

module _ (r : Record) where
  -- a reference of a hunk
  one : (h : Hunk) (at : Ref) → Contains r.change.hunks h → Contains (refs_of h) at → IsNumbered (length r.change.needs) at
  one h at there in_hunk = refs_numbered (parts_of r.change) r.change.keeps h at there in_hunk

  -- the numbers under `by`
  by_needs : (needs : ℕ) (by : List ℕ) → list_all (is_need needs) by ≡ true → All (λ k. k ≤ needs) by
  by_needs needs by all k d low = (need_numbered needs _ (all_member (is_need needs) by _ all (Contains-get_or by k d low))).1

  range_within : (needs owner start end : ℕ) (by : List ℕ) → RangeRules needs owner start end by → (owner ≤ needs) × (start < end) × All (λ k. k ≤ needs) by
  range_within needs owner start end by rules = (rules.owner_upto, rules.nonempty, by_needs needs by rules.by_needs)

  -- the references of a hunk of a change mean the change itself or one of its needs
  pub refers_within : (h : Hunk) → Contains r.change.hunks h → RefersWithin (length r.change.needs) h
  refers_within (File parent name exec) there = one (File parent name exec) parent there (first_member parent [])
  refers_within (Dir parent name) there = one (Dir parent name) parent there (first_member parent [])
  refers_within (NameOf parent child name exec) there =
      let h = NameOf parent child name exec in
      (one h parent there (first_member parent (child ∷ [])), one h child there (later_member parent (child ∷ []) child (first_member child [])))
  refers_within (Insert file ups downs bytes) there =
      let h = Insert file ups downs bytes in
      let behind = λ (at : Ref) (m : Contains (ups ++ downs) at). one h at there (later_member file (ups ++ downs) at m) in (
        one h file there (first_member file (ups ++ downs)),
        λ k d low. behind (get_or ups k d) (Contains-append_left ups downs (get_or ups k d) (Contains-get_or ups k d low)),
        λ k d low. behind (get_or downs k d) (Contains-append_right ups downs (get_or downs k d) (Contains-get_or downs k d low)),
      )
  refers_within (Order file source target) there =
      let h = Order file source target in (
        one h file there (first_member file (source ∷ target ∷ [])),
        one h source there (later_member file (source ∷ target ∷ []) source (first_member source (target ∷ []))),
        one h target there (later_member file (source ∷ target ∷ []) target (later_member source (target ∷ []) target (first_member target []))),
      )
  refers_within (Delete owner start end by) there =
      let rule = hunk_rule (parts_of r.change) r.change.keeps (Delete owner start end by) there in
      range_within (length r.change.needs) owner start end by (delete_rules (length r.change.needs) rule.0 owner start end by rule.1)
  refers_within (Revive owner start end by) there =
      let rule = hunk_rule (parts_of r.change) r.change.keeps (Revive owner start end by) there in
      range_within (length r.change.needs) owner start end by (revive_rules (length r.change.needs) rule.0 owner start end by rule.1)

  -- and of the hunk at a place
  pub refers_within_at : (hunks : List Hunk) (k : ℕ) (h : Hunk) → hunks ≡ r.change.hunks → k < length hunks → h ≡ get_or hunks k h → RefersWithin (length r.change.needs) h
  refers_within_at hunks k h same low is = refers_within h (subst (λ hs. Contains hs h) same (k, low, sym is))
