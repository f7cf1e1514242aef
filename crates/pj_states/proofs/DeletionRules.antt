-- What the rules of a change say of the ranges that its hunks delete or revive.
use Rattle.std.proofs.Common.{◌≡◌, subst, ℕ, ◌<◌, ◌≤◌, true, false, List, Some, map, length}
use Rattle.std.specs.Prelude.{Contains}
use Rattle.pj_change.specs.declared.hunk.Hunk.{Hunk}
use Rattle.pj_change.specs.declared.hunk.Hunk.TheVariants.{File, Dir, NameOf, Insert, Order, Delete, Revive}
use Rattle.pj_change.specs.declared.change.Record.{Record}
use Rattle.pj_change.specs.Parts.{parts_of}
use Rattle.pj_change.specs.Positions.{numbered}
use Rattle.pj_change.specs.Rules.{is_need}
use Rattle.pj_change.proofs.HunkLemmas.{hunk_rule, RangeRules, need_numbered, delete_rules, revive_rules}
use Rattle.pj_change.proofs.Members.{all_member}
use Rattle.pj_states.specs.declared.deletion.Deletion.{Deletion}
use Rattle.pj_states.specs.OfSets.{deletion_of}

module _ (r : Record) where
  pub deleted : (owner start end : ℕ) (by : List ℕ) → Contains r.change.hunks (Delete owner start end by) → RangeRules (length r.change.needs) owner start end by
  deleted owner start end by m =
      let rule = hunk_rule (parts_of r.change) r.change.keeps (Delete owner start end by) m in
      delete_rules (length r.change.needs) rule.0 owner start end by rule.1

  pub revived : (owner start end : ℕ) (by : List ℕ) → Contains r.change.hunks (Revive owner start end by) → RangeRules (length r.change.needs) owner start end by
  revived owner start end by m =
      let rule = hunk_rule (parts_of r.change) r.change.keeps (Revive owner start end by) m in
      revive_rules (length r.change.needs) rule.0 owner start end by rule.1

  -- what a hunk says is of some positions
  pub some_said : (h : Hunk) (d : Deletion) → Contains r.change.hunks h → deletion_of r h ≡ Some d → d.start < d.end
  some_said (Delete owner start end by) d m e =
      let x : Deletion = record { owner = numbered r owner; start = start; end = end; by = map (numbered r) by; alive = false } in
      let s : x ≡ d = cc in
      subst (λ (y : Deletion). y.start < y.end) s (deleted owner start end by m).nonempty
  some_said (Revive owner start end by) d m e =
      let x : Deletion = record { owner = numbered r owner; start = start; end = end; by = map (numbered r) by; alive = true } in
      let s : x ≡ d = cc in
      subst (λ (y : Deletion). y.start < y.end) s (revived owner start end by m).nonempty
  some_said (File parent name exec) d m e = absurd (cc)
  some_said (Dir parent name) d m e = absurd (cc)
  some_said (NameOf parent child name exec) d m e = absurd (cc)
  some_said (Insert file ups downs bytes) d m e = absurd (cc)
  some_said (Order file source target) d m e = absurd (cc)

-- the numbers under `by` are of needs
pub by_within : (needs owner start end : ℕ) (by : List ℕ) → RangeRules needs owner start end by → (number : ℕ) → Contains by number → number ≤ needs
by_within needs owner start end by rules number m = (need_numbered needs number (all_member (is_need needs) by number rules.by_needs m)).1
