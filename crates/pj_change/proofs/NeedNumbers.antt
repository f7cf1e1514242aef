-- The numbers of needs in the hunks of a change.
use Rattle.std.proofs.Common.{◌≡◌, ℕ, zero, suc, ◌≤◌, true, List, length, arith}
use Rattle.std.specs.Prelude.{Contains}
use Rattle.std.proofs.lemmas.List.Elements.{Contains-get_or}
use Rattle.pj_change.specs.declared.hunk.Hunk.{Hunk}
use Rattle.pj_change.specs.declared.hunk.Hunk.TheVariants.{Delete, Revive}
use Rattle.pj_change.specs.declared.change.Record.{Record}
use Rattle.pj_change.specs.Rules.{is_hunk, is_need}
use Rattle.pj_change.specs.Parts.{parts_of}
use Rattle.pj_change.specs.Positions.{numbered}
use Rattle.pj_change.specs.Covers.{by_of}
use Rattle.pj_change.proofs.Members.{no_member, all_member}
use Rattle.pj_change.proofs.HunkLemmas.{hunk_rule, range_rules, need_numbered}

-- the number of a need
pub record IsNeedNumber (needs k : ℕ) : Type 0 where
  pub from : 1 ≤ k
  pub upto : k ≤ needs

-- a number under `by` is one
by_rule : (needs first : ℕ) (h : Hunk) → is_hunk needs first h ≡ true → (k : ℕ) → Contains (by_of h) k → IsNeedNumber needs k
unfolding is_hunk
by_rule needs first (Delete owner start end by) e k m =
    let n = need_numbered needs k (all_member (is_need needs) by k (range_rules needs owner start end by e).by_needs m) in
    record { from = n.0; upto = n.1 }
by_rule needs first (Revive owner start end by) e k m =
    let n = need_numbered needs k (all_member (is_need needs) by k (range_rules needs owner start end by e).by_needs m) in
    record { from = n.0; upto = n.1 }
by_rule needs first h e k m = absurd (no_member k m)

pub by_number : (r : Record) (h : Hunk) → Contains r.change.hunks h → (k : ℕ) → Contains (by_of h) k → IsNeedNumber (length r.change.needs) k
by_number r h m k n = (let rule = hunk_rule (parts_of r.change) r.change.keeps h m in by_rule (length r.change.needs) rule.0 h rule.1 k n)

delete_rule : (needs first owner start end : ℕ) (by : List ℕ) → is_hunk needs first (Delete owner start end by) ≡ true → IsNeedNumber needs owner
unfolding is_hunk
delete_rule needs first owner start end by e = (let r = range_rules needs owner start end by e in record { from = r.owner_from; upto = r.owner_upto })

revive_rule : (needs first owner start end : ℕ) (by : List ℕ) → is_hunk needs first (Revive owner start end by) ≡ true → IsNeedNumber needs owner
unfolding is_hunk
revive_rule needs first owner start end by e = (let r = range_rules needs owner start end by e in record { from = r.owner_from; upto = r.owner_upto })

-- so is the owner of a range
pub delete_owner : (r : Record) (owner start end : ℕ) (by : List ℕ) → Contains r.change.hunks (Delete owner start end by) → IsNeedNumber (length r.change.needs) owner
delete_owner r owner start end by m =
    let rule = hunk_rule (parts_of r.change) r.change.keeps (Delete owner start end by) m in
    delete_rule (length r.change.needs) rule.0 owner start end by rule.1

pub revive_owner : (r : Record) (owner start end : ℕ) (by : List ℕ) → Contains r.change.hunks (Revive owner start end by) → IsNeedNumber (length r.change.needs) owner
revive_owner r owner start end by m =
    let rule = hunk_rule (parts_of r.change) r.change.keeps (Revive owner start end by) m in
    revive_rule (length r.change.needs) rule.0 owner start end by rule.1

-- what such a number means is a need
pub numbered_need : (r : Record) (k : ℕ) → IsNeedNumber (length r.change.needs) k → Contains r.change.needs (numbered r k)
numbered_need r zero h = absurd (let l = h.from in omega (arith, l))
numbered_need r (suc k) h = Contains-get_or r.change.needs k r.name (let l = h.upto in omega (arith, l))
