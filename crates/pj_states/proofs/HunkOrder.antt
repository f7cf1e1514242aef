-- The order of hunks, and what a table says by a hunk.
use Rattle.std.proofs.Common.{◌≡◌, ◌∙◌, sym, ap, subst, refl, true, false, Contains, Some}
use Rattle.std.specs.Ordering.{is_lt, nat_cmp, ordering_then}
use Rattle.std.specs.declared.cmp.Ordering.{Ordering}
use Rattle.std.specs.declared.cmp.Ordering.TheVariants.{Less, Equal, Greater}
use Rattle.pj_name.specs.declared.name.Name.{Name}
use Rattle.pj_name.specs.Name.{name_cmp, name_below}
use Rattle.pj_name.proofs.Names.{name_cmp-total}
use Rattle.pj_change.proofs.EqualNames.{name_tied, offset_tied}
use Rattle.pj_pmap.specs.Pairs.{IsRising}
use Rattle.pj_pmap.proofs.Lookups.{contains_value, value_contains}
use Rattle.pj_ranges.specs.declared.range.HunkAt.{HunkAt}
use Rattle.pj_ranges.specs.Units.{hunk_cmp}
use Rattle.pj_ranges.proofs.RangeOrder.{hunk_total}
use Rattle.pj_states.specs.declared.deletion.Deletion.{Deletion}
use Rattle.pj_states.specs.Rows.{Rows, said_by}

-- hunks that the order does not tell apart are one
pub hunk_tied : (a b : HunkAt) → hunk_cmp a b ≡ Equal → a ≡ b
hunk_tied a b h = by (name_cmp a.change b.change) refl
  where
    by : (o : Ordering) → name_cmp a.change b.change ≡ o → a ≡ b
    by Less f = absurd (let g : hunk_cmp a b ≡ Less = ap (λ o. ordering_then o (nat_cmp a.hunk b.hunk)) f in let c : Less ≡ Equal = sym g ∙ h in cc)
    by Greater f = absurd (let g : hunk_cmp a b ≡ Greater = ap (λ o. ordering_then o (nat_cmp a.hunk b.hunk)) f in let c : Greater ≡ Equal = sym g ∙ h in cc)
    by Equal f =
        let g : nat_cmp a.hunk b.hunk ≡ Equal = sym (ap (λ o. ordering_then o (nat_cmp a.hunk b.hunk)) f) ∙ h in
        let n = name_tied a.change b.change f in
        let k = offset_tied a.hunk b.hunk g in
        λ i. record { change = n i; hunk = k i }

-- ---- pairs of a table

pub said_there : (rows : Rows) → IsRising hunk_cmp rows → (e : HunkAt × Deletion) → Contains rows e → said_by e.0 rows ≡ Some e.1
said_there rows r e m = contains_value hunk_cmp hunk_total rows e r m

pub there_said : (rows : Rows) (k : HunkAt) (d : Deletion) → said_by k rows ≡ Some d → Contains rows (k, d)
there_said rows k d h =
    let c = value_contains hunk_cmp hunk_total k d rows h in
    let same : k ≡ c.0 = hunk_tied k c.0 c.1 in
    subst (λ (j : HunkAt). Contains rows (j, d)) (sym same) c.2

-- ---- names

-- a name that is not below another is not below one that is
pub not_below_lower : (n k r : Name) → name_below n k ≡ false → name_below r k ≡ true → name_below n r ≡ false
not_below_lower n k r h low = by (name_cmp n r) refl (name_cmp r k) refl
  where
    by : (o : Ordering) → name_cmp n r ≡ o → (u : Ordering) → name_cmp r k ≡ u → name_below n r ≡ false
    by Less f Less g = absurd (let t : name_cmp n k ≡ Less = name_cmp-total.trans n r k f g in let c : true ≡ false = sym (ap is_lt t) ∙ h in cc)
    by Less f Equal g = absurd (let c : false ≡ true = sym (ap is_lt g) ∙ low in cc)
    by Less f Greater g = absurd (let c : false ≡ true = sym (ap is_lt g) ∙ low in cc)
    by Equal f u g = ap is_lt f
    by Greater f u g = ap is_lt f
