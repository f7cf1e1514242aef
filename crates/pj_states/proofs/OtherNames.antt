-- A version survives where no hunk has its change under `by`.
use Rattle.std.proofs.Common.{◌≡◌, ◌∙◌, sym, ap, refl, Bool, true, false, not, ◌&&◌}
use Rattle.std.specs.Prelude.{Contains}
use Rattle.pj_name.specs.declared.name.Name.{Name}
use Rattle.pj_change.specs.declared.point.Point.{Point}
use Rattle.pj_change.proofs.Members.{none_passes}
use Rattle.pj_pmap.specs.Pairs.{IsRising}
use Rattle.pj_ranges.specs.declared.range.HunkAt.{HunkAt}
use Rattle.pj_ranges.specs.Units.{hunk_cmp}
use Rattle.pj_states.specs.declared.deletion.Deletion.{Deletion}
use Rattle.pj_states.specs.Rows.{Rows, said_by, said_has_by, covers_point, has_by}
use Rattle.pj_states.specs.Survivals.{survives_in}
use Rattle.pj_states.proofs.HunkOrder.{said_there}

pub not_overruled : (rows : Rows) → IsRising hunk_cmp rows → (name : Name) (test : Bool) → ((k : HunkAt) → said_has_by (said_by k rows) name ≡ true → test ≡ true) → test ≡ false → (p : Point) → true ≡ survives_in rows name p
not_overruled rows rising name test all fails p = sym (ap not (none_passes (λ e. covers_point e.1 p && has_by e.1 name) rows passes_none))
  where
    unnamed : (e : HunkAt × Deletion) → Contains rows e → (b : Bool) → has_by e.1 name ≡ b → has_by e.1 name ≡ false
    unnamed e m true h = absurd (let t : test ≡ true = all e.0 (ap (λ s. said_has_by s name) (said_there rows rising e m) ∙ h) in let c : false ≡ true = sym fails ∙ t in cc)
    unnamed e m false h = h

    and_false : (b : Bool) → (b && false) ≡ false
    and_false true = refl
    and_false false = refl

    passes_none : (e : HunkAt × Deletion) → Contains rows e → (covers_point e.1 p && has_by e.1 name) ≡ false
    passes_none e m = ap (λ b. covers_point e.1 p && b) (unnamed e m (has_by e.1 name) refl) ∙ and_false (covers_point e.1 p)
