-- The records of the needs of a change.
use Rattle.std.proofs.Common.{◌≡◌, ℕ, zero, suc, ◌-◌, ◌<◌, List, [], ◌∷◌, length, get_or, arith, refl, sym, ap, ◌∙◌}
use Rattle.std.specs.Prelude.{map, Some}
use Rattle.std.specs.declared.sync.Arc.{Arc}
use Rattle.std.specs.Arc.{arc_value}
use Rattle.pj_change.specs.declared.change.Record.{Record}
use Rattle.pj_change.specs.Context.{meant}
use Rattle.pj_change.specs.Shared.{records}
use Rattle.pj_change.proofs.SharedLists.{record_at}
use Rattle.pj_context.specs.Needs.{AreNeeds}

-- as many records as needs
pub length-needs : {Z : Type 0} (c : Record) (pointers : List (Arc Record Z)) → AreNeeds c (records pointers) → length pointers ≡ length c.change.needs
length-needs c pointers are = sym (length-records pointers) ∙ ap length are
  where
    length-records : {Z : Type 0} (ps : List (Arc Record Z)) → length (map (λ (r : Record). r.name) (records ps)) ≡ length ps
    length-records [] = refl
    length-records (p ∷ ps) = ap suc (length-records ps)

-- the record that the number of a need means
pub meant_need : {Z : Type 0} (c : Record) (pointers : List (Arc Record Z)) (owner : ℕ) (p : Arc Record Z) → 0 < owner → owner - 1 < length pointers → p ≡ get_or pointers (owner - 1) p →
    meant c (records pointers) owner ≡ Some (arc_value p)
meant_need c pointers zero p some low is = absurd (omega arith)
meant_need c pointers (suc k) p some low is =
    let e : suc k - 1 ≡ k = omega arith in
    record_at pointers k p (omega arith) ∙ sym (ap (λ q. Some (arc_value q)) (is ∙ ap (λ n. get_or pointers n p) e))
