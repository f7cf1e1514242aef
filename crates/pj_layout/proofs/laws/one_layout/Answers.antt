use Rattle.std.proofs.Common.{refl}
use Rattle.std.specs.Prelude.{IsTrue}
use Rattle.std.specs.List.{range_with_len}
use Rattle.pj_change.proofs.OneLayout.{layout_one}
use Rattle.pj_layout.proofs.Existence.{layout_exists}
use Rattle.pj_layout.proofs.Predecessors.{range_sorted}
use Rattle.pj_layout.proofs.laws.one_layout.Goals as goal

pub returns : goal.returns
returns c = λ before strict n.
    let laid = layout_exists before strict 64 0 refl (range_with_len 0 n) (range_sorted n) in
    (laid.0, laid.1, (λ t other. layout_one (λ x y. IsTrue (before x y)) (λ x y b d. strict.irreflexive x (strict.transitive x y x b d)) 0 (range_with_len 0 n) t laid.0 other laid.1))
