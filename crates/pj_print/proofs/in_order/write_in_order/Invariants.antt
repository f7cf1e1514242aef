use Rattle.std.proofs.Common.{◌≡◌, drop, map}
use Rattle.pj_change.specs.MarkedText.{put_each, put_piece}
use Rattle.pj_print.specs.InOrder.{no_marking}
use Rattle.pj_print.proofs.in_order.write_in_order.Given as goal

abbrev pub invariant-loop-at : goal.invariant-loop-at
invariant-loop-at g l = put_each (map (λ at. put_piece (g.T.Texts.piece l.texts at)) (drop l.at-index l.order)) l.runs ≡ put_each (map (λ at. put_piece (g.T.Texts.piece l.texts at)) l.order) no_marking
