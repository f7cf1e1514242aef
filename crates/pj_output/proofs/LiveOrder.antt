-- The order of live text, by file and then by first point.
use Rattle.std.proofs.Common.{◌≡◌, ◌⊎◌}
use Rattle.std.specs.Cmp.{IsTotalOrder}
use Rattle.std.specs.Ordering.{is_eq}
use Rattle.std.specs.declared.cmp.Ordering.TheVariants.{Less, Equal}
use Rattle.std.proofs.lemmas.Cmp.{on_total, then_total}
use Rattle.pj_change.specs.Graph.{point_cmp, vertex_cmp}
use Rattle.pj_change.specs.declared.point.Point.{Point}
use Rattle.pj_change.proofs.Orders.{point_total, vertex_total}
use Rattle.pj_tree.proofs.Ties.{same_point-is_eq}
use Rattle.pj_output.specs.declared.live_text.LiveVertex.{LiveVertex}
use Rattle.pj_output.specs.LiveText.{live_cmp, is_of}
use Rattle.pj_output.proofs.KeySlices.{first_part}

pub live_total : IsTotalOrder live_cmp
live_total = then_total (on_total (λ e. e.inode) point_total) (on_total (λ e. e.vertex) vertex_total)

pub file_first : (d e : LiveVertex) → live_cmp d e ≡ Less → (point_cmp d.inode e.inode ≡ Less) ⊎ (point_cmp d.inode e.inode ≡ Equal)
file_first d e h = first_part (point_cmp d.inode e.inode) (vertex_cmp d.vertex e.vertex) h

pub of_file : (inode : Point) (e : LiveVertex) → is_of inode e ≡ is_eq (point_cmp e.inode inode)
of_file inode e = same_point-is_eq e.inode inode
