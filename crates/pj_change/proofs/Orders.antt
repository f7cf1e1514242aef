-- The orders of points, places, vertices, edges and children are total.
use Rattle.std.proofs.Common.{◌≡◌, refl}
use Rattle.std.specs.Cmp.{IsTotalOrder, nat_cmp_total}
use Rattle.std.specs.declared.cmp.Ordering.TheVariants.{Less, Equal}
use Rattle.std.specs.Ordering.{ordering_reverse}
use Rattle.std.proofs.lemmas.Cmp.{on_total, then_total, nat_list_cmp_total}
use Rattle.pj_name.proofs.Names.{name_cmp-total}
use Rattle.pj_change.specs.declared.point.Place.{Place}
use Rattle.pj_change.specs.declared.point.Place.TheVariants.{Root, At}
use Rattle.pj_change.specs.Graph.{point_cmp, place_cmp, vertex_cmp, edge_cmp, label_rank}
use Rattle.pj_change.specs.Vertices.{first_point}
use Rattle.pj_change.specs.Children.{child_cmp}

pub point_total : IsTotalOrder point_cmp
point_total = then_total (on_total (λ p. p.change) name_cmp-total) (on_total (λ p. p.offset) nat_cmp_total)

place_antisymm : (x y : Place) → place_cmp x y ≡ ordering_reverse (place_cmp y x)
place_antisymm Root Root = refl
place_antisymm Root (At q) = refl
place_antisymm (At p) Root = refl
place_antisymm (At p) (At q) = point_total.antisymm p q

place_trans : (x y z : Place) → place_cmp x y ≡ Less → place_cmp y z ≡ Less → place_cmp x z ≡ Less
place_trans Root Root z a b = b
place_trans Root (At q) Root a b = absurd (cc)
place_trans Root (At q) (At r) a b = refl
place_trans (At p) Root z a b = absurd (cc)
place_trans (At p) (At q) Root a b = absurd (cc)
place_trans (At p) (At q) (At r) a b = point_total.trans p q r a b

place_congr : (x y z : Place) → place_cmp x y ≡ Equal → place_cmp x z ≡ place_cmp y z
place_congr Root Root z e = refl
place_congr Root (At q) z e = absurd (cc)
place_congr (At p) Root z e = absurd (cc)
place_congr (At p) (At q) Root e = refl
place_congr (At p) (At q) (At r) e = point_total.congr p q r e

pub place_total : IsTotalOrder place_cmp
place_total = record { antisymm = place_antisymm; trans = place_trans; congr = place_congr }

pub vertex_total : IsTotalOrder vertex_cmp
vertex_total = on_total first_point point_total

pub edge_total : IsTotalOrder edge_cmp
edge_total =
    then_total (on_total (λ e. e.source) place_total)
    (then_total (on_total (λ e. e.target) point_total) (then_total (on_total (λ e. label_rank e.label) nat_cmp_total) (on_total (λ e. e.introducer) name_cmp-total)))

pub child_total : IsTotalOrder child_cmp
child_total = then_total (on_total (λ c. c.bytes) nat_list_cmp_total) (on_total (λ c. c.inode) point_total)
