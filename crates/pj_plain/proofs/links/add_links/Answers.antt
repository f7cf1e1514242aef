use Rattle.std.proofs.Common.{◌≡◌, ℕ, refl, sym, ◌∙◌, length, arith}
use Rattle.std.specs.Prelude.{Some, slice_get, ◌≢◌}
use Rattle.std.proofs.lemmas.Option.{slice_get_read}
use Rattle.pj_change.specs.declared.point.Place.TheVariants as placed
use Rattle.pj_change.specs.declared.graph.Label.TheVariants as label
use Rattle.pj_change.specs.Vertices.{last_point}
use Rattle.pj_plain.specs.Links.{IsLinkFrom}
use Rattle.pj_change.proofs.Gathering.{numbers_more, numbers_all}
use Rattle.pj_change.proofs.EqualNames.{same_place_is}
use Rattle.pj_plain.proofs.EdgeLinks.{not_leaving, source_added, source_elsewhere, edge_added}
use Rattle.pj_plain.proofs.links.add_links.Goals.{then-leaves+in_ok-add_targets, else-leaves}
use Rattle.pj_plain.proofs.links.add_links.Goals as goal

pub loop-from-preserved : goal.loop-from-preserved
loop-from-preserved c =
    let vs = c.args.vertices.now in
    let edge = c.args.edge.now in
    let from = c.loop-from.from in
    let u = c.index-vertices-from.result in
    let there : slice_get vs from ≡ Some u = slice_get_read vs (length vs) from u refl c.loop-from-test.true c.index-vertices-from.is in
    let old = c.args.links.now.items in
    let middle = c.loop-from.links.items in
    let P : ℕ → ℕ × ℕ → Type 0 = IsLinkFrom vs edge in
    elim c.if-leaves.branch [
      | then-leaves+in_ok-add_targets w ↦ rw w.links-is (
          let last : edge.source ≡ placed.At (last_point u) = same_place_is edge.source (placed.At (last_point u)) (sym c.leaves.ensures ∙ w.if-leaves.true) in
          let new = w.add_targets.new.links.items in
          numbers_more P from old middle new c.loop-from.invariant (source_added vs edge from u there last middle new w.in_ok-add_targets.ensures))
      | else-leaves w ↦ rw w.links-is (
          let none : edge.source ≡ placed.At (last_point u) → ⊥ = not_leaving edge.source (last_point u) (sym c.leaves.ensures ∙ w.if-leaves.false) in
          numbers_more P from old middle middle c.loop-from.invariant (source_elsewhere vs edge from u there none middle))
    ]

pub returns : goal.returns
returns c =
    let vs = c.args.vertices.now in
    let edge = c.args.edge.now in
    let all : length vs ≡ c.loop-from.from = omega arith in
    let other : edge.label ≢ label.Folder = c.is_of_text.ensures.0 c.if-not-is_of_text.false in
    edge_added vs edge other c.args.links.now.items c.loop-from.links.items
    (numbers_all (IsLinkFrom vs edge) c.loop-from.from (length vs) all c.args.links.now.items c.loop-from.links.items c.loop-from.invariant)
