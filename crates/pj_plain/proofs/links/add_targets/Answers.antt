use Rattle.std.proofs.Common.{◌≡◌, ℕ, refl, sym, ◌∙◌, length}
use Rattle.std.specs.Prelude.{Some, slice_get}
use Rattle.std.proofs.lemmas.Option.{slice_get_read}
use Rattle.pj_change.specs.Vertices.{first_point}
use Rattle.pj_plain.specs.Links.{IsTargetAt}
use Rattle.pj_change.proofs.Gathering.{numbers_more}
use Rattle.pj_plain.proofs.EdgeLinks.{not_at, target_added, target_elsewhere}
use Rattle.pj_change.proofs.EqualNames.{same_point_is}
use Rattle.pj_plain.proofs.links.add_targets.Goals.{then-begins_at+in_ok-push, else-begins_at}
use Rattle.pj_plain.proofs.links.add_targets.Goals as goal

pub loop-to-preserved : goal.loop-to-preserved
loop-to-preserved c =
    let vs = c.args.vertices.now in
    let to = c.loop-to.to in
    let v = c.index-vertices-to.result in
    let there : slice_get vs to ≡ Some v = slice_get_read vs (length vs) to v refl c.loop-to-test.true c.index-vertices-to.is in
    let middle = c.loop-to.links.items in
    let P : ℕ → ℕ × ℕ → Type 0 = IsTargetAt vs c.args.from c.args.target in
    elim c.if-begins_at.branch [
      | then-begins_at+in_ok-push w ↦ rw w.links-is (
          let first : first_point v ≡ c.args.target = same_point_is (first_point v) c.args.target (sym c.begins_at.ensures ∙ w.if-begins_at.true) in
          numbers_more P to c.args.links.now.items middle w.push.new.self.items c.loop-to.invariant
          (target_added vs c.args.from c.args.target to v there first middle w.push.new.self.items w.in_ok-push.ensures.items))
      | else-begins_at w ↦ rw w.links-is (
          let none : first_point v ≡ c.args.target → ⊥ = not_at (first_point v) c.args.target (sym c.begins_at.ensures ∙ w.if-begins_at.false) in
          numbers_more P to c.args.links.now.items middle middle c.loop-to.invariant (target_elsewhere vs c.args.from c.args.target to v there none middle))
    ]
