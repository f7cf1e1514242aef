use Rattle.std.proofs.Common.{◌≡◌}
use Rattle.std.specs.Prelude.{◌≢◌, IsTrue}
use Rattle.pj_view.specs.Added.{IsOldEnd}
use Rattle.pj_view.proofs.Additions.{member_stays, both_added, fewer_added}
use Rattle.pj_view.proofs.TouchedParts.{end_parts, end_alone, other_wanted}
use Rattle.pj_view.proofs.touching.add_row.Goals as goal

pub returns-in_ok-add_if-2 : goal.returns-in_ok-add_if-2
returns-in_ok-add_if-2 c =
    let row = c.args.row.now in
    let name = c.args.name in
    let from = c.in-At.source in
    let old = c.args.points.now.items in
    both_added member_stays old _ _ (λ p. (row.target ≡ p) × (p.change ≢ name)) (λ p. (from ≡ p) × (p.change ≢ name)) (IsOldEnd name row)
    (fewer_added old _ (λ p. (row.target ≡ p) × IsTrue c.ne.result) _ (other_wanted name row.target c.ne.result c.ne.ensures) c.in_ok-add_if.ensures) (fewer_added _ _ (λ p. (from ≡ p) × IsTrue c.ne-in-At.result) _ (other_wanted name from c.ne-in-At.result c.ne-in-At.ensures) c.in_ok-add_if-2.ensures) (λ p. end_parts row from name p c.in-At.is)

pub returns-in_default : goal.returns-in_default
returns-in_default c =
    let row = c.args.row.now in
    let name = c.args.name in
    fewer_added c.args.points.now.items _ (λ p. (row.target ≡ p) × IsTrue c.ne.result) (IsOldEnd name row) (λ p k. other_wanted name row.target c.ne.result c.ne.ensures p (end_alone row name p (λ q e. c.in_default.not-At q e) k)) c.in_ok-add_if.ensures
