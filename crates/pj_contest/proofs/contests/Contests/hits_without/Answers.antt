use Rattle.std.proofs.Common.{◌≡◌, refl, sym, ap, ◌∙◌, subst, count_by, ◌∷◌}
use Rattle.pj_change.proofs.Members.{later_member}
use Rattle.pj_ranges.specs.Units.{range_cmp}
use Rattle.pj_ranges.proofs.RangeOrder.{range_total, range_tied}
use Rattle.pj_contest.specs.Marks.{child_cmp}
use Rattle.pj_contest.specs.Given.{child_rows, deleted_ranges}
use Rattle.pj_contest.specs.Contests.{AreRowsOf, knows_more}
use Rattle.pj_contest.proofs.MarkOrder.{child_total, child_tied}
use Rattle.pj_contest.proofs.Once.{index_has}
use Rattle.pj_contest.proofs.RivalRows.{index_from}
use Rattle.pj_contest.proofs.Strange.{more_or_none}
use Rattle.pj_contest.proofs.Fewer.{known_within, known_left}
use Rattle.pj_contest.proofs.contests.Contests.hits_without.Goals as goal

pub hits-requires : goal.hits-requires
hits-requires g c =
    let S = g.P.Peers.records c.args.peers.now in
    let r = c.args.change.now in
    let rows = subst (AreRowsOf (r ∷ S)) (sym (ap (λ t. t.rows) c.self.view_is)) c.requires.set.rows in
    let knowing : c.knowing_without-knowing.result ≡ count_by knows_more S = known_left S r _ _ c.knowing_without-knowing.ensures (ap (λ t. t.knowing) c.self.view_is ∙ c.requires.set.knowing) in
    record {
      rows = record {
        names = λ i m. index_has child_cmp child_total child_tied child_rows (r ∷ S) _ rows.children i (later_member r S i m);
        deleted = λ i m. index_has range_cmp range_total range_tied deleted_ranges (r ∷ S) _ rows.ranges i (later_member r S i m);
      };
      only = λ q there. let r = index_from range_cmp range_total deleted_ranges (r ∷ S) _ range_tied rows.ranges q there in record { it = r.0; member = r.1; deleted = r.2 };
      fresh = c.requires.fresh;
      free = c.requires.free;
      know_more = more_or_none S _ knowing _ refl;
    }

pub knowing_without-knowing-requires : goal.knowing_without-knowing-requires
knowing_without-knowing-requires g c = known_within (g.P.Peers.records c.args.peers.now) c.args.change.now c.self.inside.knowing (ap (λ t. t.knowing) c.self.view_is ∙ c.requires.set.knowing)
