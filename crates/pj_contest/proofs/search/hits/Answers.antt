use Rattle.std.proofs.Common.{◌≡◌, Bool, true, List, ◌∙◌, ap, sym, subst, map}
use Rattle.std.specs.Prelude.{Contains, filter}
use Rattle.pj_change.proofs.EqualNames.{point_tied}
use Rattle.pj_change.proofs.PickedMembers.{passed, kept, image, mapped}
use Rattle.pj_ranges.specs.declared.range.HunkAt.{HunkAt}
use Rattle.pj_ranges.specs.declared.range.RangeAt.{RangeAt}
use Rattle.pj_ranges.specs.Over.{has_range}
use Rattle.pj_rows.specs.declared.values.Here.{Here}
use Rattle.pj_contest.specs.Contests.{is_hit, Rows}
use Rattle.pj_contest.specs.Sought.{HasRowsOf}
use Rattle.pj_contest.proofs.Complete.{complete}
use Rattle.pj_contest.proofs.MarkOrder.{hunk_tied}
use Rattle.pj_contest.proofs.search.hits.Goals as goal

pub distinct-requires : goal.distinct-requires
distinct-requires g c = point_tied

pub distinct-requires-2 : goal.distinct-requires-2
distinct-requires-2 g c = hunk_tied

pub hits_among-requires-clause-one : goal.hits_among-requires-clause-one
hits_among-requires-clause-one g c = λ q m.
    let t = ap (λ (t : Rows). t.ranges) c.indexes.view_is in
    c.requires.only q (subst (λ (es : List (RangeAt × Here)). has_range es q ≡ true) t (c.in_ok-found.ensures.only q (subst (λ (qs : List RangeAt). Contains qs q) c.deref-3.ensures.value m)))

pub returns : goal.returns
returns g c = record {
  all = λ x.
      let S = g.P.Peers.records c.args.peers.now in
      let i = c.args.change.now in
      let test : RangeAt → Bool = λ q. is_hit S q.by i in
      let found = c.in_ok-found.found.items in
      let is : c.in_ok-hits.hits.items ≡ map (λ q. q.by) (filter test found) = c.in_ok-hits.ensures ∙ ap (λ qs. map (λ q. q.by) (filter test qs)) c.deref-3.ensures.value in
      let rows = subst (HasRowsOf S) (sym c.indexes.view_is) c.requires.rows in
      let t : Rows = record { ups = c.indexes.inside.ups; bases = c.indexes.inside.bases; children = c.indexes.inside.children; ranges = c.indexes.inside.ranges } in
      let same = c.in_ok-each.ensures.same x in (
        λ m.
            let q = image (λ q. q.by) (filter test found) x (subst (λ xs. Contains xs x) (c.deref-4.ensures.value ∙ is) (same.0 m)) in
            subst (λ (y : HunkAt). is_hit S y i ≡ true) q.is (passed test found q.it q.member).passes,
        λ e.
            let over = complete S t rows i c.in_ok-sought.sought.items c.in_ok-sought.ensures x e in
            let point : Contains c.deref-2.result.now over.point = subst (λ ps. Contains ps over.point) (sym c.deref-2.ensures.value) ((c.in_ok-points.ensures.same over.point).1 (subst (λ ps. Contains ps over.point) (sym c.deref.ensures.value) over.sought)) in
            let range : Contains found over.range = c.in_ok-found.ensures.all over.point point over.range over.there over.has in
            let hit : test over.range ≡ true = subst (λ (y : HunkAt). is_hit S y i ≡ true) (sym over.by) e in
            same.1 (subst (λ xs. Contains xs x) (sym (c.deref-4.ensures.value ∙ is)) (subst (Contains (map (λ q. q.by) (filter test found))) over.by (mapped (λ q. q.by) (filter test found) over.range (kept test found over.range range hit)))),
      );
  sorted = c.in_ok-each.ensures.sorted;
}
