use Rattle.std.proofs.Common.{◌≡◌, ℕ, ◌+◌, ◌≤◌, sym, ap, ◌∙◌, subst, arith, cond, length, ◌∷◌}
use Rattle.pj_name.specs.Name.{same_name}
use Rattle.pj_change.proofs.EqualNames.{name_itself}
use Rattle.pj_ranges.specs.declared.range.HunkAt.{HunkAt}
use Rattle.pj_ranges.specs.Units.{hunk_cmp}
use Rattle.pj_rows.specs.Keys.{number_at, times}
use Rattle.pj_contest.specs.Contests.{is_hit, count_of, own_count, AreRowsOf}
use Rattle.pj_contest.proofs.Counting.{bit, counts_more, hits_once}
use Rattle.pj_contest.proofs.FewHits.{hits_few}
use Rattle.pj_contest.proofs.FewRows.{few_steps}
use Rattle.pj_contest.proofs.OwnCounts.{own_past}
use Rattle.pj_contest.proofs.Fewer.{hits_within, left_is, known_within, known_left}
use Rattle.pj_contest.proofs.contests.Contests.without.Goals as goal

pub knowing_without-knowing-requires : goal.knowing_without-knowing-requires
knowing_without-knowing-requires g c = known_within (g.P.Peers.records c.args._peers.now) c.args.change.now c.self.inside.knowing (ap (λ t. t.knowing) c.self.view_is ∙ c.requires.set.knowing)

pub lower_each-requires-clause-there : goal.lower_each-requires-clause-there
lower_each-requires-clause-there g c = λ x.
    let S = g.P.Peers.records c.args._peers.now in
    let r = c.args.change.now in
    let once = hits_once S r c.args.hits.now c.requires.hits x in
    let old = ap (λ t. number_at hunk_cmp x t.counts) c.self.view_is ∙ c.requires.set.counts x ∙ counts_more S r c.requires.fresh c.requires.free x in
    subst (λ m. times hunk_cmp x c.args.hits.now ≤ m) (sym old) (subst (λ m. m ≤ cond (same_name r.name x.change) (own_count S r x.hunk) (count_of S x + bit (is_hit S x r))) (sym once) (hits_within S r c.requires.fresh x))

pub without_own-requires-clause-few : goal.without_own-requires-clause-few
without_own-requires-clause-few g c = λ k past.
    let S = g.P.Peers.records c.args._peers.now in
    let r = c.args.change.now in
    let x : HunkAt = record { change = r.name; hunk = k } in
    let old = ap (λ t. number_at hunk_cmp x t.counts) c.self.view_is ∙ c.requires.set.counts x ∙ counts_more S r c.requires.fresh c.requires.free x
    ∙ ap (λ b. cond b (own_count S r k) (count_of S x + bit (is_hit S x r))) (name_itself r.name) ∙ own_past S r k past in
    none (number_at hunk_cmp x c.in_ok-lowered.lowered) (times hunk_cmp x c.args.hits.now) (c.in_ok-lowered.ensures.counts x ∙ old)
  where
    none : (m n : ℕ) → m + n ≡ 0 → m ≡ 0
    none m n h = omega arith

pub returns-clause-set : goal.returns-clause-set
returns-clause-set g c =
    let S = g.P.Peers.records c.args._peers.now in
    let r = c.args.change.now in
    record {
      counts = λ x.
          let once = hits_once S r c.args.hits.now c.requires.hits x in
          let old = ap (λ t. number_at hunk_cmp x t.counts) c.self.view_is ∙ c.requires.set.counts x ∙ counts_more S r c.requires.fresh c.requires.free x in
          left_is S r c.requires.fresh x _ _ (c.in_ok-counts.ensures.counts x) (ap (λ n. number_at hunk_cmp x c.in_ok-lowered.lowered + n) (sym once) ∙ c.in_ok-lowered.ensures.counts x ∙ old);
      rows = c.in_ok-indexes.ensures.rows S c.requires.fresh (subst (AreRowsOf (r ∷ S)) (sym (ap (λ t. t.rows) c.self.view_is)) c.requires.set.rows);
      knowing = known_left S r _ _ c.knowing_without-knowing.ensures (ap (λ t. t.knowing) c.self.view_is ∙ c.requires.set.knowing);
    }

pub returns-in_err-lowered-clause-cost : goal.returns-in_err-lowered-clause-cost
returns-in_err-lowered-clause-cost g c =
    let S = g.P.Peers.records c.args._peers.now in
    let r = c.args.change.now in
    let few = hits_few S r (g.met.P.Peers.distinct c.args._peers.now) c.args.hits.now c.requires.hits in
    let e0 = c.lower_each.ensures.cost in
    few_steps S r _ _ (length c.args.hits.now) few (omega arith)

pub returns-in_err-counts-clause-cost : goal.returns-in_err-counts-clause-cost
returns-in_err-counts-clause-cost g c =
    let S = g.P.Peers.records c.args._peers.now in
    let r = c.args.change.now in
    let few = hits_few S r (g.met.P.Peers.distinct c.args._peers.now) c.args.hits.now c.requires.hits in
    let e0 = c.lower_each.ensures.cost in
    let e1 = c.without_own.ensures.cost in
    few_steps S r _ _ (length c.args.hits.now) few (omega arith)

pub returns-in_err-indexes-clause-cost : goal.returns-in_err-indexes-clause-cost
returns-in_err-indexes-clause-cost g c =
    let S = g.P.Peers.records c.args._peers.now in
    let r = c.args.change.now in
    let few = hits_few S r (g.met.P.Peers.distinct c.args._peers.now) c.args.hits.now c.requires.hits in
    let e0 = c.lower_each.ensures.cost in
    let e1 = c.without_own.ensures.cost in
    let e2 = c.without.ensures.cost in
    few_steps S r _ _ (length c.args.hits.now) few (omega arith)

pub returns-clause-cost : goal.returns-clause-cost
returns-clause-cost g c =
    let S = g.P.Peers.records c.args._peers.now in
    let r = c.args.change.now in
    let few = hits_few S r (g.met.P.Peers.distinct c.args._peers.now) c.args.hits.now c.requires.hits in
    let e0 = c.lower_each.ensures.cost in
    let e1 = c.without_own.ensures.cost in
    let e2 = c.without.ensures.cost in
    few_steps S r _ _ (length c.args.hits.now) few (omega arith)
