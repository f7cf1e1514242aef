use Rattle.std.proofs.Common.{◌≡◌, ℕ, ◌+◌, refl, sym, ap, ◌∙◌, subst, arith, cond, length}
use Rattle.pj_name.specs.Name.{same_name}
use Rattle.pj_change.proofs.EqualNames.{name_itself}
use Rattle.pj_ranges.specs.declared.range.HunkAt.{HunkAt}
use Rattle.pj_ranges.specs.Units.{hunk_cmp}
use Rattle.pj_rows.specs.Keys.{number_at, times}
use Rattle.pj_rows.proofs.KeyLemmas.{count_cons}
use Rattle.pj_contest.specs.Contests.{is_hit, count_of, own_count, AreRowsOf, knows_more}
use Rattle.pj_contest.proofs.Strange.{more_or_none}
use Rattle.pj_contest.proofs.Counting.{bit, counts_more, counts_none, no_hit, hits_once}
use Rattle.pj_contest.proofs.FewHits.{hits_few}
use Rattle.pj_contest.proofs.FewRows.{few_steps}
use Rattle.pj_contest.proofs.contests.Contests.with.Goals as goal

pub with_own-requires : goal.with_own-requires
with_own-requires g c =
    let S = g.P.Peers.records c.args.peers.now in
    let r = c.args.change.now in
    record {
      rows = subst (AreRowsOf S) (sym (ap (λ t. t.rows) c.self.view_is)) c.requires.set.rows;
      none = λ k.
          let x : HunkAt = record { change = r.name; hunk = k } in
          let old : number_at hunk_cmp x c.self.inside.counts ≡ 0 = ap (λ t. number_at hunk_cmp x t.counts) c.self.view_is ∙ c.requires.set.counts x ∙ counts_none S r c.requires.fresh x (name_itself r.name) in
          let once : times hunk_cmp x c.args.hits.now ≡ 0 = hits_once S r c.args.hits.now c.requires.hits x ∙ ap bit (no_hit S r c.requires.fresh x (name_itself r.name) r) in
          c.in_ok-raised.ensures.counts x ∙ none (number_at hunk_cmp x c.self.inside.counts) (times hunk_cmp x c.args.hits.now) old once;
      counted = c.in_ok-raised.ensures.counted;
      fresh = c.requires.fresh;
      free = c.requires.free;
      know_more = more_or_none S c.self.inside.knowing (ap (λ t. t.knowing) c.self.view_is ∙ c.requires.set.knowing) _ refl;
    }
  where
    none : (m n : ℕ) → m ≡ 0 → n ≡ 0 → m + n ≡ 0
    none m n h k = omega arith

pub returns-clause-set : goal.returns-clause-set
returns-clause-set g c =
    let S = g.P.Peers.records c.args.peers.now in
    let r = c.args.change.now in
    record {
      counts = λ x.
          let old : number_at hunk_cmp x c.self.inside.counts ≡ count_of S x = ap (λ t. number_at hunk_cmp x t.counts) c.self.view_is ∙ c.requires.set.counts x in
          let once : times hunk_cmp x c.args.hits.now ≡ bit (is_hit S x r) = hits_once S r c.args.hits.now c.requires.hits x in
          let raised : number_at hunk_cmp x c.in_ok-raised.raised ≡ count_of S x + bit (is_hit S x r) = c.in_ok-raised.ensures.counts x ∙ ap (λ n. n + times hunk_cmp x c.args.hits.now) old ∙ ap (λ n. count_of S x + n) once in
          c.in_ok-counts.ensures.counts x ∙ ap (λ n. cond (same_name r.name x.change) (own_count S r x.hunk) n) raised ∙ sym (counts_more S r c.requires.fresh c.requires.free x);
      rows = c.in_ok-indexes.ensures.rows S (subst (AreRowsOf S) (sym (ap (λ t. t.rows) c.self.view_is)) c.requires.set.rows);
      knowing = c.in_ok-knowing.ensures ∙ ap (λ n. cond (knows_more r) 1 0 + n) (ap (λ t. t.knowing) c.self.view_is ∙ c.requires.set.knowing) ∙ sym (count_cons knows_more r S);
    }

pub returns-in_err-raised-clause-cost : goal.returns-in_err-raised-clause-cost
returns-in_err-raised-clause-cost g c =
    let S = g.P.Peers.records c.args.peers.now in
    let r = c.args.change.now in
    let few = hits_few S r (g.met.P.Peers.distinct c.args.peers.now) c.args.hits.now c.requires.hits in
    let e0 = c.raise_each.ensures.cost in
    few_steps S r _ _ (length c.args.hits.now) few (omega arith)

pub returns-in_err-counts-clause-cost : goal.returns-in_err-counts-clause-cost
returns-in_err-counts-clause-cost g c =
    let S = g.P.Peers.records c.args.peers.now in
    let r = c.args.change.now in
    let few = hits_few S r (g.met.P.Peers.distinct c.args.peers.now) c.args.hits.now c.requires.hits in
    let e0 = c.raise_each.ensures.cost in
    let e1 = c.with_own.ensures.cost in
    few_steps S r _ _ (length c.args.hits.now) few (omega arith)

pub returns-in_err-indexes-clause-cost : goal.returns-in_err-indexes-clause-cost
returns-in_err-indexes-clause-cost g c =
    let S = g.P.Peers.records c.args.peers.now in
    let r = c.args.change.now in
    let few = hits_few S r (g.met.P.Peers.distinct c.args.peers.now) c.args.hits.now c.requires.hits in
    let e0 = c.raise_each.ensures.cost in
    let e1 = c.with_own.ensures.cost in
    let e2 = c.with.ensures.cost in
    few_steps S r _ _ (length c.args.hits.now) few (omega arith)

pub returns-clause-cost : goal.returns-clause-cost
returns-clause-cost g c =
    let S = g.P.Peers.records c.args.peers.now in
    let r = c.args.change.now in
    let few = hits_few S r (g.met.P.Peers.distinct c.args.peers.now) c.args.hits.now c.requires.hits in
    let e0 = c.raise_each.ensures.cost in
    let e1 = c.with_own.ensures.cost in
    let e2 = c.with.ensures.cost in
    few_steps S r _ _ (length c.args.hits.now) few (omega arith)
