use Rattle.std.proofs.Common.{◌≡◌, ◌∙◌, ◌≤◌, ◌<◌, List, arith, sym, subst, length, refl}
use Rattle.std.specs.Prelude.{Some, slice_get}
use Rattle.std.proofs.lemmas.Option.{slice_get_read}
use Rattle.pj_change.specs.declared.change.Record.{Record}
use Rattle.pj_change.proofs.EqualNames.{same_name_is}
use Rattle.pj_rows.specs.Keys.{number_at}
use Rattle.pj_ranges.specs.Units.{hunk_cmp}
use Rattle.pj_contest.specs.Contests.{IsFree}
use Rattle.pj_contest.proofs.OwnCounts.{own_begin, own_before, own_step, own_end}
use Rattle.pj_contest.proofs.own.with_own.Goals as goal

pub with_own_hunk-requires-clause-none : goal.with_own_hunk-requires-clause-none
with_own_hunk-requires-clause-none g c =
    own_before (g.P.Peers.records c.args.peers.now) c.args.record.now c.loop-number.number _ _ (c.loop-number.invariant.counts (record { change = c.args.record.now.name; hunk = c.loop-number.number })) (c.requires.none c.loop-number.number)

pub with_own_hunk-requires-clause-free : goal.with_own_hunk-requires-clause-free
with_own_hunk-requires-clause-free g c = subst (λ (l : List Record). IsFree l c.args.record.now) (sym c.loop-number.invariant.owners) c.requires.free

pub loop-number-init : goal.loop-number-init
loop-number-init g c = record { owners = c.over-owners.ensures; counts = λ x. own_begin (g.P.Peers.records c.args.peers.now) c.args.record.now x _; counted = c.requires.counted; cost = omega arith }

pub loop-number-preserved : goal.loop-number-preserved
loop-number-preserved g c =
    let hs = c.items-hunk-items.result.now in
    let low : c.loop-number.number < length hs = c.loop-number-test.true in
    let there = subst (λ hs. slice_get hs c.loop-number.number ≡ Some c.hunk-item.result) c.items-hunk-items.ensures (slice_get_read hs _ c.loop-number.number c.hunk-item.result refl low c.hunk-item.is) in
    let S = g.P.Peers.records c.args.peers.now in
    record {
      owners = c.with_own_hunk.ensures.same ∙ c.loop-number.invariant.owners;
      counts = λ x. own_step S c.args.record.now c.loop-number.number c.hunk-item.result there x _ _ _ (rw c.loop-number.invariant.owners at (c.in_ok-now.ensures.counts x)) (c.loop-number.invariant.counts x);
      counted = c.in_ok-now.ensures.counted;
      cost = let e = c.in_ok-now.ensures.cost in let i = c.loop-number.invariant.cost in omega arith;
    }

pub returns-clause-counts : goal.returns-clause-counts
returns-clause-counts g c = λ x.
    let whole : length c.args.record.now.change.hunks ≤ c.loop-number.number = subst (λ hs. length hs ≤ c.loop-number.number) c.items-hunk-items.ensures c.loop-number-test.false in
    own_end (g.P.Peers.records c.args.peers.now) c.args.record.now c.loop-number.number whole x _ _ (c.loop-number.invariant.counts x)
    (λ s. subst (λ n. number_at hunk_cmp (record { change = n; hunk = x.hunk }) c.args.counts ≡ 0) (same_name_is c.args.record.now.name x.change s) (c.requires.none x.hunk))
