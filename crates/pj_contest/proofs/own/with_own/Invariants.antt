use Rattle.std.proofs.Common.{◌≡◌, ◌≤◌, ◌+◌, ◌&&◌, nat_lt, cond}
use Rattle.pj_name.specs.Name.{same_name}
use Rattle.pj_ranges.specs.declared.range.HunkAt.{HunkAt}
use Rattle.pj_rows.specs.Keys.{number_at, AllCounted}
use Rattle.pj_ranges.specs.Units.{hunk_cmp}
use Rattle.pj_contest.specs.Contests.{own_count}
use Rattle.pj_contest.proofs.own.with_own.Given as goal

abbrev pub invariant-loop-number : goal.invariant-loop-number
invariant-loop-number g l = record {
  owners : l.owners ≡ g.P.Peers.records l.peers;
  counts : (x : HunkAt) → number_at hunk_cmp x l.now ≡ cond (same_name l.record.name x.change && nat_lt x.hunk l.number) (own_count (g.P.Peers.records l.peers) l.record x.hunk) (number_at hunk_cmp x l.fn.counts);
  counted : AllCounted hunk_cmp l.now;
  cost : l.steps ≤ l.fn.steps + l.number;
}
