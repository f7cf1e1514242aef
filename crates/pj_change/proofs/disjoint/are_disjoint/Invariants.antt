use Rattle.std.proofs.Common.{◌≡◌, true, take}
use Rattle.std.specs.List.{list_all}
use Rattle.pj_change.specs.Rules.{apart, each_pair}
use Rattle.pj_change.specs.Reach.{ends_by}
use Rattle.pj_change.proofs.disjoint.are_disjoint.Given as goal

abbrev pub invariant-loop-number : goal.invariant-loop-number
invariant-loop-number l = record {
  disjoint : each_pair apart (take l.number l.hunks) ≡ true;
  reach : list_all (ends_by l.reach.owner l.reach.end) (take l.number l.hunks) ≡ true;
}
