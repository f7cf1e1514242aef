use Rattle.std.proofs.Common.{sym, subst, List}
use Rattle.pj_change.specs.declared.change.Record.{Record}
use Rattle.pj_contest.specs.Contests.{IsContestsOf, IsFree}
use Rattle.test_tables.proofs.contests.history.contests_without.Goals as goal

pub without-contests-requires-clause-free : goal.without-contests-requires-clause-free
without-contests-requires-clause-free g c = subst (λ (l : List Record). IsFree l c.args.change.now) (sym c.peers-peers.ensures) c.requires.free

pub returns : goal.returns
returns g c =
    subst (IsContestsOf c.args.left.now) (sym c.in_ok-shared.ensures.ok)
    (subst (λ (l : List Record). IsContestsOf l c.in_ok-contests.contests) c.peers-peers.ensures c.in_ok-contests.ensures.set)
