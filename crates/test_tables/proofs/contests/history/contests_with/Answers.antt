use Rattle.std.proofs.Common.{◌∙◌, sym, subst, [], ◌∷◌, ◌++◌, List}
use Rattle.pj_change.specs.declared.change.Record.{Record}
use Rattle.pj_change.specs.Sets.{HaveDistinctNames}
use Rattle.pj_contest.specs.Contests.{IsContestsOf, IsFree}
use Rattle.test_tables.proofs.ChangedLists.{put_last}
use Rattle.test_tables.proofs.contests.history.contests_with.Goals as goal

pub with-contests-requires-clause-free : goal.with-contests-requires-clause-free
with-contests-requires-clause-free g c = subst (λ (l : List Record). IsFree l c.args.change.now) (sym (c.peers-peers.ensures ∙ c.held-held.ensures)) c.requires.free

pub returns : goal.returns
returns g c =
    let S = c.args.history.now in
    let r = c.args.change.now in
    let distinct : HaveDistinctNames S = subst HaveDistinctNames c.held-held.ensures c.len-length.ensures.distinct in
    let first : IsContestsOf (r ∷ S) c.in_ok-contests.contests =
    subst (λ (l : List Record). IsContestsOf (r ∷ l) c.in_ok-contests.contests) (c.peers-peers.ensures ∙ c.held-held.ensures) c.in_ok-contests.ensures.set in
    subst (IsContestsOf (S ++ r ∷ [])) (sym c.in_ok-shared.ensures.ok)
    (put_last S r distinct c.requires.fresh c.contests_are_of_the_set.ensures.members c.in_ok-contests.contests first)
