use Rattle.std.proofs.Common.{sym, subst, [], ◌∷◌, ◌++◌, List}
use Rattle.pj_change.specs.declared.change.Record.{Record}
use Rattle.pj_change.proofs.DistinctRecords.{lawful_distinct}
use Rattle.pj_change.proofs.LawfulChanges.{lawful_push}
use Rattle.pj_contest.specs.Contests.{IsContestsOf, IsFree}
use Rattle.pj_tables.proofs.Following.{same_last, unneeded_yet, distinct_front}
use Rattle.pj_tables.proofs.application.contests_with.Goals as goal

pub with-contests-requires-clause-free : goal.with-contests-requires-clause-free
with-contests-requires-clause-free g c =
    subst (λ (l : List Record). IsFree l c.args.change.now) (sym c.peers-peers.ensures)
    (unneeded_yet c.args.list.now c.args.change.now c.requires.lawful c.requires.follows)

pub returns-clause-set : goal.returns-clause-set
returns-clause-set g c =
    let S = c.args.list.now in
    let r = c.args.change.now in
    let contests : IsContestsOf (r ∷ S) c.in_ok-contests.contests =
    subst (λ (l : List Record). IsContestsOf (r ∷ l) c.in_ok-contests.contests) c.peers-peers.ensures c.in_ok-contests.ensures.set in
    subst (IsContestsOf (S ++ r ∷ [])) (sym c.in_ok-shared.ensures.ok)
    (c.contests_are_of_the_set.ensures.members (r ∷ S) (S ++ r ∷ []) (same_last S r c.requires.lawful c.requires.follows) (distinct_front S r c.requires.lawful c.requires.follows.fresh)
    (lawful_distinct (S ++ r ∷ []) (lawful_push S r c.requires.lawful c.requires.follows)) c.in_ok-contests.contests contests)
