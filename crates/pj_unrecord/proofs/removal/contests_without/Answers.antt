use Rattle.std.proofs.Common.{◌≡◌, ◌∙◌, sym, subst, ◌∷◌, ◌++◌, List}
use Rattle.pj_change.specs.declared.change.Record.{Record}
use Rattle.pj_change.proofs.DistinctRecords.{lawful_distinct}
use Rattle.pj_change.proofs.SameSets.{back_again}
use Rattle.pj_contest.specs.Contests.{IsContestsOf, IsFree}
use Rattle.pj_tables.proofs.Following.{same_front, distinct_front}
use Rattle.pj_unrecord.proofs.Leaving.{leaves}
use Rattle.pj_unrecord.proofs.removal.contests_without.Goals as goal

pub without-contests-requires-clause-set : goal.without-contests-requires-clause-set
without-contests-requires-clause-set g c =
    let S = c.args.tables.now in
    let r = c.args.change.now in
    let l = leaves S r.name r c.list-before.ensures.lawful c.requires.free c.requires.there in
    let rest : c.args.list.now ≡ l.before ++ l.after = c.requires.list ∙ l.left in
    let others : c.peers-peers.result.held.now ≡ l.before ++ l.after = c.peers-peers.ensures ∙ rest in
    let was : IsContestsOf S c.in_ok-before.before = subst (IsContestsOf S) (sym c.in_ok-before.ensures) c.contests.ensures in
    subst (λ (o : List Record). IsContestsOf (r ∷ o) c.in_ok-before.before) (sym others)
    (c.contests_are_of_the_set.ensures.members (l.before ++ r ∷ l.after) (r ∷ (l.before ++ l.after))
    (back_again (r ∷ (l.before ++ l.after)) (l.before ++ r ∷ l.after) (same_front l.before r l.after))
    (lawful_distinct (l.before ++ r ∷ l.after) l.lawful) (distinct_front (l.before ++ l.after) r l.still l.others)
    c.in_ok-before.before (subst (λ (o : List Record). IsContestsOf o c.in_ok-before.before) l.is was))

pub without-contests-requires-clause-fresh : goal.without-contests-requires-clause-fresh
without-contests-requires-clause-fresh g c =
    let S = c.args.tables.now in
    let r = c.args.change.now in
    let l = leaves S r.name r c.list-before.ensures.lawful c.requires.free c.requires.there in
    let rest : c.args.list.now ≡ l.before ++ l.after = c.requires.list ∙ l.left in
    let others : c.peers-peers.result.held.now ≡ l.before ++ l.after = c.peers-peers.ensures ∙ rest in
    rw others l.others

pub without-contests-requires-clause-free : goal.without-contests-requires-clause-free
without-contests-requires-clause-free g c =
    let S = c.args.tables.now in
    let r = c.args.change.now in
    let l = leaves S r.name r c.list-before.ensures.lawful c.requires.free c.requires.there in
    let rest : c.args.list.now ≡ l.before ++ l.after = c.requires.list ∙ l.left in
    let others : c.peers-peers.result.held.now ≡ l.before ++ l.after = c.peers-peers.ensures ∙ rest in
    subst (λ (o : List Record). IsFree o r) (sym others) l.free

pub returns-clause-set : goal.returns-clause-set
returns-clause-set g c =
    subst (IsContestsOf c.args.list.now) (sym c.in_ok-shared.ensures.ok) (subst (λ (o : List Record). IsContestsOf o c.in_ok-contests.contests) c.peers-peers.ensures c.in_ok-contests.ensures.set)
