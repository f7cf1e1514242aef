use Rattle.std.proofs.Common.{◌≡◌, ◌∙◌, sym, subst, ◌∷◌, ◌++◌, List}
use Rattle.pj_change.specs.declared.change.Record.{Record}
use Rattle.pj_change.proofs.DistinctRecords.{lawful_distinct}
use Rattle.pj_change.proofs.SameSets.{back_again}
use Rattle.pj_contest.specs.Contests.{IsContestsOf, IsFree}
use Rattle.pj_tables.proofs.Following.{same_front, distinct_front}
use Rattle.pj_unrecord.proofs.Leaving.{leaves}
use Rattle.pj_unrecord.proofs.removal.hits_of.Goals as goal

pub hits_without-hits-requires-clause-set : goal.hits_without-hits-requires-clause-set
hits_without-hits-requires-clause-set c =
    let S = c.args.tables.now in
    let r = c.args.change.now in
    let l = leaves S r.name r c.list-before.ensures.lawful c.requires.free c.requires.there in
    let rest : c.args.list.now ≡ l.before ++ l.after = c.requires.list ∙ l.left in
    let others : c.peers-peers.result.held.now ≡ l.before ++ l.after = c.peers-peers.ensures ∙ rest in
    subst (λ (o : List Record). IsContestsOf (r ∷ o) c.contests.result.now) (sym others)
    (c.contests_are_of_the_set.ensures.members (l.before ++ r ∷ l.after) (r ∷ (l.before ++ l.after))
    (back_again (r ∷ (l.before ++ l.after)) (l.before ++ r ∷ l.after) (same_front l.before r l.after))
    (lawful_distinct (l.before ++ r ∷ l.after) l.lawful) (distinct_front (l.before ++ l.after) r l.still l.others)
    c.contests.result.now (subst (λ (o : List Record). IsContestsOf o c.contests.result.now) l.is c.contests.ensures))

pub hits_without-hits-requires-clause-fresh : goal.hits_without-hits-requires-clause-fresh
hits_without-hits-requires-clause-fresh c =
    let S = c.args.tables.now in
    let r = c.args.change.now in
    let l = leaves S r.name r c.list-before.ensures.lawful c.requires.free c.requires.there in
    let rest : c.args.list.now ≡ l.before ++ l.after = c.requires.list ∙ l.left in
    let others : c.peers-peers.result.held.now ≡ l.before ++ l.after = c.peers-peers.ensures ∙ rest in
    rw others l.others

pub hits_without-hits-requires-clause-free : goal.hits_without-hits-requires-clause-free
hits_without-hits-requires-clause-free c =
    let S = c.args.tables.now in
    let r = c.args.change.now in
    let l = leaves S r.name r c.list-before.ensures.lawful c.requires.free c.requires.there in
    let rest : c.args.list.now ≡ l.before ++ l.after = c.requires.list ∙ l.left in
    let others : c.peers-peers.result.held.now ≡ l.before ++ l.after = c.peers-peers.ensures ∙ rest in
    subst (λ (o : List Record). IsFree o r) (sym others) l.free
