use Rattle.std.proofs.Common.{◌≡◌, ◌∙◌, sym, subst, ◌++◌, List}
use Rattle.std.specs.Arc.{arc_value}
use Rattle.pj_change.specs.declared.change.Record.{Record}
use Rattle.pj_tables.proofs.Following.{same_list}
use Rattle.pj_tree.specs.TreeOf.{IsTreeOf}
use Rattle.pj_unrecord.proofs.Leaving.{leaves}
use Rattle.pj_unrecord.proofs.removal.names_without.Goals as goal

pub without_change-names-requires : goal.without_change-names-requires
without_change-names-requires g c =
    let S = c.args.tables.now in
    let r = c.args.change.now in
    let l = leaves S r.name r c.list-before.ensures.lawful c.requires.free c.requires.there in
    let rest : c.args.list.now ≡ l.before ++ l.after = c.requires.list ∙ l.left in
    let others : c.peers-peers.result.held.now ≡ l.before ++ l.after = c.peers-peers.ensures ∙ rest in
    record {
      before = l.before;
      after = l.after;
      lawful = l.lawful;
      left = l.still;
      same = same_list c.peers-peers.result.held.now (l.before ++ l.after) others;
      is = subst (λ (o : List Record). IsTreeOf o c.names.result.now) l.is c.names.ensures;
    }

pub returns-clause-set : goal.returns-clause-set
returns-clause-set g c =
    let S = c.args.tables.now in
    let r = c.args.change.now in
    let l = leaves S r.name r c.list-before.ensures.lawful c.requires.free c.requires.there in
    let rest : c.args.list.now ≡ l.before ++ l.after = c.requires.list ∙ l.left in
    let others : c.peers-peers.result.held.now ≡ l.before ++ l.after = c.peers-peers.ensures ∙ rest in
    subst (λ (o : List Record). IsTreeOf o (arc_value c.in_ok-shared.shared)) (sym rest)
    (subst (IsTreeOf (l.before ++ l.after)) (sym c.in_ok-shared.ensures.ok)
    (c.in_ok-names.ensures.set l.before l.after l.lawful l.still (same_list c.peers-peers.result.held.now (l.before ++ l.after) others)
    (subst (λ (o : List Record). IsTreeOf o c.names.result.now) l.is c.names.ensures)))
