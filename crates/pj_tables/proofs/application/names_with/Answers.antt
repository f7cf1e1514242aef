use Rattle.std.proofs.Common.{sym, subst, [], ◌∷◌, ◌++◌}
use Rattle.pj_tree.specs.TreeOf.{IsTreeOf}
use Rattle.pj_tables.proofs.Following.{same_list}
use Rattle.pj_tables.proofs.application.names_with.Goals as goal

pub with_change-names-requires : goal.with_change-names-requires
with_change-names-requires g c = record {
  list = c.args.list.now;
  lawful = c.requires.lawful;
  follows = c.requires.follows;
  same = same_list c.peers-peers.result.held.now c.args.list.now c.peers-peers.ensures;
  is = c.requires.table;
}

pub returns-clause-set : goal.returns-clause-set
returns-clause-set g c =
    subst (IsTreeOf (c.args.list.now ++ c.args.change.now ∷ [])) (sym c.in_ok-shared.ensures.ok)
    (c.in_ok-names.ensures.set c.args.list.now c.requires.lawful c.requires.follows (same_list c.peers-peers.result.held.now c.args.list.now c.peers-peers.ensures) c.requires.table)
