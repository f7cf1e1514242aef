use Rattle.std.proofs.Common.{◌∙◌, sym, subst, List}
use Rattle.pj_change.specs.declared.change.Record.{Record}
use Rattle.pj_contest.specs.Contests.{IsFree}
use Rattle.pj_tables.proofs.Following.{unneeded_yet}
use Rattle.pj_tables.proofs.application.hits_of.Goals as goal

pub hits-hits-requires-clause-free : goal.hits-hits-requires-clause-free
hits-hits-requires-clause-free c =
    subst (λ (l : List Record). IsFree l c.args.change.now) (sym (c.peers-peers.ensures ∙ c.list-list.ensures.same))
    (unneeded_yet c.args.tables.now c.args.change.now c.list-list.ensures.lawful c.requires)
