use Rattle.std.proofs.Common.{◌∙◌, sym, subst, List}
use Rattle.pj_change.specs.declared.change.Record.{Record}
use Rattle.pj_contest.specs.Contests.{IsFree}
use Rattle.test_tables.proofs.contests.history.hits_with.Goals as goal

pub hits-hits-requires-clause-free : goal.hits-hits-requires-clause-free
hits-hits-requires-clause-free c = subst (λ (l : List Record). IsFree l c.args.change.now) (sym (c.peers-peers.ensures ∙ c.held.ensures)) c.requires.free
