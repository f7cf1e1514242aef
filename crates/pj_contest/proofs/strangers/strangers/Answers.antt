use Rattle.std.proofs.Common.{◌⊎◌, List, sym, subst}
use Rattle.std.specs.Prelude.{IsTrue}
use Rattle.pj_change.specs.declared.change.Record.{Record}
use Rattle.pj_contest.specs.Contests.{IsFree}
use Rattle.pj_contest.specs.Sought.{KnowNoMore}
use Rattle.pj_contest.proofs.strangers.strangers.Goals as goal

pub is_stranger-requires-clause-free : goal.is_stranger-requires-clause-free
is_stranger-requires-clause-free g c = subst (λ (l : List Record). IsFree l c.args.change.now) (sym c.loop-name.invariant.owners) c.requires.free

pub is_stranger-requires-clause-know_more : goal.is_stranger-requires-clause-know_more
is_stranger-requires-clause-know_more g c = subst (λ (l : List Record). IsTrue c.args.know_more ⊎ KnowNoMore l) (sym c.loop-name.invariant.owners) c.requires.know_more
