use Rattle.std.proofs.Common.{◌≡◌, subst, true, List, ◌++◌}
use Rattle.std.specs.Prelude.{◌↔◌}
use Rattle.pj_change.specs.declared.change.Record.{Record}
use Rattle.pj_change.specs.Sets.{HaveOneText}
use Rattle.pj_channel.proofs.channel.Channel.agrees_with.Goals as goal

pub returns : goal.returns
returns c =
    subst (λ (l : List Record). (c.all_agree.result ≡ true) ↔ HaveOneText (l ++ c.args.other.now)) c.tables.ensures
    (subst (λ (l : List Record). (c.all_agree.result ≡ true) ↔ HaveOneText (c.tables.result.now ++ l)) c.tables-2.ensures c.all_agree.ensures.one)
